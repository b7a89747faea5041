-- Cells of a settled sheet that must have values are known to have them.
use Rattle.std.proofs.Common.{◌≡◌, inl, inr, suc, Bool, true, false, true≢false, List, [], ◌∷◌}
use Rattle.std.proofs.Common.{Option, Some, None, refl, sym, ap, ◌∙◌, arith}
use Rattle.std.specs.Prelude.{option_map}
use Rattle.arm_value.specs.Json.{Json}
use Rattle.reading.specs.Reading.{done, pure}
use Rattle.reading.specs.Knowledge.{Known, known, absent, missing, Told, value, no_value, told, by_entry, and_then}
use Rattle.reading.specs.Knowledge.{blanked}
use Rattle.reading.specs.Knowledge.{known_value}
use Rattle.reading.proofs.Parts.{told-continued}
use Rattle.deploy_cells.specs.Cells.{Cell, parameter, variable, offered, output, count, included, name, deployments}
use Rattle.deploy_cells.specs.Cells.{state, parent, admits, admitted, is_admitted}
use Rattle.deploy_cells.specs.Guarded.{Reads, there, not_there, there_if, told_where, told_by}
use Rattle.deploy_cells.proofs.SameLemmas.{cell_is}
use Rattle.deploy_cells.proofs.CellLemmas.{guarded_told}
use Rattle.plan_cells.specs.Known.{by_others, entry_told, entry_by}
use Rattle.plan_cells.specs.Meaning.{Deployment, meaning, raw, rule, ruled, if_meets, plain}
use Rattle.plan_cells.specs.Desired.{is_state}
use Rattle.plan_cells.specs.Children.{Has, roots, children}
use Rattle.plan_cells.specs.Start.{IsStart, start}
use Rattle.plan_cells.proofs.UndeclaredLemmas.{undeclared, undeclared_root}
use Rattle.plan_filling.specs.Rows.{Status, New, Open, Value, Empty, Late, Row, status_of, known_by}
use Rattle.plan_filling.specs.Sound.{Good, IsListed}
use Rattle.plan_filling.specs.Final.{by_condition, unlisted, or_unlisted, final}
use Rattle.plan_filling.proofs.RowLemmas.{by_same, found_first, found_later}
use Rattle.plan_refusals.specs.Refusals.{is_needed}
use Rattle.plan_settling.specs.Refused.{is_refused, AreSettled}
use Rattle.fault_exactness.proofs.GrowLemmas.{never_admitted}

-- ---- rows

refused_here : (r : Row) (c : Cell) → r.cell ≡ c → r.status ≡ Empty → is_needed c ≡ true → is_refused r ≡ true
refused_here r c e g n =
    ap (λ s. is_refused (record { cell = r.cell; status = s })) g ∙ ap is_needed e ∙ n

pub never_empty : (rows : List Row) → AreSettled rows → (c : Cell) → is_needed c ≡ true
    → status_of rows c ≡ Some Empty → ⊥
never_empty [] h c n e = let f : None ≡ Some Empty = e in cc
never_empty (r ∷ rs) h c n e =
    elim (by_same r.cell c) [
      | inl x ↦ (let at = cell_is r.cell c x in
          let is : Some r.status ≡ Some Empty = sym (found_first r rs c at) ∙ e in
          let same : r.status ≡ Empty = cc in
          true≢false (sym (refused_here r c at same n) ∙ h 0 (omega arith)))
      | inr x ↦ never_empty rs (λ j l. h (suc j) (omega (arith, l))) c n (sym (found_later r rs c x) ∙ e)
    ]

needed_no_state : (c : Cell) → is_needed c ≡ true → is_state c ≡ false
needed_no_state (parameter p x) n = refl
needed_no_state (variable p x) n = refl
needed_no_state (count p r) n = refl
needed_no_state (included p s) n = refl
needed_no_state (name p s) n = refl
needed_no_state (offered p x) n = refl
needed_no_state (output p x) n = refl
needed_no_state (deployments p) n = refl
needed_no_state (state k) n = absurd (true≢false (sym n))

needed_others : (c : Cell) → is_needed c ≡ true → start c ≡ by_others
needed_others (parameter p x) n = refl
needed_others (variable p x) n = refl
needed_others (count p r) n = refl
needed_others (included p s) n = refl
needed_others (name p s) n = refl
needed_others (offered p x) n = refl
needed_others (output p x) n = refl
needed_others (deployments p) n = refl
needed_others (state k) n = absurd (true≢false (sym n))

known_empty : (s : Status) → known_by (Some s) ≡ absent → s ≡ Empty
known_empty Empty e = refl
known_empty (Value v) e = absurd (cc)
known_empty New e = absurd (cc)
known_empty Open e = absurd (cc)
known_empty (Late k) e = absurd (cc)

module _ (d : Deployment) (σ : Cell → Option Status) (good : Good d σ) (is_start : IsStart d (final σ)) where
  -- ---- what is known of cells

  condition_none : (o : Option Status) → known_value (by_condition o) ≡ None
  condition_none None = refl
  condition_none (Some New) = refl
  condition_none (Some Open) = refl
  condition_none (Some (Value v)) = refl
  condition_none (Some Empty) = refl
  condition_none (Some (Late k)) = refl

  unlisted_none : (c : Cell) → known_value (unlisted σ c) ≡ None
  unlisted_none (parameter p x) = refl
  unlisted_none (variable p x) = refl
  unlisted_none (offered p x) = refl
  unlisted_none (output p x) = condition_none (σ (offered p x))
  unlisted_none (count p r) = refl
  unlisted_none (included p s) = refl
  unlisted_none (name p s) = refl
  unlisted_none (deployments p) = refl
  unlisted_none (state k) = refl

  some_none : (v : Json) (o : Option Json) → o ≡ None → o ≡ Some v → ⊥
  some_none v o e f = cc

  status_valued : (c : Cell) (o : Option Status) → σ c ≡ o → (v : Json) → known_value (or_unlisted σ c o) ≡ Some v
      → σ c ≡ Some (Value v)
  status_valued c None e v h = absurd (some_none v (known_value (unlisted σ c)) (unlisted_none c) h)
  status_valued c (Some (Value w)) e v h = let same : w ≡ v = cc in e ∙ ap (λ x. Some (Value x)) same
  status_valued c (Some New) e v h = absurd (cc)
  status_valued c (Some Open) e v h = absurd (cc)
  status_valued c (Some Empty) e v h = absurd (cc)
  status_valued c (Some (Late k)) e v h = absurd (cc)

  pub valued : (c : Cell) (v : Json) → blanked (final σ) c ≡ Some v → σ c ≡ Some (Value v)
  valued c v h = status_valued c (σ c) refl v h

  -- ---- a cell that is there and has a reading is listed

  unlisted_here : (c : Cell) → IsListed σ c → σ c ≡ None → ⊥
  unlisted_here c l n = let f : None ≡ Some l.0 = sym n ∙ l.1 in cc

  -- what is there is not without being listed, if it is listed where its scope or its instance lists it
  pub listed_by : (c : Cell) → (parent c ≡ None → (Has c (roots d) → ⊥) → ⊥)
      → ((b : Cell) (v : Json) → parent c ≡ Some b → admits c (Some v) ≡ true → (Has c (children d b v) → ⊥) → ⊥)
      → is_admitted (blanked (final σ)) c ≡ true → σ c ≡ None → ⊥
  listed_by c root child h n = by_parent (parent c) refl h
    where
      by_value : (b : Cell) (o : Option Json) → parent c ≡ Some b → blanked (final σ) b ≡ o → admits c o ≡ true → ⊥
      by_value b None e k g = never_admitted c g
      by_value b (Some v) e k g =
          child b v e g (λ x. unlisted_here c (good.has_opened c (b, (v, (valued b v k, x)))) n)

      by_parent : (o : Option Cell) → parent c ≡ o → admitted (blanked (final σ)) c o ≡ true → ⊥
      by_parent None e g = root e (λ x. unlisted_here c (good.has_roots c x) n)
      by_parent (Some b) e g = by_value b (blanked (final σ) b) e refl g

  reading_listed : (c : Cell) (r : Reads Json) → is_state c ≡ false → raw d c ≡ Some r
      → is_admitted (blanked (final σ)) c ≡ true → σ c ≡ None → ⊥
  reading_listed c r s i h n =
      listed_by c (λ e x. clash (undeclared_root d c e s x))
      (λ b v e g x. clash (undeclared d b v c e g x)) h n
    where
      clash : raw d c ≡ None → ⊥
      clash none = let f : None ≡ Some r = sym none ∙ i in cc

  -- ---- what is told of a cell that is there

  pub closed : (c : Cell) → is_needed c ≡ true → final σ c ≡ entry_told (told (final σ) (meaning d c))
  closed c n =
      is_start.closed c ∙ ap (λ a. entry_by a (entry_told (told (final σ) (meaning d c)))) (needed_others c n)

  guard : (c : Cell) → told (final σ) (meaning d c) ≡ told_by (final σ) c (parent c) (told (final σ) (plain d c))
  unfolding meaning
  guard c = guarded_told (final σ) c (plain d c)

  where_known : (c b : Cell) (u : Told Cell (Option Json)) (k : Known Json) → admits c (known_value k) ≡ true
      → by_entry b (λ v. told_where (admits c v) u) k ≡ u
  where_known c b u (known v) h = ap (λ x. told_where x u) h
  where_known c b u absent h = absurd (never_admitted c h)
  where_known c b u missing h = absurd (never_admitted c h)

  where_there : (c : Cell) (u : Told Cell (Option Json)) (o : Option Cell) → admitted (blanked (final σ)) c o ≡ true
      → told_by (final σ) c o u ≡ u
  where_there c u None h = refl
  where_there c u (Some b) h = where_known c b u (final σ b) h

  pub told_there : (c : Cell) → is_admitted (blanked (final σ)) c ≡ true
      → told (final σ) (meaning d c) ≡ told (final σ) (plain d c)
  told_there c h = guard c ∙ where_there c (told (final σ) (plain d c)) (parent c) h

  module _ (rows : List Row) (settled : AreSettled rows) (are : (c : Cell) → σ c ≡ status_of rows c) where
    never_absent : (c : Cell) (o : Option Status) → is_needed c ≡ true → σ c ≡ o → (o ≡ None → ⊥)
        → or_unlisted σ c o ≡ absent → ⊥
    never_absent c None n e l a = l refl
    never_absent c (Some s) n e l a =
        never_empty rows settled c n (sym (are c) ∙ e ∙ ap Some (known_empty s a))

    -- a cell that must have a value, and is listed, is not known to have none
    pub needed_listed : (c : Cell) → is_needed c ≡ true → (σ c ≡ None → ⊥) → final σ c ≡ absent → ⊥
    needed_listed c n l a = never_absent c (σ c) n refl l a

    pub needed_there : (c : Cell) (r : Reads Json) → is_needed c ≡ true → raw d c ≡ Some r
        → is_admitted (blanked (final σ)) c ≡ true → final σ c ≡ absent → ⊥
    needed_there c r n i h a = needed_listed c n (reading_listed c r (needed_no_state c n) i h) a

  -- ---- a value that breaks the rule of its cell

  broken_told : (b : Bool) (j : Json) → b ≡ false → told {C = Cell} (final σ) (done (if_meets d b j)) ≡ no_value
  unfolding told
  broken_told false j e = refl
  broken_told true j e = absurd (true≢false e)

  ruled_told : (f : Json → Bool) (r : Reads Json) (v : Json) → f v ≡ false → told (final σ) r ≡ value v
      → told (final σ) (ruled d f r) ≡ no_value
  ruled_told f r v e h =
      told-continued _ _ _ _ (final σ) r (λ j. done (if_meets d (f j) j))
      ∙ ap (λ u. and_then u (λ j. told (final σ) (done (if_meets d (f j) j)))) h ∙ broken_told (f v) v e

  after : (f : Json → Bool) (r : Reads Json) (v : Json) → f v ≡ false → told (final σ) r ≡ value v
      → told (final σ) (there (ruled d f r)) ≡ no_value
  after f r v e h =
      told-continued _ _ _ _ (final σ) (ruled d f r) (λ x. pure (Some x))
      ∙ ap (λ u. and_then u (λ x. told (final σ) (pure (Some x)))) (ruled_told f r v e h)

  plain_is : (c : Cell) → is_state c ≡ false → plain d c ≡ there_if (option_map (ruled d (rule d c)) (raw d c))
  unfolding plain
  plain_is (parameter p x) s = refl
  plain_is (variable p x) s = refl
  plain_is (offered p x) s = refl
  plain_is (output p x) s = refl
  plain_is (count p r) s = refl
  plain_is (included p i) s = refl
  plain_is (name p i) s = refl
  plain_is (deployments p) s = refl
  plain_is (state k) s = absurd (true≢false s)

  pub breaks_absent : (c : Cell) (r : Reads Json) (v : Json) → is_needed c ≡ true → raw d c ≡ Some r
      → is_admitted (blanked (final σ)) c ≡ true → told (final σ) r ≡ value v → rule d c v ≡ false → final σ c ≡ absent
  breaks_absent c r v n i h w b =
      let e : told (final σ) (plain d c) ≡ no_value =
      ap (told (final σ)) (plain_is c (needed_no_state c n) ∙ ap (λ o. there_if (option_map (ruled d (rule d c)) o)) i)
      ∙ after (rule d c) r v b w in
      closed c n ∙ ap entry_told (told_there c h ∙ e)

  nothing_told : told (final σ) not_there ≡ value None
  unfolding told
  nothing_told = refl

  pub nothing_absent : (c : Cell) → is_needed c ≡ true → raw d c ≡ None → is_admitted (blanked (final σ)) c ≡ true
      → final σ c ≡ absent
  nothing_absent c n i h =
      let e : told (final σ) (plain d c) ≡ value None =
      ap (told (final σ)) (plain_is c (needed_no_state c n) ∙ ap (λ o. there_if (option_map (ruled d (rule d c)) o)) i)
      ∙ nothing_told in
      closed c n ∙ ap entry_told (told_there c h ∙ e)
