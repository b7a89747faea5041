-- The table of a sheet that is filled is the one of what is known at the start.
use Rattle.std.proofs.Common.{◌≡◌, ◌⊎◌, inl, inr, ℕ, zero, suc, ◌<◌, ◌≤◌, ◌^◌, Bool, true, false, true≢false, List, []}
use Rattle.std.proofs.Common.{◌∷◌}
use Rattle.std.proofs.Common.{map, length, Option, Some, None, refl, sym, ap, subst, ◌∙◌, arith}
use Rattle.std.specs.Prelude.{option_map, if◌then◌else◌}
use Rattle.std.proofs.lemmas.Option.{same_Some}
use Rattle.arm_value.specs.Json.{Json}
use Rattle.arm_ids.specs.declared.id.ResourceId.{ResourceId}
use Rattle.foundation.proofs.Comparisons.{lt_false}
use Rattle.reading.specs.Knowledge.{Known, known, absent, missing, Told, value, no_value, waits, told, by_entry, Stays}
use Rattle.reading.specs.Knowledge.{Grows, IsToldStill}
use Rattle.reading.proofs.Growth.{told_still}
use Rattle.plan_cells.specs.Cells.{Step, Position, Cell, parameter, variable, offered, output, count, included, name, deployments, state, parent, admits, depth}
use Rattle.plan_cells.specs.Guarded.{not_there, there_if, told_where, told_by}
use Rattle.plan_cells.specs.Same.{same}
use Rattle.plan_cells.proofs.CellLemmas.{guarded_told, parent_above}
use Rattle.plan_cells.proofs.SameLemmas.{cell_same, cell_is}
use Rattle.plan_cells.specs.Known.{Table, entry_of, entry_told, IsKnown, is_told, entry_by}
use Rattle.plan_cells.specs.Meaning.{Deployment, raw, rule, ruled, plain, meaning}
use Rattle.plan_cells.specs.Desired.{is_state}
use Rattle.plan_cells.specs.Start.{start}
use Rattle.plan_cells.specs.Children.{Has, NamesDiffer, roots, children}
use Rattle.plan_cells.proofs.ApartLemmas.{roots_apart}
use Rattle.plan_cells.proofs.UndeclaredLemmas.{undeclared, undeclared_root}
use Rattle.plan_filling.specs.Rows.{Status, New, Open, Value, Empty, Late, Row, fresh, status_of, table, known_by}
use Rattle.plan_filling.specs.Rows.{IsFinished}
use Rattle.plan_filling.specs.Sound as sound
use Rattle.plan_filling.specs.Sound.{Good, IsLate, IsListed, Sound}
use Rattle.plan_filling.specs.Steps.{AreFinished, NoneOpen, Filled}
use Rattle.plan_filling.specs.Final.{by_condition, unlisted, or_unlisted, final, AreGatesKnown, IsState, Leads}
use Rattle.plan_filling.specs.Final.{here, further, IsFinal}
use Rattle.plan_filling.proofs.RowLemmas.{by_same, found_first, found_later, fresh_has, fresh_only, distinct_fresh}
use Rattle.plan_filling.proofs.StepLemmas.{start_open, state_missing, late_status}

-- what is not listed, by what is known of its parent
abbrev parent_entry : Known Json → Known Json
parent_entry (known v) = absent
parent_entry absent = absent
parent_entry missing = missing

not_missing : (x : Known Json) → (x ≡ missing → ⊥) → parent_entry x ≡ absent
not_missing (known v) n = refl
not_missing absent n = refl
not_missing missing n = absurd (n refl)

admits_none : (c : Cell) → admits c None ≡ false
admits_none (included p s) = lt_false s.copy 0 (omega arith)
admits_none (name p s) = lt_false s.copy 0 (omega arith)
admits_none (parameter p x) = refl
admits_none (variable p x) = refl
admits_none (offered p x) = refl
admits_none (output p x) = refl
admits_none (count p r) = refl
admits_none (deployments p) = refl
admits_none (state k) = refl

module _ (d : Deployment) where
  told_under : (p : Table) (c e : Cell) → parent c ≡ Some e
      → told p (meaning d c) ≡ by_entry e (λ v. told_where (admits c v) (told p (plain d c))) (p e)
  unfolding meaning
  told_under p c e i = guarded_told p c (plain d c) ∙ ap (λ o. told_by p c o (told p (plain d c))) i

  told_root : (p : Table) (c : Cell) → parent c ≡ None → told p (meaning d c) ≡ told p (plain d c)
  unfolding meaning
  told_root p c i = guarded_told p c (plain d c) ∙ ap (λ o. told_by p c o (told p (plain d c))) i

  plain_none : (c : Cell) → is_state c ≡ false → raw d c ≡ None → plain d c ≡ not_there
  unfolding plain
  plain_none (parameter p x) s e = ap (λ o. there_if (option_map (ruled d (rule d (parameter p x))) o)) e
  plain_none (variable p x) s e = ap (λ o. there_if (option_map (ruled d (rule d (variable p x))) o)) e
  plain_none (offered p x) s e = ap (λ o. there_if (option_map (ruled d (rule d (offered p x))) o)) e
  plain_none (output p x) s e = ap (λ o. there_if (option_map (ruled d (rule d (output p x))) o)) e
  plain_none (count p r) s e = ap (λ o. there_if (option_map (ruled d (rule d (count p r))) o)) e
  plain_none (included p t) s e = ap (λ o. there_if (option_map (ruled d (rule d (included p t))) o)) e
  plain_none (name p t) s e = ap (λ o. there_if (option_map (ruled d (rule d (name p t))) o)) e
  plain_none (deployments p) s e = ap (λ o. there_if (option_map (ruled d (rule d (deployments p))) o)) e
  plain_none (state k) s e = absurd (true≢false s)

  told_none : (p : Table) (c : Cell) → is_state c ≡ false → raw d c ≡ None → told p (plain d c) ≡ value None
  unfolding told
  told_none p c s e = ap (λ r. told p r) (plain_none c s e)

  by_admits : (p : Table) (c : Cell) (b : Bool) → (b ≡ true → told p (plain d c) ≡ value None)
      → entry_told (told_where b (told p (plain d c))) ≡ absent
  by_admits p c true h = ap entry_told (h refl)
  by_admits p c false h = refl

  entry_at : (p : Table) (c e : Cell) (x : Known Json)
      → ((v : Json) → x ≡ known v → admits c (Some v) ≡ true → told p (plain d c) ≡ value None)
      → entry_told (by_entry e (λ v. told_where (admits c v) (told p (plain d c))) x) ≡ parent_entry x
  entry_at p c e (known v) h = by_admits p c (admits c (Some v)) (h v refl)
  entry_at p c e absent h =
      ap (λ b. entry_told (told_where b (told p (plain d c)))) (admits_none c)
  entry_at p c e missing h = refl

  -- a table with one entry
  abbrev alone : Cell → Known Json → Table
  alone e x c = if same e c then x else missing

  alone_here : (e : Cell) (x : Known Json) → alone e x e ≡ x
  alone_here e x = ap (λ b. if b then x else missing) (cell_same e)

  no_entry : (u : Option Json) → missing ≡ entry_of u → ⊥
  no_entry (Some v) g = cc
  no_entry None g = cc

  alone_known : (e : Cell) (x : Known Json) → ((u : Option Json) → x ≡ entry_of u → IsKnown (meaning d) start e u)
      → (c : Cell) (u : Option Json) → alone e x c ≡ entry_of u → IsKnown (meaning d) start c u
  alone_known e x h c u f = by_test (same e c) refl f
    where
      by_test : (b : Bool) → same e c ≡ b → (if b then x else missing) ≡ entry_of u → IsKnown (meaning d) start c u
      by_test true is g = subst (λ (y : Cell). IsKnown (meaning d) start y u) (cell_is e c is) (h u g)
      by_test false is g = absurd (no_entry u g)

  module _ (σ : Cell → Option Status) (good : Good d σ)
      (finished : (c : Cell) (s : Status) → σ c ≡ Some s → IsFinished s) (gates : AreGatesKnown σ) where
    q_of : (c : Cell) (o : Option Status) → σ c ≡ o → final σ c ≡ or_unlisted σ c o
    q_of c o e = ap (or_unlisted σ c) e

    by_status_missing : (o : Option Status) → by_condition o ≡ missing → (k : ResourceId) × (o ≡ Some (Late k))
    by_status_missing None e = cc
    by_status_missing (Some New) e = cc
    by_status_missing (Some Open) e = cc
    by_status_missing (Some (Value v)) e = cc
    by_status_missing (Some Empty) e = cc
    by_status_missing (Some (Late k)) e = (k, refl)

    condition_unknown : (o : Option Status) (v : Json) → by_condition o ≡ known v → ⊥
    condition_unknown None v e = cc
    condition_unknown (Some New) v e = cc
    condition_unknown (Some Open) v e = cc
    condition_unknown (Some (Value u)) v e = cc
    condition_unknown (Some Empty) v e = cc
    condition_unknown (Some (Late k)) v e = cc

    -- what is not listed has no value
    unlisted_unknown : (c : Cell) (v : Json) → unlisted σ c ≡ known v → ⊥
    unlisted_unknown (parameter p x) v e = cc
    unlisted_unknown (variable p x) v e = cc
    unlisted_unknown (offered p x) v e = cc
    unlisted_unknown (output p x) v e = condition_unknown (σ (offered p x)) v e
    unlisted_unknown (count p r) v e = cc
    unlisted_unknown (included p s) v e = cc
    unlisted_unknown (name p s) v e = cc
    unlisted_unknown (deployments p) v e = cc
    unlisted_unknown (state k) v e = cc

    value_by : (c : Cell) (v : Json) (o : Option Status) → σ c ≡ o → or_unlisted σ c o ≡ known v
        → σ c ≡ Some (Value v)
    value_by c v None e m = absurd (unlisted_unknown c v m)
    value_by c v (Some (Value u)) e m = let is : u ≡ v = cc in e ∙ ap (λ (x : Json). Some (Value x)) is
    value_by c v (Some New) e m = cc
    value_by c v (Some Open) e m = cc
    value_by c v (Some Empty) e m = cc
    value_by c v (Some (Late k)) e m = cc

    value_of : (c : Cell) (v : Json) → final σ c ≡ known v → σ c ≡ Some (Value v)
    value_of c v m = value_by c v (σ c) refl m

    gate_by : (c : Cell) → unlisted σ c ≡ absent → ((k : ResourceId) → σ c ≡ Some (Late k) → ⊥) → (o : Option Status)
        → σ c ≡ o → or_unlisted σ c o ≡ missing → ⊥
    gate_by c a g None e m = let f : absent ≡ missing = sym a ∙ m in cc
    gate_by c a g (Some (Value v)) e m = cc
    gate_by c a g (Some Empty) e m = cc
    gate_by c a g (Some (Late k)) e m = g k e
    gate_by c a g (Some New) e m = finished c New e
    gate_by c a g (Some Open) e m = finished c Open e

    count_known : (p : Position) (r : ℕ) → final σ (count p r) ≡ missing → ⊥
    count_known p r = gate_by (count p r) refl (λ k. gates (count p r) k tt) (σ (count p r)) refl

    included_known : (p : Position) (s : Step) → final σ (included p s) ≡ missing → ⊥
    included_known p s = gate_by (included p s) refl (λ k. gates (included p s) k tt) (σ (included p s)) refl

    none_some : (b : Cell) → None ≡ Some b → ⊥
    none_some b e = cc

    by_gate : (a e : Cell) → Some a ≡ Some e → (final σ a ≡ missing → ⊥) → absent ≡ parent_entry (final σ e)
    by_gate a e i n =
        sym (not_missing (final σ e) (λ m. n (ap (final σ) (same_Some a e i) ∙ m)))

    condition_entry : (p : Position) (x : List ℕ) (o : Option Status) → σ (offered p x) ≡ o
        → by_condition o ≡ parent_entry (or_unlisted σ (offered p x) o)
    condition_entry p x None e = refl
    condition_entry p x (Some (Value v)) e = refl
    condition_entry p x (Some Empty) e = refl
    condition_entry p x (Some (Late k)) e = refl
    condition_entry p x (Some New) e = absurd (finished (offered p x) New e)
    condition_entry p x (Some Open) e = absurd (finished (offered p x) Open e)

    unlisted_is : (c e : Cell) → parent c ≡ Some e → unlisted σ c ≡ parent_entry (final σ e)
    unlisted_is (parameter [] x) e i = absurd (none_some e i)
    unlisted_is (parameter (s ∷ p) x) e i = by_gate (included p s) e i (included_known p s)
    unlisted_is (variable [] x) e i = absurd (none_some e i)
    unlisted_is (variable (s ∷ p) x) e i = by_gate (included p s) e i (included_known p s)
    unlisted_is (offered [] x) e i = absurd (none_some e i)
    unlisted_is (offered (s ∷ p) x) e i = by_gate (included p s) e i (included_known p s)
    unlisted_is (count [] x) e i = absurd (none_some e i)
    unlisted_is (count (s ∷ p) x) e i = by_gate (included p s) e i (included_known p s)
    unlisted_is (deployments []) e i = absurd (none_some e i)
    unlisted_is (deployments (s ∷ p)) e i = by_gate (included p s) e i (included_known p s)
    unlisted_is (included p s) e i = by_gate (count p s.resource) e i (count_known p s.resource)
    unlisted_is (name p s) e i = by_gate (count p s.resource) e i (count_known p s.resource)
    unlisted_is (output p x) e i =
        condition_entry p x (σ (offered p x)) refl
        ∙ ap (λ (y : Cell). parent_entry (final σ y)) (same_Some (offered p x) e i)
    unlisted_is (state k) e i = absurd (none_some e i)

    -- a cell that is not listed is no child
    no_child : (c e : Cell) (v : Json) → σ c ≡ None → final σ e ≡ known v → Has c (children d e v) → ⊥
    no_child c e v n k h =
        let l : IsListed σ c = good.has_opened c (e, (v, (value_of e v k, h))) in
        let f : Some l.0 ≡ None = sym l.1 ∙ n in cc

    no_root : (c : Cell) → σ c ≡ None → Has c (roots d) → ⊥
    no_root c n h = let l : IsListed σ c = good.has_roots c h in let f : Some l.0 ≡ None = sym l.1 ∙ n in cc

    -- what is told of a cell that is not listed
    told_unlisted : (p : Table) (c e : Cell) → parent c ≡ Some e → σ c ≡ None → is_state c ≡ false → p e ≡ final σ e
        → entry_told (told p (meaning d c)) ≡ parent_entry (final σ e)
    told_unlisted p c e i n s f =
        ap entry_told (told_under p c e i)
        ∙ ap (λ x. entry_told (by_entry e (λ v. told_where (admits c v) (told p (plain d c))) x)) f
        ∙ entry_at p c e (final σ e)
        (λ v k a. told_none p c s (undeclared d e v c i a (no_child c e v n k)))

    told_no_root : (p : Table) (c : Cell) → parent c ≡ None → σ c ≡ None → is_state c ≡ false
        → entry_told (told p (meaning d c)) ≡ absent
    told_no_root p c i n s =
        ap entry_told (told_root p c i ∙ told_none p c s (undeclared_root d c i s (no_root c n)))

    root_unlisted : (c : Cell) → parent c ≡ None → is_state c ≡ false → unlisted σ c ≡ absent
    root_unlisted (parameter p x) i s = refl
    root_unlisted (variable p x) i s = refl
    root_unlisted (offered p x) i s = refl
    root_unlisted (count p r) i s = refl
    root_unlisted (deployments p) i s = refl
    root_unlisted (included p t) i s = refl
    root_unlisted (name p t) i s = refl
    root_unlisted (output p x) i s = absurd (none_some (offered p x) (sym i))
    root_unlisted (state k) i s = absurd (true≢false s)

    -- from the table while it was filled to this one
    stays_by : (c : Cell) (o : Option Status) → σ c ≡ o → Stays (known_by o) (final σ c)
    stays_by c None e = tt
    stays_by c (Some (Value v)) e = q_of c (Some (Value v)) e
    stays_by c (Some Empty) e = q_of c (Some Empty) e
    stays_by c (Some New) e = tt
    stays_by c (Some Open) e = tt
    stays_by c (Some (Late k)) e = tt

    grows : Grows (table σ) (final σ)
    grows c = stays_by c (σ c) refl

    still : (c : Cell) (r : Told Cell (Option Json)) → told (table σ) (meaning d c) ≡ r
        → IsToldStill (final σ) (meaning d c) r
    still c r w =
        subst (λ (x : Told Cell (Option Json)). IsToldStill (final σ) (meaning d c) x) w
        (told_still Cell Json (Option Json) (table σ) (final σ) grows (meaning d c))

    state_is_missing : (k : ResourceId) → final σ (state k) ≡ missing
    state_is_missing k = q_of (state k) None (state_missing d σ good k)

    late_is_missing : (c : Cell) (k : ResourceId) → IsLate d σ c k → final σ c ≡ missing
    late_is_missing c k l = q_of c (Some (Late k)) (late_status d σ c k l)

    late_leads : (c : Cell) (k : ResourceId) → IsLate d σ c k → Leads d (final σ) c k
    late_leads c k (sound.here _ _ e w) = here c k (still c (waits (state k)) w (state_is_missing k))
    late_leads c k (sound.further _ x _ e w l) =
        further c x k (still c (waits x) w (late_is_missing x k l)) (late_leads x k l)

    leads_missing : (c : Cell) (k : ResourceId) → Leads d (final σ) c k
        → entry_told (told (final σ) (meaning d c)) ≡ missing
    leads_missing c k (here _ _ w) = ap entry_told w
    leads_missing c k (further _ x _ w l) = ap entry_told w

    empty_by : (c : Cell) (r : Told Cell (Option Json)) → IsToldStill (final σ) (meaning d c) r → entry_told r ≡ absent
        → entry_told (told (final σ) (meaning d c)) ≡ absent
    empty_by c (value o) f e = ap entry_told f ∙ e
    empty_by c no_value f e = ap entry_told f ∙ e
    empty_by c (waits x) f e = cc

    -- a cell that is not listed has what is told of it
    unlisted_by : (c : Cell) (o : Option Cell) → parent c ≡ o → σ c ≡ None → is_state c ≡ false
        → unlisted σ c ≡ entry_told (told (final σ) (meaning d c))
    unlisted_by c None i n s = root_unlisted c i s ∙ sym (told_no_root (final σ) c i n s)
    unlisted_by c (Some e) i n s = unlisted_is c e i ∙ sym (told_unlisted (final σ) c e i n s refl)

    told_by_status : (c : Cell) (o : Option Status) → σ c ≡ o → is_state c ≡ false
        → or_unlisted σ c o ≡ entry_told (told (final σ) (meaning d c))
    told_by_status c None e s = unlisted_by c (parent c) refl e s
    told_by_status c (Some (Value v)) e s = sym (ap entry_told (still c (value (Some v)) (good.tells_value c v e)))
    told_by_status c (Some Empty) e s =
        sym (empty_by c (told (table σ) (meaning d c)) (still c (told (table σ) (meaning d c)) refl)
        (good.tells_empty c e))
    told_by_status c (Some (Late k)) e s = sym (leads_missing c k (late_leads c k (good.late c k e)))
    told_by_status c (Some New) e s = absurd (finished c New e)
    told_by_status c (Some Open) e s = absurd (finished c Open e)

    closed_at : (c : Cell) (b : Bool) → is_state c ≡ b
        → final σ c ≡ entry_by (start c) (entry_told (told (final σ) (meaning d c)))
    closed_at c false s =
        told_by_status c (σ c) refl s
        ∙ ap (λ a. entry_by a (entry_told (told (final σ) (meaning d c)))) (sym (start_open c s))
    closed_at (state k) true s = state_is_missing k
    closed_at (parameter p x) true s = absurd (true≢false (sym s))
    closed_at (variable p x) true s = absurd (true≢false (sym s))
    closed_at (offered p x) true s = absurd (true≢false (sym s))
    closed_at (output p x) true s = absurd (true≢false (sym s))
    closed_at (count p r) true s = absurd (true≢false (sym s))
    closed_at (included p t) true s = absurd (true≢false (sym s))
    closed_at (name p t) true s = absurd (true≢false (sym s))
    closed_at (deployments p) true s = absurd (true≢false (sym s))

    -- and what is in it is known
    abbrev Knows : Cell → Type 0
    Knows c = (u : Option Json) → final σ c ≡ entry_of u → IsKnown (meaning d) start c u

    absent_is : (u : Option Json) → absent ≡ entry_of u → u ≡ None
    absent_is (Some v) e = cc
    absent_is None e = refl

    unlisted_entry : (c : Cell) (u : Option Json) → unlisted σ c ≡ entry_of u → unlisted σ c ≡ absent
    unlisted_entry c (Some v) e = absurd (unlisted_unknown c v e)
    unlisted_entry c None e = e

    derive : (c : Cell) (p : Table) → is_state c ≡ false
        → ((y : Cell) (u : Option Json) → p y ≡ entry_of u → IsKnown (meaning d) start y u)
        → entry_told (told p (meaning d c)) ≡ absent → (u : Option Json) → unlisted σ c ≡ entry_of u
        → IsKnown (meaning d) start c u
    derive c p s h e u f =
        subst (λ (x : Option Json). IsKnown (meaning d) start c x)
        (sym (absent_is u (sym (unlisted_entry c u f) ∙ f)))
        (is_told c None p (start_open c s) h e)

    unlisted_known : (c : Cell) → σ c ≡ None → is_state c ≡ false → (o : Option Cell) → parent c ≡ o
        → ((e : Cell) → parent c ≡ Some e → Knows e) → (u : Option Json) → unlisted σ c ≡ entry_of u
        → IsKnown (meaning d) start c u
    unlisted_known c n s None i above u f =
        derive c (λ x. missing) s (λ y v g. absurd (no_entry v g)) (told_no_root (λ x. missing) c i n s) u f
    unlisted_known c n s (Some e) i above u f =
        derive c (alone e (final σ e)) s (alone_known e (final σ e) (above e i))
        (told_unlisted (alone e (final σ e)) c e i n s (alone_here e (final σ e))
        ∙ sym (unlisted_is c e i) ∙ unlisted_entry c u f) u f

    known_by_status : (c : Cell) (o : Option Status) → σ c ≡ o
        → ((e : Cell) → parent c ≡ Some e → Knows e) → is_state c ≡ false → (u : Option Json)
        → or_unlisted σ c o ≡ entry_of u → IsKnown (meaning d) start c u
    known_by_status c None e above s u f = unlisted_known c e s (parent c) refl above u f
    known_by_status c (Some (Value w)) e above s (Some v) f =
        let is : w ≡ v = cc in good.valued c v (e ∙ ap (λ (x : Json). Some (Value x)) is)
    known_by_status c (Some (Value w)) e above s None f = cc
    known_by_status c (Some Empty) e above s (Some v) f = cc
    known_by_status c (Some Empty) e above s None f = good.empty c e
    known_by_status c (Some (Late k)) e above s u f = absurd (no_entry u f)
    known_by_status c (Some New) e above s u f = absurd (no_entry u f)
    known_by_status c (Some Open) e above s u f = absurd (no_entry u f)

    by_state : (c : Cell) (b : Bool) → is_state c ≡ b → ((e : Cell) → parent c ≡ Some e → Knows e) → Knows c
    by_state c false s above u f = known_by_status c (σ c) refl above s u f
    by_state (state k) true s above u f = absurd (no_entry u (sym (state_is_missing k) ∙ f))
    by_state (parameter p x) true s above u f = absurd (true≢false (sym s))
    by_state (variable p x) true s above u f = absurd (true≢false (sym s))
    by_state (offered p x) true s above u f = absurd (true≢false (sym s))
    by_state (output p x) true s above u f = absurd (true≢false (sym s))
    by_state (count p r) true s above u f = absurd (true≢false (sym s))
    by_state (included p t) true s above u f = absurd (true≢false (sym s))
    by_state (name p t) true s above u f = absurd (true≢false (sym s))
    by_state (deployments p) true s above u f = absurd (true≢false (sym s))

    known_below : (n : ℕ) (c : Cell) → depth c < n → Knows c
    known_below zero c l = absurd (omega (arith, l))
    known_below (suc n) c l =
        by_state c (is_state c) refl
        (λ e i. known_below n e (let m : depth e < depth c = parent_above c e i in omega (arith, l, m)))

    all_known : (c : Cell) → Knows c
    all_known c = known_below (suc (depth c)) c (omega arith)

    -- why a cell is missing
    abbrev Why : Cell → Type 0
    Why c = IsState c ⊎ ((k : ResourceId) × Leads d (final σ) c k)

    output_late : (p : Position) (x : List ℕ) (k : ResourceId) → σ (offered p x) ≡ Some (Late k)
        → Leads d (final σ) (output p x) k
    output_late p x k e =
        let l = good.late (offered p x) k e in
        further (output p x) (offered p x) k
        (told_under (final σ) (output p x) (offered p x) refl
        ∙ ap (λ y. by_entry (offered p x) (λ v. told_where (admits (output p x) v)
        (told (final σ) (plain d (output p x)))) y)
        (late_is_missing (offered p x) k l))
        (late_leads (offered p x) k l)

    unlisted_late : (c : Cell) → unlisted σ c ≡ missing → Why c
    unlisted_late (state k) e = inl tt
    unlisted_late (output p x) e =
        let l = by_status_missing (σ (offered p x)) e in inr (l.0, output_late p x l.0 l.1)
    unlisted_late (parameter p x) e = cc
    unlisted_late (variable p x) e = cc
    unlisted_late (offered p x) e = cc
    unlisted_late (count p k) e = cc
    unlisted_late (included p k) e = cc
    unlisted_late (name p k) e = cc
    unlisted_late (deployments p) e = cc

    late_by : (c : Cell) (o : Option Status) → σ c ≡ o → or_unlisted σ c o ≡ missing → Why c
    late_by c None e m = unlisted_late c m
    late_by c (Some (Value v)) e m = cc
    late_by c (Some Empty) e m = cc
    late_by c (Some (Late k)) e m = inr (k, late_leads c k (good.late c k e))
    late_by c (Some New) e m = absurd (finished c New e)
    late_by c (Some Open) e m = absurd (finished c Open e)

    pub is_final : IsFinal d (final σ)
    is_final = record {
      is_start = record { closed = λ c. closed_at c (is_state c) refl; is_known = all_known };
      late = λ c m. late_by c (σ c) refl m;
    }

all_finished : (rows : List Row) → AreFinished rows (length rows) → (c : Cell) (s : Status) → status_of rows c ≡ Some s
    → IsFinished s
all_finished [] f c s e = cc
all_finished (r ∷ rs) f c s e =
    elim (by_same r.cell c) [
      | inl h ↦ (let is : Some r.status ≡ Some s = sym (found_first r rs c (cell_is r.cell c h)) ∙ e in
          let at : r.status ≡ s = cc in subst IsFinished at (f 0 (omega arith)))
      | inr h ↦ all_finished rs (λ i l. f (suc i) (omega (arith, l))) c s (sym (found_later r rs c h) ∙ e)
    ]

-- a sheet that is filled, whose counts and conditions are known
pub filled_is_final : (d : Deployment) (rows : List Row) → Filled d rows → AreGatesKnown (status_of rows)
    → IsFinal d (final (status_of rows))
filled_is_final d rows f g = is_final d (status_of rows) f.sound.good (all_finished rows f.finished) g

-- a sheet that has the cells of the root, all new
module _ (d : Deployment) where
  abbrev begun : List Row
  begun = map fresh (roots d)

  only : (c : Cell) (s : Status) → status_of begun c ≡ Some s → s ≡ New
  only c s e = (fresh_only (roots d) c s e).1

  pub begun_sound : NamesDiffer d.template → length begun ≤ 2 ^ 32 → Sound d begun
  begun_sound n few = record {
    good = record {
      valued = λ c v e. (let x : Value v ≡ New = only c (Value v) e in cc);
      empty = λ c e. (let x : Empty ≡ New = only c Empty e in cc);
      tells_value = λ c v e. (let x : Value v ≡ New = only c (Value v) e in cc);
      tells_empty = λ c e. (let x : Empty ≡ New = only c Empty e in cc);
      late = λ c k e. (let x : Late k ≡ New = only c (Late k) e in cc);
      is_there = λ c s e. inl (fresh_only (roots d) c s e).0;
      has_roots = λ c h. (New, fresh_has (roots d) c h);
      has_opened = λ c o. (let x : Value o.1.0 ≡ New = only o.0 (Value o.1.0) o.1.1.0 in cc);
    };
    distinct = distinct_fresh (roots d) (roots_apart d n);
    few = few;
    names_differ = n;
  }

pub none_begun : (cs : List Cell) → NoneOpen (map fresh cs)
none_begun [] i h e = absurd (omega (arith, h))
none_begun (c ∷ cs) zero h e = let f : New ≡ Open = e in cc
none_begun (c ∷ cs) (suc i) h e = none_begun cs i (omega (arith, h)) e
