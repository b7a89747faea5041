-- Where rows have values, what they are known to be at the start has them.
use Rattle.std.proofs.Common.{◌≡◌, ◌⊎◌, inl, inr, ℕ, suc, true, false, true≢false, List, [], ◌∷◌}
use Rattle.std.proofs.Common.{Option, Some, None, refl, sym, ap, ◌∙◌, arith}
use Rattle.std.specs.Prelude.{◌||◌, not}
use Rattle.foundation.proofs.Comparisons.{not_below_zero}
use Rattle.arm_value.specs.Json.{Json}
use Rattle.reading.specs.Knowledge.{known, absent, blanked, known_value}
use Rattle.deploy_cells.specs.Cells.{Cell, parameter, variable, offered, output, count, included, name}
use Rattle.deploy_cells.specs.Cells.{deployments, state, parent, admits, admitted}
use Rattle.deploy_cells.specs.Guarded.{Reads}
use Rattle.deploy_cells.proofs.SameLemmas.{cell_is}
use Rattle.plan_cells.specs.Meaning.{Deployment, raw}
use Rattle.plan_cells.specs.Desired.{is_state}
use Rattle.plan_cells.proofs.UndeclaredLemmas.{undeclared, undeclared_root}
use Rattle.plan_table.specs.Rows.{Status, New, Open, Value, Empty, Late, Row, status_of}
use Rattle.plan_table.specs.Sound.{Good, IsListed}
use Rattle.plan_table.specs.Steps.{Filled}
use Rattle.plan_table.specs.Final.{unlisted, or_unlisted, final, IsGate, AreGatesKnown}
use Rattle.plan_table.proofs.RowLemmas.{by_same, found_first, found_later}
use Rattle.plan_tasks.specs.Answered.{is_asked, AreAnswered, has_value, is_answered, AreRowsAnswered}

-- ---- rows

some_value : (s : Status) → has_value s ≡ true → (v : Json) × (s ≡ Value v)
some_value (Value v) e = (v, refl)
some_value New e = absurd (true≢false (sym e))
some_value Open e = absurd (true≢false (sym e))
some_value Empty e = absurd (true≢false (sym e))
some_value (Late k) e = absurd (true≢false (sym e))

row_value : (r : Row) (c : Cell) → r.cell ≡ c → is_asked c ≡ true → is_answered r ≡ true
    → (v : Json) × (r.status ≡ Value v)
row_value r c e a h =
    some_value r.status (ap (λ b. not b || has_value r.status) (sym (ap is_asked e ∙ a)) ∙ h)

rows_value : (rows : List Row) → AreRowsAnswered rows → (c : Cell) (s : Status) → is_asked c ≡ true
    → status_of rows c ≡ Some s → (v : Json) × (s ≡ Value v)
rows_value [] h c s a e = let f : None ≡ Some s = e in absurd (cc)
rows_value (r ∷ rs) h c s a e =
    elim (by_same r.cell c) [
      | inl x ↦ (let at = cell_is r.cell c x in let v = row_value r c at a (h 0 (omega arith)) in
          let is : Some r.status ≡ Some s = sym (found_first r rs c at) ∙ e in
          let same : r.status ≡ s = cc in (v.0, sym same ∙ v.1))
      | inr x ↦ rows_value rs (λ j l. h (suc j) (omega (arith, l))) c s a (sym (found_later r rs c x) ∙ e)
    ]

gate_asked : (c : Cell) → IsGate c → is_asked c ≡ true
gate_asked (count p r) g = refl
gate_asked (included p s) g = refl
gate_asked (parameter p x) g = absurd g
gate_asked (variable p x) g = absurd g
gate_asked (offered p x) g = absurd g
gate_asked (output p x) g = absurd g
gate_asked (name p s) g = absurd g
gate_asked (deployments p) g = absurd g
gate_asked (state k) g = absurd g

pub gates_known : (rows : List Row) → AreRowsAnswered rows → AreGatesKnown (status_of rows)
gates_known rows h c k g e =
    let v = rows_value rows h c (Late k) (gate_asked c g) e in let f : Late k ≡ Value v.0 = v.1 in cc

-- ---- cells

asked_no_state : (c : Cell) → is_asked c ≡ true → is_state c ≡ false
asked_no_state (count p r) a = refl
asked_no_state (included p s) a = refl
asked_no_state (name p s) a = refl
asked_no_state (parameter p x) a = refl
asked_no_state (variable p x) a = refl
asked_no_state (offered p x) a = refl
asked_no_state (output p x) a = refl
asked_no_state (deployments p) a = refl
asked_no_state (state k) a = absurd (true≢false (sym a))

-- the parent of such a cell is one too
parent_asked : (c e : Cell) → is_asked c ≡ true → parent c ≡ Some e → is_asked e ≡ true
parent_asked (count [] r) e a i = let f : None ≡ Some e = i in absurd (cc)
parent_asked (count (s ∷ p) r) e a i = let f : included p s ≡ e = cc in ap is_asked (sym f)
parent_asked (included p s) e a i = let f : count p s.resource ≡ e = cc in ap is_asked (sym f)
parent_asked (name p s) e a i = let f : count p s.resource ≡ e = cc in ap is_asked (sym f)
parent_asked (parameter p x) e a i = absurd (true≢false (sym a))
parent_asked (variable p x) e a i = absurd (true≢false (sym a))
parent_asked (offered p x) e a i = absurd (true≢false (sym a))
parent_asked (output p x) e a i = absurd (true≢false (sym a))
parent_asked (deployments p) e a i = absurd (true≢false (sym a))
parent_asked (state k) e a i = absurd (true≢false (sym a))

never_admitted : (c : Cell) → is_asked c ≡ true → admits c None ≡ true → ⊥
never_admitted (count p r) a h = true≢false (sym h)
never_admitted (included p s) a h = not_below_zero s.copy h
never_admitted (name p s) a h = not_below_zero s.copy h
never_admitted (parameter p x) a h = true≢false (sym a)
never_admitted (variable p x) a h = true≢false (sym a)
never_admitted (offered p x) a h = true≢false (sym a)
never_admitted (output p x) a h = true≢false (sym a)
never_admitted (deployments p) a h = true≢false (sym a)
never_admitted (state k) a h = true≢false (sym a)

module _ (d : Deployment) (σ : Cell → Option Status) (good : Good d σ)
    (valued : (c : Cell) (s : Status) → is_asked c ≡ true → σ c ≡ Some s → (v : Json) × (s ≡ Value v)) where
  -- what is listed has its value in the table
  listed_value : (c : Cell) (o : Option Status) → is_asked c ≡ true → σ c ≡ o → (o ≡ None → ⊥)
      → (v : Json) × (final σ c ≡ known v)
  listed_value c None a e n = absurd (n refl)
  listed_value c (Some s) a e n =
      let v = valued c s a e in
      (v.0, ap (or_unlisted σ c) (e ∙ ap Some v.1))

  -- what is not listed has none
  asked_unlisted : (c : Cell) → is_asked c ≡ true → unlisted σ c ≡ absent
  asked_unlisted (count p r) a = refl
  asked_unlisted (included p s) a = refl
  asked_unlisted (name p s) a = refl
  asked_unlisted (parameter p x) a = refl
  asked_unlisted (variable p x) a = refl
  asked_unlisted (offered p x) a = refl
  asked_unlisted (output p x) a = absurd (true≢false (sym a))
  asked_unlisted (deployments p) a = refl
  asked_unlisted (state k) a = absurd (true≢false (sym a))

  status_by : (c : Cell) (o : Option Status) → is_asked c ≡ true → σ c ≡ o
      → ((v : Json) × ((σ c ≡ Some (Value v)) × (known_value (final σ c) ≡ Some v))) ⊎ (known_value (final σ c) ≡ None)
  status_by c None a e =
      inr (ap (λ x. known_value (or_unlisted σ c x)) e ∙ ap known_value (asked_unlisted c a))
  status_by c (Some s) a e =
      let v = valued c s a e in
      inl (v.0, (e ∙ ap Some v.1, ap (λ x. known_value (or_unlisted σ c x)) (e ∙ ap Some v.1)))

  not_unlisted : (c : Cell) (r : Reads Json) (p : Option Cell) → is_asked c ≡ true → raw d c ≡ Some r → parent c ≡ p
      → admitted (blanked (final σ)) c p ≡ true → σ c ≡ None → ⊥
  not_unlisted c r None a i e h n =
      let none = undeclared_root d c e (asked_no_state c a) (λ x. unlisted_here c (good.has_roots c x) n) in
      let f : None ≡ Some r = sym none ∙ i in cc
    where
      unlisted_here : (c : Cell) → IsListed σ c → σ c ≡ None → ⊥
      unlisted_here c l n = let f : None ≡ Some l.0 = sym n ∙ l.1 in cc
  not_unlisted c r (Some b) a i e h n =
      elim (status_by b (σ b) (parent_asked c b a e) refl) [
        | inr none ↦ never_admitted c a (ap (admits c) (sym none) ∙ h)
        | inl v ↦ (let no = undeclared d b v.0 c e (ap (admits c) (sym v.1.1) ∙ h)
            (λ x. unlisted_here c (good.has_opened c (b, (v.0, (v.1.0, x)))) n) in
            let f : None ≡ Some r = sym no ∙ i in cc)
      ]
    where
      unlisted_here : (c : Cell) → IsListed σ c → σ c ≡ None → ⊥
      unlisted_here c l n = let f : None ≡ Some l.0 = sym n ∙ l.1 in cc

  pub all_answered : AreAnswered d (final σ)
  all_answered c a r i h =
      listed_value c (σ c) a refl (not_unlisted c r (parent c) a i refl h)

pub cells_answered : (d : Deployment) (rows : List Row) → Filled d rows → AreRowsAnswered rows
    → AreAnswered d (final (status_of rows))
cells_answered d rows f h = all_answered d (status_of rows) f.sound.good (rows_value rows h)
