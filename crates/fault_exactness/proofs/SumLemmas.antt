-- How many instances rows list, where another list of rows has what they have.
use Rattle.std.proofs.Common.{◌≡◌, ◌⊎◌, inl, inr, ◌+◌, ◌≤◌, List, [], ◌∷◌, Option, Some, None, refl, sym, ap, ◌∙◌}
use Rattle.std.proofs.Common.{arith}
use Rattle.std.proofs.Common.{false, true≢false}
use Rattle.std.specs.Prelude.{if◌then◌else◌}
use Rattle.std.proofs.lemmas.Option.{none-some}
use Rattle.foundation.proofs.Choices.{if_true, if_false}
use Rattle.arm_value.specs.Json.{Json}
use Rattle.deploy_cells.specs.Cells.{Cell}
use Rattle.deploy_cells.specs.Same.{same}
use Rattle.deploy_cells.proofs.SameLemmas.{cell_is, cell_same_as}
use Rattle.plan_filling.specs.Rows.{Status, New, Open, Value, Empty, Late, Row, status_of, AreDistinct}
use Rattle.plan_filling.specs.Limits.{Scopes, listed_by, instances_in}
use Rattle.plan_filling.proofs.RowLemmas.{by_same, found_first, found_later}

clash : {A : Type 0} (o : Option A) (x : A) → o ≡ None → o ≡ Some x → ⊥
clash o x e f = cc

false_true : (c d : Cell) → same c d ≡ false → c ≡ d → ⊥
false_true c d e f = true≢false (sym (cell_same_as c d f) ∙ e)

-- ---- rows without a cell

abbrev without : Cell → List Row → List Row
without c [] = []
without c (x ∷ xs) = if same x.cell c then xs else x ∷ without c xs

other_cell : (x : Row) (c d : Cell) → x.cell ≡ c → (c ≡ d → ⊥) → same x.cell d ≡ false
other_cell x c d e n =
    elim (by_same x.cell d) [ inl g ↦ absurd (n (sym e ∙ cell_is x.cell d g)) | inr g ↦ g ]

status_without : (c d : Cell) (xs : List Row) → (c ≡ d → ⊥) → status_of (without c xs) d ≡ status_of xs d
status_without c d [] n = refl
status_without c d (x ∷ xs) n =
    elim (by_same x.cell c) [
      | inl e ↦ ap (λ ys. status_of ys d) (if_true (same x.cell c) xs (x ∷ without c xs) e)
          ∙ sym (found_later x xs d (other_cell x c d (cell_is x.cell c e) n))
      | inr e ↦ ap (λ ys. status_of ys d) (if_false (same x.cell c) xs (x ∷ without c xs) e)
          ∙ ap (λ o. if same x.cell d then Some x.status else o) (status_without c d xs n)
    ]

module _ (f : Scopes) where
  listed_so : (x : Row) (c : Cell) (s : Status) → x.cell ≡ c → x.status ≡ s
      → listed_by f x.status x.cell ≡ listed_by f s c
  listed_so x c s e g = ap (λ d. listed_by f x.status d) e ∙ ap (λ u. listed_by f u c) g

  status_first : (x : Row) (xs : List Row) (c : Cell) (s : Status) → x.cell ≡ c → status_of (x ∷ xs) c ≡ Some s
      → x.status ≡ s
  status_first x xs c s e h = let g : Some x.status ≡ Some s = sym (found_first x xs c e) ∙ h in cc

  sum_without : (c : Cell) (s : Status) (xs : List Row) → status_of xs c ≡ Some s
      → instances_in f xs ≡ listed_by f s c + instances_in f (without c xs)
  sum_without c s [] h = absurd (none-some s h)
  sum_without c s (x ∷ xs) h =
      elim (by_same x.cell c) [
        | inl e ↦ (let is = cell_is x.cell c e in
            let one = listed_so x c s is (status_first x xs c s is h) in
            let rest = ap (instances_in f) (if_true (same x.cell c) xs (x ∷ without c xs) e) in
            omega (arith, one, rest))
        | inr e ↦ (let more = sum_without c s xs (sym (found_later x xs c e) ∙ h) in
            let rest = ap (instances_in f) (if_false (same x.cell c) xs (x ∷ without c xs) e) in
            omega (arith, more, rest))
      ]

  -- ---- each row lists nothing, or is one of the others

  abbrev pub AllIn : List Row → List Row → Type 0
  AllIn ys [] = Unit {0}
  AllIn ys (r ∷ rs) = ((listed_by f r.status r.cell ≡ 0) ⊎ (status_of ys r.cell ≡ Some r.status)) × AllIn ys rs

  not_first : (x : Row) (xs : List Row) (c : Cell) → status_of (x ∷ xs) c ≡ None → same x.cell c ≡ false
  not_first x xs c h =
      elim (by_same x.cell c) [
        | inl e ↦ absurd (clash (status_of (x ∷ xs) c) x.status h (found_first x xs c (cell_is x.cell c e)))
        | inr e ↦ e
      ]

  all_without : (ys rs : List Row) (c : Cell) → status_of rs c ≡ None → AllIn ys rs → AllIn (without c ys) rs
  all_without ys [] c n a = tt
  all_without ys (x ∷ xs) c n a =
      let e = not_first x xs c n in (
        elim a.0 [
          | inl z ↦ inl z
          | inr h ↦ inr (status_without c x.cell ys (λ g. false_true x.cell c e (sym g)) ∙ h)
        ],
        all_without ys xs c (sym (found_later x xs c e) ∙ n) a.1,
      )

  pub fewer : (rs ys : List Row) → AreDistinct rs → AllIn ys rs → instances_in f rs ≤ instances_in f ys
  fewer [] ys d a = omega arith
  fewer (r ∷ rs) ys d a =
      elim a.0 [
        | inl z ↦ (let rest = fewer rs ys d.1 a.1 in omega (arith, z, rest))
        | inr h ↦ (let all = sum_without r.cell r.status ys h in
            let rest = fewer rs (without r.cell ys) d.1 (all_without ys rs r.cell d.0 a.1) in omega (arith, all, rest))
      ]

  -- and one row that lists nothing lists something there
  pub fewer_with : (c : Cell) (u s : Status) (rs ys : List Row) → AreDistinct rs → AllIn ys rs
      → status_of rs c ≡ Some u → listed_by f u c ≡ 0 → status_of ys c ≡ Some s
      → instances_in f rs + listed_by f s c ≤ instances_in f ys
  fewer_with c u s [] ys d a h z g = absurd (none-some u h)
  fewer_with c u s (r ∷ rs) ys d a h z g =
      elim (by_same r.cell c) [
        | inl e ↦ (let is = cell_is r.cell c e in
            let one = listed_so r c u is (status_first r rs c u is h) in
            let all = sum_without c s ys g in
            let gone = ap (λ x. status_of rs x) (sym is) ∙ d.0 in
            let rest = fewer rs (without c ys) d.1 (all_without ys rs c gone a.1) in
            omega (arith, one, z, all, rest))
        | inr e ↦ further (λ zs b k i. fewer_with c u s rs zs d.1 b k z i) e a.0 (sym (found_later r rs c e) ∙ h)
      ]
    where
      further : ((zs : List Row) → AllIn zs rs → status_of rs c ≡ Some u → status_of zs c ≡ Some s
          → instances_in f rs + listed_by f s c ≤ instances_in f zs)
          → same r.cell c ≡ false → (listed_by f r.status r.cell ≡ 0) ⊎ (status_of ys r.cell ≡ Some r.status)
          → status_of rs c ≡ Some u → instances_in f (r ∷ rs) + listed_by f s c ≤ instances_in f ys
      further rest e (inl n) k = let more = rest ys a.1 k g in omega (arith, n, more)
      further rest e (inr l) k =
          let all = sum_without r.cell r.status ys l in
          let more = rest (without r.cell ys) (all_without ys rs r.cell d.0 a.1) k
          (status_without r.cell c ys (false_true r.cell c e) ∙ g) in
          omega (arith, all, more)

  -- ---- rows whose values the others have

  pub all_in : (ys rs : List Row) → AreDistinct rs
      → ((c : Cell) (v : Json) → status_of rs c ≡ Some (Value v) → status_of ys c ≡ Some (Value v)) → AllIn ys rs
  all_in ys [] d h = tt
  all_in ys (r ∷ rs) d h =
      (here r.status refl, all_in ys rs d.1 (λ c v e. h c v (later c v e)))
    where
      here : (s : Status) → r.status ≡ s
          → (listed_by f r.status r.cell ≡ 0) ⊎ (status_of ys r.cell ≡ Some r.status)
      here (Value v) e =
          inr (h r.cell v (found_first r rs r.cell refl ∙ ap (λ x. Some x) e) ∙ ap (λ x. Some x) (sym e))
      here New e = inl (ap (λ s. listed_by f s r.cell) e)
      here Open e = inl (ap (λ s. listed_by f s r.cell) e)
      here Empty e = inl (ap (λ s. listed_by f s r.cell) e)
      here (Late k) e = inl (ap (λ s. listed_by f s r.cell) e)

      later : (c : Cell) (v : Json) → status_of rs c ≡ Some (Value v) → status_of (r ∷ rs) c ≡ Some (Value v)
      later c v e =
          elim (by_same r.cell c) [
            | inl g ↦ absurd (clash (status_of rs c) (Value v)
                (ap (λ x. status_of rs x) (sym (cell_is r.cell c g)) ∙ d.0) e)
            | inr g ↦ found_later r rs c g ∙ e
          ]
