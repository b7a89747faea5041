-- Rows: where a cell is, after a write and after new rows were added.
use Rattle.std.proofs.Common.{◌≡◌, ◌⊎◌, inl, inr, ℕ, zero, suc, ◌+◌, ◌*◌, ◌<◌, ◌≤◌, Bool, true, false, List, [], ◌∷◌}
use Rattle.std.proofs.Common.{◌++◌, map, length, Option, Some, None, refl, sym, subst, ◌∙◌, arith}
use Rattle.foundation.proofs.Choices.{if_false, if_true}
use Rattle.plan_cells.specs.Cells.{Cell}
use Rattle.plan_cells.specs.Same.{same}
use Rattle.plan_cells.specs.Children.{Has, AreApart}
use Rattle.plan_cells.proofs.SameLemmas.{cell_same, cell_is}
use Rattle.plan_filling.specs.Rows.{Status, New, Open, Value, Empty, Late}
use Rattle.plan_filling.specs.Rows.{Row, fresh, row_at, with_status, status_of, weight, weights, AreDistinct}
use Rattle.plan_filling.specs.Rows.{IsUnfinished}

-- by the test
pub by_same : (c d : Cell) → (same c d ≡ true) ⊎ (same c d ≡ false)
by_same c d = cases (same c d) refl
  where
    cases : (b : Bool) → same c d ≡ b → (same c d ≡ true) ⊎ (same c d ≡ false)
    cases true e = inl e
    cases false e = inr e

pub found_first : (r : Row) (rs : List Row) (d : Cell) → r.cell ≡ d → status_of (r ∷ rs) d ≡ Some r.status
found_first r rs d e = if_true (same r.cell d) (Some r.status) (status_of rs d)
    (subst (λ (x : Cell). same r.cell x ≡ true) e (cell_same r.cell))

pub found_later : (r : Row) (rs : List Row) (d : Cell) → same r.cell d ≡ false → status_of (r ∷ rs) d ≡ status_of rs d
found_later r rs d e = if_false (same r.cell d) (Some r.status) (status_of rs d) e

pub status_found : (rows : List Row) (i : ℕ) → AreDistinct rows → i < length rows
    → status_of rows (row_at rows i).cell ≡ Some (row_at rows i).status
status_found [] i a h = absurd (omega arith)
status_found (r ∷ rs) zero a h = found_first r rs r.cell refl
status_found (r ∷ rs) (suc i) a h =
    let rest : status_of rs (row_at rs i).cell ≡ Some (row_at rs i).status = status_found rs i a.1 (omega arith) in
    elim (by_same r.cell (row_at rs i).cell) [
      | inl e ↦ (let at : r.cell ≡ (row_at rs i).cell = cell_is r.cell (row_at rs i).cell e in
          let none : status_of rs (row_at rs i).cell ≡ None = subst (λ (x : Cell). status_of rs x ≡ None) at a.0 in cc)
      | inr e ↦ found_later r rs (row_at rs i).cell e ∙ rest
    ]

pub status_set_same : (rows : List Row) (i : ℕ) (s : Status) → AreDistinct rows → i < length rows
    → status_of (with_status rows i s) (row_at rows i).cell ≡ Some s
status_set_same [] i s a h = absurd (omega arith)
status_set_same (r ∷ rs) zero s a h = found_first (record { cell = r.cell; status = s }) rs r.cell refl
status_set_same (r ∷ rs) (suc i) s a h =
    elim (by_same r.cell (row_at rs i).cell) [
      | inl e ↦ (let at : r.cell ≡ (row_at rs i).cell = cell_is r.cell (row_at rs i).cell e in
          let none : status_of rs (row_at rs i).cell ≡ None = subst (λ (x : Cell). status_of rs x ≡ None) at a.0 in
          let some : status_of rs (row_at rs i).cell ≡ Some (row_at rs i).status = status_found rs i a.1
          (omega arith) in cc)
      | inr e ↦ found_later r (with_status rs i s) (row_at rs i).cell e ∙ status_set_same rs i s a.1 (omega arith)
    ]

pub status_set_other : (rows : List Row) (i : ℕ) (s : Status) (d : Cell) → same (row_at rows i).cell d ≡ false
    → i < length rows → status_of (with_status rows i s) d ≡ status_of rows d
status_set_other [] i s d e h = absurd (omega arith)
status_set_other (r ∷ rs) zero s d e h =
    found_later (record { cell = r.cell; status = s }) rs d e ∙ sym (found_later r rs d e)
status_set_other (r ∷ rs) (suc i) s d e h =
    elim (by_same r.cell d) [
      | inl f ↦ (let at : r.cell ≡ d = cell_is r.cell d f in found_first r (with_status rs i s) d at
          ∙ sym (found_first r rs d at))
      | inr f ↦ found_later r (with_status rs i s) d f ∙ status_set_other rs i s d e (omega arith)
          ∙ sym (found_later r rs d f)
    ]

none_set : (rows : List Row) (i : ℕ) (s : Status) (d : Cell) → status_of rows d ≡ None
    → status_of (with_status rows i s) d ≡ None
none_set [] i s d e = refl
none_set (r ∷ rs) zero s d e =
    elim (by_same r.cell d) [
      | inl f ↦ (let x : status_of (r ∷ rs) d ≡ Some r.status = found_first r rs d (cell_is r.cell d f) in cc)
      | inr f ↦ found_later (record { cell = r.cell; status = s }) rs d f ∙ sym (found_later r rs d f) ∙ e
    ]
none_set (r ∷ rs) (suc i) s d e =
    elim (by_same r.cell d) [
      | inl f ↦ (let x : status_of (r ∷ rs) d ≡ Some r.status = found_first r rs d (cell_is r.cell d f) in cc)
      | inr f ↦ found_later r (with_status rs i s) d f ∙ none_set rs i s d (sym (found_later r rs d f) ∙ e)
    ]

pub distinct_set : (rows : List Row) (i : ℕ) (s : Status) → AreDistinct rows → AreDistinct (with_status rows i s)
distinct_set [] i s a = tt
distinct_set (r ∷ rs) zero s a = a
distinct_set (r ∷ rs) (suc i) s a = (none_set rs i s r.cell a.0, distinct_set rs i s a.1)

-- the status of a cell, with other rows after these
pub joined_some : (xs ys : List Row) (d : Cell) (u : Status) → status_of xs d ≡ Some u
    → status_of (xs ++ ys) d ≡ Some u
joined_some [] ys d u e = cc
joined_some (x ∷ xs) ys d u e =
    elim (by_same x.cell d) [
      | inl f ↦ found_first x (xs ++ ys) d (cell_is x.cell d f) ∙ sym (found_first x xs d (cell_is x.cell d f)) ∙ e
      | inr f ↦ found_later x (xs ++ ys) d f ∙ joined_some xs ys d u (sym (found_later x xs d f) ∙ e)
    ]

pub joined_none : (xs ys : List Row) (d : Cell) → status_of xs d ≡ None → status_of (xs ++ ys) d ≡ status_of ys d
joined_none [] ys d e = refl
joined_none (x ∷ xs) ys d e =
    elim (by_same x.cell d) [
      | inl f ↦ (let some : status_of (x ∷ xs) d ≡ Some x.status = found_first x xs d (cell_is x.cell d f) in cc)
      | inr f ↦ found_later x (xs ++ ys) d f ∙ joined_none xs ys d (sym (found_later x xs d f) ∙ e)
    ]

pub distinct_joined : (xs ys : List Row) → AreDistinct xs → AreDistinct ys
    → ((d : Cell) (u : Status) → status_of ys d ≡ Some u → status_of xs d ≡ None) → AreDistinct (xs ++ ys)
distinct_joined [] ys a b h = b
distinct_joined (x ∷ xs) ys a b h = (
  joined_none xs ys x.cell a.0 ∙ none_of (status_of ys x.cell) refl,
  distinct_joined xs ys a.1 b
      (λ d u e. rest d (h d u e)),
)
  where
    none_of : (o : Option Status) → status_of ys x.cell ≡ o → status_of ys x.cell ≡ None
    none_of None e = e
    none_of (Some u) e =
        let none : status_of (x ∷ xs) x.cell ≡ None = h x.cell u e in
        let some : status_of (x ∷ xs) x.cell ≡ Some x.status = found_first x xs x.cell refl in cc

    rest : (d : Cell) → status_of (x ∷ xs) d ≡ None → status_of xs d ≡ None
    rest d e =
        elim (by_same x.cell d) [
          | inl f ↦ (let some : status_of (x ∷ xs) d ≡ Some x.status = found_first x xs d (cell_is x.cell d f) in cc)
          | inr f ↦ sym (found_later x xs d f) ∙ e
        ]

-- new rows
pub fresh_has : (cs : List Cell) (d : Cell) → Has d cs → status_of (map fresh cs) d ≡ Some New
fresh_has [] d h = absurd h
fresh_has (c ∷ cs) d (inl e) = found_first (fresh c) (map fresh cs) d e
fresh_has (c ∷ cs) d (inr h) =
    elim (by_same c d) [
      | inl f ↦ found_first (fresh c) (map fresh cs) d (cell_is c d f)
      | inr f ↦ found_later (fresh c) (map fresh cs) d f ∙ fresh_has cs d h
    ]

pub fresh_only : (cs : List Cell) (d : Cell) (u : Status) → status_of (map fresh cs) d ≡ Some u → Has d cs × (u ≡ New)
fresh_only [] d u e = cc
fresh_only (c ∷ cs) d u e =
    elim (by_same c d) [
      | inl f ↦ (let some : status_of (map fresh (c ∷ cs)) d
          ≡ Some New = found_first (fresh c) (map fresh cs) d (cell_is c d f) in
          let is : u ≡ New = cc in (inl (cell_is c d f), is))
      | inr f ↦ (let r = fresh_only cs d u (sym (found_later (fresh c) (map fresh cs) d f) ∙ e) in (inr r.0, r.1))
    ]

fresh_none : (cs : List Cell) (d : Cell) → (Has d cs → ⊥) → status_of (map fresh cs) d ≡ None
fresh_none [] d h = refl
fresh_none (c ∷ cs) d h =
    elim (by_same c d) [
      | inl f ↦ absurd (h (inl (cell_is c d f)))
      | inr f ↦ found_later (fresh c) (map fresh cs) d f ∙ fresh_none cs d (λ x. h (inr x))
    ]

pub distinct_fresh : (cs : List Cell) → AreApart cs → AreDistinct (map fresh cs)
distinct_fresh [] a = tt
distinct_fresh (c ∷ cs) a = (fresh_none cs c a.0, distinct_fresh cs a.1)

-- how much has been done
pub weights_set : (rows : List Row) (i : ℕ) (s : Status) → i < length rows
    → weights (with_status rows i s) + weight (row_at rows i).status ≡ weights rows + weight s
weights_set [] i s h = absurd (omega arith)
weights_set (r ∷ rs) zero s h = omega arith
weights_set (r ∷ rs) (suc i) s h =
    let rest : weights (with_status rs i s) + weight (row_at rs i).status
    ≡ weights rs + weight s = weights_set rs i s (omega arith) in omega arith

pub weights_joined : (xs : List Row) (cs : List Cell) → weights (xs ++ map fresh cs) ≡ weights xs
weights_joined [] [] = refl
weights_joined [] (c ∷ cs) = let rest : weights (map fresh cs) ≡ 0 = weights_joined [] cs in omega arith
weights_joined (x ∷ xs) cs = let rest : weights (xs ++ map fresh cs) ≡ weights xs = weights_joined xs cs in omega arith

weight_most : (s : Status) → weight s ≤ 2
weight_most New = omega arith
weight_most Open = omega arith
weight_most (Value v) = omega arith
weight_most Empty = omega arith
weight_most (Late k) = omega arith

weight_less : (s : Status) → IsUnfinished s → weight s ≤ 1
weight_less New h = omega arith
weight_less Open h = omega arith
weight_less (Value v) h = absurd h
weight_less Empty h = absurd h
weight_less (Late k) h = absurd h

pub weights_most : (rows : List Row) → weights rows ≤ 2 * length rows
weights_most [] = omega arith
weights_most (r ∷ rs) =
    let rest : weights rs ≤ 2 * length rs = weights_most rs in
    let one : weight r.status ≤ 2 = weight_most r.status in omega arith

pub weights_less : (rows : List Row) (i : ℕ) → i < length rows → IsUnfinished (row_at rows i).status
    → weights rows < 2 * length rows
weights_less [] i h u = absurd (omega arith)
weights_less (r ∷ rs) zero h u =
    let rest : weights rs ≤ 2 * length rs = weights_most rs in
    let one : weight r.status ≤ 1 = weight_less r.status u in omega arith
weights_less (r ∷ rs) (suc i) h u =
    let rest : weights rs < 2 * length rs = weights_less rs i (omega arith) u in
    let one : weight r.status ≤ 2 = weight_most r.status in omega arith
