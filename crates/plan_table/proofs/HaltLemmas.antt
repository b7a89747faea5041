-- Where instances are too many by the numbers of a table, they are by its rows.
use Rattle.std.proofs.Common.{◌≡◌, inl, inr, ℕ, zero, suc, ◌<◌, Bool, true, false, List, [], ◌∷◌}
use Rattle.std.proofs.Common.{length, Some, None, Result, Ok, Err, refl, sym, ap, subst, ◌∙◌, arith}
use Rattle.std.specs.Prelude.{nat_eq, IfErr, if◌then◌else◌}
use Rattle.std.proofs.lemmas.Bool.{cases_eq}
use Rattle.foundation.proofs.Comparisons.{eq_itself}
use Rattle.arm_value.specs.Json.{Json}
use Rattle.arm_value.specs.View.{json}
use Rattle.arm_value.specs.declared.value.Value.{Value}
use Rattle.plan_filling.specs.Cells.{Cell, Position, count, copies, deployments}
use Rattle.plan_filling.specs.Same.{same_position}
use Rattle.plan_filling.specs.Meaning.{Deployment}
use Rattle.plan_filling.specs.Rows as rows
use Rattle.plan_filling.specs.Rows.{Row, row_at, status_of, AreDistinct}
use Rattle.plan_filling.proofs.RowLemmas.{status_found}
use Rattle.plan_filling.proofs.SameLemmas.{cell_is, cell_same}
use Rattle.plan_filling.specs.Limits as limits
use Rattle.plan_filling.specs.Limits.{Scopes, everywhere, instances_in, Tally, tally_of, IsBeyond, IsHalt}
use Rattle.plan_filling.specs.declared.sheet.Halt.{Halt}
use Rattle.plan_filling.specs.declared.sheet.Halt.TheVariants as halt
use Rattle.template_parts.specs.declared.limit.Which.TheVariants as which
use Rattle.plan_table.specs.declared.line.Line.{Line}
use Rattle.plan_table.specs.declared.line.Spot.{Spot}
use Rattle.plan_table.specs.declared.line.Spot.TheVariants.{Parameter, Variable, Offered, Output, Count, Included}
use Rattle.plan_table.specs.declared.line.Spot.TheVariants.{Name, Deployments}
use Rattle.plan_table.specs.declared.line.State.{State}
use Rattle.plan_table.specs.declared.line.State.TheVariants as how
use Rattle.plan_table.specs.Opened.{Opened, opened_at}
use Rattle.plan_table.specs.Lines.{frame_of, cell_of, status_in, rows_of}
use Rattle.plan_table.specs.Lines.{line_at}
use Rattle.plan_table.specs.Keys.{Index}
use Rattle.plan_table.specs.Laid.{Laid}
use Rattle.plan_table.specs.Counted.{listed_by, listed_in, any_scope, Numbers}
use Rattle.plan_table.specs.Counted.{number_at, AreNumbers, Exceeds}
use Rattle.plan_table.proofs.LaidLemmas.{row_here, length_rows}
use Rattle.plan_table.proofs.CountLemmas.{other_number}

-- ---- by positions

-- what the rows list in scopes that pass a test is what the lines list in those whose numbers do
pub rows_list : (os : List Opened) (ls : List Line) (F : Scopes) (f : ℕ → Bool)
    → ((j : ℕ) → j < length ls
    → F (opened_at os (frame_of (line_at ls j).spot)).position ≡ f (frame_of (line_at ls j).spot))
    → instances_in F (rows_of os ls) ≡ listed_in f ls
rows_list os [] F f h = refl
rows_list os (l ∷ ls) F f h =
    let one = by_line l.state l.spot (h 0 (omega arith)) in
    let rest = rows_list os ls F f (λ j k. h (suc j) (omega (arith, k))) in omega (arith, one, rest)
  where
    by_line : (x : State) (s : Spot) → F (opened_at os (frame_of s)).position ≡ f (frame_of s)
        → limits.listed_by F (status_in x) (cell_of os s) ≡ listed_by f x s
    by_line how.New s e = refl
    by_line how.Open s e = refl
    by_line how.Empty s e = refl
    by_line (how.Late y) s e = refl
    by_line (how.Value v) (Count g r) e = ap (λ (b : Bool). if b then copies (Some (json v)) else 0) e
    by_line (how.Value v) (Parameter g r) e = refl
    by_line (how.Value v) (Variable g r) e = refl
    by_line (how.Value v) (Offered g r) e = refl
    by_line (how.Value v) (Output g r) e = refl
    by_line (how.Value v) (Included g r i) e = refl
    by_line (how.Value v) (Name g r i) e = refl
    by_line (how.Value v) (Deployments g) e = refl

once : (rs : List Row) (i j : ℕ) → AreDistinct rs → i < length rs → j < length rs
    → (row_at rs i).cell ≡ (row_at rs j).cell → i ≡ j
once [] i j a h k e = absurd (omega (arith, h))
once (r ∷ rs) zero zero a h k e = refl
once (r ∷ rs) zero (suc j) a h k e =
    let none : status_of rs (row_at rs j).cell ≡ None = subst (λ (c : Cell). status_of rs c ≡ None) e a.0 in
    let some = status_found rs j a.1 (omega (arith, k)) in cc
once (r ∷ rs) (suc i) zero a h k e =
    let none : status_of rs (row_at rs i).cell ≡ None = subst (λ (c : Cell). status_of rs c ≡ None) (sym e) a.0 in
    let some = status_found rs i a.1 (omega (arith, h)) in cc
once (r ∷ rs) (suc i) (suc j) a h k e = ap suc (once rs i j a.1 (omega (arith, h)) (omega (arith, k)) e)

abbrev pub position_of : Cell → Position
position_of (deployments p) = p
position_of _ = []

module _ (d : Deployment) (os : List Opened) (ix : Index) (ls : List Line) (laid : Laid d os ix ls)
    (distinct : AreDistinct (rows_of os ls)) where
  -- scopes at one position have one number
  pub one_scope : (f g : ℕ) → f < length os → g < length os
      → (opened_at os f).position ≡ (opened_at os g).position → f ≡ g
  one_scope f g h k e =
      let x = laid.cells f h (Deployments f) refl tt tt in
      let y = laid.cells g k (Deployments g) refl tt tt in
      let n = length_rows os ls in
      let i = x.listed in
      let j = y.listed in
      let cx : (row_at (rows_of os ls) x.line).cell ≡ deployments (opened_at os f).position =
      ap (λ (r : Row). r.cell) (row_here os ls x.line i) ∙ ap (cell_of os) x.is in
      let cy : (row_at (rows_of os ls) y.line).cell ≡ deployments (opened_at os g).position =
      ap (λ (r : Row). r.cell) (row_here os ls y.line j) ∙ ap (cell_of os) y.is in
      let l : x.line ≡ y.line = once (rows_of os ls) x.line y.line distinct (omega (arith, n, i)) (omega (arith, n, j))
      (cx ∙ ap deployments e ∙ sym cy) in
      ap frame_of (sym x.is ∙ ap (λ m. (line_at ls m).spot) l ∙ y.is)

  differ : (f g : ℕ) → f < length os → g < length os → (b : Bool)
      → same_position (opened_at os f).position (opened_at os g).position ≡ b → (f ≡ g → ⊥)
      → same_position (opened_at os f).position (opened_at os g).position ≡ false
  differ f g h k false e n = e
  differ f g h k true e n =
      absurd (n (one_scope f g h k (ap position_of
      (cell_is (deployments (opened_at os f).position) (deployments (opened_at os g).position) e))))

  by_number : (f g : ℕ) → f < length os → g < length os
      → same_position (opened_at os f).position (opened_at os g).position ≡ nat_eq f g
  by_number f g h k =
      elim (cases_eq f g) [
        | inl e ↦ ap (λ i. same_position (opened_at os f).position (opened_at os i).position) (sym e)
            ∙ cell_same (deployments (opened_at os f).position) ∙ sym (eq_itself f) ∙ ap (nat_eq f) e
        | inr n ↦ differ f g h k (same_position (opened_at os f).position (opened_at os g).position) refl n
            ∙ sym (other_number f g n)
      ]

  scope_lists : (f : ℕ) → f < length os
      → instances_in (same_position (opened_at os f).position) (rows_of os ls) ≡ listed_in (nat_eq f) ls
  scope_lists f h =
      rows_list os ls (same_position (opened_at os f).position) (nat_eq f)
      (λ j k. by_number f (frame_of (line_at ls j).spot) h (laid.placed j k).there)

  all_list : instances_in everywhere (rows_of os ls) ≡ listed_in any_scope ls
  all_list = rows_list os ls everywhere any_scope (λ j k. refl)

  module _ (at f r c : ℕ) (v : Json) (n : Numbers) (h : at < length ls) (is : (line_at ls at).spot ≡ Count f r)
      (number : c ≡ copies (Some v)) (a : AreNumbers os ls n) where
    pub count_there : f < length os
    count_there = subst (λ (s : Spot). frame_of s < length os) is (laid.placed at h).there

    tally_is : tally_of (rows_of os ls) (opened_at os f).position (copies (Some v))
        ≡ record { of_scope = number_at n f; of_all = n.of_all; more = c }
    tally_is =
        λ i. record {
          of_scope = (scope_lists f count_there ∙ sym (a.each f count_there)) i;
          of_all = (all_list ∙ sym a.all) i;
          more = (sym number) i;
        }

    cell_is_count : (row_at (rows_of os ls) at).cell ≡ count (opened_at os f).position r
    cell_is_count = ap (λ (x : Row). x.cell) (row_here os ls at h) ∙ ap (cell_of os) is

    pub exceeds_halts : (x : Halt) → Exceeds (record { of_scope = number_at n f; of_all = n.of_all; more = c }) x
        → IsHalt (rows_of os ls) (row_at (rows_of os ls) at).cell v x
    exceeds_halts halt.OutOfMemory e = tt
    exceeds_halts (halt.Limit w m) e =
        subst (λ (y : Cell). IsHalt (rows_of os ls) y v (halt.Limit w m)) (sym cell_is_count)
        (subst (λ (t : Tally). IsBeyond t w m) (sym tally_is) e)

-- out of memory
pub memory_halts : {X : Type 0} (rs : List Row) (c : Cell) (v : Json) (r : Result X Halt)
    → IfErr r (λ h. h ≡ halt.OutOfMemory) → IfErr r (IsHalt rs c v)
memory_halts rs c v (Ok x) e = tt
memory_halts rs c v (Err x) e = subst (λ (h : Halt). IsHalt rs c v h) (sym e) tt

-- why a value is not given
pub exceeded_halts : {X : Type 0} (rs : List Row) (c : Cell) (v : Json) (r : Result X Halt) (x : Halt)
    → IfErr r (λ h. h ≡ x) → IsHalt rs c v x → IfErr r (IsHalt rs c v)
exceeded_halts rs c v (Ok y) x e h = tt
exceeded_halts rs c v (Err y) x e h = subst (λ (z : Halt). IsHalt rs c v z) (sym e) h

pub count_halts : (os : List Opened) (ls : List Line) (at f r n : ℕ) (v : Json) → at < length ls
    → (line_at ls at).spot ≡ Count f r → 800 < n → n ≡ copies (Some v)
    → IsHalt (rows_of os ls) (row_at (rows_of os ls) at).cell v (halt.Limit which.Count n)
count_halts os ls at f r n v h is few e =
    subst (λ (c : Cell). IsHalt (rows_of os ls) c v (halt.Limit which.Count n))
    (sym (ap (λ (x : Row). x.cell) (row_here os ls at h) ∙ ap (cell_of os) is)) (few, e)
