-- The parent of a new cell is the new cell of the parent.
use Rattle.std.proofs.Common.{◌≡◌, ℕ, [], ◌∷◌, Option, Some, None, refl, sym, ap, ◌∙◌, subst}
use Rattle.std.specs.Prelude.{option_map, option_and_then, if◌then◌else◌}
use Rattle.foundation.proofs.Options.{same_some}
use Rattle.arm_value.specs.Json.{Json}
use Rattle.reading.specs.World.{value_in}
use Rattle.deploy_cells.specs.Cells.{step, Position, Cell, parameter, variable, offered, output, count, included}
use Rattle.deploy_cells.specs.Cells.{name, deployments, state, opener, parent, admits, admitted, is_admitted, World}
use Rattle.deploy_cells.specs.Guarded.{Reads, guarded}
use Rattle.deploy_cells.proofs.CellLemmas.{guarded_value}
use Rattle.cell_renaming.specs.Renaming.{Renaming, IsOneToOne, with_both, to_position}
use Rattle.cell_renaming.specs.Renaming.{to_cell, renamed}
use Rattle.cell_renaming.proofs.OptionLemmas.{of_both, to_both, of_map}
use Rattle.cell_renaming.proofs.CellLemmas.{to-from_cell}

-- a cell that is there
abbrev there : Cell → Option Cell
there e = Some e

module _ (r : Renaming) where
  -- what opens the scope at a new position
  opener_renamed : (p q : Position) → to_position r p ≡ Some q
      → option_map (to_cell r) (opener p) ≡ option_map there (opener q)
  opener_renamed [] q h =
      subst (λ q. option_map (to_cell r) (opener []) ≡ option_map there (opener q)) (same_some h) refl
  opener_renamed (s ∷ p) q h =
      let e = of_both (to_position r p) (r.number p s.resource) (λ u m. step m s.copy ∷ u) q h in
      subst (λ q. option_map (to_cell r) (opener (s ∷ p)) ≡ option_map there (opener q)) e.made
      (ap (λ o. Some o)
      (to_both (to_position r p) (r.number p s.resource) (λ u m. included u (step m s.copy)) e.left e.right e.first
      e.second))

  -- of a cell of a scope
  at_scope : (c : Position → Cell) (d : Cell) (p : Position) → ((q : Position) → parent (c q) ≡ opener q)
      → option_map c (to_position r p) ≡ Some d
      → option_map (to_cell r) (parent (c p)) ≡ option_map there (parent d)
  at_scope c d p is e =
      let g = of_map (to_position r p) c d e in
      subst (λ d. option_map (to_cell r) (parent (c p)) ≡ option_map there (parent d)) g.made
      (ap (option_map (to_cell r)) (is p) ∙ opener_renamed p g.left g.first ∙ sym (ap (option_map there) (is g.left)))

  -- of a cell of a resource
  of_resource : (c : Position → ℕ → Cell) (d : Cell) (p : Position) (n : ℕ)
      → with_both (to_position r p) (r.number p n) c ≡ Some d
      → ((q : Position) (m : ℕ) → to_position r p ≡ Some q → r.number p n ≡ Some m
      → option_map (to_cell r) (parent (c p n)) ≡ option_map there (parent (c q m)))
      → option_map (to_cell r) (parent (c p n)) ≡ option_map there (parent d)
  of_resource c d p n e is =
      let g = of_both (to_position r p) (r.number p n) c d e in
      subst (λ d. option_map (to_cell r) (parent (c p n)) ≡ option_map there (parent d)) g.made
      (is g.left g.right g.first g.second)

  counted : (p q : Position) (n m : ℕ) → to_position r p ≡ Some q → r.number p n ≡ Some m
      → to_cell r (count p n) ≡ Some (count q m)
  counted p q n m h g = to_both (to_position r p) (r.number p n) (λ u k. count u k) q m h g

  pub parents : (c d : Cell) → to_cell r c ≡ Some d
      → option_map (to_cell r) (parent c) ≡ option_map there (parent d)
  parents (parameter p x) d e = at_scope (λ q. parameter q x) d p (λ q. refl) e
  parents (variable p x) d e = at_scope (λ q. variable q x) d p (λ q. refl) e
  parents (offered p x) d e = at_scope (λ q. offered q x) d p (λ q. refl) e
  parents (output p x) d e =
      let g = of_map (to_position r p) (λ q. output q x) d e in
      subst (λ d. option_map (to_cell r) (parent (output p x)) ≡ option_map there (parent d)) g.made
      (ap (λ o. Some (option_map (λ q. offered q x) o)) g.first)
  parents (count p n) d e = of_resource (λ q m. count q m) d p n e (λ q m h g. opener_renamed p q h)
  parents (included p s) d e =
      of_resource (λ q m. included q (step m s.copy)) d p s.resource e
      (λ q m h g. ap (λ o. Some o) (counted p q s.resource m h g))
  parents (name p s) d e =
      of_resource (λ q m. name q (step m s.copy)) d p s.resource e
      (λ q m h g. ap (λ o. Some o) (counted p q s.resource m h g))
  parents (deployments p) d e = at_scope (λ q. deployments q) d p (λ q. refl) e
  parents (state k) d e =
      subst (λ d. option_map (to_cell r) (parent (state k)) ≡ option_map there (parent d)) (same_some e) refl

  -- a new cell is admitted by the same values
  admits_at : (c : Position → Cell) (d : Cell) (p : Position) (v : Option Json)
      → ((q : Position) → admits (c q) v ≡ admits (c p) v) → option_map c (to_position r p) ≡ Some d
      → admits d v ≡ admits (c p) v
  admits_at c d p v is e =
      let g = of_map (to_position r p) c d e in
      subst (λ d. admits d v ≡ admits (c p) v) g.made (is g.left)

  admits_of : (c : Position → ℕ → Cell) (d : Cell) (p : Position) (n : ℕ) (v : Option Json)
      → ((q : Position) (m : ℕ) → admits (c q m) v ≡ admits (c p n) v)
      → with_both (to_position r p) (r.number p n) c ≡ Some d → admits d v ≡ admits (c p n) v
  admits_of c d p n v is e =
      let g = of_both (to_position r p) (r.number p n) c d e in
      subst (λ d. admits d v ≡ admits (c p n) v) g.made (is g.left g.right)

  pub admits_same : (c d : Cell) (v : Option Json) → to_cell r c ≡ Some d → admits d v ≡ admits c v
  admits_same (parameter p x) d v e = admits_at (λ q. parameter q x) d p v (λ q. refl) e
  admits_same (variable p x) d v e = admits_at (λ q. variable q x) d p v (λ q. refl) e
  admits_same (offered p x) d v e = admits_at (λ q. offered q x) d p v (λ q. refl) e
  admits_same (output p x) d v e = admits_at (λ q. output q x) d p v (λ q. refl) e
  admits_same (count p n) d v e = admits_of (λ q m. count q m) d p n v (λ q m. refl) e
  admits_same (included p s) d v e =
      admits_of (λ q m. included q (step m s.copy)) d p s.resource v (λ q m. refl) e
  admits_same (name p s) d v e = admits_of (λ q m. name q (step m s.copy)) d p s.resource v (λ q m. refl) e
  admits_same (deployments p) d v e = admits_at (λ q. deployments q) d p v (λ q. refl) e
  admits_same (state k) d v e = subst (λ d. admits d v ≡ admits (state k) v) (same_some e) refl

  module _ (i : IsOneToOne r) (w : World) where
    -- a new cell has what the cell has
    pub renamed_is : (c d : Cell) → to_cell r c ≡ Some d → renamed r w d ≡ w c
    renamed_is c d e = ap (option_and_then w) (to-from_cell r i c d e)

    -- whether a cell is admitted by the value of a cell above it
    admitted_by : (c d : Cell) (o u : Option Cell) → to_cell r c ≡ Some d
        → option_map (to_cell r) o ≡ option_map there u → admitted (renamed r w) d u ≡ admitted w c o
    admitted_by c d None None e h = refl
    admitted_by c d None (Some x) e h = absurd cc
    admitted_by c d (Some y) None e h = absurd cc
    admitted_by c d (Some y) (Some x) e h =
        ap (admits d) (renamed_is y x (same_some h)) ∙ admits_same c d (w y) e

    pub admitted_same : (c d : Cell) → to_cell r c ≡ Some d → is_admitted (renamed r w) d ≡ is_admitted w c
    admitted_same c d e = admitted_by c d (parent c) (parent d) e (parents c d e)

    pub guarded_same : (c d : Cell) (a b : Reads (Option Json)) → to_cell r c ≡ Some d
        → value_in (renamed r w) b ≡ value_in w a
        → value_in (renamed r w) (guarded d b) ≡ value_in w (guarded c a)
    guarded_same c d a b e h =
        guarded_value (renamed r w) d b
        ∙ ap (λ v. if is_admitted (renamed r w) d then v else Some None) h
        ∙ ap (λ t. if t then value_in w a else Some None) (admitted_same c d e)
        ∙ sym (guarded_value w c a)
