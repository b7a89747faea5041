-- Positions and cells are one to one.
use Rattle.std.proofs.Common.{◌≡◌, ℕ, [], ◌∷◌, Option, Some, refl, sym, ap, ◌∙◌, subst}
use Rattle.std.specs.Prelude.{option_map}
use Rattle.foundation.proofs.Options.{same_some}
use Rattle.deploy_cells.specs.Cells.{step, Position, Cell, parameter, variable, offered, output, count, included}
use Rattle.deploy_cells.specs.Cells.{name, deployments, state}
use Rattle.cell_renaming.specs.Renaming.{Renaming, IsOneToOne, with_both, renamed_cell, to_position, from_position}
use Rattle.cell_renaming.specs.Renaming.{resource_by, resource_at, to_cell, from_cell}
use Rattle.cell_renaming.proofs.OptionLemmas.{of_both, to_both, of_map}

module _ (h k : Position → Option Position) (n m : Position → ℕ → Option ℕ)
    (hk : (p q : Position) → h p ≡ Some q → k q ≡ Some p)
    (nm : (p q : Position) (r s : ℕ) → h p ≡ Some q → n p r ≡ Some s → m q s ≡ Some r) where
  back_at : (c : Position → Cell) (b : Cell) (p : Position)
      → ((q : Position) → renamed_cell k m (c q) ≡ option_map c (k q)) → option_map c (h p) ≡ Some b
      → renamed_cell k m b ≡ Some (c p)
  back_at c b p same e =
      let g = of_map (h p) c b e in
      subst (λ b. renamed_cell k m b ≡ Some (c p)) g.made (same g.left ∙ ap (option_map c) (hk p g.left g.first))

  back_of : (c : Position → ℕ → Cell) (b : Cell) (p : Position) (r : ℕ)
      → ((q : Position) (s : ℕ) → renamed_cell k m (c q s) ≡ with_both (k q) (m q s) c)
      → with_both (h p) (n p r) c ≡ Some b → renamed_cell k m b ≡ Some (c p r)
  back_of c b p r same e =
      let g = of_both (h p) (n p r) c b e in
      subst (λ b. renamed_cell k m b ≡ Some (c p r)) g.made
      (same g.left g.right
      ∙ to_both (k g.left) (m g.left g.right) c p r (hk p g.left g.first)
      (nm p g.left r g.right g.first g.second))

  pub back : (c b : Cell) → renamed_cell h n c ≡ Some b → renamed_cell k m b ≡ Some c
  back (parameter p x) b e = back_at (λ q. parameter q x) b p (λ q. refl) e
  back (variable p x) b e = back_at (λ q. variable q x) b p (λ q. refl) e
  back (offered p x) b e = back_at (λ q. offered q x) b p (λ q. refl) e
  back (output p x) b e = back_at (λ q. output q x) b p (λ q. refl) e
  back (count p r) b e = back_of (λ q s. count q s) b p r (λ q s. refl) e
  back (included p r) b e = back_of (λ q s. included q (step s r.copy)) b p r.resource (λ q s. refl) e
  back (name p r) b e = back_of (λ q s. name q (step s r.copy)) b p r.resource (λ q s. refl) e
  back (deployments p) b e = back_at (λ q. deployments q) b p (λ q. refl) e
  back (state i) b e = subst (λ b. renamed_cell k m b ≡ Some (state i)) (same_some e) refl

module _ (r : Renaming) (i : IsOneToOne r) where
  -- the resource of a new number, where the position is known
  pub resource_known : (o : Option Position) (p : Position) (m : ℕ) → o ≡ Some p
      → resource_by r o m ≡ r.resource p m
  resource_known o p m h = ap (λ o. resource_by r o m) h

  pub to-from_position : (p q : Position) → to_position r p ≡ Some q → from_position r q ≡ Some p
  to-from_position [] q h = subst (λ q. from_position r q ≡ Some []) (same_some h) refl
  to-from_position (s ∷ p) q h =
      let e = of_both (to_position r p) (r.number p s.resource) (λ u m. step m s.copy ∷ u) q h in
      let j = to-from_position p e.left e.first in
      subst (λ q. from_position r q ≡ Some (s ∷ p)) e.made
      (to_both (from_position r e.left) (resource_at r e.left e.right) (λ u n. step n s.copy ∷ u) p s.resource j
      (resource_known (from_position r e.left) p e.right j ∙ i.there p s.resource e.right e.second))

  pub from-to_position : (q p : Position) → from_position r q ≡ Some p → to_position r p ≡ Some q
  from-to_position [] p h = subst (λ p. to_position r p ≡ Some []) (same_some h) refl
  from-to_position (t ∷ q) p h =
      let e = of_both (from_position r q) (resource_at r q t.resource) (λ u n. step n t.copy ∷ u) p h in
      let j = from-to_position q e.left e.first in
      subst (λ p. to_position r p ≡ Some (t ∷ q)) e.made
      (to_both (to_position r e.left) (r.number e.left e.right) (λ u m. step m t.copy ∷ u) q t.resource j
      (i.back e.left t.resource e.right
      (sym (resource_known (from_position r q) e.left t.resource e.first) ∙ e.second)))

  pub to-from_cell : (c b : Cell) → to_cell r c ≡ Some b → from_cell r b ≡ Some c
  to-from_cell c b e =
      back (to_position r) (from_position r) r.number (resource_at r) to-from_position
      (λ p q n m h g. resource_known (from_position r q) p m (to-from_position p q h) ∙ i.there p n m g) c b e

  pub from-to_cell : (b c : Cell) → from_cell r b ≡ Some c → to_cell r c ≡ Some b
  from-to_cell b c e =
      back (from_position r) (to_position r) (resource_at r) r.number from-to_position
      (λ q p m n h g. i.back p m n (sym (resource_known (from_position r q) p m h) ∙ g)) b c e
