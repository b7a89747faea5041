-- What is known at a point is known at each later one.
use Rattle.std.proofs.Common.{◌≡◌, Bool, true, false, [], ◌∷◌, Option, Some, None, refl, ap, subst}
use Rattle.std.specs.Prelude.{◌||◌, if◌then◌else◌}
use Rattle.std.specs.List.{list_any}
use Rattle.arm_value.specs.Json.{Json}
use Rattle.arm_ids.specs.declared.id.ResourceId.{ResourceId}
use Rattle.deploy_cells.specs.Cells.{Position, Cell, parameter, variable, offered, output, count, included, name}
use Rattle.deploy_cells.specs.Cells.{deployments, state}
use Rattle.deploy_cells.specs.Guarded.{Meaning}
use Rattle.deploy_cells.specs.Same.{same_id}
use Rattle.plan_cells.specs.Known.{Access, outright, by_others, hidden, Moment, Table, IsKnown, is_outright, is_told}
use Rattle.plan_cells.specs.Meaning.{meaning}
use Rattle.plan_cells.specs.Desired.{held_state}
use Rattle.plan_cells.specs.Start.{Point, Basis, where_stored, is_there, if_seen, output_access, at_point, IsLater}
use Rattle.history_laws.specs.Planned.{Planned, basis}
use Rattle.history_laws.specs.Events.{Progress}
use Rattle.history_laws.specs.Points.{point, IsKnownThen}
use Rattle.history_laws.specs.Past.{StaysDone}
use Rattle.history_laws.proofs.Steps.{points_later}

-- as much may be known, or more
abbrev Allows : Access → Access → Type 0
Allows (outright o) a = a ≡ outright o
Allows by_others a = a ≡ by_others
Allows hidden a = Unit {0}

known_more : (m : Meaning) (n l : Moment) → ((c : Cell) → Allows (n c) (l c)) → (c : Cell) (o : Option Json)
    → IsKnown m n c o → IsKnown m l c o
known_more m n l h c o (is_outright _ _ e) = is_outright c o (subst (λ (a : Access). Allows a (l c)) e (h c))
known_more m n l h c o (is_told _ _ p b g e) =
    is_told c o p (subst (λ (a : Access). Allows a (l c)) b (h c)) (λ d u f. known_more m n l h d u (g d u f)) e

module _ (c : Basis) (p q : Point) (later : IsLater p q) where
  stored_more : (o u : Option Json) → ((j : Json) → o ≡ Some j → u ≡ Some j) → Allows (where_stored o) (where_stored u)
  stored_more None u h = tt
  stored_more (Some j) u h = ap where_stored (h j refl)

  state_more : (k : ResourceId) (b : Bool)
      → Allows (if b then where_stored (p.stored k) else outright (held_state c.held k))
      (if b then where_stored (q.stored k) else outright (held_state c.held k))
  state_more k true = stored_more (p.stored k) (q.stored k) (later.stored k)
  state_more k false = refl

  seen_more : (a b e : Bool) → (b ≡ true → e ≡ true) → Allows (if_seen (a || b)) (if_seen (a || e))
  seen_more true b e h = refl
  seen_more false true e h = ap if_seen (h refl)
  seen_more false false e h = tt

  output_more : (r : Position) (x : Cell) → Allows (output_access c p r x) (output_access c q r x)
  output_more [] x = refl
  output_more (s ∷ r) x =
      seen_more (is_there (c.start x)) (p.is_left (s ∷ r)) (q.is_left (s ∷ r)) (later.left (s ∷ r))

  more_at : (x : Cell) → Allows (at_point c p x) (at_point c q x)
  more_at (parameter r x) = refl
  more_at (variable r x) = refl
  more_at (offered r x) = output_more r (offered r x)
  more_at (output r x) = output_more r (output r x)
  more_at (count r k) = refl
  more_at (included r s) = refl
  more_at (name r s) = refl
  more_at (deployments r) = refl
  more_at (state k) = state_more k (list_any (same_id k) c.keys)

pub known_later : (x : Planned) (p q : Progress) (t : Table) → StaysDone p.status q.status → IsKnownThen x p t
    → IsKnownThen x q t
known_later x p q t more i c o e =
    known_more (meaning x.deployment) (at_point (basis x) (point x p.status)) (at_point (basis x) (point x q.status))
    (more_at (basis x) (point x p.status) (point x q.status) (points_later p.status q.status more x)) c o (i c o e)
