-- What is known at the start of a deployment is known at each point of it.
use Rattle.std.proofs.Common.{◌≡◌, ℕ, Bool, true, ◌∷◌, [], Option, Some, None, refl, ap, ◌∙◌}
use Rattle.std.specs.Prelude.{◌||◌}
use Rattle.arm_value.specs.Json.{Json}
use Rattle.deploy_cells.specs.Cells.{Position, Cell, parameter, variable, offered, output, count, included, name}
use Rattle.deploy_cells.specs.Cells.{deployments, state}
use Rattle.plan_cells.specs.Known.{outright, by_others, hidden, entry_of, IsKnown, is_outright, is_told}
use Rattle.plan_cells.specs.Meaning.{meaning}
use Rattle.plan_cells.specs.Start as start
use Rattle.plan_cells.specs.Start.{is_there, if_seen, output_access, at_point}
use Rattle.plan_cells.proofs.KnownLemmas.{has_known}
use Rattle.deploy_histories.specs.Planned.{Planned, IsPlanned, basis}
use Rattle.deploy_histories.specs.Events.{Status}
use Rattle.deploy_histories.specs.Points.{point}

entry_there : (o : Option Json) → is_there (entry_of o) ≡ true
entry_there (Some v) = refl
entry_there None = refl

hidden_not : hidden ≡ by_others → ⊥
hidden_not e = cc

nothing : (c : Cell) (o : Option Json) → start.start c ≡ outright o → ⊥
nothing (parameter p x) o e = cc
nothing (variable p x) o e = cc
nothing (offered p x) o e = cc
nothing (output p x) o e = cc
nothing (count p r) o e = cc
nothing (included p s) o e = cc
nothing (name p s) o e = cc
nothing (deployments p) o e = cc
nothing (state k) o e = cc

module _ (x : Planned) (planned : IsPlanned x) (f : ℕ → Status) where
  output_seen : (q : Position) (c : Cell) (o : Option Json) → x.known c ≡ entry_of o
      → output_access (basis x) (point x f) q c ≡ by_others
  output_seen [] c o e = refl
  output_seen (s ∷ q) c o e =
      ap (λ (b : Bool). if_seen (b || (point x f).is_left (s ∷ q))) (ap is_there e ∙ entry_there o)

  -- what was told at the start can be told at each point
  pub seen_now : (c : Cell) (o : Option Json) → start.start c ≡ by_others → x.known c ≡ entry_of o
      → at_point (basis x) (point x f) c ≡ by_others
  seen_now (parameter q y) o b e = refl
  seen_now (variable q y) o b e = refl
  seen_now (offered q y) o b e = output_seen q (offered q y) o e
  seen_now (output q y) o b e = output_seen q (output q y) o e
  seen_now (count q r) o b e = refl
  seen_now (included q s) o b e = refl
  seen_now (name q s) o b e = refl
  seen_now (deployments q) o b e = refl
  seen_now (state k) o b e = absurd (hidden_not b)

  pub from_start : (c : Cell) (o : Option Json) → IsKnown (meaning x.deployment) start.start c o
      → IsKnown (meaning x.deployment) (at_point (basis x) (point x f)) c o
  from_start c o (is_outright _ _ e) = absurd (nothing c o e)
  from_start c o (is_told _ _ t b h e) =
      is_told c o t
      (seen_now c o b
      (has_known (meaning x.deployment) start.start x.known planned.is_start c o (is_told c o t b h e)))
      (λ d u g. from_start d u (h d u g)) e
