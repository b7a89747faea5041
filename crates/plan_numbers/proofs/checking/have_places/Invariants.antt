use Rattle.std.proofs.Common.{ℕ, ◌<◌, List, Option}
use Rattle.tag_places.specs.Places.{Tag, ArePlaces}
use Rattle.plan_numbers.specs.Numbers.{HasPlace}
use Rattle.plan_numbers.proofs.checking.have_places.Given as goal

abbrev pub invariant-scopes : goal.invariant-scopes
invariant-scopes l =
    (os : List (Option Tag)) → ArePlaces l.places os → (f : ℕ) → f < l.frame → HasPlace os f
