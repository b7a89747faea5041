-- The spots of the cells that a scope has, and of those that the instances of a resource have.
use Rattle.std.specs.Prelude.{ℕ, zero, suc, Bool, true, false, List, [], ◌∷◌, ◌++◌, length, slice_get, Option, Some}
use Rattle.std.specs.Prelude.{None}
use Rattle.std.specs.Prelude.{if◌then◌else◌}
use Rattle.plan_filling.specs.Resources.{Listed}
use Rattle.plan_filling.specs.Children.{parameter_names, variable_names, output_names}
use Rattle.plan_table.specs.declared.line.Spot.{Spot}
use Rattle.plan_table.specs.declared.line.Spot.TheVariants.{Parameter, Variable, Offered, Output, Count, Included}
use Rattle.plan_table.specs.declared.line.Spot.TheVariants.{Name, Deployments}
use Rattle.plan_table.specs.Opened.{Opened}

-- of the numbers below n
abbrev pub below : (ℕ → Spot) → ℕ → List Spot
below f zero = []
below f (suc n) = below f n ++ f n ∷ []

abbrev pub unless_existing : Option Listed → Spot → List Spot
unless_existing None s = []
unless_existing (Some x) s = if x.declaration.existing then [] else s ∷ []

-- of the resources with numbers below n that are not existing
abbrev pub counts_below : ℕ → List Listed → ℕ → List Spot
counts_below g xs zero = []
counts_below g xs (suc n) = counts_below g xs n ++ unless_existing (slice_get xs n) (Count g n)

abbrev pub own_spots : Bool → ℕ → ℕ → ℕ → List Spot
own_spots true g n m = below (λ i. Parameter g i) n ++ below (λ i. Variable g i) m
own_spots false g n m = []

-- of the scope number g
abbrev pub scope_spots : ℕ → Opened → List Spot
scope_spots g o =
    own_spots o.is_own g (length (parameter_names o.template)) (length (variable_names o.template))
    ++ (below (λ i. Offered g i) (length (output_names o.template))
    ++ (counts_below g o.resources (length o.resources) ++ Deployments g ∷ []))

-- of n instances of a resource
abbrev pub instance_spots : ℕ → ℕ → ℕ → List Spot
instance_spots f r n = below (λ i. Included f r i) n ++ below (λ i. Name f r i) n
