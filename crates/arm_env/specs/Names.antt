-- The names of the functions that need an environment, or look only as far as needed.
use Rattle.std.specs.Prelude.{ℕ, List, Option, Some, None, codes, if◌then◌else◌}
use Rattle.arm_value.specs.Look.{is_same_folded}
use Rattle.arm_env.specs.declared.function.Lazy.{Lazy}
use Rattle.arm_env.specs.declared.function.Lazy.TheVariants as lazy
use Rattle.arm_env.specs.declared.function.Strict.{Strict}
use Rattle.arm_env.specs.declared.function.Strict.TheVariants as strict

-- the functions that look at their arguments only as far as needed
unfoldable pub lazy_named : List ℕ → Option Lazy
lazy_named name =
    if is_same_folded (codes "if") name then Some lazy.If
    else if is_same_folded (codes "and") name then Some lazy.And
    else if is_same_folded (codes "or") name then Some lazy.Or
    else if is_same_folded (codes "coalesce") name then Some lazy.Coalesce
    else None

-- the functions of the values of all their arguments that need the place
unfoldable pub placed_named : List ℕ → Option Strict
placed_named name =
    if is_same_folded (codes "resourceId") name then Some strict.ResourceId
    else if is_same_folded (codes "subscriptionResourceId") name
    then Some strict.SubscriptionResourceId
    else if is_same_folded (codes "resourceGroup") name then Some strict.ResourceGroup
    else if is_same_folded (codes "subscription") name then Some strict.Subscription
    else if is_same_folded (codes "deployment") name then Some strict.Deployment
    else None

-- the functions of the values of all their arguments that need an environment
unfoldable pub strict_named : List ℕ → Option Strict
strict_named name =
    if is_same_folded (codes "parameters") name then Some strict.Parameters
    else if is_same_folded (codes "variables") name then Some strict.Variables
    else if is_same_folded (codes "reference") name then Some strict.Reference
    else if is_same_folded (codes "copyIndex") name then Some strict.CopyIndex
    else placed_named name
