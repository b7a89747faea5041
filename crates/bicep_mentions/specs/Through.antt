-- What declarations mention through variables.
use Rattle.std.specs.Prelude.{ℕ, zero, suc, ◌==◌, ◌&&◌, ◌||◌, Bool, false, List, [], length, slice_get, slice_index_or}
use Rattle.std.specs.List.{list_any}
use Rattle.bicep_circles.specs.Kind.{Kind}
use Rattle.bicep_circles.specs.Declarations.{DeclaredTree}
use Rattle.bicep_circles.specs.Links.{links}
use Rattle.bicep_mentions.specs.Entries.{is_variable}

-- for each two symbols, whether the first mentions the second
abbrev pub Mentioning : Type 0
Mentioning = ℕ → ℕ → Bool

-- whether a mention of m is one of n: it is n, or a variable that mentions n
abbrev pub leads_to : List DeclaredTree → Mentioning → ℕ → ℕ → Bool
leads_to ds mentioning n m = (m == n) || (is_variable (slice_get ds m) && mentioning m n)

-- what the declarations mention, where that is known of the variables that they mention
abbrev pub mentioning_step : List Kind → List DeclaredTree → Mentioning → Mentioning
mentioning_step xs ds mentioning k n =
    list_any (leads_to ds mentioning n) (slice_index_or (links xs ds) k [])

-- whether one symbol mentions another, directly or through fewer variables than that number
unfoldable pub mentioning_within : List Kind → List DeclaredTree → ℕ → Mentioning
mentioning_within xs ds zero k n = false
mentioning_within xs ds (suc limit) k n = mentioning_step xs ds (mentioning_within xs ds limit) k n

-- whether one symbol of a file mentions another, directly or through variables
abbrev pub mentioning : List Kind → List DeclaredTree → Mentioning
mentioning xs ds = mentioning_within xs ds (length ds)
