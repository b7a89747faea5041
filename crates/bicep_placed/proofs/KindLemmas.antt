-- Types of resources, where there is no resource.
use Rattle.std.proofs.Common.{◌≡◌, ◌≤◌, ℕ, List, [], length, Option, Some, None, refl, ap, sym}
use Rattle.std.specs.List.{slice_get}
use Rattle.std.proofs.lemmas.Option.{slice_get_past}
use Rattle.bicep_placed.specs.Kinds.{known, whole_kind}

pub no_kind : (kinds : List (List ℕ)) (n : ℕ) → length kinds ≤ n → [] ≡ known (slice_get kinds n)
no_kind kinds n h = ap known (sym (slice_get_past kinds n h))

pub no_path : (before : List (List ℕ)) (o : Option ℕ) → [] ≡ whole_kind before o None
no_path before None = refl
no_path before (Some n) = refl
