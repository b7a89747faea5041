-- Type texts of resources: `type@version`, where the first `@` divides.
use Rattle.std.specs.Prelude.{ℕ, ◌&&◌, not, Bool, false, List, [], length, Option, Some, None, codes}
use Rattle.std.specs.List.{list_any}
use Rattle.std.specs.Prelude.{nat_le}
use Rattle.arm_value.specs.Look.{is_same_folded}
use Rattle.arm_ids.specs.Segments.{segments, is_empty}
use Rattle.bicep_misplaced.specs.Types.{divided, is_undivided}

-- two segments or more, none of which is empty
unfoldable pub is_type : List ℕ → Bool
is_type kind = nat_le 2 (length (segments kind)) && not (list_any is_empty (segments kind))

-- the type of nested deployments, which no resource has
unfoldable pub is_deployments : List ℕ → Bool
is_deployments kind = is_same_folded (codes "Microsoft.Resources/deployments") kind

abbrev pub is_whole_by : Option (List ℕ × List ℕ) → Bool
is_whole_by None = false
is_whole_by (Some q) = is_type q.0 && (not (is_deployments q.0) && not (is_empty q.1))

-- a type and a version: what a resource has that is not nested; 64 is `@`
abbrev pub is_whole : List ℕ → Bool
is_whole text = is_whole_by (divided 64 text)

-- one segment that is not empty; 47 is `/`
abbrev pub is_segment : List ℕ → Bool
is_segment kind = is_undivided (divided 47 kind) && not (is_empty kind)

abbrev pub is_part_by : List ℕ → Option (List ℕ × List ℕ) → Bool
is_part_by text None = is_segment text
is_part_by text (Some q) = is_segment q.0 && not (is_empty q.1)

-- the last segment of a type, and a version or none: what a nested resource has, after the type of its parent
abbrev pub is_part : List ℕ → Bool
is_part text = is_part_by text (divided 64 text)
