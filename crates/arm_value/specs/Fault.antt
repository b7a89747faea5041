-- When bytes give a value, and why they do not.
use Rattle.std.specs.Prelude.{◌≡◌, ◌≤◌, ◌<◌, Option, Some, None, IsSomeAnd}
use Rattle.serde_json.specs.Data.{Data, depth}
use Rattle.arm_value.specs.Json.{Json}
use Rattle.arm_value.specs.Reading.{data_of, not_whole}
use Rattle.arm_value.specs.declared.read.JsonFault.{JsonFault}
use Rattle.arm_value.specs.declared.read.JsonFault.TheVariants.{NotJson, NotWhole, TooDeep, OutOfMemory}

-- what was read is the data of the tree, which nests at most 120 and has whole numbers
abbrev pub Gives : Option Data → Json → Type 0
Gives read j = (read ≡ Some (data_of j)) × (depth (data_of j) ≤ 120) × (not_whole (data_of j) ≡ None)

-- the fault of what was read: the first that holds of `NotJson`, `TooDeep` and `NotWhole`
abbrev pub Explains : Option Data → JsonFault → Type 0
Explains read NotJson = read ≡ None
Explains read TooDeep = IsSomeAnd read (λ d. 120 < depth d)
Explains read (NotWhole path) = IsSomeAnd read (λ d. (depth d ≤ 120) × (not_whole d ≡ Some path))
Explains read OutOfMemory = Unit {0}
