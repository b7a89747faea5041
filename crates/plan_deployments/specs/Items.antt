-- The items of the instances of nested deployments, and what is told of them.
use Rattle.std.specs.Prelude.{◌≡◌, List, map, Option, Some, None, Result, Ok, Err}
use Rattle.arm_value.specs.Json.{Json}
use Rattle.arm_value.specs.View.{json}
use Rattle.arm_value.specs.declared.value.Value.{Value}
use Rattle.reading.specs.Knowledge.{Told, value, and_then}
use Rattle.deploy_cells.specs.Cells.{Cell}
use Rattle.deploy_cells.specs.Listing.{Named, named_json, instances_json}
use Rattle.plan_table.specs.declared.table.Table.{Table}
use Rattle.plan_sight.specs.declared.lack.Lack.{Lack}
use Rattle.plan_sight.specs.declared.lack.Lack.TheVariants as lack
use Rattle.plan_sight.specs.Seen.{Stops}

-- the value is the item of an instance
abbrev pub IsItemOf : Option Named → Json → Type 0
IsItemOf None j = ⊥
IsItemOf (Some n) j = j ≡ named_json n

-- the item of an instance, or that there is none
abbrev pub Makes : Option Named → Result Value Lack → Type 0
Makes o (Ok v) = IsItemOf o (json v)
Makes o (Err lack.NotThere) = ⊥
Makes o (Err lack.NoValue) = o ≡ None
Makes o (Err (lack.Line j)) = ⊥
Makes o (Err (lack.State k)) = ⊥
Makes o (Err lack.OutOfMemory) = Unit {0}

-- the item of an instance that is read
abbrev pub IsItem : Table → Result Value Lack → Told Cell Named → Type 0
IsItem t (Ok v) u = (n : Named) × ((u ≡ value n) × (json v ≡ named_json n))
IsItem t (Err e) u = Stops t e u

-- the items of the instances that are read
abbrev pub items_told : Told Cell (List Named) → Told Cell (List Json)
items_told u = and_then u (λ ns. value (map named_json ns))

-- the arrays of the nested deployments that are read
abbrev pub arrays_told : Told Cell (List (List Named)) → Told Cell (List Json)
arrays_told u = and_then u (λ nss. value (map instances_json nss))
