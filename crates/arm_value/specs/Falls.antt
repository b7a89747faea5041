-- Each child nests less deep than its parent.
use Rattle.std.specs.Prelude.{◌≤◌, max, suc, List, [], ◌∷◌, map, Option, Some, None}
use Rattle.std.specs.declared.vec.Vec.{Vec}
use Rattle.std.specs.declared.alloc.Global.{Global}
use Rattle.arm_value.specs.declared.value.Fields.TheShapes.{weighed-Items-items, weighed-Fields-fields}
use Rattle.std.proofs.Common.{arith}
use denote.Param.Weighed.{most}
use Rattle.arm_value.specs.Json.{nesting, items_nesting, members_nesting}
use Rattle.arm_value.specs.View.{json, member, held}
use Rattle.arm_value.specs.declared.value.Value.{Value}
use Rattle.arm_value.specs.declared.value.Value.TheVariants.{Null, Bool, Int, Text, Array, Object}
use Rattle.arm_value.specs.declared.value.Field.{Field}
use Rattle.arm_value.specs.declared.value.Fields.TheDeep.{deep-Value, deep-Field}

pub value_falls : (v : Value) → deep-Value v ≤ suc (nesting (json v))
value_falls Null = omega arith
value_falls (Bool b) = omega arith
value_falls (Int z) = omega arith
value_falls (Text s) = omega arith
value_falls (Array js) = omega arith
value_falls (Object ms) = omega arith

pub items_fall : (vs : List Value) → most deep-Value vs ≤ suc (items_nesting (map json vs))
items_fall [] = omega arith
items_fall (v ∷ vs) = omega (arith, value_falls v, items_fall vs)

pub field_falls : (f : Field) → deep-Field f ≤ suc (nesting (json f.value))
field_falls f = omega (arith, value_falls f.value)

pub members_fall : (fs : List Field) → most deep-Field fs ≤ suc (members_nesting (map member fs))
members_fall [] = omega arith
members_fall (f ∷ fs) = omega (arith, field_falls f, members_fall fs)

pub held_items_fall : (o : Option (Vec Value Global))
    → max (weighed-Items-items.weight Value deep-Value o) 0 ≤ suc (items_nesting (map json (held o)))
held_items_fall None = omega arith
held_items_fall (Some v) = omega (arith, items_fall v.items)

pub held_members_fall : (o : Option (Vec Field Global))
    → max (weighed-Fields-fields.weight Field deep-Field o) 0 ≤ suc (members_nesting (map member (held o)))
held_members_fall None = omega arith
held_members_fall (Some v) = omega (arith, members_fall v.items)
