-- What an environment of the code knows of each cell, and the surroundings that it has.
use Rattle.std.specs.Prelude.{ℕ, Bool, true, false, List, [], ◌∷◌, map, bytes_eq, Option, Some, None}
use Rattle.std.specs.Prelude.{option_map, is_some, if◌then◌else◌}
use Rattle.arm_value.specs.View.{json}
use Rattle.arm_value.specs.Look.{fold}
use Rattle.arm_ids.specs.declared.id.ResourceId.{ResourceId}
use Rattle.reading.specs.Knowledge.{Known, known, absent, missing}
use Rattle.arm_env.specs.Look.{Look, parameter, variable, output, state, named, deployment, outputs}
use Rattle.arm_env.specs.Look.{Fact, a_value, a_key, a_truth, a_list, Declared, Surroundings}
use Rattle.arm_env.specs.Find.{is_same_key, key_named}
use Rattle.arm_env.specs.declared.env.Slot.{Slot}
use Rattle.arm_env.specs.declared.env.Slot.TheVariants as slot
use Rattle.arm_env.specs.declared.env.Seen.{Seen}
use Rattle.arm_env.specs.declared.env.Seen.TheVariants as seen
use Rattle.arm_env.specs.declared.env.Named.{Named}
use Rattle.arm_env.specs.declared.env.StateAt.{StateAt}
use Rattle.arm_env.specs.declared.env.OutputAt.{OutputAt}
use Rattle.arm_env.specs.declared.env.ModuleAt.{ModuleAt}
use Rattle.arm_env.specs.declared.env.Env.{Env}

-- an entry that may be listed; one that is not has no value
abbrev pub slot_known : Option Slot → Known Fact
slot_known None = absent
slot_known (Some (slot.Known v)) = known (a_value (json v))
slot_known (Some slot.Absent) = absent
slot_known (Some slot.Late) = missing

-- the first entry of the folded name
abbrev pub slot_named : List ℕ → List Named → Option Slot
slot_named name [] = None
slot_named name (n ∷ ns) = if bytes_eq name (fold n.name) then Some n.slot else slot_named name ns

-- the first output of the folded name
abbrev pub output_with : List ℕ → List OutputAt → Option OutputAt
output_with name [] = None
output_with name (x ∷ xs) = if bytes_eq name (fold x.name) then Some x else output_with name xs

-- the first nested deployment of the key
abbrev pub module_with : ResourceId → List ModuleAt → Option ModuleAt
module_with k [] = None
module_with k (m ∷ ms) = if is_same_key k m.key then Some m else module_with k ms

abbrev pub output_in : List ℕ → Option ModuleAt → Option OutputAt
output_in name None = None
output_in name (Some m) = output_with name m.outputs.items

abbrev pub slot_in : List ℕ → Option ModuleAt → Option Slot
slot_in name m = option_map (λ x. x.slot) (output_in name m)

-- the first state at the key
abbrev pub seen_at : ResourceId → List StateAt → Option Seen
seen_at k [] = None
seen_at k (s ∷ ss) = if is_same_key k s.key then Some s.seen else seen_at k ss

-- the state at a key, which may be listed; where it is not there is none
abbrev pub seen_known : Option Seen → Known Fact
seen_known None = absent
seen_known (Some (seen.Now v)) = known (a_value (json v))
seen_known (Some seen.Never) = absent
seen_known (Some seen.Later) = missing

-- what a text stands for: a key or nothing
abbrev pub key_known : Option ResourceId → Known Fact
key_known None = absent
key_known (Some k) = known (a_key k)

abbrev pub declared : OutputAt → Declared
declared x = record { name = x.name; kind = x.kind }

-- the outputs of a nested deployment that may be listed
abbrev pub outputs_in : Option ModuleAt → List Declared
outputs_in None = []
outputs_in (Some m) = map declared m.outputs.items

abbrev pub key_of : ModuleAt → ResourceId
key_of m = m.key

abbrev pub known_in : Env → Look → Known Fact
known_in env (parameter name) = slot_known (slot_named name env.parameters.items)
known_in env (variable name) = slot_known (slot_named name env.variables.items)
known_in env (output k name) = slot_known (slot_in name (module_with k env.modules.items))
known_in env (state k) = seen_known (seen_at k env.states.items)
known_in env (named t) =
    if env.inside_name then absent
    else key_known (key_named t env.names.items (map key_of env.modules.items))
known_in env (deployment k) = known (a_truth (is_some (module_with k env.modules.items)))
known_in env (outputs k) = known (a_list (outputs_in (module_with k env.modules.items)))

abbrev pub around : Env → Surroundings
around env = record { loops = env.loops.items; place = env.place.now }
