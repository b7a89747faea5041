-- What is known where the variables of a file have given values, and its resources one id and one state.
use Rattle.std.specs.Prelude.{ℕ, false, List, [], ◌∷◌, Option, Some, None, slice_get}
use Rattle.arm_value.specs.Json.{Json}
use Rattle.arm_value.specs.View.{json}
use Rattle.reading.specs.Reading.{done, none, read}
use Rattle.reading.specs.Knowledge.{Known, known, missing}
use Rattle.deploy_cells.specs.Cells.{Cell, count, state}
use Rattle.deploy_cells.specs.Guarded.{Reads}
use Rattle.bicep_meaning.specs.Around.{Frame}
use Rattle.bicep_meaning.specs.Files.{SourceFile, at_once}
use Rattle.bicep_surroundings.specs.Sight.{Sight}
use Rattle.bicep_eval_tests.specs.declared.sample.Slot.{Slot}
use Rattle.bicep_eval_tests.specs.declared.sample.Slot.TheVariants as slot
use Rattle.bicep_eval_tests.specs.declared.sample.Sample.{Sample}

-- a file with nothing in it, so the types of its resources are empty texts
abbrev pub empty : SourceFile
empty = record {
  symbols = [];
  declared = record { declarations = []; outputs = [] };
  outputs = [];
  modules = [];
  has_entry = λ n. false;
  accepts = λ n j. false;
  batches = at_once;
}

-- a variable that is not known yet reads a cell of its number
abbrev pub slot_value : ℕ → Option Slot → Reads Json
slot_value n None = none
slot_value n (Some (slot.Known v)) = done (Some (json v))
slot_value n (Some slot.Absent) = none
slot_value n (Some slot.Late) = read (count [] n)

-- the variable of a number
abbrev pub variable_value : List Slot → ℕ → Reads Json
variable_value xs n = slot_value n (slice_get xs n)

-- the name of a resource: that of an element of a loop is its item
abbrev pub name_value : Reads Json → List Frame → Reads Json
name_value own [] = own
name_value own (f ∷ fs) = f.item

-- each resource has this state, and nothing else is known
abbrev pub known_of : Json → Cell → Known Json
known_of j (state k) = known j
known_of j c = missing

-- loops run over the variable of number 1; a resource outside loops is named by that of number 2
abbrev pub sight_of : Sample → Sight
sight_of x = record {
  known = known_of (json x.state);
  cell = λ n. count [] n;
  here = record { at = []; place = x.place; file = empty; files = [] };
  around = record {
    variable = variable_value x.slots.items;
    items = λ n. variable_value x.slots.items 1;
    name = λ n. name_value (variable_value x.slots.items 2);
    full_name = λ n fs. none;
    condition = λ n fs. none;
    id = λ n fs. done (Some x.id);
  };
}
