-- What the bytes of a parameter file give: those of its member `parameters`, as `{"NAME": {"value": VALUE}}`.
use Rattle.std.specs.Prelude.{◌≡◌, ℕ, List, [], map, Option, Some, None, Result, Ok, Err, codes}
use Rattle.serde_json.specs.Data.{Data}
use Rattle.arm_value.specs.Json.{Json}
use Rattle.arm_value.specs.Look.{look}
use Rattle.arm_value.specs.Reading.{reading}
use Rattle.arm_value.specs.Fault.{Gives, Explains}
use Rattle.arm_value.specs.declared.path.Path.{Path}
use Rattle.arm_value.specs.declared.read.JsonFault.TheVariants as json
use Rattle.template_parts.specs.declared.given.GivenValue.{GivenValue}
use Rattle.template_parameters.specs.Given.{Entry, given_of, given_view}
use Rattle.parameter_files.specs.declared.fault.ParameterFault.{ParameterFault}
use Rattle.parameter_files.specs.declared.fault.ParameterFault.TheVariants as fault

-- the names and values of a member, or the path at which it has another form
abbrev pub entries_by : Option Json → Result (List Entry) (List ℕ)
entries_by None = Err []
entries_by (Some j) = given_of j

-- the names and values of a file's value
abbrev pub entries_in : Json → Result (List Entry) (List ℕ)
entries_in j = entries_by (look (codes "parameters") j)

-- the bytes give no value, and why
abbrev pub IsUnread : Option Data → ParameterFault → Type 0
IsUnread read fault.NotJson = Explains read json.NotJson
IsUnread read fault.TooDeep = Explains read json.TooDeep
IsUnread read fault.NotWhole = (path : Path) × Explains read (json.NotWhole path)
IsUnread read fault.OutOfMemory = Unit {0}
IsUnread read _ = ⊥

-- what a member gives, or that it has another form
abbrev pub IsAnswerBy : Option Json → Result (List GivenValue) ParameterFault → Type 0
IsAnswerBy o (Ok g) = entries_by o ≡ Ok (map given_view g)
IsAnswerBy o (Err fault.WrongForm) = (path : List ℕ) × (entries_by o ≡ Err path)
IsAnswerBy o (Err fault.OutOfMemory) = Unit {0}
IsAnswerBy o (Err _) = ⊥

abbrev pub IsAnswerIn : Json → Result (List GivenValue) ParameterFault → Type 0
IsAnswerIn j r = IsAnswerBy (look (codes "parameters") j) r

-- the values that the bytes give; that they are read to a value of another form; or why they are read to none
abbrev pub IsAnswer : List ℕ → Result (List GivenValue) ParameterFault → Type 0
IsAnswer bytes (Ok g) = (j : Json) × Gives (reading bytes) j × IsAnswerIn j (Ok g)
IsAnswer bytes (Err fault.WrongForm) = (j : Json) × Gives (reading bytes) j × IsAnswerIn j (Err fault.WrongForm)
IsAnswer bytes (Err e) = IsUnread (reading bytes) e
