-- What the functions whose value follows from their arguments alone give.
use Rattle.std.specs.Prelude.{ℕ, nat_le, Bool, ◌&&◌, List, length, Option, Some, None, if◌then◌else◌}
use Rattle.arm_value.specs.Json.{Json}
use Rattle.function_numbers.specs.Numbers as numbers
use Rattle.function_numbers.specs.Logic as logic
use Rattle.function_prints.specs.Letters as letters
use Rattle.function_prints.specs.Cuts as cuts
use Rattle.function_prints.specs.Places as places
use Rattle.function_prints.specs.Sizes as sizes
use Rattle.function_prints.specs.Ends as ends
use Rattle.function_prints.specs.Items as items
use Rattle.function_prints.specs.Members as members
use Rattle.function_prints.specs.Printed as prints
use Rattle.function_prints.specs.Format as formats
use Rattle.function_prints.specs.Stated as stated
use Rattle.function_identities.specs.Encodings as encodings
use Rattle.function_identities.specs.Identities as identities
use Rattle.arm_functions.specs.declared.plain.Plain.{Plain}
use Rattle.arm_functions.specs.declared.plain.OnNumbers.{OnNumbers}
use Rattle.arm_functions.specs.declared.plain.OnTruth.{OnTruth}
use Rattle.arm_functions.specs.declared.plain.OnTexts.{OnTexts}
use Rattle.arm_functions.specs.declared.plain.OnLists.{OnLists}
use Rattle.arm_functions.specs.declared.plain.Printing.{Printing}
use Rattle.arm_functions.specs.declared.plain.Naming.{Naming}
use Rattle.arm_functions.specs.declared.plain.Plain.TheVariants.{Numbers, Logic, Texts, Lists, Prints, Names}
use Rattle.arm_functions.specs.declared.plain.OnNumbers.TheVariants.{Add, Sub, Mul, Div, Remainder, Min, Max, ToInt}
use Rattle.arm_functions.specs.declared.plain.OnNumbers.TheVariants.{Range}
use Rattle.arm_functions.specs.declared.plain.OnTruth.TheVariants.{Not, AlwaysTrue, AlwaysFalse, AlwaysNull, ToBool}
use Rattle.arm_functions.specs.declared.plain.OnTruth.TheVariants.{Equals, Less, LessOrEquals, Greater}
use Rattle.arm_functions.specs.declared.plain.OnTruth.TheVariants.{GreaterOrEquals}
use Rattle.arm_functions.specs.declared.plain.OnTexts.TheVariants.{ToLower, ToUpper, Trim, Substring, Replace, Split}
use Rattle.arm_functions.specs.declared.plain.OnTexts.TheVariants.{StartsWith, EndsWith, IndexOf, LastIndexOf}
use Rattle.arm_functions.specs.declared.plain.OnTexts.TheVariants.{Contains}
use Rattle.arm_functions.specs.declared.plain.OnLists.TheVariants.{Size, Empty, ToArray, CreateArray, First, Last}
use Rattle.arm_functions.specs.declared.plain.OnLists.TheVariants.{Skip, Take, Union, Intersection, Flatten}
use Rattle.arm_functions.specs.declared.plain.OnLists.TheVariants.{CreateObject, ObjectItems, ObjectKeys, TryGet}
use Rattle.arm_functions.specs.declared.plain.Naming.TheVariants.{ToBase64, FromBase64, UniqueString, Guid}
use Rattle.arm_functions.specs.declared.plain.Printing.TheVariants.{Concat, Join, PadLeft, ToText, Format, ReadJson}
use Rattle.arm_functions.specs.Table.{row_of}

-- the value of a function on numbers
unfoldable pub of_numbers : OnNumbers → List Json → Option Json
of_numbers Add args = numbers.add args
of_numbers Sub args = numbers.sub args
of_numbers Mul args = numbers.mul args
of_numbers Div args = numbers.div args
of_numbers Remainder args = numbers.remainder args
of_numbers Min args = numbers.min args
of_numbers Max args = numbers.max args
of_numbers ToInt args = numbers.to_int args
of_numbers Range args = numbers.range args

-- the value of a function on truth values, or of one that compares
unfoldable pub of_truth : OnTruth → List Json → Option Json
of_truth Not args = logic.not args
of_truth AlwaysTrue args = logic.always_true args
of_truth AlwaysFalse args = logic.always_false args
of_truth AlwaysNull args = logic.always_null args
of_truth ToBool args = logic.to_bool args
of_truth Equals args = logic.equals args
of_truth Less args = logic.less args
of_truth LessOrEquals args = logic.less_or_equals args
of_truth Greater args = logic.greater args
of_truth GreaterOrEquals args = logic.greater_or_equals args

-- the value of a function that looks for or cuts parts of texts
unfoldable pub of_texts : OnTexts → List Json → Option Json
of_texts ToLower args = letters.to_lower args
of_texts ToUpper args = letters.to_upper args
of_texts Trim args = letters.trim args
of_texts Substring args = cuts.substring args
of_texts Replace args = cuts.replace args
of_texts Split args = cuts.split args
of_texts StartsWith args = places.starts_with args
of_texts EndsWith args = places.ends_with args
of_texts IndexOf args = places.index_of args
of_texts LastIndexOf args = places.last_index_of args
of_texts Contains args = places.contains args

-- the value of a function on arrays and objects
unfoldable pub of_lists : OnLists → List Json → Option Json
of_lists Size args = sizes.size args
of_lists Empty args = sizes.empty args
of_lists ToArray args = items.to_array args
of_lists CreateArray args = items.create_array args
of_lists First args = ends.first args
of_lists Last args = ends.last args
of_lists Skip args = ends.skip args
of_lists Take args = ends.take args
of_lists Union args = members.union args
of_lists Intersection args = members.intersection args
of_lists Flatten args = items.flatten args
of_lists CreateObject args = members.create_object args
of_lists ObjectItems args = members.object_items args
of_lists ObjectKeys args = members.object_keys args
of_lists TryGet args = members.try_get args

-- the value of a function that prints values, or reads what is printed
unfoldable pub of_prints : Printing → List Json → Option Json
of_prints Concat args = prints.concat args
of_prints Join args = prints.join args
of_prints PadLeft args = prints.pad_left args
of_prints ToText args = prints.to_text args
of_prints Format args = formats.format args
of_prints ReadJson args = stated.read_json args

-- the value of a function that makes another text of texts
unfoldable pub of_names : Naming → List Json → Option Json
of_names ToBase64 args = encodings.to_base64 args
of_names FromBase64 args = encodings.base64_to_string args
of_names UniqueString args = identities.unique_string args
of_names Guid args = identities.guid args

-- the value of a function
unfoldable pub value_of : Plain → List Json → Option Json
value_of (Numbers f) args = of_numbers f args
value_of (Logic f) args = of_truth f args
value_of (Texts f) args = of_texts f args
value_of (Lists f) args = of_lists f args
value_of (Prints f) args = of_prints f args
value_of (Names f) args = of_names f args

-- whether so many arguments are neither too few nor too many
abbrev pub admits : ℕ → Option ℕ → ℕ → Bool
admits least None count = nat_le least count
admits least (Some most) count = nat_le least count && nat_le count most

-- the value that the function of this name gives of these arguments: none where it has none of them, where they are
-- too few or too many, and where the table has no such function
abbrev pub value_by : Option (ℕ × Option ℕ × Option Plain) → List Json → Option Json
value_by (Some (least, most, Some f)) args = if admits least most (length args) then value_of f args else None
value_by _ args = None

abbrev pub function_value : List ℕ → List Json → Option Json
function_value name args = value_by (row_of name) args
