-- The types of the values of functions.
use Rattle.std.proofs.Common.{List, Option, Some, None}
use Rattle.arm_value.specs.Json.{Json}
use Rattle.function_numbers.specs.Numbers.{better}
use Rattle.function_numbers.specs.declared.extremes.Extreme.TheVariants.{Least, Greatest}
use Rattle.arm_functions.specs.declared.plain.Plain.{Plain}
use Rattle.arm_functions.specs.declared.plain.OnNumbers.{OnNumbers}
use Rattle.arm_functions.specs.declared.plain.OnTruth.{OnTruth}
use Rattle.arm_functions.specs.declared.plain.OnTexts.{OnTexts}
use Rattle.arm_functions.specs.declared.plain.OnLists.{OnLists}
use Rattle.arm_functions.specs.declared.plain.Printing.{Printing}
use Rattle.arm_functions.specs.declared.plain.Naming.{Naming}
use Rattle.arm_functions.specs.declared.plain.Plain.TheVariants as plain
use Rattle.arm_functions.specs.declared.plain.OnNumbers.TheVariants as n
use Rattle.arm_functions.specs.declared.plain.OnTruth.TheVariants as l
use Rattle.arm_functions.specs.declared.plain.OnTexts.TheVariants as x
use Rattle.arm_functions.specs.declared.plain.OnLists.TheVariants as a
use Rattle.arm_functions.specs.declared.plain.Printing.TheVariants as p
use Rattle.arm_functions.specs.declared.plain.Naming.TheVariants as i
use Rattle.arm_functions.specs.Values.{of_numbers, of_truth, of_texts, of_lists, of_prints, of_names, value_of}
use Rattle.bicep_signatures.specs.declared.value_type.ValueType.{ValueType}
use Rattle.bicep_signatures.specs.declared.value_type.ValueType.TheVariants as type
use Rattle.bicep_soundness.specs.Values.{Gives}
use Rattle.bicep_soundness.proofs.GivesLemmas as gives

-- the type of all values of a function on numbers
abbrev pub numbers_type : OnNumbers → ValueType
numbers_type n.Add = type.Int
numbers_type n.Sub = type.Int
numbers_type n.Mul = type.Int
numbers_type n.Div = type.Int
numbers_type n.Remainder = type.Int
numbers_type n.Min = type.Int
numbers_type n.Max = type.Int
numbers_type n.ToInt = type.Int
numbers_type n.Range = type.Array

numbers_give : (f : OnNumbers) (vs : List Json) → Gives (numbers_type f) (of_numbers f vs)
unfolding of_numbers
numbers_give n.Add vs = gives.of_numbers_is _ vs
numbers_give n.Sub vs = gives.of_numbers_is _ vs
numbers_give n.Mul vs = gives.of_numbers_is _ vs
numbers_give n.Div vs = gives.of_numbers_is _ vs
numbers_give n.Remainder vs = gives.of_numbers_is _ vs
numbers_give n.Min vs = gives.best_is (better Least) vs
numbers_give n.Max vs = gives.best_is (better Greatest) vs
numbers_give n.ToInt vs = gives.int_is vs
numbers_give n.Range vs = gives.range_is vs

-- of a function on truth values, or of one that compares
abbrev pub truth_type : OnTruth → ValueType
truth_type l.Not = type.Bool
truth_type l.AlwaysTrue = type.Any
truth_type l.AlwaysFalse = type.Any
truth_type l.AlwaysNull = type.Any
truth_type l.ToBool = type.Bool
truth_type l.Equals = type.Bool
truth_type l.Less = type.Bool
truth_type l.LessOrEquals = type.Bool
truth_type l.Greater = type.Bool
truth_type l.GreaterOrEquals = type.Bool

pub any_is : (o : Option Json) → Gives type.Any o
any_is None = tt
any_is (Some v) = tt

truth_gives : (f : OnTruth) (vs : List Json) → Gives (truth_type f) (of_truth f vs)
unfolding of_truth
truth_gives l.Not vs = gives.not_is vs
truth_gives l.AlwaysTrue vs = any_is (of_truth l.AlwaysTrue vs)
truth_gives l.AlwaysFalse vs = any_is (of_truth l.AlwaysFalse vs)
truth_gives l.AlwaysNull vs = any_is (of_truth l.AlwaysNull vs)
truth_gives l.ToBool vs = gives.to_bool_is vs
truth_gives l.Equals vs = gives.equals_is vs
truth_gives l.Less vs = gives.compares_is _ vs
truth_gives l.LessOrEquals vs = gives.compares_is _ vs
truth_gives l.Greater vs = gives.compares_is _ vs
truth_gives l.GreaterOrEquals vs = gives.compares_is _ vs

-- of a function that looks for or cuts parts of texts
abbrev pub texts_type : OnTexts → ValueType
texts_type x.ToLower = type.Text
texts_type x.ToUpper = type.Text
texts_type x.Trim = type.Text
texts_type x.Substring = type.Text
texts_type x.Replace = type.Text
texts_type x.Split = type.Array
texts_type x.StartsWith = type.Bool
texts_type x.EndsWith = type.Bool
texts_type x.IndexOf = type.Int
texts_type x.LastIndexOf = type.Int
texts_type x.Contains = type.Bool

texts_give : (f : OnTexts) (vs : List Json) → Gives (texts_type f) (of_texts f vs)
unfolding of_texts
texts_give x.ToLower vs = gives.lower_is vs
texts_give x.ToUpper vs = gives.upper_is vs
texts_give x.Trim vs = gives.trim_is vs
texts_give x.Substring vs = gives.substring_is vs
texts_give x.Replace vs = gives.replace_is vs
texts_give x.Split vs = gives.split_is vs
texts_give x.StartsWith vs = gives.starts_is vs
texts_give x.EndsWith vs = gives.ends_is vs
texts_give x.IndexOf vs = gives.index_is vs
texts_give x.LastIndexOf vs = gives.last_index_is vs
texts_give x.Contains vs = gives.contains_is vs

-- of a function on arrays and objects; those of several types are Any
abbrev pub lists_type : OnLists → ValueType
lists_type a.Size = type.Int
lists_type a.Empty = type.Bool
lists_type a.ToArray = type.Array
lists_type a.CreateArray = type.Any
lists_type a.First = type.Any
lists_type a.Last = type.Any
lists_type a.Skip = type.Any
lists_type a.Take = type.Any
lists_type a.Union = type.Any
lists_type a.Intersection = type.Any
lists_type a.Flatten = type.Array
lists_type a.CreateObject = type.Any
lists_type a.ObjectItems = type.Array
lists_type a.ObjectKeys = type.Array
lists_type a.TryGet = type.Any

lists_give : (f : OnLists) (vs : List Json) → Gives (lists_type f) (of_lists f vs)
unfolding of_lists
lists_give a.Size vs = gives.size_is vs
lists_give a.Empty vs = gives.empty_is vs
lists_give a.ToArray vs = gives.to_array_is vs
lists_give a.CreateArray vs = any_is (of_lists a.CreateArray vs)
lists_give a.First vs = any_is (of_lists a.First vs)
lists_give a.Last vs = any_is (of_lists a.Last vs)
lists_give a.Skip vs = any_is (of_lists a.Skip vs)
lists_give a.Take vs = any_is (of_lists a.Take vs)
lists_give a.Union vs = any_is (of_lists a.Union vs)
lists_give a.Intersection vs = any_is (of_lists a.Intersection vs)
lists_give a.Flatten vs = gives.flatten_is vs
lists_give a.CreateObject vs = any_is (of_lists a.CreateObject vs)
lists_give a.ObjectItems vs = gives.items_is vs
lists_give a.ObjectKeys vs = gives.keys_is vs
lists_give a.TryGet vs = any_is (of_lists a.TryGet vs)

-- of a function that prints values, or reads what is printed
abbrev pub prints_type : Printing → ValueType
prints_type p.Concat = type.Any
prints_type p.Join = type.Text
prints_type p.PadLeft = type.Text
prints_type p.ToText = type.Text
prints_type p.Format = type.Text
prints_type p.ReadJson = type.Any

prints_give : (f : Printing) (vs : List Json) → Gives (prints_type f) (of_prints f vs)
unfolding of_prints
prints_give p.Concat vs = any_is (of_prints p.Concat vs)
prints_give p.Join vs = gives.join_is vs
prints_give p.PadLeft vs = gives.pad_left_is vs
prints_give p.ToText vs = gives.to_text_is vs
prints_give p.Format vs = gives.format_is vs
prints_give p.ReadJson vs = any_is (of_prints p.ReadJson vs)

names_give : (f : Naming) (vs : List Json) → Gives type.Text (of_names f vs)
unfolding of_names
names_give i.ToBase64 vs = gives.base64_is vs
names_give i.FromBase64 vs = gives.from_base64_is vs
names_give i.UniqueString vs = gives.unique_string_is vs
names_give i.Guid vs = gives.guid_is vs

abbrev pub plain_type : Plain → ValueType
plain_type (plain.Numbers f) = numbers_type f
plain_type (plain.Logic f) = truth_type f
plain_type (plain.Texts f) = texts_type f
plain_type (plain.Lists f) = lists_type f
plain_type (plain.Prints f) = prints_type f
plain_type (plain.Names f) = type.Text

-- each value of a function is of its type
pub plain_gives : (f : Plain) (vs : List Json) → Gives (plain_type f) (value_of f vs)
unfolding value_of
plain_gives (plain.Numbers f) vs = numbers_give f vs
plain_gives (plain.Logic f) vs = truth_gives f vs
plain_gives (plain.Texts f) vs = texts_give f vs
plain_gives (plain.Lists f) vs = lists_give f vs
plain_gives (plain.Prints f) vs = prints_give f vs
plain_gives (plain.Names f) vs = names_give f vs
