-- The lines of outputs: those that are secret are left out, and the others come in the byte order of their names.
use Rattle.std.specs.Prelude.{◌≡◌, ℕ, Bool, true, false, List, [], ◌∷◌, ◌++◌, codes, encode_utf8_all, if◌then◌else◌}
use Rattle.std.specs.Ordering.{is_lt}
use Rattle.std.specs.List.Sorted.{IsPermutation, IsSortedBy}
use Rattle.serde_json.specs.Written.{compact_text}
use Rattle.arm_value.specs.Reading.{data_of}
use Rattle.arm_value.specs.View.{json}
use Rattle.lock_rules.specs.Texts.{text_cmp}
use Rattle.template_parts.specs.declared.value_type.ValueType.{ValueType}
use Rattle.template_parts.specs.declared.value_type.ValueType.TheVariants as type
use Rattle.task_standings.specs.declared.standing.RootOutput.{RootOutput}
use Rattle.deployment_reports.specs.declared.lines.OutputLine.{OutputLine}

-- the values of the type are secret
abbrev pub is_secret : ValueType → Bool
is_secret type.String = false
is_secret type.SecureString = true
is_secret type.Int = false
is_secret type.Bool = false
is_secret type.Object = false
is_secret type.SecureObject = true
is_secret type.Array = false

-- the line of an output has its name, and its value as compact JSON
abbrev pub line_of : RootOutput → OutputLine
line_of o = record { name = o.name; value = compact_text (data_of (json o.value)) }

abbrev pub shown_of : RootOutput → List OutputLine
shown_of o = if is_secret o.kind then [] else line_of o ∷ []

-- the lines of the outputs that are not secret
abbrev pub shown : List RootOutput → List OutputLine
shown [] = []
shown (o ∷ os) = shown_of o ++ shown os

-- the name of the first line comes before that of the second
abbrev pub comes_before : OutputLine → OutputLine → Bool
comes_before a b = is_lt (text_cmp a.name b.name)

-- no line has a name that comes before that of the line before it
abbrev pub AreInOrder : List OutputLine → Type 0
AreInOrder ls = IsSortedBy comes_before ls

-- the text of a line
abbrev pub line_text : OutputLine → List ℕ
line_text l = encode_utf8_all l.name ++ (codes "=" ++ (l.value ++ codes "\n"))

abbrev pub text_of : List OutputLine → List ℕ
text_of [] = []
text_of (l ∷ ls) = line_text l ++ text_of ls

-- after a text come the lines of the outputs that are not secret, in the byte order of their names
pub record EndsWithOutputs (before : List ℕ) (os : List RootOutput) (text : List ℕ) : Type 0 where
  pub lines : List OutputLine
  pub are : IsPermutation (shown os) lines
  pub in_order : AreInOrder lines
  pub is : text ≡ before ++ text_of lines
