-- What a note has of an answer.
use Rattle.std.specs.Prelude.{ℕ, List, [], encode_utf8_all}
use Rattle.serde_json.specs.Written.{compact_text}
use Rattle.arm_value.specs.Reading.{data_of}
use Rattle.provider_trait.specs.declared.answer.Answer.{Answer}
use Rattle.provider_trait.specs.declared.answer.Answer.TheVariants.{Stored, Gone, Refused}

-- the kind of the note
abbrev pub kind_of : Answer → ℕ
kind_of (Stored state) = 6
kind_of (Refused code) = 7
kind_of Gone = 8

-- the second part of the note: the state as compact JSON, the code in UTF-8, or nothing
abbrev pub second_of : Answer → List ℕ
second_of (Stored state) = compact_text (data_of state)
second_of (Refused code) = encode_utf8_all code
second_of Gone = []
