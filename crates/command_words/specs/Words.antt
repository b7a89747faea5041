-- What a word of a command is by itself. Words are their bytes in UTF-8.
use Rattle.std.specs.Prelude.{ℕ, ◌==◌, nat_lt, List, [], ◌∷◌, length, Bool, if◌then◌else◌}
use Rattle.std.specs.List.{before_first, after_first, position_or_len}
use Rattle.command_words.specs.declared.word.Word.{Word}
use Rattle.command_words.specs.declared.word.Word.TheVariants.{Plain, Named, Valued, Misplaced}

pub data Sign : Type 0 where
  -- a word that is not empty and does not begin with `-`
  Value : (value : List ℕ) → Sign
  -- `--NAME`
  AnOption : (name : List ℕ) → Sign
  -- `--NAME=VALUE`
  WithValue : (name value : List ℕ) → Sign
  -- none of these
  NoSign : Sign

-- an option and the value after its first `=`, which may not be empty
unfoldable pub valued : List ℕ → List ℕ → Sign
valued name value = if length value == 0 then NoSign else WithValue name value

-- 61 is `=`
abbrev pub is_equals : ℕ → Bool
is_equals b = b == 61

-- an option by what follows its `--`
unfoldable pub option_of : List ℕ → Sign
option_of bs =
    if nat_lt (position_or_len is_equals bs) (length bs)
    then valued (before_first is_equals bs) (after_first is_equals bs) else AnOption bs

-- a word by what follows its first `-`; 45 is `-`
unfoldable pub dashed : List ℕ → Sign
dashed [] = NoSign
dashed (b ∷ bs) = if b == 45 then option_of bs else NoSign

-- a word that does not begin with `-`
unfoldable pub value_of : List ℕ → Sign
value_of w = if length w == 0 then NoSign else Value w

unfoldable pub word_of : List ℕ → Sign
word_of [] = NoSign
word_of (b ∷ bs) = if b == 45 then dashed bs else value_of (b ∷ bs)

abbrev pub sign_of : Word → Sign
sign_of (Plain v) = Value v.now
sign_of (Named x) = AnOption x.now
sign_of (Valued x v) = WithValue x.now v.now
sign_of Misplaced = NoSign
