-- Values whose texts have characters alone, so that their bytes spell them.
use Rattle.std.specs.Prelude.{◌≡◌, ℕ, List, chars, encode_utf8_all}
use Rattle.arm_value.specs.Json.{Json, null, bool, int, text, array, object, Row, no_items, item, Pairs, no_pairs, pair}

-- the text is what its bytes in UTF-8 spell
abbrev pub IsText : List ℕ → Type 0
IsText s = chars (encode_utf8_all s) ≡ s

-- each text in the value, and each name of a member, is such a text
abbrev mutual
  pub HasCharacters : Json → Type 0
  HasCharacters null = Unit {0}
  HasCharacters (bool b) = Unit {0}
  HasCharacters (int z) = Unit {0}
  HasCharacters (text s) = IsText s
  HasCharacters (array js) = RowHasCharacters js
  HasCharacters (object ms) = PairsHaveCharacters ms

  pub RowHasCharacters : Row → Type 0
  RowHasCharacters no_items = Unit {0}
  RowHasCharacters (item j js) = HasCharacters j × RowHasCharacters js

  pub PairsHaveCharacters : Pairs → Type 0
  PairsHaveCharacters no_pairs = Unit {0}
  PairsHaveCharacters (pair k j ms) = IsText k × HasCharacters j × PairsHaveCharacters ms
