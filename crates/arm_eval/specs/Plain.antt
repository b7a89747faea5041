-- Trees that have themselves as their values.
use Rattle.std.specs.Prelude.{◌≡◌, false}
use Rattle.arm_value.specs.Json.{Json, null, bool, int, text, array, object, Row, no_items, item, Pairs, no_pairs, pair}
use Rattle.arm_expr.specs.Brackets.{is_bracketed, is_copy}

-- no text in it is in brackets, and no member in it is named `copy`
abbrev mutual
  pub IsPlain : Json → Type 0
  IsPlain null = Unit {0}
  IsPlain (bool b) = Unit {0}
  IsPlain (int z) = Unit {0}
  IsPlain (text t) = is_bracketed t ≡ false
  IsPlain (array js) = RowIsPlain js
  IsPlain (object ms) = PairsArePlain ms

  pub RowIsPlain : Row → Type 0
  RowIsPlain no_items = Unit {0}
  RowIsPlain (item j js) = IsPlain j × RowIsPlain js

  pub PairsArePlain : Pairs → Type 0
  PairsArePlain no_pairs = Unit {0}
  PairsArePlain (pair k j ms) = (is_copy k ≡ false) × (IsPlain j × PairsArePlain ms)
