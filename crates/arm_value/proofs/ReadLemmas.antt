-- What is read of bytes, by what `serde_json` answers.
use Rattle.std.proofs.Common.{◌≡◌, ◌≤◌, ℕ, Bool, true, false, List, Option, Some, None, IsUtf8, refl}
use Rattle.std.proofs.Common.{sym, ap, ◌∙◌}
use Rattle.std.specs.Prelude.{IsSomeAnd}
use Rattle.std.specs.Str.{is_utf8}
use Rattle.std.proofs.lemmas.Str.{is_utf8-from_IsUtf8, IsUtf8-from_is_utf8}
use Rattle.serde_json.specs.Data.{Data, depth}
use Rattle.serde_json.specs.Read.{read}
use Rattle.arm_value.specs.Json.{Json}
use Rattle.arm_value.specs.Reading.{reading, data_of, not_whole}
use Rattle.arm_value.specs.Fault.{Gives}

pub reading_some : (bytes : List ℕ) (d : Data) → IsUtf8 bytes → read bytes ≡ Some d → reading bytes ≡ Some d
reading_some bytes d u e = rw (is_utf8-from_IsUtf8 bytes u) e

none_by : (b : Bool) (bytes : List ℕ) → is_utf8 bytes ≡ b → (IsUtf8 bytes → read bytes ≡ None) → reading bytes ≡ None
none_by true bytes e h = rw e (h (IsUtf8-from_is_utf8 bytes e))
none_by false bytes e h = rw e refl

pub reading_none : (bytes : List ℕ) → (IsUtf8 bytes → read bytes ≡ None) → reading bytes ≡ None
reading_none bytes h = none_by _ bytes refl h

pub some_and : (o : Option Data) (d : Data) (P : Data → Type 0) → o ≡ Some d → P d → IsSomeAnd o P
some_and o d P e p = rw e p

pub gives : (o : Option Data) (d : Data) (j : Json) → o ≡ Some d → data_of j ≡ d → depth d ≤ 120 → not_whole d ≡ None
    → Gives o j
gives o d j e same n w = (e ∙ ap Some (sym same), rw same n, rw same w)
