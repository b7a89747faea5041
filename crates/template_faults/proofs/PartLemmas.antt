-- Arrays and objects that have parts, and names that have bytes.
use Rattle.std.proofs.Common.{◌≡◌, ◌≤◌, ℕ, Bool, List, [], ◌∷◌, length, map, false, ap, arith}
use Rattle.arm_value.specs.Json.{Json, Member, array, row, object, pairs}
use Rattle.arm_value.specs.View.{json, member}
use Rattle.arm_value.specs.declared.value.Field.{Field}
use Rattle.arm_value.specs.declared.value.Value.{Value}
use Rattle.std.specs.List.{list_all}
use Rattle.template_faults.specs.Faults.{is_symbol_byte, spell_symbol}
use Rattle.template_faults.specs.Header.{is_empty}

pub some_items : (vs : List Value) (js : List Json) → map json vs ≡ js → 1 ≤ length vs
    → false ≡ is_empty (array (row js))
some_items [] js e h = absurd (omega arith)
some_items (v ∷ vs) js e h = ap (λ js. is_empty (array (row js))) e

pub some_members : (fs : List Field) (ms : List Member) → map member fs ≡ ms → 1 ≤ length fs
    → false ≡ is_empty (object (pairs ms))
some_members [] ms e h = absurd (omega arith)
some_members (f ∷ fs) ms e h = ap (λ ms. is_empty (object (pairs ms))) e

-- one or more bytes spell a symbolic name where each of them may be in one
pub spelled : (bs : List ℕ) → 1 ≤ length bs → (b : Bool) → b ≡ list_all is_symbol_byte bs → b ≡ spell_symbol bs
spelled [] h b e = absurd (omega arith)
spelled (c ∷ cs) h b e = e
