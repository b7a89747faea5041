use Rattle.std.proofs.Common.{◌≡◌, ℤ, pos, negsuc, Some, SFits, w64, to_z-of_z, refl, ap, ◌∙◌, arith}
use mir.Val.{to_z, of_z}
use Rattle.std.proofs.lemmas.Result.{on_ok_weaker}
use Rattle.std.specs.Fmt.{signed_decimal}
use Rattle.serde_json.specs.Find.{of_integer}
use Rattle.serde_json.specs.Read.{number_of}
use Rattle.serde_json.specs.Written.{number_text}
use Rattle.serde_json.proofs.Numbers.{number_of-decimal, number_of-negative}
use Rattle.serde_json.proofs.Texts.{unless_float-number_of}
use Rattle.arm_value.proofs.WriteLemmas.{no_float}
use Rattle.arm_value.proofs.write.write_int.Goals as goal

reads : (z : ℤ) → SFits w64 z → number_of (signed_decimal z) ≡ Some (of_integer z)
reads (pos n) fits = number_of-decimal n (grind arith)
reads (negsuc n) fits = number_of-negative n (grind arith)

same_text : (z : ℤ) → signed_decimal z ≡ number_text (of_integer z)
same_text (pos n) = refl
same_text (negsuc n) = refl

pub returns-clause-ok : goal.returns-clause-ok
returns-clause-ok c =
    let z = c.args.n in
    let text : signed_decimal (to_z w64 (of_z w64 z)) ≡ signed_decimal z = ap signed_decimal (to_z-of_z c.ranges.n) in
    let read = ap number_of text ∙ reads z c.ranges.n in
    on_ok_weaker c.i64.result
    (λ e. (_, e, read, rw (unless_float-number_of _ _ read, no_float z) (text ∙ same_text z))) c.i64.ensures.ok
