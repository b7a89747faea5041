use Rattle.std.proofs.Common.{drop, sym, ◌∙◌, arith}
use Rattle.http_heads.proofs.FieldLemmas.{too_large}
use Rattle.http_heads.proofs.fields.sized.Goals as goal

pub returns-then-total-gt-MAX_BODY_BYTES : goal.returns-then-total-gt-MAX_BODY_BYTES
returns-then-total-gt-MAX_BODY_BYTES c =
    too_large c.args.value.now (drop c.loop-digit.digit-index c.args.value.now) c.loop-digit.total
    (sym c.is_number.ensures ∙ c.if-not-is_number.false) c.loop-digit.invariant.value (omega arith)
