use Rattle.std.proofs.Common.{◌≡◌, codes, true, false, refl, sym, ap, ◌∙◌}
use Rattle.arm_value.specs.Look.{is_same_folded}
use Rattle.arm_env.proofs.Words.{word_Full}
use Rattle.expression_values.proofs.strict.asked_by.Goals as goal

pub returns-then-equals_ignore_case : goal.returns-then-equals_ignore_case
returns-then-equals_ignore_case c =
    let n = c.args.full.now in
    let one : is_same_folded (codes "Full") n ≡ true =
    ap (λ w. is_same_folded w n) (sym word_Full) ∙ sym c.equals_ignore_case.ensures ∙ c.if-equals_ignore_case.true in
    rw one refl

pub returns-else-equals_ignore_case : goal.returns-else-equals_ignore_case
returns-else-equals_ignore_case c =
    let n = c.args.full.now in
    let one : is_same_folded (codes "Full") n ≡ false =
    ap (λ w. is_same_folded w n) (sym word_Full) ∙ sym c.equals_ignore_case.ensures ∙ c.if-equals_ignore_case.false in
    rw one refl
