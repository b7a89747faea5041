use Rattle.std.proofs.Common.{◌≡◌, ◌∙◌, ◌++◌, ap, chars, decimal, subst, IfOk, arith}
use Rattle.arm_value.specs.Pointer.{step}
use Rattle.std.proofs.lemmas.Str.{chars-IsAscii}
use Rattle.std.proofs.lemmas.Fmt.{IsAscii-decimal}
use Rattle.arm_value.proofs.path.Path.item.Goals as goal

pub returns : goal.returns
returns c =
    let spelled : chars c.as_str.result.now ≡ decimal c.args.place =
    ap chars (c.as_str.ensures.value ∙ c.in_ok-place.ensures.ok)
    ∙ chars-IsAscii (decimal c.args.place) (IsAscii-decimal c.args.place (omega arith)) in
    subst (λ s. IfOk c.below.result (λ p. p ≡ c.args.self.now ++ step s)) spelled c.below.ensures
