use Rattle.std.proofs.Common.{◌≡◌, ◌∙◌, ◌++◌, chars, subst, IfOk}
use Rattle.std.proofs.lemmas.Str.{encodes-chars}
use Rattle.arm_value.specs.Pointer.{step, token}
use Rattle.arm_value.proofs.PointerLemmas.{text_is}
use Rattle.arm_value.proofs.path.Path.member.Goals as goal

pub returns : goal.returns
returns c =
    let spelled : chars c.as_str.result.now ≡ token (chars c.args.name.now) =
    text_is _ _ _ (encodes-chars c.as_str.result.now c.as_str.utf8) (c.as_str.ensures.value
    ∙ c.in_ok-name.ensures) in
    subst (λ s. IfOk c.below.result (λ p. p ≡ c.args.self.now ++ step s)) spelled c.below.ensures
