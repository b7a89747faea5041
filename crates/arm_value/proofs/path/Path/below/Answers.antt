use Rattle.std.proofs.Common.{◌∙◌, ◌++◌, chars}
use Rattle.arm_value.specs.Pointer.{step}
use Rattle.arm_value.proofs.PointerLemmas.{text_is, below_bytes}
use Rattle.arm_value.proofs.path.Path.below.Goals as goal

pub returns : goal.returns
returns c =
    text_is _ _ (c.args.self.now ++ step (chars c.args.spelled.now)) c.from_string.ensures.bytes
    (c.in_ok-pointer.ensures.ok
    ∙ below_bytes c.args.self.now (chars c.args.spelled.now) _ c.args.spelled.now c.utf8.spelled
    c.as_str-above.ensures.bytes)
