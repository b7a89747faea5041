use Rattle.std.proofs.Common.{◌∙◌, ◌++◌, ap₂, sym}
use Rattle.std.proofs.lemmas.Str.{encodes-append}
use Rattle.arm_value.proofs.PointerLemmas.{text_is}
use Rattle.arm_value.proofs.path.Path.join.Goals as goal

pub returns : goal.returns
returns c =
    text_is _ _ (c.args.self.now ++ c.args.rest.now) c.from_string.ensures.bytes
    (c.in_ok-pointer.ensures.ok ∙ ap₂ (λ a b. a ++ b) c.as_str-above.ensures.bytes c.as_str-rest.ensures.bytes
    ∙ sym (encodes-append c.args.self.now c.args.rest.now))
