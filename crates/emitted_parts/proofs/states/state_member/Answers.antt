use Rattle.std.proofs.Common.{refl}
use Rattle.emitted_parts.proofs.states.state_member.Goals as goal

pub returns : goal.returns
returns c = λ a i.
    c.plain_member.ensures _ (c.call_three-whole.ensures refl a _ _ i c.text.ensures (c.word.ensures refl))
