use Rattle.std.proofs.Common.{refl}
use Rattle.std.specs.Str.{chars}
use Rattle.template_members.proofs.argument.argument_members.Goals as goal

pub returns-then-looped : goal.returns-then-looped
unfolding chars
returns-then-looped c = rw c.if-looped.true refl

pub returns-else-looped : goal.returns-else-looped
unfolding chars
returns-else-looped c = rw c.if-looped.false refl
