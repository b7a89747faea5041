use Rattle.std.proofs.Common.{refl}
use Rattle.std.specs.Str.{chars}
use Rattle.resource_members.proofs.setting.required_members.Goals as goal

pub returns-then-is_deployment : goal.returns-then-is_deployment
unfolding chars
returns-then-is_deployment c = rw c.if-is_deployment.true refl

pub returns-else-is_deployment : goal.returns-else-is_deployment
unfolding chars
returns-else-is_deployment c = rw c.if-is_deployment.false refl
