use Rattle.arm_env.proofs.KeyLemmas.{same_key}
use Rattle.arm_env.proofs.find.is_key.Goals as goal

pub returns : goal.returns
returns c = same_key c.same.result c.args.key.now c.args.other.now c.same.ensures
