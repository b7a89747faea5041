use Rattle.arm_expr.proofs.CountLemmas.{no_longer}
use Rattle.arm_expr.proofs.characters.is_longer.Goals as goal

pub returns-else-text-most : goal.returns-else-text-most
returns-else-text-most c = no_longer c.args.most c.args.text.now c.utf8.text c.if-text-most.false
