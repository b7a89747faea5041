use Rattle.arm_ids.proofs.IdLemmas.{joined_none}
use Rattle.module_links.proofs.paths.joined.Goals as goal

pub returns-in_default : goal.returns-in_default
returns-in_default c = joined_none c.of.result c.args.segments.now c.in_default.len_below c.of.ensures
