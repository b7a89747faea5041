use Rattle.std.proofs.Common.{refl}
use Rattle.plan_assembly.proofs.WorkLemmas.{known_at_start}
use Rattle.plan_assembly.proofs.assembly.assemble.Goals as goal

pub returns-clause-planned : goal.returns-clause-planned
returns-clause-planned c = λ held h. record {
  sheet = c.requires.sheet;
  table = c.requires.table;
  whole = refl;
  is_start = known_at_start c.args.start.register.table c.requires.table;
  are_planned = h;
}
