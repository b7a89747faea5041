use Rattle.std.proofs.Common.{ap}
use Rattle.plan_sight.specs.declared.lack.Lack.TheVariants as lack
use Rattle.plan_telling.proofs.TellLemmas.{stop_by, stopped}
use Rattle.point_sights.proofs.lacks.stopping.Goals as goal

pub returns-in-NotThere : goal.returns-in-NotThere
returns-in-NotThere c = λ t u h. stopped t c.args.lack lack.NoValue u (ap stop_by c.in-NotThere.is) h

pub returns-in-NoValue : goal.returns-in-NoValue
returns-in-NoValue c = λ t u h. stopped t c.args.lack lack.NoValue u (ap stop_by c.in-NoValue.is) h

pub returns-in-Line : goal.returns-in-Line
returns-in-Line c = λ t u h. stopped t c.args.lack (lack.Line c.in-Line.at) u (ap stop_by c.in-Line.is) h

pub returns-in-State : goal.returns-in-State
returns-in-State c = λ t u h. stopped t c.args.lack (lack.State c.in-State.key) u (ap stop_by c.in-State.is) h

pub returns-in-OutOfMemory : goal.returns-in-OutOfMemory
returns-in-OutOfMemory c = λ t u h. stopped t c.args.lack lack.OutOfMemory u (ap stop_by c.in-OutOfMemory.is) h
