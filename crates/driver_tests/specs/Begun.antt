-- The act of the job that is begun of a task.
use Rattle.std.specs.Prelude.{Option, Some, None}
use Rattle.provider_trait.specs.Work.{Work}
use Rattle.provider_trait.specs.declared.act.Act.{Act}

abbrev pub act_of : Option Work → Option Act
act_of None = None
act_of (Some job) = Some job.act
