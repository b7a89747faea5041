-- The work that the parts of a job say.
use Rattle.arm_value.specs.View.{json}
use Rattle.provider_trait.specs.FirstPart.{Assignment}
use Rattle.provider_trait.specs.Work.{Work, work_for}
use Rattle.provider_trait.specs.declared.job.JobParts.{JobParts}

-- what the parts assign
abbrev pub assigned : JobParts → Assignment
assigned p = record { api = p.api; body = json p.body; id = p.id; task = p.task; worker = p.worker }

-- the work of these parts
abbrev pub work_of : JobParts → Work
work_of p = work_for p.act (assigned p)
