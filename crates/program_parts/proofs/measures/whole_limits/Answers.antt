use Rattle.program_parts.specs.Measures.{program_extremes}
use Rattle.program_parts.proofs.MeasureLemmas.{of_limit}
use Rattle.program_parts.proofs.measures.whole_limits.Goals as goal

pub returns-in-Ok-clause-fits : goal.returns-in-Ok-clause-fits
returns-in-Ok-clause-fits c = c.limits.ensures.fits (program_extremes c.args.parts.now) c.in-Ok.ensures

pub returns-in-Ok-clause-fault : goal.returns-in-Ok-clause-fault
returns-in-Ok-clause-fault c =
    of_limit c.args.parts.now c.limits.result
    (c.limits.ensures.fault (program_extremes c.args.parts.now) c.in-Ok.ensures)
