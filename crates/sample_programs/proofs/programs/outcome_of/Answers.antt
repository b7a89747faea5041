use Rattle.sample_programs.proofs.ProgramLemmas.{loaded}
use Rattle.sample_programs.proofs.programs.outcome_of.Goals as goal

pub emitted-outcome-requires : goal.emitted-outcome-requires
emitted-outcome-requires c = loaded _ _ c.in-Ok.program c.in-Ok.ensures.program
