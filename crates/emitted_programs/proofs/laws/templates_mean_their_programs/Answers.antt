use Rattle.emitted_programs.proofs.ProgramLemmas.{program_law}
use Rattle.emitted_programs.proofs.laws.templates_mean_their_programs.Goals as goal

pub returns : goal.returns
returns c = λ z d u bound opening held m sound given holds same.
    program_law z d u bound opening held m sound given holds same
