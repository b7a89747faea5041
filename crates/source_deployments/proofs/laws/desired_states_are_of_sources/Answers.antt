use Rattle.source_deployments.proofs.SourceLemmas.{sources_of}
use Rattle.source_deployments.proofs.laws.desired_states_are_of_sources.Goals as goal

pub returns : goal.returns
returns c =
    sources_of c.read_and_checked_programs_are_sound.ensures c.source_files_are_of_texts.ensures.file
    c.desired_states_are_the_same.ensures.no_others
