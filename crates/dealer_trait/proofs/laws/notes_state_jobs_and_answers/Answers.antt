use Rattle.dealer_trait.proofs.NoteLemmas.{one_job_and_answer}
use Rattle.dealer_trait.proofs.laws.notes_state_jobs_and_answers.Goals as goal

pub returns : goal.returns
returns c = one_job_and_answer
