use Rattle.emitted_resources.proofs.LimitLemmas.{members_fit}
use Rattle.emitted_resources.proofs.laws.measured_members_fit.Goals as goal

pub returns : goal.returns
returns c = λ s n b around h. members_fit s n b around h
