use Rattle.emitted_sites.proofs.SiteLemmas.{answers, answers_variables}
use Rattle.emitted_sites.proofs.laws.sites_are_answered.Goals as goal

pub returns : goal.returns
returns c = record {
  cells = λ z d u m w x p q f at place e k. answers z d u m w x p q f at place e k;
  variables = λ z d u m w x p q f at place e k. answers_variables z d u m w x p q f at place e k;
}
