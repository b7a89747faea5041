-- What is begun after one step more.
use Rattle.std.proofs.Common.{◌≡◌, ℕ, List, [], ◌∷◌, ◌++◌, Option, None, Some, refl}
use Rattle.std.proofs.lemmas.Option.{same_Some}
use Rattle.provider_trait.specs.Work.{Work}
use Rattle.provider_trait.specs.Answer.{Suits}
use Rattle.provider_trait.specs.declared.act.Act.{Act}
use Rattle.provider_trait.specs.declared.act.Act.TheVariants.{Put, Delete}
use Rattle.provider_trait.specs.declared.answer.Answer.TheVariants.{Gone, Refused}
use Rattle.dealer_trait.specs.declared.dealer_step.DealerStep.{DealerStep}
use Rattle.dealer_trait.specs.Steps.{begun_after, begun_from}
use Rattle.driver_tests.specs.Begun.{act_of}

pub begun_from-push : (task : ℕ) (was : Option Work) (steps : List DealerStep) (step : DealerStep)
    → begun_from task was (steps ++ step ∷ []) ≡ begun_after task (begun_from task was steps) step
unfolding begun_from
begun_from-push task was [] step = refl
begun_from-push task was (s ∷ rest) step = begun_from-push task (begun_after task was s) rest step

-- where an act is begun, a job with this act is
pub record IsBegunAs (was : Option Work) (act : Act) : Type 0 where
  pub job : Work
  pub is : was ≡ Some job
  pub act_is : job.act ≡ act

pub begun_as : (was : Option Work) (act : Act) → act_of was ≡ Some act → IsBegunAs was act
begun_as None act e = absurd (cc)
begun_as (Some job) act e = record { job = job; is = refl; act_is = same_Some job.act act e }

pub suits_refused : (act : Act) (code : List ℕ) → Suits act (Refused code)
suits_refused Put code = tt
suits_refused Delete code = tt

pub suits_gone : (act : Act) → act ≡ Delete → Suits act Gone
suits_gone Put e = absurd (cc)
suits_gone Delete e = tt
