-- Each free seat is asked for.
use Rattle.std.proofs.Common.{◌≡◌, ◌<◌, Bool, true, not, ℕ, List, [], ◌∷◌, ◌++◌, refl, sym, ap, ◌∙◌, subst, length, set}
use Rattle.std.proofs.Common.{get_or, Option, None, Some, Result, Ok}
use Rattle.std.proofs.Math.ListN.{length-set}
use Rattle.std.proofs.lemmas.List.{get_or_default}
use Rattle.std.specs.Option.{is_some}
use Rattle.std.specs.declared.alloc.AllocError.{AllocError}
use Rattle.dealer_trait.specs.Steps.{AsksFor, begin, begun}
use Rattle.dealer_trait.specs.declared.dealer_step.DealerStep.{DealerStep}
use Rattle.dealer_trait.specs.declared.next.Next.{Next}
use Rattle.dealer_trait.specs.declared.next.Next.TheVariants.{Begun}
use Rattle.driver_loop.specs.Actions.{if_own, AreHands}
use Rattle.driver_loop.specs.Moments.{Moment}
use Rattle.driver_loop.specs.OpenJobs.{open_at}
use Rattle.driver_loop.specs.Runs.{Ran, IsFor, Tied}
use Rattle.driver_loop.specs.declared.action.Action.{Action}
use Rattle.driver_loop.specs.declared.action.Action.TheVariants.{Hand}
use Rattle.driver_loop.specs.declared.open_job.OpenJob.{OpenJob}
use Rattle.driver_loop.proofs.EachLemmas.{hands_append}
use Rattle.driver_loop.proofs.RunLemmas.{ran_more, ran_hand, hands_one}
use Rattle.driver_loop.proofs.TieLemmas.{tied_hand}
use Rattle.provider_trait.specs.Work.{Work}

-- what was asked for so far
abbrev pub Dealt : Moment → Moment → Type 0 → Type 0
Dealt m0 m ready = (length m.opens ≡ length m0.opens) × ready × Tied m.steps m.opens
    × (course : List Action) × AreHands course × Ran m0 m course

none_of : {A : Type 0} (o : Option A) (b : Bool) → is_some o ≡ not b → b ≡ true → o ≡ None
none_of None b e t = refl
none_of (Some x) b e t = absurd (subst (λ y. if_true (not y)) t (subst if_true e tt))
  where
    if_true : Bool → Type 0
    if_true true = Unit {0}
    if_true _ = ⊥

pub free_at : (l : List (Option OpenJob)) (k : ℕ) (x : Option OpenJob) (b : Bool) → k < length l
    → is_some (get_or l k x) ≡ not b → b ≡ true → open_at l k ≡ None
free_at l k x b low e t = get_or_default l k None x low ∙ none_of (get_or l k x) b e t

pub asked_begun : (worker : ℕ) (old new : List DealerStep) (r : Result Next AllocError) (n : Next) (job : Work)
    → r ≡ Ok n → n ≡ Begun job → AsksFor worker old new r
    → (job.worker ≡ worker) × (begun job.task old ≡ None) × (new ≡ old ++ begin job ∷ [])
asked_begun worker old new r n job e b a = subst (λ x. AsksFor worker old new x) (e ∙ ap (λ x. Ok x) b) a

module _ (m0 m n : Moment) where
  pub deal_hand : (ready ready' : Type 0) (job : Work) (k worker : ℕ) → Dealt m0 m ready → k < length m.opens
      → open_at m.opens k ≡ None → worker ≡ k
      → (job.worker ≡ worker) × (begun job.task m.steps ≡ None) × (n.steps ≡ m.steps ++ begin job ∷ [])
      → ((o : OpenJob) × IsFor o job × (n.opens ≡ set m.opens worker (Some o))) → ready'
      → ((j : ℕ) → n.sent j ≡ m.sent j ++ if_own j worker job) → n.received ≡ m.received → Dealt m0 n ready'
  deal_hand ready ready' job k worker was low free is asked opens now sent received =
      let o = opens.0 in
      let at : n.opens ≡ set m.opens k (Some o) = opens.2 ∙ ap (λ x. set m.opens x (Some o)) is in
      let own : job.worker ≡ k = asked.0 ∙ is in (
        ap length at ∙ length-set m.opens k (Some o) ∙ was.0,
        now,
        subst (λ (y : List DealerStep × List (Option OpenJob)). Tied y.0 y.1) (λ i. (sym asked.2 i, sym at i))
            (tied_hand m.steps m.opens was.2 k o job low free opens.1.0 opens.1.1 opens.1.2 own asked.1),
        was.3 ++ Hand job ∷ [],
        hands_append was.3 (Hand job ∷ []) was.4 (hands_one job),
        ran_more m0 m n was.3 (Hand job ∷ []) was.5
            (ran_hand m n job k o own low free opens.1 asked.2 received
            (λ j. sent j ∙ ap (λ x. m.sent j ++ if_own j x job) is) at),
      )
