-- Actions, some after others.
use Rattle.std.proofs.Common.{◌≡◌, ◌<◌, ℕ, List, [], ◌∷◌, ◌++◌, sym, ap, ◌∙◌, append-nil, length, set, Option, None}
use Rattle.std.proofs.Common.{Some}
use Rattle.dealer_trait.specs.Steps.{begin}
use Rattle.dealer_trait.specs.declared.book_fault.BookFault.{BookFault}
use Rattle.driver_loop.specs.Actions.{taken, if_own, end_of, step_by, hand_by, done_by, AreHands}
use Rattle.driver_loop.specs.Courses.{Resembles}
use Rattle.driver_loop.specs.Moments.{Moment}
use Rattle.driver_loop.specs.OpenJobs.{open_at, job_at, job_in, IsOfOpenJob}
use Rattle.driver_loop.specs.Runs.{Ran, IsFor, Tied}
use Rattle.driver_loop.specs.declared.action.Action.{Action}
use Rattle.driver_loop.specs.declared.action.Action.TheVariants.{Hand}
use Rattle.driver_loop.specs.declared.open_job.OpenJob.{OpenJob}
use Rattle.driver_loop.proofs.CourseLemmas.{goes_append, goes_one, goes_none}
use Rattle.driver_loop.proofs.EachLemmas.{each_one, each_none, each_chain}
use Rattle.driver_loop.proofs.TieLemmas.{here_set, else_set}
use Rattle.provider_trait.specs.Work.{Work}
use Rattle.seat_calls.specs.declared.done.Done.{Done}

pub ran_none : (m : Moment) → Ran m m []
ran_none m = record {
  steps = sym (append-nil m.steps) ∙ ap (λ x. m.steps ++ x) (sym (each_none (λ x. step_by x ∷ [])));
  received = sym (append-nil m.received) ∙ ap (λ x. m.received ++ x) (sym (each_none done_by));
  sent = λ k. sym (append-nil (m.sent k)) ∙ ap (λ x. m.sent k ++ x) (sym (each_none (hand_by k)));
  goes = λ k. goes_none Resembles k (job_at m.opens k);
}

pub ran_more : (m n p : Moment) (a b : List Action) → Ran m n a → Ran n p b → Ran m p (a ++ b)
ran_more m n p a b r s = record {
  steps = each_chain (λ x. step_by x ∷ []) a b m.steps n.steps p.steps r.steps s.steps;
  received = each_chain done_by a b m.received n.received p.received r.received s.received;
  sent = λ k. each_chain (hand_by k) a b (m.sent k) (n.sent k) (p.sent k) (r.sent k) (s.sent k);
  goes = λ k.
      goes_append Resembles k (job_at m.opens k) (job_at n.opens k) (job_at p.opens k) a b (r.goes k) (s.goes k);
}

module _ (m n : Moment) where
  -- a job is begun and sent to its free seat
  pub ran_hand : (job : Work) (k : ℕ) (o : OpenJob) → job.worker ≡ k → k < length m.opens → open_at m.opens k ≡ None
      → IsFor o job → n.steps ≡ m.steps ++ begin job ∷ [] → n.received ≡ m.received
      → ((j : ℕ) → n.sent j ≡ m.sent j ++ if_own j k job) → n.opens ≡ set m.opens k (Some o) → Ran m n (Hand job ∷ [])
  ran_hand job k o own low free for steps received sent opens = record {
    steps = steps ∙ ap (λ x. m.steps ++ x) (sym (each_one (λ x. step_by x ∷ []) (Hand job)));
    received =
        received ∙ sym (append-nil m.received) ∙ ap (λ x. m.received ++ x) (sym (each_one done_by (Hand job)));
    sent = λ j.
        sent j ∙ ap (λ i. m.sent j ++ if_own j i job) (sym own)
        ∙ ap (λ x. m.sent j ++ x) (sym (each_one (hand_by j) (Hand job)));
    goes = λ j. goes_one Resembles j (job_at m.opens j) (job_at n.opens j) (Hand job) (
      (λ e. let at : k ≡ j = sym own ∙ e in (
        ap (λ x. job_at m.opens x) (sym at) ∙ ap job_in free,
        ap (λ x. job_at n.opens x) (sym at) ∙ ap (λ x. job_at x k) opens
            ∙ ap job_in (here_set m.opens k (Some o) None low) ∙ ap (λ x. Some x) for.0,
      )),
      λ e.
          ap (λ x. job_at x j) opens
          ∙ ap job_in (else_set m.opens k j (Some o) None (λ x. e (own ∙ sym x))),
    );
  }

  -- a result of an open job is received
  pub ran_take : (d : Done) (refused : Option BookFault) → Tied m.steps m.opens → IsOfOpenJob m.opens d
      → n.steps ≡ m.steps ++ end_of d.job.task d.got refused ∷ [] → n.received ≡ m.received ++ d ∷ []
      → ((j : ℕ) → n.sent j ≡ m.sent j) → n.opens ≡ set m.opens d.worker None → Ran m n (taken d refused ∷ [])
  ran_take d refused tied of steps received sent opens =
      let r = tied.right d.worker of.1 of.2 in record {
        steps = steps ∙ ap (λ x. m.steps ++ x) (sym (each_one (λ x. step_by x ∷ []) (taken d refused)));
        received = received ∙ ap (λ x. m.received ++ x) (sym (each_one done_by (taken d refused)));
        sent = λ j.
            sent j ∙ sym (append-nil (m.sent j))
            ∙ ap (λ x. m.sent j ++ x) (sym (each_one (hand_by j) (taken d refused)));
        goes = λ j. goes_one Resembles j (job_at m.opens j) (job_at n.opens j) (taken d refused) (
          (λ e. (
            of.1.job.value,
            ap (λ x. job_at m.opens x) (sym e) ∙ ap job_in of.2,
            (sym of.3 ∙ r.task, sym of.4 ∙ r.act),
            ap (λ x. job_at n.opens x) (sym e) ∙ ap (λ x. job_at x d.worker) opens
                ∙ ap job_in (here_set m.opens d.worker None None of.0),
          )),
          λ e.
              ap (λ x. job_at x j) opens
              ∙ ap job_in (else_set m.opens d.worker j None None (λ x. e (sym x))),
        );
      }

pub hands_one : (job : Work) → AreHands (Hand job ∷ [])
unfolding AreHands
hands_one job = tt

pub hands_none : AreHands []
unfolding AreHands
hands_none = tt
