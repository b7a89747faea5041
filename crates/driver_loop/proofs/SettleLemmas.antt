-- A result of an open job is settled.
use Rattle.std.proofs.Common.{arith, Bool, true, false, cond, eqb, ◌≡◌, ◌≤◌, ℕ, List, [], ◌∷◌, ◌++◌, refl, sym, ap, ◌∙◌}
use Rattle.std.proofs.Common.{subst, append-nil, set, Option, None, Some, Result, Ok, Err}
use Rattle.std.specs.Prelude.{IfOk}
use Rattle.arm_edges.specs.Faults.{Rose}
use Rattle.dealer_trait.specs.Books.{Notes, Refuses, CountsFaults, Breaks, first_after}
use Rattle.dealer_trait.specs.Steps.{begun, begun_after, IsBegun, MayAnswer}
use Rattle.dealer_trait.specs.declared.book_fault.BookFault.{BookFault}
use Rattle.dealer_trait.specs.declared.book_fault.BookFault.TheVariants.{Full, DiskFault, MustReopen}
use Rattle.dealer_trait.specs.declared.dealer_step.DealerStep.{DealerStep}
use Rattle.driver_loop.specs.Actions.{taken, end_of, note_by, noted, refusals_of, refusal_by, refused_by}
use Rattle.driver_loop.specs.Moments.{Pages}
use Rattle.driver_loop.specs.OpenJobs.{IsOfOpenJob, IsOpenFor}
use Rattle.driver_loop.specs.Runs.{Tied, Wrote, Rises, BreaksBy, first_in, has_disk_fault}
use Rattle.driver_loop.specs.declared.open_job.OpenJob.{OpenJob}
use Rattle.driver_loop.proofs.EachLemmas.{each_one}
use Rattle.driver_loop.proofs.TieLemmas.{tied_end}
use Rattle.provider_trait.specs.Answer.{Suits}
use Rattle.provider_trait.specs.Work.{Work}
use Rattle.provider_trait.specs.declared.answer.Answer.{Answer}
use Rattle.provider_trait.specs.declared.answer.ProviderFault.{ProviderFault}
use Rattle.seat_calls.specs.declared.done.Done.{Done}
use Rattle.foundation.specs.Options.{or_else}

module _ (steps : List DealerStep) (opens : List (Option OpenJob)) (d : Done) (tied : Tied steps opens)
    (own : IsOfOpenJob opens d) where
  pub open_for : IsOpenFor steps d
  open_for = (
    own.1.job.value,
    ap (λ t. begun t steps) (sym own.3) ∙ (tied.right d.worker own.1 own.2).open_there,
    sym (tied.right d.worker own.1 own.2).act ∙ own.4,
  )

  pub tied_settled : (s : DealerStep)
      → ((t : ℕ) (b : Option Work) → begun_after t b s ≡ cond (eqb d.job.task t) None b)
      → Tied (steps ++ s ∷ []) (set opens d.worker None)
  tied_settled s ends =
      tied_end steps opens tied d.worker own.1 s own.0 own.2
      (λ t b. ends t b ∙ ap (λ n. cond (eqb n t) None b) (sym own.3))

-- each end of a Begin closes it
pub end_closes : (task : ℕ) (got : Result Answer ProviderFault) (refused : Option BookFault) (t : ℕ) (b : Option Work)
    → begun_after t b (end_of task got refused) ≡ cond (eqb task t) None b
end_closes task (Ok a) None t b = refl
end_closes task (Ok a) (Some r) t b = refl
end_closes task (Err e) r t b = refl

pub is_begun : (steps : List DealerStep) (d : Done) → IsOpenFor steps d → IsBegun d.job.task steps
is_begun steps d o = (o.0, o.1)

pub may_answer : (steps : List DealerStep) (d : Done) → IsOpenFor steps d → (a : Answer) → d.got ≡ Ok a
    → MayAnswer d.job.task a steps
may_answer steps d o a is =
    (o.0, o.1, subst (λ act. Suits act a) (sym o.2) (subst (λ g. IfOk g (Suits d.job.act)) is d.suits))

disk_none : has_disk_fault [] ≡ false
unfolding has_disk_fault
disk_none = refl

pub no_disk_fault : {A : Type 0} (l : List BookFault) → l ≡ [] → has_disk_fault l ≡ true → A
no_disk_fault l n e = let b : false ≡ true = sym disk_none ∙ ap has_disk_fault (sym n) ∙ e in cc

pub breaks_none : (was is : Bool) → is ≡ was → BreaksBy was [] is
unfolding BreaksBy
breaks_none was is e = e

-- a note that was refused
disk_one : (x : BookFault) (a b : ℕ) → CountsFaults a b (Err x)
    → (a ≤ b) × (has_disk_fault (x ∷ []) ≡ true → Rose a b)
unfolding has_disk_fault
disk_one (Full length needed) a b c = (c, λ e. cc)
disk_one DiskFault a b c = (c.0, λ e. c.1)
disk_one MustReopen a b c = (c, λ e. cc)

breaks_one : (x : BookFault) (was is : Bool) → Breaks was is (Err x) → BreaksBy was (x ∷ []) is
unfolding BreaksBy
breaks_one (Full length needed) was is h = h
breaks_one DiskFault was is h = h
breaks_one MustReopen was is h = h

module _ (tells : Bool) (p q : Pages) (d : Done) where
  pub wrote_ok : (a : Answer) → d.got ≡ Ok a → (tells ≡ true → Notes p.notes q.notes d.job a (Ok tt))
      → Refuses p.refusals q.refusals (Ok tt) → q.first ≡ first_after p.first (Ok tt)
      → CountsFaults p.faults q.faults (Ok tt) → Breaks p.broken q.broken (Ok tt) → Wrote tells p q (taken d None ∷ [])
  wrote_ok a is report count first faults breaks =
      let none : refusals_of (taken d None ∷ []) ≡ []
      = each_one refusal_by (taken d None) ∙ ap (λ g. refused_by g None) is in record {
        report = λ t.
            report t
            ∙ ap (λ x. p.notes ++ x) (sym (each_one note_by (taken d None) ∙ ap (λ g. noted d.job g None) is));
        count = subst (λ x. Rises p.refusals q.refusals x) (sym none) count;
        first = first ∙ kept p.first ∙ ap (λ x. or_else p.first (first_in x)) (sym none);
        kept = faults;
        rose = no_disk_fault (refusals_of (taken d None ∷ [])) none;
        breaks = subst (λ x. BreaksBy p.broken x q.broken) (sym none)
            (breaks_none p.broken q.broken (breaks.1 ∙ sym breaks.0));
      }
    where
      kept : (f : Option BookFault) → first_after f (Ok tt) ≡ or_else f None
      kept None = refl
      kept (Some g) = refl

  pub wrote_err : (a : Answer) (x : BookFault) → d.got ≡ Ok a
      → (tells ≡ true → Notes p.notes q.notes d.job a (Err x)) → Refuses p.refusals q.refusals (Err x)
      → q.first ≡ first_after p.first (Err x) → CountsFaults p.faults q.faults (Err x)
      → Breaks p.broken q.broken (Err x) → Wrote tells p q (taken d (Some x) ∷ [])
  wrote_err a x is report count first faults breaks =
      let one : refusals_of (taken d (Some x) ∷ []) ≡ x ∷ []
      = each_one refusal_by (taken d (Some x)) ∙ ap (λ g. refused_by g (Some x)) is in
      let c = disk_one x p.faults q.faults faults in record {
        report = λ t.
            report t ∙ sym (append-nil p.notes)
            ∙ ap (λ y. p.notes ++ y)
            (sym (each_one note_by (taken d (Some x)) ∙ ap (λ g. noted d.job g (Some x)) is));
        count = subst (λ y. Rises p.refusals q.refusals y) (sym one) count;
        first = first ∙ kept p.first ∙ ap (λ y. or_else p.first (first_in y)) (sym one);
        kept = c.0;
        rose = subst (λ y. has_disk_fault y ≡ true → Rose p.faults q.faults) (sym one) c.1;
        breaks = subst (λ y. BreaksBy p.broken y q.broken) (sym one) (breaks_one x p.broken q.broken breaks);
      }
    where
      kept : (f : Option BookFault) → first_after f (Err x) ≡ or_else f (Some x)
      kept None = refl
      kept (Some g) = refl

-- a call that gave no answer is not noted
pub wrote_none : (tells : Bool) (p : Pages) (d : Done) (e : ProviderFault) → d.got ≡ Err e
    → Wrote tells p p (taken d None ∷ [])
wrote_none tells p d e is =
    let none : refusals_of (taken d None ∷ []) ≡ []
    = each_one refusal_by (taken d None) ∙ ap (λ g. refused_by g None) is in record {
      report = λ t.
          sym (append-nil p.notes)
          ∙ ap (λ x. p.notes ++ x) (sym (each_one note_by (taken d None) ∙ ap (λ g. noted d.job g None) is));
      count = subst (λ x. Rises p.refusals p.refusals x) (sym none) refl;
      first = kept p.first ∙ ap (λ x. or_else p.first (first_in x)) (sym none);
      kept = omega arith;
      rose = no_disk_fault (refusals_of (taken d None ∷ [])) none;
      breaks = subst (λ x. BreaksBy p.broken x p.broken) (sym none) (breaks_none p.broken p.broken refl);
    }
  where
    kept : (f : Option BookFault) → f ≡ or_else f None
    kept None = refl
    kept (Some g) = refl
