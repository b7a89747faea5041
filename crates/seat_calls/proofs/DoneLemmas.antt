-- Calls of seats, one after another.
use Rattle.std.proofs.Common.{arith, Bool, true, false, cond, eqb, ◌||◌, ◌≡◌, ◌≢◌, ◌≤◌, ℕ, suc, List, [], ◌∷◌, ◌++◌}
use Rattle.std.proofs.Common.{refl, sym, ap, ◌∙◌, append_assoc, append-nil, length, eq-eqb, ne_eqb, Result, Ok, Err}
use Rattle.std.specs.Prelude.{IfOk}
use Rattle.arm_edges.specs.Faults.{Rose}
use Rattle.provider_trait.specs.Calls.{AddsCall, Counts}
use Rattle.provider_trait.specs.Work.{Work}
use Rattle.provider_trait.specs.declared.answer.Answer.{Answer}
use Rattle.provider_trait.specs.declared.answer.ProviderFault.{ProviderFault}
use Rattle.provider_trait.specs.declared.answer.ProviderFault.TheVariants.{Fault, OutOfMemory}
use Rattle.provider_trait.specs.declared.call.Call.{Call}
use Rattle.seat_calls.specs.declared.done.Done.{Done}
use Rattle.seat_calls.specs.Called.{Kind, MayGive, Called}
use Rattle.seat_calls.specs.Dones.{of, calls_of, jobs_of, reported, is_failure, has_failure, AllMay, Made}
use Rattle.foundation.proofs.TruthValues.{or_assoc, or_false, impossible}

cond_append : (b : Bool) (d : Done) (l m : List Done) → cond b (d ∷ (l ++ m)) (l ++ m) ≡ cond b (d ∷ l) l ++ m
cond_append true d l m = refl
cond_append false d l m = refl

pub of_append : (k : ℕ) (l m : List Done) → of k (l ++ m) ≡ of k l ++ of k m
unfolding of
of_append k [] m = refl
of_append k (d ∷ l) m = ap (λ t. cond (eqb d.worker k) (d ∷ t) t) (of_append k l m)
    ∙ cond_append (eqb d.worker k) d (of k l) (of k m)

pub of_none : (k : ℕ) → of k [] ≡ []
unfolding of
of_none k = refl

pub of_own : (k : ℕ) (d : Done) (l : List Done) → d.worker ≡ k → of k (d ∷ l) ≡ d ∷ of k l
unfolding of
of_own k d l e = ap (λ b. cond b (d ∷ of k l) (of k l)) (eq-eqb d.worker k e)

pub of_other : (k : ℕ) (d : Done) (l : List Done) → d.worker ≢ k → of k (d ∷ l) ≡ of k l
unfolding of
of_other k d l e = ap (λ b. cond b (d ∷ of k l) (of k l)) (ne_eqb d.worker k e)

-- those of one seat, of one that is of it or is not
pub of_one : (k : ℕ) (d : Done) → of k (d ∷ []) ≡ cond (eqb d.worker k) (d ∷ []) []
unfolding of
of_one k d = refl

pub jobs_append : (l m : List Done) → jobs_of (l ++ m) ≡ jobs_of l ++ jobs_of m
unfolding jobs_of
jobs_append [] m = refl
jobs_append (d ∷ l) m = ap (λ t. d.job ∷ t) (jobs_append l m)

pub jobs_cons : (d : Done) (l : List Done) → jobs_of (d ∷ l) ≡ d.job ∷ jobs_of l
unfolding jobs_of
jobs_cons d l = refl

pub jobs_none : jobs_of [] ≡ []
unfolding jobs_of
jobs_none = refl

pub jobs_length : (l : List Done) → length (jobs_of l) ≡ length l
unfolding jobs_of
jobs_length [] = refl
jobs_length (d ∷ l) = ap suc (jobs_length l)

calls_append : (l m : List Done) → calls_of (l ++ m) ≡ calls_of l ++ calls_of m
unfolding calls_of
calls_append [] m = refl
calls_append (d ∷ l) m =
    ap (λ t. reported d.job d.got ++ t) (calls_append l m)
    ∙ sym (append_assoc (reported d.job d.got) (calls_of l) (calls_of m))

calls_one : (d : Done) → calls_of (d ∷ []) ≡ reported d.job d.got
unfolding calls_of
calls_one d = append-nil (reported d.job d.got)

calls_none : calls_of [] ≡ []
unfolding calls_of
calls_none = refl

failure_append : (l m : List Done) → has_failure (l ++ m) ≡ (has_failure l || has_failure m)
unfolding has_failure
failure_append [] m = refl
failure_append (d ∷ l) m =
    ap (λ t. is_failure d.got || t) (failure_append l m)
    ∙ sym (or_assoc (is_failure d.got) (has_failure l) (has_failure m))

failure_one : (d : Done) → has_failure (d ∷ []) ≡ is_failure d.got
unfolding has_failure
failure_one d = or_false (is_failure d.got)

pub failure_cons : (d : Done) (l : List Done) → has_failure (d ∷ l) ≡ (is_failure d.got || has_failure l)
unfolding has_failure
failure_cons d l = refl

pub failure_none : has_failure [] ≡ false
unfolding has_failure
failure_none = refl

may_more : (may : Kind) (l : List Done) (d : Done) → AllMay may l → IfOk d.got (MayGive may d.job)
    → AllMay may (l ++ d ∷ [])
unfolding AllMay
may_more may [] d a m = (m, tt)
may_more may (x ∷ l) d a m = (a.0, may_more may l d a.1 m)

may_none : (may : Kind) → AllMay may []
unfolding AllMay
may_none may = tt

later : (before was now : ℕ) (got : Result Answer ProviderFault) → before ≤ was → Counts was now got
    → (before ≤ now) × (was ≤ now)
later before was now (Ok a) l c = (omega arith, omega arith)
later before was now (Err Fault) l c = let c0 = c.0 in (omega arith, c.0)
later before was now (Err OutOfMemory) l c = (omega arith, omega arith)

rises : (before was now : ℕ) (h : Bool) (got : Result Answer ProviderFault) → before ≤ was
    → (h ≡ true → Rose before was)
    → Counts was now got → (h || is_failure got) ≡ true → Rose before now
rises before was now true got l r c t = let a = r refl in let b = (later before was now got l c).1 in omega arith
rises before was now false (Ok a) l r c t = impossible t
rises before was now false (Err Fault) l r c t = let a = c.1 in omega arith
rises before was now false (Err OutOfMemory) l r c t = impossible t

adds : (old new : List Call) (job : Work) (got : Result Answer ProviderFault) → AddsCall old new job got
    → new ≡ old ++ reported job got
adds old new job (Ok answer) a = a
adds old new job (Err Fault) a = a
adds old new job (Err OutOfMemory) a = a ∙ sym (append-nil old)

module _ {P : Type 0} (may : Kind) (tells : Bool) (calls : P → List Call) (faults : P → ℕ) where
  -- one more call
  pub made_more : (before was after : P) (dones : List Done) (d : Done) → Made may tells calls faults before was dones
      → Called may tells calls faults was after d.job d.got → Made may tells calls faults before after (dones ++ d ∷ [])
  made_more before was after dones d m c = record {
    report = λ yes.
        adds (calls was) (calls after) d.job d.got (c.report yes) ∙ ap (λ x. x ++ reported d.job d.got) (m.report yes)
        ∙ append_assoc (calls before) (calls_of dones) (reported d.job d.got)
        ∙ ap (λ x. calls before ++ x)
        (ap (λ x. calls_of dones ++ x) (sym (calls_one d)) ∙ sym (calls_append dones (d ∷ [])));
    kept = (later (faults before) (faults was) (faults after) d.got m.kept c.count).0;
    rose = λ h.
        rises (faults before) (faults was) (faults after) (has_failure dones) d.got m.kept m.rose c.count
        (ap (λ x. has_failure dones || x) (sym (failure_one d)) ∙ sym (failure_append dones (d ∷ [])) ∙ h);
    fits = may_more may dones d m.fits c.fits;
  }

  -- impossible call
  pub made_none : (before : P) → Made may tells calls faults before before []
  made_none before = record {
    report = λ yes. sym (append-nil (calls before)) ∙ ap (λ x. calls before ++ x) (sym calls_none);
    kept = omega arith;
    rose = λ h. impossible (sym failure_none ∙ h);
    fits = may_none may;
  }
