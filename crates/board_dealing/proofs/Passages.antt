-- Scopes are entered and left one after another, each time the first that may be.
use Rattle.std.proofs.Common.{◌≡◌, ℕ, ◌<◌, List, [], ◌∷◌, ◌++◌, refl, sym, ap, subst, ◌∙◌}
use Rattle.std.specs.Prelude.{Result, Ok, Err}
use Rattle.std.specs.declared.alloc.AllocError.{AllocError}
use Rattle.std.proofs.lemmas.List.{append_assoc, append-nil}
use Rattle.deploy_histories.specs.Planned.{Planned}
use Rattle.deploy_histories.specs.Events.{Event, Progress, progress, after, after_all, at_opening}
use Rattle.deploy_histories.specs.Answers.{IsScopeEvent, IsSettled, Settles}
use Rattle.deploy_histories.specs.Legal.{May}
use Rattle.board_dealing.specs.Boards.{ArePasses, HasPassed, HasSettled, HasPassedOne}

pub after_all_both : (es fs : List Event) (p : Progress) → after_all (es ++ fs) p ≡ after_all fs (after_all es p)
after_all_both [] fs p = refl
after_all_both (e ∷ es) fs p = after_all_both es fs (after e p)

-- where history goes on by these events, it has come as far as they lead
pub progress_by : (old new es : List Event) → new ≡ old ++ es → progress new ≡ after_all es (progress old)
progress_by old new es i = ap (λ (h : List Event). progress h) i ∙ after_all_both old es at_opening

-- the same of a plan by another name
pub passed_as : (x y : Planned) (h g : List Event) → y ≡ x → HasPassed y h g → HasPassed x h g
passed_as x y h g e p = subst (λ (z : Planned). HasPassed z h g) e p

module _ (x : Planned) where
  passes_both : (p : Progress) (es fs : List Event) → ArePasses x p es → ArePasses x (after_all es p) fs
      → ArePasses x p (es ++ fs)
  passes_both p [] fs a b = b
  passes_both p (e ∷ es) fs a b = (a.0, passes_both (after e p) es fs a.1 b)

  settles_by : (p : Progress) (es : List Event) → ArePasses x p es → IsSettled x (after_all es p) → Settles x p es
  settles_by p [] a s = s
  settles_by p (e ∷ es) a s = (a.0, settles_by (after e p) es a.1 s)

  pub none_passed : (h : List Event) → HasPassed x h h
  none_passed h = record { events = []; are_passes = tt; are = sym (append-nil h) }

  pub passed_then : (h g k : List Event) → HasPassed x h g → HasPassed x g k → HasPassed x h k
  passed_then h g k p q = record {
    events = p.events ++ q.events;
    are_passes = passes_both (progress h) p.events q.events p.are_passes
        (subst (λ (r : Progress). ArePasses x r q.events) (progress_by h g p.events p.are) q.are_passes);
    are = q.are ∙ ap (λ (l : List Event). l ++ q.events) p.are ∙ append_assoc h p.events q.events;
  }

  -- the scope of the task was entered or left, and none of an earlier task might be
  pub passed_first : (u : ℕ) (h g : List Event) (r : Result (Unit {0}) AllocError)
      → ((v : ℕ) (f : Event) → IsScopeEvent v f → v < u → May x (progress h) f → ⊥)
      → HasPassedOne x u h g r → HasPassed x h g
  passed_first u h g (Ok done) first o = record {
    events = o.0 ∷ [];
    are_passes = (record { number = u; is_scope = o.1.0.0; may = o.1.0.1; is_first = first }, tt);
    are = o.1.1;
  }
  passed_first u h g (Err refused) first o = subst (λ (l : List Event). HasPassed x h l) (sym o) (none_passed h)

  -- the events after the old ones, by which the scopes were entered and left
  pub record SettlesBy (old new : List Event) : Type 0 where
    pub scopes : List Event
    pub settles : Settles x (progress old) scopes
    pub are : new ≡ old ++ scopes

  pub settles_so : (old new : List Event) → HasSettled x old new → SettlesBy old new
  settles_so old new s = record {
    scopes = s.has_passed.events;
    settles = settles_by (progress old) s.has_passed.events s.has_passed.are_passes
        (subst (λ (p : Progress). IsSettled x p) (progress_by old new s.has_passed.events s.has_passed.are)
        s.is_settled);
    are = s.has_passed.are;
  }
