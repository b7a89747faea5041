-- The course of one seat.
use Rattle.std.proofs.Common.{ℕ, List, [], ◌∷◌, ◌++◌, refl, subst, Option}
use Rattle.provider_trait.specs.Work.{Work}
use Rattle.seat_calls.specs.declared.done.Done.{Done}
use Rattle.driver_loop.specs.declared.action.Action.{Action}
use Rattle.driver_loop.specs.Courses.{Goes, Moves}

module _ (Fits : Done → Work → Type 0) (k : ℕ) where
  pub goes_append : (o m p : Option Work) (l r : List Action) → Goes Fits k o l m → Goes Fits k m r p
      → Goes Fits k o (l ++ r) p
  unfolding Goes
  goes_append o m p [] r a b = subst (λ x. Goes Fits k x r p) a b
  goes_append o m p (x ∷ l) r a b = (a.0, a.1, goes_append a.0 m p l r a.2 b)

  pub goes_one : (o p : Option Work) (x : Action) → Moves Fits k o x p → Goes Fits k o (x ∷ []) p
  unfolding Goes
  goes_one o p x a = (p, a, refl)

  pub goes_none : (o : Option Work) → Goes Fits k o [] o
  unfolding Goes
  goes_none o = refl
