-- What had happened up to the last crash stays so.
use Rattle.std.proofs.Common.{◌≡◌, Bool, false, List, [], ◌∷◌, ◌++◌, refl, ap, ◌∙◌}
use Rattle.std.specs.Prelude.{ℕ, if◌then◌else◌, Result, Ok, Err, IfOk, OnErr}
use Rattle.std.specs.declared.alloc.AllocError.{AllocError}
use Rattle.dealer_trait.specs.declared.next.Next.{Next}
use Rattle.dealer_trait.specs.declared.next.Next.TheVariants.{Begun, Wait, End}
use Rattle.deploy_histories.specs.Planned.{Planned}
use Rattle.deploy_histories.specs.Events as event
use Rattle.deploy_histories.specs.Events.{Event, Progress, progress, after}
use Rattle.board_dealing.specs.Boards.{ArePasses, HasPassed, IsNext}
use Rattle.deploy_core.specs.Steps.{or_later, has_crash, until_crash}

crash_more : (h es : List Event) → has_crash es ≡ false → has_crash (h ++ es) ≡ has_crash h
crash_more [] es e = e
crash_more (x ∷ h) es e = ap (or_later x) (crash_more h es e)

without : (es : List Event) → has_crash es ≡ false → until_crash es ≡ []
without [] e = refl
without (x ∷ es) e = ap (λ (b : Bool). if b then x ∷ until_crash es else []) e

-- events without a crash come after it
pub past_same : (h es : List Event) → has_crash es ≡ false → until_crash (h ++ es) ≡ until_crash h
past_same [] es e = without es e
past_same (x ∷ h) es e =
    ap (λ (b : Bool). if b then x ∷ until_crash (h ++ es) else []) (ap (or_later x) (crash_more h es e))
    ∙ ap (λ (l : List Event). if has_crash (x ∷ h) then x ∷ l else []) (past_same h es e)

pub with_plan : (x y : Planned) (a b : List Event) → x ≡ y → a ≡ b
    → ◌≡◌ {A = Planned × List Event} (x, a) (y, b)
with_plan x y a b e f =
    ap {B = Planned × List Event} (λ (z : Planned). (z, a)) e ∙ ap {B = Planned × List Event} (λ (l : List Event). (y, l)) f

module _ (x : Planned) where
  no_crash : (p : Progress) (es : List Event) → ArePasses x p es → has_crash es ≡ false
  no_crash p [] o = refl
  no_crash p (event.enter u ∷ es) o = no_crash (after (event.enter u) p) es o.1
  no_crash p (event.leave u ∷ es) o = no_crash (after (event.leave u) p) es o.1
  no_crash p (event.begin u w b ∷ es) o = absurd o.0.is_scope
  no_crash p (event.answer u a ∷ es) o = absurd o.0.is_scope
  no_crash p (event.back u ∷ es) o = absurd o.0.is_scope
  no_crash p (event.crash ∷ es) o = absurd o.0.is_scope

  past_passed : (old new : List Event) → HasPassed x old new → until_crash new ≡ until_crash old
  past_passed old new p = ap until_crash p.are ∙ past_same old p.events (no_crash (progress old) p.events p.are_passes)

  pub past_asked : (old : List Event) (worker : ℕ) (new : List Event) (r : Result Next AllocError)
      → IfOk r (λ n. IsNext x old worker n new) → OnErr r (HasPassed x old new) → until_crash new ≡ until_crash old
  past_asked old worker new (Ok (Begun job)) i f =
      ap until_crash i.begun ∙ past_same i.between (event.begin job.task worker job.body ∷ []) refl
      ∙ past_passed old i.between i.has_settled.has_passed
  past_asked old worker new (Ok Wait) i f = past_passed old new i.0.has_passed
  past_asked old worker new (Ok End) i f = past_passed old new i.0.has_passed
  past_asked old worker new (Err e) i f = past_passed old new f
