-- The marks and the stages of a row of jobs.
use Rattle.std.proofs.Common.{arith, ◌≡◌, ◌<◌, ◌≤◌, ◌+◌, ℕ, List, [], ◌∷◌, ◌++◌, refl, sym, ap, ◌∙◌, set}
use Rattle.std.proofs.lemmas.List.{get_or-set_other}
use Rattle.std.specs.Prelude.{Result, Ok, Err}
use Rattle.std.specs.declared.alloc.AllocError.{AllocError}
use Rattle.dealer_trait.specs.Steps.{begun_from, HasEnd, NoneBegun}
use Rattle.dealer_trait.specs.declared.next.Next.{Next}
use Rattle.dealer_trait.specs.declared.next.Next.TheVariants.{Begun, Wait, End}
use Rattle.driver_fakes.specs.Stages.{stage_at}
use Rattle.driver_fakes.specs.declared.stage.Stage.{Stage}
use Rattle.driver_fakes.specs.declared.stage.Stage.TheVariants.{Waiting, Open}
use Rattle.crew_times.specs.Marks.{step_of, steps_of}
use Rattle.crew_times.specs.declared.mark.Mark.{Mark}

pub steps_more : (l : List Mark) (m : Mark) → steps_of (l ++ m ∷ []) ≡ steps_of l ++ step_of m ∷ []
unfolding steps_of
steps_more [] m = refl
steps_more (x ∷ l) m = ap (λ t. step_of x ∷ t) (steps_more l m)

pub no_steps : (l : List Mark) → l ≡ [] → steps_of l ≡ []
unfolding steps_of
no_steps l e = ap steps_of e

pub none_begun : NoneBegun []
unfolding begun_from
none_begun task = refl

pub open_is_not_waiting : (s : Stage) → s ≡ Open → s ≡ Waiting → ⊥
open_is_not_waiting s e f = cc

-- the later tasks wait, where one that does not wait gets another stage
pub later_after : (stages : List Stage) (task next : ℕ) (s : Stage) → (stage_at stages task ≡ Waiting → ⊥)
    → ((t : ℕ) → next ≤ t → stage_at stages t ≡ Waiting) → (t : ℕ) → next ≤ t
    → stage_at (set stages task s) t ≡ Waiting
later_after stages task next s not later t low =
    get_or-set_other stages task t s Waiting (λ e. not (ap (stage_at stages) (sym e) ∙ later t low)) ∙ later t low

-- the later tasks wait, where the next one is begun
pub later_begun : (stages : List Stage) (next : ℕ) (s : Stage) → ((t : ℕ) → next ≤ t → stage_at stages t ≡ Waiting)
    → (t : ℕ) → next + 1 ≤ t → stage_at (set stages next s) t ≡ Waiting
later_begun stages next s later t low =
    get_or-set_other stages next t s Waiting (λ e. absurd (omega arith)) ∙ later t (omega arith)

-- an answer that is no End
pub no_end : (end : Type 0) (r : Result Next AllocError) → HasEnd ⊥ r → HasEnd end r
no_end end (Ok (Begun job)) h = tt
no_end end (Ok Wait) h = tt
no_end end (Ok End) h = absurd h
no_end end (Err e) h = tt
