-- A history that has succeeded leaves room for one desired state.
use Rattle.std.proofs.Common.{◌≡◌, List, [], ◌∷◌, Option, Some, None}
use Rattle.arm_value.specs.Json.{Json}
use Rattle.provider_trait.specs.declared.answer.Answer.{Answer}
use Rattle.deploy_cells.specs.Cells.{Cell, World}
use Rattle.deploy_cells.specs.Puts.{AreAllowed}
use Rattle.deploy_histories.specs.Meaning.{bodies}
use Rattle.deploy_histories.specs.Desired.{kinds, Satisfies}
use Rattle.deploy_histories.specs.Planned.{Planned, IsPlanned}
use Rattle.deploy_histories.specs.Events.{Event, enter, begin, answer, back, leave, crash, Progress, after, at_opening, progress}
use Rattle.deploy_histories.specs.Legal.{IsLegal, HasSucceeded}
use Rattle.deploy_histories.specs.Answers.{answers_of}
use Rattle.deploy_histories.specs.Outcome.{MayAnswer, Target, stores_by, target_of, IsGivenTo, IsGiven, AreGiven, BelongsTo}
use Rattle.history_laws.specs.Past.{OneAnswer}
use Rattle.history_laws.proofs.Keeping.{kept_always}
use Rattle.history_laws.proofs.Way.{stored_so}
use Rattle.history_laws.proofs.OneWorld.{one_world}
use Rattle.history_laws.proofs.Belonging.{belongs_so}

-- a provider that may answer anything
abbrev pub anything : MayAnswer
anything act id api body a = Unit {0}

given_anything : (t : Option Target) (body : Json) (a : Answer) → IsGivenTo anything t body a
given_anything None body a = tt
given_anything (Some g) body a = tt

pub any_given : (x : Planned) (p : Progress) (e : Event) → IsGiven anything x p e
any_given x p (enter u) = tt
any_given x p (begin u w b) = tt
any_given x p (answer u a) = λ worker body e. given_anything (target_of x u) body a
any_given x p (back u) = tt
any_given x p (leave u) = tt
any_given x p crash = tt

pub all_given : (x : Planned) (p : Progress) (es : List Event) → AreGiven anything x p es
all_given x p [] = tt
all_given x p (e ∷ es) = (any_given x p e, all_given x (after e p) es)

pub one_by_answers : (x : Planned) (h : List Event) → IsPlanned x → IsLegal x h → HasSucceeded x (progress h)
    → (w v : World) → Satisfies x.deployment x.held w → BelongsTo x w (answers_of h)
    → Satisfies x.deployment x.held v → BelongsTo x v (answers_of h) → (c : Cell) → w c ≡ v c
one_by_answers x h planned l s w v sat b vat e =
    one_world anything x planned (progress h) (kept_always anything x h l (all_given x at_opening h)) s.all_done w v sat
    vat (belongs_so x planned w sat h b) (belongs_so x planned v vat h e)

pub one_by_provider : (may : MayAnswer) (x : Planned) (h : List Event) → OneAnswer may → IsPlanned x → IsLegal x h
    → AreGiven may x at_opening h → HasSucceeded x (progress h) → (w v : World) → Satisfies x.deployment x.held w
    → AreAllowed (stores_by may) x.deployment.place (kinds x.deployment) (bodies x.deployment) w
    → Satisfies x.deployment x.held v
    → AreAllowed (stores_by may) x.deployment.place (kinds x.deployment) (bodies x.deployment) v
    → (c : Cell) → w c ≡ v c
one_by_provider may x h one planned l g s w v sat a vat b =
    one_world may x planned (progress h) (kept_always may x h l g) s.all_done w v sat vat
    (stored_so may one x planned w sat a h l g) (stored_so may one x planned v vat b h l g)
