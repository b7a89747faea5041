-- What a history is to contracts: how many tasks there are, and what has happened.
use Rattle.std.specs.Prelude.{◌≡◌, ℕ, ◌==◌, cond, List, [], ◌∷◌, ◌++◌, refl}
use Rattle.std.specs.Coded.{Coded, code_by, coded×, coded_ℕ, coded_list}
use Rattle.arm_value.specs.Json.{Json, null}
use Rattle.arm_value.specs.JsonCode.{json_code}
use Rattle.arm_value.specs.View.{json}
use Rattle.provider_trait.specs.declared.answer.Answer.{Answer}
use Rattle.provider_trait.specs.declared.answer.Answer.TheVariants.{Stored, Gone, Refused}
use Rattle.provider_trait.specs.declared.event.Event as noted
use Rattle.provider_trait.specs.declared.event.Event.TheVariants as noted_as
use Rattle.deploy_histories.specs.Events.{Event, enter, begin, answer, back, leave, crash}

-- the number of tasks, and the events, oldest first
pub record Past : Type 0 where
  pub count : ℕ
  pub events : List Event

-- what an event that was noted says
abbrev pub event_of : noted.Event → Event
event_of (noted_as.Enter u) = enter u
event_of (noted_as.Begin u worker body) = begin u worker (json body)
event_of (noted_as.Answer u a) = answer u a
event_of (noted_as.Back u) = back u
event_of (noted_as.Leave u) = leave u
event_of noted_as.Crash = crash

-- the past with one event more
abbrev pub with_event : Past → Event → Past
with_event p e = record { count = p.count; events = p.events ++ e ∷ [] }

-- ---- how the logic stores a past: an event by the number of its kind, and its parts

abbrev Parts : Type 0
Parts = ℕ × (ℕ × (ℕ × (Json × (Json × List ℕ))))

abbrev answer_parts : ℕ → Answer → Parts
answer_parts u (Stored j) = (2, (u, (0, (null, (j, [])))))
answer_parts u Gone = (3, (u, (0, (null, (null, [])))))
answer_parts u (Refused code) = (4, (u, (0, (null, (null, code)))))

abbrev from_event : Event → Parts
from_event (enter u) = (0, (u, (0, (null, (null, [])))))
from_event (begin u worker body) = (1, (u, (worker, (body, (null, [])))))
from_event (answer u a) = answer_parts u a
from_event (back u) = (5, (u, (0, (null, (null, [])))))
from_event (leave u) = (6, (u, (0, (null, (null, [])))))
from_event crash = (7, (0, (0, (null, (null, [])))))

abbrev to_event : Parts → Event
to_event p =
    cond (p.0 == 0) (enter p.1.0) (cond (p.0 == 1) (begin p.1.0 p.1.1.0 p.1.1.1.0)
    (cond (p.0 == 2) (answer p.1.0 (Stored p.1.1.1.1.0))
    (cond (p.0 == 3) (answer p.1.0 Gone)
    (cond (p.0 == 4) (answer p.1.0 (Refused p.1.1.1.1.1))
    (cond (p.0 == 5) (back p.1.0) (cond (p.0 == 6) (leave p.1.0) crash))))))

answer_back : (u : ℕ) (a : Answer) → to_event (answer_parts u a) ≡ answer u a
answer_back u (Stored j) = refl
answer_back u Gone = refl
answer_back u (Refused code) = refl

pub to_event-from_event : (e : Event) → to_event (from_event e) ≡ e
to_event-from_event (enter u) = refl
to_event-from_event (begin u worker body) = refl
to_event-from_event (answer u a) = answer_back u a
to_event-from_event (back u) = refl
to_event-from_event (leave u) = refl
to_event-from_event crash = refl

-- an event is stored as its parts
abbrev pub event_code : Coded Event
event_code =
    code_by Parts
    (coded× coded_ℕ
    (coded× coded_ℕ (coded× coded_ℕ (coded× json_code (coded× json_code (coded_list coded_ℕ))))))
    from_event to_event to_event-from_event

-- a past is stored as the number of tasks and the events
abbrev pub past_code : Coded Past
past_code =
    code_by (ℕ × List Event) (coded× coded_ℕ (coded_list event_code)) (λ p. (p.count, p.events))
    (λ p. record { count = p.0; events = p.1 }) (λ _. refl)
