-- Where tasks are, and which of them may begin.
use Rattle.std.specs.Prelude.{ℕ, ◌==◌, ◌+◌, ◌&&◌, ◌||◌, if◌then◌else◌, Bool, true, false, List, [], ◌∷◌}
use Rattle.std.specs.Prelude.{slice_index_or}
use Rattle.std.specs.List.{list_all}
use Rattle.provider_trait.specs.declared.answer.Answer.{Answer}
use Rattle.provider_trait.specs.declared.answer.Answer.TheVariants.{Stored, Gone, Refused}
use Rattle.dealer_trait.specs.declared.dealer_step.DealerStep.{DealerStep}
use Rattle.dealer_trait.specs.declared.dealer_step.DealerStep.TheVariants.{Begin, Answer as Answered, Back}
use Rattle.driver_fakes.specs.declared.stage.Stage.{Stage}
use Rattle.driver_fakes.specs.declared.stage.Stage.TheVariants.{Waiting, Open, Done}

abbrev pub is_waiting : Stage → Bool
is_waiting Waiting = true
is_waiting Open = false
is_waiting Done = false

abbrev pub is_open : Stage → Bool
is_open Waiting = false
is_open Open = true
is_open Done = false

abbrev pub is_done : Stage → Bool
is_done Waiting = false
is_done Open = false
is_done Done = true

-- where the task is after a step, where before the step it was there
abbrev pub stage_after : ℕ → Stage → DealerStep → Stage
stage_after task stage (Begin job) = if job.task == task then Open else stage
stage_after task stage (Answered other answer) = if other == task then Done else stage
stage_after task stage (Back other) = if other == task then Waiting else stage

-- the same after these steps
unfoldable pub stage_from : ℕ → Stage → List DealerStep → Stage
stage_from task stage [] = stage
stage_from task stage (step ∷ rest) = stage_from task (stage_after task stage step) rest

-- where the task is after these steps
abbrev pub stage_of : ℕ → List DealerStep → Stage
stage_of task steps = stage_from task Waiting steps

-- whether the answer is a refusal
abbrev pub is_refused : Answer → Bool
is_refused (Stored state) = false
is_refused Gone = false
is_refused (Refused code) = true

-- whether the step is a refusal
abbrev pub is_refusal : DealerStep → Bool
is_refusal (Begin job) = false
is_refusal (Answered task answer) = is_refused answer
is_refusal (Back task) = false

-- whether something was refused
unfoldable pub has_refusal : List DealerStep → Bool
has_refusal [] = false
has_refusal (step ∷ rest) = is_refusal step || has_refusal rest

-- whether the task may begin after these steps: it has no answer, no Begin of it is open, and all that it needs is done
abbrev pub is_ready : List ℕ → ℕ → List DealerStep → Bool
is_ready needs task steps =
    is_waiting (stage_of task steps) && list_all (λ need. is_done (stage_of need steps)) needs

-- where the task is, by a list that has the stage of each
abbrev pub stage_at : List Stage → ℕ → Stage
stage_at stages task = slice_index_or stages task Waiting

-- whether the task may begin, by this list
abbrev pub is_ready_at : List Stage → List ℕ → ℕ → Bool
is_ready_at stages needs task =
    is_waiting (stage_at stages task) && list_all (λ need. is_done (stage_at stages need)) needs

-- how many Begins are open, by this list
abbrev pub count_open : List Stage → ℕ
count_open [] = 0
count_open (stage ∷ stages) = (if is_open stage then 1 else 0) + count_open stages
