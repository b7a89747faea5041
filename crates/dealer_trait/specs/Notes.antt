-- The note of a job and its answer: the record that the journal keeps of them.
use Rattle.std.specs.Prelude.{◌≡◌, Some}
use Rattle.serde_json.specs.Written.{compact_text}
use Rattle.arm_value.specs.Json.{Json, object, pairs}
use Rattle.arm_value.specs.Reading.{data_of, reading}
use Rattle.provider_trait.specs.Act.{FitsAct}
use Rattle.provider_trait.specs.FirstPart.{first_part, first_members}
use Rattle.provider_trait.specs.Work.{Work, assignment_of}
use Rattle.provider_trait.specs.declared.answer.Answer.{Answer}
use Rattle.provider_trait.specs.declared.answer.Answer.TheVariants.{Stored, Gone, Refused}
use Rattle.dealer_trait.specs.declared.note.Note.{Note}
use Rattle.dealer_trait.specs.Kinds.{kind_of, second_of}

-- the note of a job and its answer
abbrev pub note_of : Work → Answer → Note
note_of job answer = record { kind = kind_of answer; first = job.first; second = second_of answer }

-- the compact text of this value reads as this value
abbrev pub ReadsBack : Json → Type 0
ReadsBack j = reading (compact_text (data_of j)) ≡ Some (data_of j)

-- the second part of the note reads back
abbrev pub SecondReadsBack : Answer → Type 0
SecondReadsBack (Stored state) = ReadsBack state
SecondReadsBack (Refused code) = Unit {0}
SecondReadsBack Gone = Unit {0}

-- the note of this job and this answer is a record of the journal: the first part is that of the job's record, and
-- both parts read back
pub record HasRecord (job : Work) (answer : Answer) : Type 0 where
  pub fits : FitsAct job.act job.body
  pub first : job.first ≡ first_part (assignment_of job)
  pub first_reads : ReadsBack (object (pairs (first_members (assignment_of job))))
  pub second_reads : SecondReadsBack answer
