-- A note states its job and its answer.
use Rattle.std.proofs.Common.{◌≡◌, refl, ap, sym, ◌∙◌, arith}
use Rattle.std.proofs.lemmas.Str.{encodes_same}
use Rattle.arm_value.specs.Json.{Json, null, bool, int, text, array, object, pairs}
use Rattle.provider_trait.specs.Act.{FitsAct}
use Rattle.provider_trait.specs.FirstPart.{Assignment, first_members}
use Rattle.provider_trait.specs.Work.{Work, assignment_of}
use Rattle.provider_trait.specs.declared.act.Act.{Act}
use Rattle.provider_trait.specs.declared.act.Act.TheVariants.{Put, Delete}
use Rattle.provider_trait.specs.declared.answer.Answer.{Answer}
use Rattle.provider_trait.specs.declared.answer.Answer.TheVariants.{Stored, Gone, Refused}
use Rattle.dealer_trait.specs.Kinds.{kind_of, second_of}
use Rattle.dealer_trait.specs.Notes.{note_of, HasRecord, SecondReadsBack}
use Rattle.dealer_trait.specs.declared.note.Note.{Note}
use Rattle.dealer_trait.proofs.DataLemmas.{same_value}

-- the body says which act it is
same_act : (a b : Act) (j : Json) → FitsAct a j → FitsAct b j → a ≡ b
same_act Put Put j f g = refl
same_act Delete Delete j f g = refl
same_act Put Delete null f g = absurd f
same_act Put Delete (bool b) f g = absurd f
same_act Put Delete (int z) f g = absurd f
same_act Put Delete (text s) f g = absurd f
same_act Put Delete (array js) f g = absurd f
same_act Put Delete (object ms) f g = absurd g
same_act Delete Put null f g = absurd g
same_act Delete Put (bool b) f g = absurd f
same_act Delete Put (int z) f g = absurd f
same_act Delete Put (text s) f g = absurd f
same_act Delete Put (array js) f g = absurd f
same_act Delete Put (object ms) f g = absurd f

abbrev members_value : Assignment → Json
members_value a = object (pairs (first_members a))

-- the first part has all parts of an assignment
record SameParts (a b : Assignment) : Type 0 where
  api : a.api ≡ b.api
  body : a.body ≡ b.body
  id : a.id ≡ b.id
  task : a.task ≡ b.task
  worker : a.worker ≡ b.worker

same_parts : (a b : Assignment) → members_value a ≡ members_value b → SameParts a b
unfolding first_members
same_parts a b e = record { api = cc; body = cc; id = cc; task = cc; worker = cc }

same_answer : (a b : Answer) → SecondReadsBack a → SecondReadsBack b → kind_of a ≡ kind_of b
    → second_of a ≡ second_of b → a ≡ b
same_answer (Stored s) (Stored t) f g kinds seconds = ap Stored (same_value s t f g seconds)
same_answer (Refused c) (Refused d) f g kinds seconds = ap Refused (encodes_same c d seconds)
same_answer Gone Gone f g kinds seconds = refl
same_answer _ _ f g kinds seconds = absurd (omega arith)

same_job : (job other : Work) → SameParts (assignment_of job) (assignment_of other) → job.act ≡ other.act
    → job.first ≡ other.first → job ≡ other
same_job job other parts acts firsts = λ i. record {
  task = parts.task i;
  worker = parts.worker i;
  act = acts i;
  id = parts.id i;
  api = parts.api i;
  body = parts.body i;
  first = firsts i;
}

pub one_job_and_answer : (job other : Work) (answer another : Answer) → HasRecord job answer
    → HasRecord other another → note_of job answer ≡ note_of other another → (job ≡ other) × (answer ≡ another)
one_job_and_answer job other answer another h k same =
    let firsts : job.first ≡ other.first = ap (λ (n : Note). n.first) same in
    let parts = same_parts (assignment_of job) (assignment_of other)
    (same_value _ _ h.first_reads k.first_reads (sym h.first ∙ firsts ∙ k.first)) in
    let acts : job.act ≡ other.act =
    same_act job.act other.act other.body (subst_body job.act job.body other.body parts.body h.fits) k.fits in (
      same_job job other parts acts firsts,
      same_answer answer another h.second_reads k.second_reads (ap (λ (n : Note). n.kind) same)
          (ap (λ (n : Note). n.second) same),
    )
  where
    subst_body : (act : Act) (j k : Json) → j ≡ k → FitsAct act j → FitsAct act k
    subst_body act j k e f = rw (sym e) f
