-- What a seat that has come back shows.
use Rattle.std.proofs.Common.{arith, ◌≡◌, ◌<◌, ◌≤◌, ℕ, List, [], ◌∷◌, ◌++◌, refl, sym, ap, ◌∙◌, append-nil}
use Rattle.std.proofs.Common.{append_assoc}
use Rattle.std.proofs.Common.{length}
use Rattle.std.proofs.lemmas.List.{append_cancel_left}
use Rattle.crew_channels.specs.Orders.{jobs_in}
use Rattle.crew_channels.specs.declared.order.Order.{Order}
use Rattle.crew_channels.specs.declared.order.Order.TheVariants.{Run, Stop}
use Rattle.provider_trait.specs.Work.{Work}
use Rattle.seat_calls.specs.Dones.{of, jobs_of, Answers}
use Rattle.seat_calls.specs.declared.done.Done.{Done}
use Rattle.seat_calls.proofs.DoneLemmas.{of_append, jobs_append, jobs_length}
use Rattle.crew_seating.specs.Closed.{Told, HasNone}

jobs_in_append : (l m : List Order) → jobs_in (l ++ m) ≡ jobs_in l ++ jobs_in m
jobs_in_append [] m = refl
jobs_in_append (Run j ∷ l) m = ap (λ t. j ∷ t) (jobs_in_append l m)
jobs_in_append (Stop ∷ l) m = jobs_in_append l m

first_empty : {A : Type 0} (a b : List A) → a ++ b ≡ [] → a ≡ []
first_empty [] b e = refl
first_empty (x ∷ a) b e = cc

pub told_by : (sent received held : List Order) (got left put : List Done) (k : ℕ) → sent ≡ received ++ held
    → of k (got ++ left) ≡ put → jobs_of put ≡ jobs_in received → Told got (jobs_in sent) k put
told_by sent received held got left put k are is did = (
  left,
  jobs_in held,
  is,
  ap jobs_in are ∙ jobs_in_append received held ∙ ap (λ y. y ++ jobs_in held) (sym did),
)

pub none_by : (got left : List Done) (k : ℕ) → of k (got ++ left) ≡ [] → HasNone got k
none_by got left k e = first_empty (of k got) (of k left) (sym (of_append k got left) ∙ e)

-- all seats have come back
pub answers_by : (n : ℕ) (sent : ℕ → List Work) (got : List Done)
    → ((k : ℕ) → k < n → (put : List Done) × Told got (sent k) k put) → ((k : ℕ) → n ≤ k → HasNone got k)
    → Answers n sent got
answers_by n sent got told others = record {
  first = λ k low. let t = (told k low).1 in let put = (told k low).0 in (
    jobs_of (of k t.0) ++ t.1,
    t.3 ∙ ap (λ y. jobs_of y ++ t.1) (sym t.2 ∙ of_append k got t.0)
        ∙ ap (λ y. y ++ t.1) (jobs_append (of k got) (of k t.0))
        ∙ append_assoc (jobs_of (of k got)) (jobs_of (of k t.0)) t.1,
  );
  others = others;
}

empty : {A : Type 0} (l : List A) → length l ≡ 0 → l ≡ []
empty [] e = refl
empty (x ∷ l) e = absurd (omega arith)

nothing_more : {A : Type 0} (a b c : List A) → a ≡ a ++ (b ++ c) → length b ≡ 0
nothing_more a b c e =
    let f : [] ≡ b ++ c = append_cancel_left a [] (b ++ c) (append-nil a ∙ e) in
    ap length (first_empty b c (sym f))

-- where the jobs that were sent are those of what was received, all that the seat has put was received
pub whole_by : (sent : List Work) (got put : List Done) (k : ℕ) → Told got sent k put → sent ≡ jobs_of (of k got)
    → put ≡ of k got
whole_by sent got put k t e =
    let parts : put ≡ of k got ++ of k t.0 = sym t.2 ∙ of_append k got t.0 in
    let all : jobs_of (of k got) ≡ jobs_of (of k got) ++ (jobs_of (of k t.0) ++ t.1)
    = sym e ∙ t.3 ∙ ap (λ y. jobs_of y ++ t.1) parts ∙ ap (λ y. y ++ t.1) (jobs_append (of k got) (of k t.0))
    ∙ append_assoc (jobs_of (of k got)) (jobs_of (of k t.0)) t.1 in
    let none = empty (of k t.0)
    (sym (jobs_length (of k t.0)) ∙ nothing_more (jobs_of (of k got)) (jobs_of (of k t.0)) t.1 all) in
    parts ∙ ap (λ y. of k got ++ y) none ∙ append-nil (of k got)
