-- What a board keeps where it looks at events.
use Rattle.std.proofs.lemmas.Bool.{ltb-true}
use Rattle.std.proofs.lemmas.Option.{slice_get_read, same_Some}
use Rattle.std.proofs.Common.{true, ltb, get_or}
use Rattle.std.proofs.Common.{◌≡◌, ℕ, zero, suc, ◌≤◌, List, [], ◌∷◌, length, Some, None, refl, sym}
use Rattle.std.proofs.Common.{ap}
use Rattle.std.proofs.Common.{◌∙◌, subst, arith}
use Rattle.std.specs.Prelude.{slice_get, map, Result, Ok, Err, OnOk}
use Rattle.std.specs.declared.alloc.AllocError.{AllocError}
use Rattle.std.proofs.lemmas.List.{length-map}
use Rattle.depend_graph.specs.Shape.{Needs}
use Rattle.provider_trait.specs.declared.event.Event as noted
use Rattle.deploy_histories.specs.Events.{Event}
use Rattle.board_history.specs.Past.{event_of}
use Rattle.task_agenda.specs.declared.agenda.Agenda.{Agenda}
use Rattle.task_agenda.specs.Agendas.{IsSeenTo}
use Rattle.board_dealing.specs.Kept.{waker}
use Rattle.board_dealing.specs.Looks.{IsAwake, IsHeard}

pub heard : (b : Agenda) (e : Event) (v : ℕ) (r : Result (Unit {0}) AllocError) → waker e ≡ Some v
    → OnOk r (IsSeenTo b v) → OnOk r ((u : ℕ) → Needs b.graph u v → IsSeenTo b u) → OnOk r (IsHeard b e)
heard b e v (Ok done) w s o = λ u i.
    subst (λ (n : ℕ). IsAwake b n) (same_Some v u (sym w ∙ i)) (record { itself = s; others = o })
heard b e v (Err refused) w s o = tt

pub unheard : (b : Agenda) (e : Event) → waker e ≡ None → IsHeard b e
unheard b e w v i = let f : None ≡ Some v = sym w ∙ i in absurd (cc)

one_event : (a b : noted.Event) → Some a ≡ Some b → a ≡ b
one_event a b f = cc

some_of : (es : List noted.Event) (i : ℕ) (e : noted.Event) → slice_get es i ≡ Some e
    → slice_get (map event_of es) i ≡ Some (event_of e)
some_of [] i e g = let f : None ≡ Some e = g in absurd (cc)
some_of (d ∷ es) zero e g = ap (λ (f : noted.Event). Some (event_of f)) (one_event d e g)
some_of (d ∷ es) (suc i) e g = some_of es i e g

-- the event at the place
pub event_there : (es : List noted.Event) (h : List Event) (i : ℕ) (e : noted.Event) → map event_of es ≡ h
    → slice_get es i ≡ Some e → slice_get h i ≡ Some (event_of e)
event_there es h i e m g = ap (λ (l : List Event). slice_get l i) (sym m) ∙ some_of es i e g

past_end : {A : Type 0} (xs : List A) (i : ℕ) → slice_get xs i ≡ None → length xs ≤ i
past_end [] i g = omega arith
past_end (a ∷ xs) zero g = let f : Some a ≡ None = g in absurd (cc)
past_end (a ∷ xs) (suc i) g = let r = past_end xs i g in omega (arith, r)

pub all_seen : (es : List noted.Event) (h : List Event) (i : ℕ) → map event_of es ≡ h → slice_get es i ≡ None
    → i ≤ length h → i ≡ length h
all_seen es h i m g l =
    let p = past_end es i g in
    let s : length h ≡ length es = ap (λ (k : List Event). length k) (sym m) ∙ length-map es event_of in
    omega (arith, p, s, l)

pub found_at : {A : Type 0} (xs : List A) (n : ℕ) (x : A) → true ≡ ltb n (length xs) → x ≡ get_or xs n x
    → slice_get xs n ≡ Some x
found_at xs n x l h = slice_get_read xs (length xs) n x refl (ltb-true n (length xs) (sym l)) h
