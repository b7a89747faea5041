-- What each event does to tasks.
use Rattle.std.proofs.Common.{◌≡◌, ◌⊎◌, inl, inr, ℕ, zero, suc, ◌<◌, true, false, true≢false, List, [], ◌∷◌, ◌++◌}
use Rattle.std.proofs.Common.{length, Option, Some, None, refl, sym, ap, ◌∙◌, subst}
use Rattle.std.specs.Prelude.{slice_get}
use Rattle.std.proofs.lemmas.Option.{slice_get_within, same_Some}
use Rattle.std.proofs.lemmas.Bool.{cases_eq}
use Rattle.arm_value.specs.Json.{Json}
use Rattle.provider_trait.specs.declared.answer.Answer.{Answer}
use Rattle.provider_trait.specs.declared.answer.Answer.TheVariants.{Stored, Gone, Refused}
use Rattle.deploy_histories.specs.Planned.{Planned}
use Rattle.deploy_histories.specs.Events.{Event, enter, begin, answer, back, leave, crash, Progress, progress, after}
use Rattle.deploy_histories.specs.Events.{after_all, at_opening, Status, is_waiting, is_begun, is_done, changed, closed}
use Rattle.deploy_histories.specs.Events.{done_status, IsBegun}
use Rattle.deploy_histories.specs.Legal.{May, IsLegalFrom, IsLegal}
use Rattle.board_history.specs.Stages.{refuses}
use Rattle.history_laws.proofs.Steps.{at_itself, at_other}
use Rattle.board_dealing.specs.Kept.{waker, Concerns, Does}
use Rattle.board_dealing.proofs.Covering.{progress_more}

-- the event gives the one task this status
module _ (h : List Event) (e : Event) (u : ℕ) (s : Status)
    (c : (after e (progress h)).status ≡ changed u s (progress h).status) where
  itself : (progress (h ++ e ∷ [])).status u ≡ s
  itself =
      ap (λ (p : Progress). p.status u) (progress_more h e) ∙ ap (λ (f : ℕ → Status). f u) c
      ∙ at_itself u s (progress h).status

  others : (v : ℕ) → (v ≡ u → ⊥) → (progress (h ++ e ∷ [])).status v ≡ (progress h).status v
  others v n =
      ap (λ (p : Progress). p.status v) (progress_more h e) ∙ ap (λ (f : ℕ → Status). f v) c
      ∙ at_other u s (progress h).status v n

  does : done_status s ≡ true → waker e ≡ Some u → Does h e u
  does d w = record { others = others; itself = ap done_status itself ∙ d; wakes = w }

  concerns : (s ≡ is_waiting → waker e ≡ Some u) → Concerns h e u
  concerns w = record { others = others; itself = λ i. w (sym itself ∙ i) }

  undone_by : (v : ℕ) → (v ≡ u) ⊎ (v ≡ u → ⊥) → done_status s ≡ done_status ((progress h).status u)
      → done_status ((progress (h ++ e ∷ [])).status v) ≡ done_status ((progress h).status v)
  undone_by v (inl i) d =
      subst (λ (n : ℕ). done_status ((progress (h ++ e ∷ [])).status n) ≡ done_status ((progress h).status n)) (sym i)
      (ap done_status itself ∙ d)
  undone_by v (inr n) d = ap done_status (others v n)

  -- no task is done that was not
  same_done : done_status s ≡ done_status ((progress h).status u) → (v : ℕ)
      → done_status ((progress (h ++ e ∷ [])).status v) ≡ done_status ((progress h).status v)
  same_done d v = undone_by v (cases_eq v u) d

pub entered : (h : List Event) (u : ℕ) → Does h (enter u) u
entered h u = does h (enter u) u (is_done None) refl refl refl

pub left : (h : List Event) (u : ℕ) → Does h (leave u) u
left h u = does h (leave u) u (is_done None) refl refl refl

pub answered : (h : List Event) (u : ℕ) (a : Answer) → refuses a ≡ false → Does h (answer u a) u
answered h u (Stored j) r = does h (answer u (Stored j)) u (is_done (Some j)) refl refl refl
answered h u Gone r = does h (answer u Gone) u (is_done None) refl refl refl
answered h u (Refused code) r = absurd (true≢false r)

begun_undone : (f : ℕ → Status) (u : ℕ) → (worker : ℕ) × ((body : Json) × (f u ≡ is_begun worker body))
    → done_status (f u) ≡ false
begun_undone f u b = ap done_status b.1.1

module _ (h : List Event) (u : ℕ) where
  pub begun_concerns : (worker : ℕ) (body : Json) → Concerns h (begin u worker body) u
  begun_concerns worker body =
      concerns h (begin u worker body) u (is_begun worker body) refl
      (λ e. let f : is_begun worker body ≡ is_waiting = e in absurd (cc))

  pub begun_same : (worker : ℕ) (body : Json) → (progress h).status u ≡ is_waiting → (v : ℕ)
      → done_status ((progress (h ++ begin u worker body ∷ [])).status v) ≡ done_status ((progress h).status v)
  begun_same worker body w v =
      same_done h (begin u worker body) u (is_begun worker body) refl (sym (ap done_status w)) v

  pub back_concerns : Concerns h (back u) u
  back_concerns = concerns h (back u) u is_waiting refl (λ e. refl)

  pub back_same : IsBegun (progress h) u → (v : ℕ)
      → done_status ((progress (h ++ back u ∷ [])).status v) ≡ done_status ((progress h).status v)
  back_same b v = same_done h (back u) u is_waiting refl (sym (begun_undone (progress h).status u b)) v

  pub refused_concerns : (a : Answer) → refuses a ≡ true → Concerns h (answer u a) u
  refused_concerns (Refused code) r = concerns h (answer u (Refused code)) u is_waiting refl (λ e. refl)
  refused_concerns (Stored j) r = absurd (true≢false (sym r))
  refused_concerns Gone r = absurd (true≢false (sym r))

  pub refused_same : (a : Answer) → refuses a ≡ true → IsBegun (progress h) u → (v : ℕ)
      → done_status ((progress (h ++ answer u a ∷ [])).status v) ≡ done_status ((progress h).status v)
  refused_same (Refused code) r b v =
      same_done h (answer u (Refused code)) u is_waiting refl (sym (begun_undone (progress h).status u b)) v
  refused_same (Stored j) r b v = absurd (true≢false (sym r))
  refused_same Gone r b v = absurd (true≢false (sym r))

-- ---- the numbers in a legal history are those of tasks

-- each task of which a Begin is open is one of the plan
abbrev pub AreBegunWithin : Planned → (ℕ → Status) → Type 0
AreBegunWithin x f = (u worker : ℕ) (body : Json) → f u ≡ is_begun worker body → u < length x.tasks

within_changed : (x : Planned) (f : ℕ → Status) (u : ℕ) (s : Status) → AreBegunWithin x f
    → ((worker : ℕ) (body : Json) → s ≡ is_begun worker body → u < length x.tasks) → AreBegunWithin x (changed u s f)
within_changed x f u s all new v worker body e = by (cases_eq v u)
  where
    by : (v ≡ u) ⊎ (v ≡ u → ⊥) → v < length x.tasks
    by (inl i) =
        subst (λ (n : ℕ). n < length x.tasks) (sym i)
        (new worker body (sym (at_itself u s f) ∙ ap (changed u s f) (sym i) ∙ e))
    by (inr n) = all v worker body (sym (at_other u s f v n) ∙ e)

begun_closed : (s : Status) (worker : ℕ) (body : Json) → closed s ≡ is_begun worker body → ⊥
begun_closed is_waiting worker body e = let f : is_waiting ≡ is_begun worker body = e in absurd (cc)
begun_closed (is_begun w b) worker body e = let f : is_waiting ≡ is_begun worker body = e in absurd (cc)
begun_closed (is_done o) worker body e = let f : is_done o ≡ is_begun worker body = e in absurd (cc)

done_not_begun : (o : Option Json) (worker : ℕ) (body : Json) → is_done o ≡ is_begun worker body → ⊥
done_not_begun o worker body e = cc

waits_not_begun : (worker : ℕ) (body : Json) → is_waiting ≡ is_begun worker body → ⊥
waits_not_begun worker body e = cc

within_after : (x : Planned) (p : Progress) (e : Event) → May x p e → AreBegunWithin x p.status
    → AreBegunWithin x (after e p).status
within_after x p (enter u) m all =
    within_changed x p.status u (is_done None) all (λ w b e. absurd (done_not_begun None w b e))
within_after x p (begin u worker body) m all =
    within_changed x p.status u (is_begun worker body) all (λ w b e. slice_get_within x.tasks u m.0 m.1.1.is_task)
within_after x p (answer u (Stored j)) m all =
    within_changed x p.status u (is_done (Some j)) all (λ w b e. absurd (done_not_begun (Some j) w b e))
within_after x p (answer u Gone) m all =
    within_changed x p.status u (is_done None) all (λ w b e. absurd (done_not_begun None w b e))
within_after x p (answer u (Refused code)) m all =
    within_changed x p.status u is_waiting all (λ w b e. absurd (waits_not_begun w b e))
within_after x p (back u) m all =
    within_changed x p.status u is_waiting all (λ w b e. absurd (waits_not_begun w b e))
within_after x p (leave u) m all =
    within_changed x p.status u (is_done None) all (λ w b e. absurd (done_not_begun None w b e))
within_after x p crash m all = λ u w b e. absurd (begun_closed (p.status u) w b e)

wakes_within : (x : Planned) (p : Progress) (e : Event) → May x p e → AreBegunWithin x p.status → (u : ℕ)
    → waker e ≡ Some u → u < length x.tasks
wakes_within x p (enter v) m all u e =
    subst (λ (n : ℕ). n < length x.tasks) (same_Some v u e) (slice_get_within x.tasks v _ m.1.is_task)
wakes_within x p (begin v worker body) m all u e = let f : None ≡ Some u = e in absurd (cc)
wakes_within x p (answer v a) m all u e =
    subst (λ (n : ℕ). n < length x.tasks) (same_Some v u e) (slice_get_within x.tasks v m.ended m.is_task)
wakes_within x p (back v) m all u e =
    subst (λ (n : ℕ). n < length x.tasks) (same_Some v u e) (all v m.0 m.1.0 m.1.1)
wakes_within x p (leave v) m all u e =
    subst (λ (n : ℕ). n < length x.tasks) (same_Some v u e) (slice_get_within x.tasks v _ m.1.is_task)
wakes_within x p crash m all u e = let f : None ≡ Some u = e in absurd (cc)

wakers_from : (x : Planned) (p : Progress) (es : List Event) → IsLegalFrom x p es → AreBegunWithin x p.status
    → (i : ℕ) (e : Event) → slice_get es i ≡ Some e → (u : ℕ) → waker e ≡ Some u → u < length x.tasks
wakers_from x p [] l all i e g u w = let f : None ≡ Some e = g in absurd (cc)
wakers_from x p (f ∷ es) l all zero e g u w =
    wakes_within x p e (subst (λ (d : Event). May x p d) (same_Some f e g) l.0) all u w
wakers_from x p (f ∷ es) l all (suc i) e g u w =
    wakers_from x (after f p) es l.1 (within_after x p f l.0 all) i e g u w

-- the task that an event of a legal history wakes is one of the plan
pub wakers_within : (x : Planned) (h : List Event) → IsLegal x h → (i : ℕ) (e : Event) → slice_get h i ≡ Some e
    → (u : ℕ) → waker e ≡ Some u → u < length x.tasks
wakers_within x h l =
    wakers_from x at_opening h l (λ u w b e. absurd (waits_not_begun w b e))

begun_from : (x : Planned) (p : Progress) (es : List Event) → IsLegalFrom x p es → AreBegunWithin x p.status
    → AreBegunWithin x (after_all es p).status
begun_from x p [] l all = all
begun_from x p (e ∷ es) l all = begun_from x (after e p) es l.1 (within_after x p e l.0 all)

pub begun_within : (x : Planned) (h : List Event) → IsLegal x h → (u : ℕ) → IsBegun (progress h) u → u < length x.tasks
begun_within x h l u b = begun_from x at_opening h l (λ v w c e. absurd (waits_not_begun w c e)) u b.0 b.1.0 b.1.1
