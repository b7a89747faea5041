-- With answers in the place of Backs, and without scopes, a history in which nothing is begun any more stays legal.
use Rattle.std.proofs.Common.{◌≡◌, inl, inr, ℕ, List, [], ◌∷◌, ◌++◌, Option, Some, None, refl, sym, subst, ◌∙◌}
use Rattle.arm_value.specs.Json.{Json}
use Rattle.provider_trait.specs.declared.answer.Answer.{Answer}
use Rattle.provider_trait.specs.declared.answer.Answer.TheVariants.{Stored, Gone, Refused}
use Rattle.history_laws.specs.Planned.{Planned}
use Rattle.history_laws.specs.Events.{Event, enter, begin, answer, back, leave, crash, Status, is_waiting, is_begun, is_done, Progress, changed, after_answer, closed, after, after_all, at_opening, IsBegun}
use Rattle.history_laws.specs.Legal.{May, MayEnd, IsLegalFrom, IsLegal}
use Rattle.history_replays.specs.Recorded.{IsRecord}
use Rattle.history_laws.proofs.Steps.{at_changed, at_other}

-- what is begun in the first is begun in the second
abbrev StaysBegun : (ℕ → Status) → (ℕ → Status) → Type 0
StaysBegun f g = (u w : ℕ) (b : Json) → f u ≡ is_begun w b → g u ≡ is_begun w b

abbrev NotBegun : Status → Type 0
NotBegun s = (w : ℕ) (b : Json) → s ≡ is_begun w b → ⊥

waits_not : NotBegun is_waiting
waits_not w b e = cc

done_not : (o : Option Json) → NotBegun (is_done o)
done_not o w b e = cc

-- the first closes one more
closes_one : (f g : ℕ → Status) (u : ℕ) (s : Status) → NotBegun s → StaysBegun f g → StaysBegun (changed u s f) g
closes_one f g u s n h v w b e = elim (at_changed u s f v) [
  | inl i ↦ absurd (n w b (sym i.1 ∙ e))
  | inr i ↦ h v w b (sym i.1 ∙ e)
]

-- both close one
close_both : (f g : ℕ → Status) (u : ℕ) (s r : Status) → NotBegun s → StaysBegun f g
    → StaysBegun (changed u s f) (changed u r g)
close_both f g u s r n h v w b e = elim (at_changed u s f v) [
  | inl i ↦ absurd (n w b (sym i.1 ∙ e))
  | inr i ↦ at_other u r g v i.0 ∙ h v w b (sym i.1 ∙ e)
]

closed_not : (s : Status) → NotBegun (closed s)
closed_not is_waiting = waits_not
closed_not (is_begun v c) = waits_not
closed_not (is_done o) = done_not o

-- the status that an answer leaves
unfoldable pub left_by : Answer → Status
left_by (Stored j) = is_done (Some j)
left_by Gone = is_done None
left_by (Refused code) = is_waiting

left_not : (a : Answer) → NotBegun (left_by a)
unfolding left_by
left_not (Stored j) = done_not (Some j)
left_not Gone = done_not None
left_not (Refused code) = waits_not

pub answer_leaves : (u : ℕ) (a : Answer) (p : Progress) → (after_answer u a p).status ≡ changed u (left_by a) p.status
unfolding left_by
answer_leaves u (Stored j) p = refl
answer_leaves u Gone p = refl
answer_leaves u (Refused code) p = refl

module _ (x : Planned) where
  still_begun : (p q : Progress) → StaysBegun p.status q.status → (u : ℕ) → IsBegun p u → IsBegun q u
  still_begun p q h u b = (b.0, (b.1.0, h u b.0 b.1.0 b.1.1))

  may_end : (p q : Progress) → StaysBegun p.status q.status → (u : ℕ) (a : Answer) → MayEnd x p u a → MayEnd x q u a
  may_end p q h u a m = record {
    is_begun = still_begun p q h u m.is_begun;
    ended = m.ended;
    is_task = m.is_task;
    suits = m.suits;
  }

  after_both : (p q : Progress) → StaysBegun p.status q.status → (u : ℕ) (s : Status) → NotBegun s → (a : Answer)
      → StaysBegun (changed u s p.status) (after_answer u a q).status
  after_both p q h u s n a =
      subst (λ (g : ℕ → Status). StaysBegun (changed u s p.status) g) (sym (answer_leaves u a q))
      (close_both p.status q.status u s (left_by a) n h)

  first_legal : (q : Progress) (e : Event) (events others : List Event) → events ≡ e ∷ others → May x q e
      → IsLegalFrom x (after e q) others → IsLegalFrom x q events
  first_legal q e events others is m l = subst (λ (h : List Event). IsLegalFrom x q h) (sym is) (m, l)

  pub record_legal : (es : List Event) (p q : Progress) → StaysBegun p.status q.status → IsLegalFrom x p es
      → (events : List Event) → IsRecord x es events → IsLegalFrom x q events
  record_legal [] p q h l events r = subst (λ (h : List Event). IsLegalFrom x q h) (sym r) tt
  record_legal (enter u ∷ es) p q h l events r =
      record_legal es (after (enter u) p) q (closes_one p.status q.status u (is_done None) (done_not None) h) l.1
      events r
  record_legal (leave u ∷ es) p q h l events r =
      record_legal es (after (leave u) p) q (closes_one p.status q.status u (is_done None) (done_not None) h) l.1
      events r
  record_legal (begin u w b ∷ es) p q h l events r = absurd r
  record_legal (answer u a ∷ es) p q h l events r =
      first_legal q (answer u a) events r.0 r.1.0 (may_end p q h u a l.0)
      (record_legal es (after_answer u a p) (after_answer u a q)
      (subst (λ (f : ℕ → Status). StaysBegun f (after_answer u a q).status) (sym (answer_leaves u a p))
      (after_both p q h u (left_by a) (left_not a) a)) l.1 r.0 r.1.1)
  record_legal (crash ∷ es) p q h l events r =
      first_legal q crash events r.0 r.1.0 tt
      (record_legal es (after crash p) (after crash q)
      (λ u w b e. absurd (closed_not (p.status u) w b e)) l.1 r.0 r.1.1)
  record_legal (back u ∷ es) p q h l events r = elim r [
    | inl i ↦
        first_legal q (back u) events i.0 i.1.0 (still_begun p q h u l.0)
        (record_legal es (after (back u) p) (after (back u) q)
        (close_both p.status q.status u is_waiting is_waiting waits_not h) l.1 i.0 i.1.1)
    | inr i ↦
        first_legal q (answer u i.given) events i.comes_first.0 i.comes_first.1.0
        (record { is_begun = still_begun p q h u l.0; ended = i.task; is_task = i.is_task; suits = i.suits })
        (record_legal es (after (back u) p) (after_answer u i.given q)
        (after_both p q h u is_waiting waits_not i.given) l.1 i.comes_first.0 i.comes_first.1.1)
  ]

  pub legal_front : (p : Progress) (front more : List Event) → IsLegalFrom x p (front ++ more)
      → IsLegalFrom x p front × IsLegalFrom x (after_all front p) more
  legal_front p [] more l = (tt, l)
  legal_front p (e ∷ front) more l = let r = legal_front (after e p) front more l.1 in ((l.0, r.0), r.1)

  pub legal_joined : (p : Progress) (front more : List Event) → IsLegalFrom x p front
      → IsLegalFrom x (after_all front p) more → IsLegalFrom x p (front ++ more)
  legal_joined p [] more l m = m
  legal_joined p (e ∷ front) more l m = (l.0, legal_joined (after e p) front more l.1 m)

  pub records_are_legal : (front more events : List Event) → IsLegal x (front ++ more) → IsRecord x more events
      → IsLegal x (front ++ events)
  records_are_legal front more events l r =
      let s = legal_front at_opening front more l in
      legal_joined at_opening front events s.0
      (record_legal more (after_all front at_opening) (after_all front at_opening) (λ u w b e. e) s.1 events r)
