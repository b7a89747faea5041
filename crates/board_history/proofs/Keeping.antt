-- What a history keeps after one event more.
use Rattle.std.proofs.Common.{◌≡◌, ◌⊎◌, inl, inr, ℕ, zero, suc, ◌+◌, ◌<◌, ◌≤◌, Bool, true, false, true≢false, List, []}
use Rattle.std.proofs.Common.{◌∷◌, ◌++◌, length, take, drop, set, map, replicate, Option, Some, None, refl, sym, ap}
use Rattle.std.proofs.Common.{subst, ◌∙◌, arith}
use Rattle.std.proofs.Common.{length-append, length-set, ◌^◌}
use Rattle.std.proofs.lemmas.List.{length-map, length-replicate}
use Rattle.std.specs.Prelude.{nat_eq, slice_get, is_some, if◌then◌else◌}
use Rattle.std.proofs.lemmas.Bool.{cases_lt}
use Rattle.foundation.proofs.Comparisons.{eq_itself}
use Rattle.foundation.proofs.Lists.{got_before, got_last}
use Rattle.arm_value.specs.Json.{Json}
use Rattle.provider_trait.specs.declared.answer.Answer.{Answer}
use Rattle.provider_trait.specs.declared.answer.Answer.TheVariants.{Stored, Gone, Refused}
use Rattle.deploy_histories.specs.Events.{Event, enter, begin, answer, back, leave, crash, Status, is_waiting}
use Rattle.deploy_histories.specs.Events.{is_begun}
use Rattle.deploy_histories.specs.Events.{is_done, Refusal, Progress, changed, after, after_all, at_opening, progress}
use Rattle.deploy_histories.specs.Events.{closed, done_status, first_refusal, IsBegun, NoneBegun}
use Rattle.provider_trait.specs.declared.event.Event as noted
use Rattle.provider_trait.specs.declared.event.Event.TheVariants as noted_as
use Rattle.arm_value.specs.View.{json}
use Rattle.arm_value.specs.declared.value.Value.{Value}
use Rattle.board_history.specs.Past.{Past, event_of}
use Rattle.board_history.specs.declared.stage.Stage.{Stage}
use Rattle.board_history.specs.declared.stage.Stage.TheVariants.{Waiting, Begun, Done}
use Rattle.board_history.specs.Stages.{begun_status, refuses, begun_by, done_by, status_by, IsWithin, IsOfBegin}
use Rattle.board_history.specs.Stages.{stage_at, is_open}
use Rattle.board_history.specs.Stages.{count_open, closed_stage, refusal_in, refusal_by, IsPlace, first_of, IsKept}

-- ---- one event more

after_all_more : (p : Progress) (es : List Event) (e : Event) → after_all (es ++ e ∷ []) p ≡ after e (after_all es p)
after_all_more p [] e = refl
after_all_more p (f ∷ es) e = after_all_more (after f p) es e

pub progress_more : (es : List Event) (e : Event) → progress (es ++ e ∷ []) ≡ after e (progress es)
progress_more es e = after_all_more at_opening es e

one_longer : (es : List Event) (e : Event) → length (es ++ e ∷ []) ≡ length es + 1
one_longer es e = length-append es (e ∷ [])

-- ---- numbers

same_or : (u n : ℕ) → (u ≡ n) ⊎ ((u ≡ n) → ⊥)
same_or zero zero = inl refl
same_or zero (suc n) = inr (λ e. omega (arith, e))
same_or (suc u) zero = inr (λ e. omega (arith, e))
same_or (suc u) (suc n) = elim (same_or u n) [
  | inl e ↦ inl (ap (λ (k : ℕ). suc k) e)
  | inr d ↦ inr (λ e. d (omega (arith, e)))
]

-- ---- stages

pub stage_set : (ss : List Stage) (u : ℕ) (s : Stage) → u < length ss → stage_at (set ss u s) u ≡ s
stage_set [] u s h = absurd (omega (arith, h))
stage_set (t ∷ ss) zero s h = refl
stage_set (t ∷ ss) (suc u) s h = stage_set ss u s (omega (arith, h))

pub stage_other : (ss : List Stage) (u v : ℕ) (s : Stage) → (v ≡ u → ⊥) → stage_at (set ss u s) v ≡ stage_at ss v
stage_other [] u v s n = refl
stage_other (t ∷ ss) zero zero s n = absurd (n refl)
stage_other (t ∷ ss) zero (suc v) s n = refl
stage_other (t ∷ ss) (suc u) zero s n = refl
stage_other (t ∷ ss) (suc u) (suc v) s n = stage_other ss u v s (λ e. n (ap (λ (k : ℕ). suc k) e))

abbrev open_one : Stage → ℕ
open_one s = if is_open s then 1 else 0

pub count_set : (ss : List Stage) (u : ℕ) (s : Stage) → u < length ss
    → count_open (set ss u s) + open_one (stage_at ss u) ≡ count_open ss + open_one s
count_set [] u s h = absurd (omega (arith, h))
count_set (t ∷ ss) zero s h = omega arith
count_set (t ∷ ss) (suc u) s h = let r = count_set ss u s (omega (arith, h)) in omega (arith, r)

pub count_least : (ss : List Stage) (u : ℕ) → is_open (stage_at ss u) ≡ true → 1 ≤ count_open ss
count_least [] u e = absurd (true≢false (sym e))
count_least (t ∷ ss) zero e = let r : open_one t ≡ 1 = ap (λ (b : Bool). if b then 1 else 0) e in omega (arith, r)
count_least (t ∷ ss) (suc u) e = let r = count_least ss u e in omega (arith, r)

pub open_inside : (ss : List Stage) (u : ℕ) → is_open (stage_at ss u) ≡ true → u < length ss
open_inside [] u e = absurd (true≢false (sym e))
open_inside (t ∷ ss) zero e = omega arith
open_inside (t ∷ ss) (suc u) e = let r = open_inside ss u e in omega (arith, r)

pub none_open : (count : ℕ) → count_open (replicate count Waiting) ≡ 0
none_open zero = refl
none_open (suc count) = let r = none_open count in omega (arith, r)

pub all_wait : (count u : ℕ) → stage_at (replicate count Waiting) u ≡ Waiting
all_wait zero u = refl
all_wait (suc count) zero = refl
all_wait (suc count) (suc u) = all_wait count u

-- the stages before a place are closed, and the others are as they were
pub record AreClosedTo (n : ℕ) (ss ns : List Stage) : Type 0 where
  pub size : length ns ≡ length ss
  pub before : (u : ℕ) → u < n → stage_at ns u ≡ closed_stage (stage_at ss u)
  pub others : (u : ℕ) → n ≤ u → stage_at ns u ≡ stage_at ss u

pub none_closed_yet : (ss : List Stage) → AreClosedTo 0 ss ss
none_closed_yet ss = record { size = refl; before = λ u h. absurd (omega (arith, h)); others = λ u h. refl }

stage_past : (ss : List Stage) (u : ℕ) → length ss ≤ u → stage_at ss u ≡ Waiting
stage_past [] u h = refl
stage_past (s ∷ ss) zero h = absurd (omega (arith, h))
stage_past (s ∷ ss) (suc u) h = stage_past ss u (omega (arith, h))

pub one_more_closed : (n : ℕ) (ss ns : List Stage) → n < length ss → AreClosedTo n ss ns → (s : Stage)
    → s ≡ closed_stage (stage_at ns n) → AreClosedTo (n + 1) ss (set ns n s)
one_more_closed n ss ns w a s e = record {
  size = length-set ns n s ∙ a.size;
  before = λ u h. by_place u h (same_or u n);
  others = λ u h. stage_other ns n u s (λ i. omega (arith, h, i)) ∙ a.others u (omega (arith, h));
}
  where
    within : n < length ns
    within = let z = a.size in omega (arith, w, z)

    by_place : (u : ℕ) → u < n + 1 → (u ≡ n) ⊎ ((u ≡ n) → ⊥) → stage_at (set ns n s) u ≡ closed_stage (stage_at ss u)
    by_place u h (inl i) =
        subst (λ (v : ℕ). stage_at (set ns n s) v ≡ closed_stage (stage_at ss v)) (sym i)
        (stage_set ns n s within ∙ e ∙ ap closed_stage (a.others n (omega arith)))
    by_place u h (inr d) = stage_other ns n u s d ∙ a.before u (below u h d)
      where
        below : (u : ℕ) → u < n + 1 → ((u ≡ n) → ⊥) → u < n
        below u h d = elim (cases_lt u n) [ inl l ↦ l | inr l ↦ absurd (d (omega (arith, h, l))) ]

pub all_closed : (ss ns : List Stage) (n : ℕ) → length ss ≤ n → AreClosedTo n ss ns → (u : ℕ)
    → stage_at ns u ≡ closed_stage (stage_at ss u)
all_closed ss ns n w a u = by_place (cases_lt u n)
  where
    by_place : (u < n) ⊎ (n ≤ u) → stage_at ns u ≡ closed_stage (stage_at ss u)
    by_place (inl h) = a.before u h
    by_place (inr h) =
        a.others u h ∙ stage_past ss u (omega (arith, w, h))
        ∙ sym (ap closed_stage (stage_past ss u (omega (arith, w, h))))

-- ---- stages and statuses

pub done_by_is : (o : Option Event) → done_status (done_by o) ≡ true
done_by_is None = refl
done_by_is (Some (enter u)) = refl
done_by_is (Some (begin u w b)) = refl
done_by_is (Some (answer u (Stored j))) = refl
done_by_is (Some (answer u Gone)) = refl
done_by_is (Some (answer u (Refused code))) = refl
done_by_is (Some (back u)) = refl
done_by_is (Some (leave u)) = refl
done_by_is (Some crash) = refl

begun_not_done : (s : Status) → begun_status s ≡ true → done_status s ≡ false
begun_not_done (is_begun w b) e = refl
begun_not_done is_waiting e = refl
begun_not_done (is_done o) e = absurd (true≢false (sym e))

module _ (es : List Event) where
  pub done_of_stage : (s : Stage) → IsOfBegin es s → done_status (status_by es s) ≡ (elim s [
    | Waiting ↦ false
    | Begun p ↦ false
    | Done p ↦ true
  ])
  done_of_stage Waiting h = refl
  done_of_stage (Begun p) h = begun_not_done (begun_by (slice_get es p)) h
  done_of_stage (Done p) h = done_by_is (slice_get es p)

  not_both : (s : Status) → done_status s ≡ true → begun_status s ≡ false
  not_both (is_done o) e = refl
  not_both is_waiting e = absurd (true≢false (sym e))
  not_both (is_begun w b) e = absurd (true≢false (sym e))

  pub begun_of_stage : (s : Stage) → IsOfBegin es s → begun_status (status_by es s) ≡ is_open s
  begun_of_stage Waiting h = refl
  begun_of_stage (Begun p) h = h
  begun_of_stage (Done p) h = not_both (done_by (slice_get es p)) (done_by_is (slice_get es p))

  -- a stage says as much once there is one event more
  still : (e : Event) (s : Stage) → IsWithin (length es) s → status_by (es ++ e ∷ []) s ≡ status_by es s
  still e Waiting h = refl
  still e (Begun p) h = ap begun_by (got_before es e p h)
  still e (Done p) h = ap done_by (got_before es e p h)

  still_begin : (e : Event) (s : Stage) → IsWithin (length es) s → IsOfBegin es s → IsOfBegin (es ++ e ∷ []) s
  still_begin e Waiting h i = tt
  still_begin e (Begun p) h i =
      subst (λ (o : Option Event). begun_status (begun_by o) ≡ true) (sym (got_before es e p h)) i
  still_begin e (Done p) h i = tt

  still_within : (e : Event) (s : Stage) → IsWithin (length es) s → IsWithin (length (es ++ e ∷ [])) s
  still_within e Waiting h = tt
  still_within e (Begun p) h = omega (arith, h, one_longer es e)
  still_within e (Done p) h = omega (arith, h, one_longer es e)

  still_refused : (e : Event) (r : Option ℕ) → IsPlace es r → refusal_by (es ++ e ∷ []) r ≡ refusal_by es r
  still_refused e None h = refl
  still_refused e (Some p) h = ap refusal_in (got_before es e p h.0)

  still_place : (e : Event) (r : Option ℕ) → IsPlace es r → IsPlace (es ++ e ∷ []) r
  still_place e None h = tt
  still_place e (Some p) h = (
    (let l = h.0 in omega (arith, l, one_longer es e)),
    ap (λ (o : Option Event). is_some (refusal_in o)) (got_before es e p h.0) ∙ h.1,
  )

number_is : (u v : ℕ) → nat_eq v u ≡ true → v ≡ u
number_is u v e = grind (arith, e)

pub by_two : (u v : ℕ) (P : Type 0) → (v ≡ u → P) → (nat_eq v u ≡ false → (v ≡ u → ⊥) → P) → P
by_two u v P f g = by_bool (nat_eq v u) refl
  where
    by_bool : (b : Bool) → nat_eq v u ≡ b → P
    by_bool true e = f (number_is u v e)
    by_bool false e = g e (λ i. true≢false (sym (eq_itself u) ∙ ap (λ (n : ℕ). nat_eq n u) (sym i) ∙ e))

module _ (es : List Event) (ss : List Stage) (refusal : Option ℕ) (opened room : ℕ)
    (k : IsKept es ss refusal opened room) where
  pub is_begun_open : (u : ℕ) → IsBegun (progress es) u → is_open (stage_at ss u) ≡ true
  is_begun_open u b =
      sym (begun_of_stage es (stage_at ss u) (k.begins u)) ∙ sym (ap begun_status (k.statuses u))
      ∙ ap begun_status b.1.1

  pub waiting_not_open : (u : ℕ) → (progress es).status u ≡ is_waiting → is_open (stage_at ss u) ≡ false
  waiting_not_open u w =
      sym (begun_of_stage es (stage_at ss u) (k.begins u)) ∙ sym (ap begun_status (k.statuses u)) ∙ ap begun_status w

  -- one event more, by which one task has another stage
  module _ (e : Event) (u : ℕ) (s : Stage) (within : u < length ss) (x : Status)
      (here : status_by (es ++ e ∷ []) s ≡ x)
      (is : (after e (progress es)).status ≡ changed u x (progress es).status) where
    status_more : (v : ℕ) → (progress (es ++ e ∷ [])).status v ≡ changed u x (progress es).status v
    status_more v = ap (λ (p : Progress). p.status v) (progress_more es e) ∙ ap (λ (f : ℕ → Status). f v) is

    statuses_more : (v : ℕ) → (progress (es ++ e ∷ [])).status v ≡ status_by (es ++ e ∷ []) (stage_at (set ss u s) v)
    statuses_more v =
        by_two u v ((progress (es ++ e ∷ [])).status v ≡ status_by (es ++ e ∷ []) (stage_at (set ss u s) v))
        (λ i. status_more v ∙ ap (λ (b : Bool). if b then x else (progress es).status v)
        (ap (λ (n : ℕ). nat_eq n u) i ∙ eq_itself u) ∙ sym here
        ∙ ap (status_by (es ++ e ∷ [])) (sym (stage_set ss u s within) ∙ ap (stage_at (set ss u s)) (sym i)))
        (λ n d. status_more v ∙ ap (λ (b : Bool). if b then x else (progress es).status v) n ∙ k.statuses v
        ∙ sym (still es e (stage_at ss v) (k.within v))
        ∙ ap (status_by (es ++ e ∷ [])) (sym (stage_other ss u v s d)))

    each_stage : (P : Stage → Type 0) → P s → ((v : ℕ) → P (stage_at ss v)) → (v : ℕ) → P (stage_at (set ss u s) v)
    each_stage P one all v =
        by_two u v (P (stage_at (set ss u s) v))
        (λ i. subst P (sym (stage_set ss u s within) ∙ ap (stage_at (set ss u s)) (sym i)) one)
        (λ n d. subst P (sym (stage_other ss u v s d)) (all v))

    pub one_changed : IsWithin (length (es ++ e ∷ [])) s → IsOfBegin (es ++ e ∷ []) s → (r : Option ℕ)
        → (after e (progress es)).refusal ≡ refusal_by (es ++ e ∷ []) r → IsPlace (es ++ e ∷ []) r
        → (n m : ℕ) → n ≡ count_open (set ss u s) → length es + 1 + n ≤ m
        → IsKept (es ++ e ∷ []) (set ss u s) r n m
    one_changed w b r q place n m counted room = record {
      statuses = statuses_more;
      within =
          each_stage (IsWithin (length (es ++ e ∷ []))) w
          (λ v. still_within es e (stage_at ss v) (k.within v));
      begins =
          each_stage (IsOfBegin (es ++ e ∷ [])) b
          (λ v. still_begin es e (stage_at ss v) (k.within v) (k.begins v));
      refused = ap (λ (p : Progress). p.refusal) (progress_more es e) ∙ q;
      place = place;
      counted = counted;
      has_room = omega (arith, room, one_longer es e);
      few = (let f = k.few in omega (arith, f, length-set ss u s));
    }

    -- and it does not refuse
    pub no_refusal : (after e (progress es)).refusal ≡ (progress es).refusal → IsWithin (length (es ++ e ∷ [])) s
        → IsOfBegin (es ++ e ∷ []) s → (n m : ℕ) → n ≡ count_open (set ss u s) → length es + 1 + n ≤ m
        → IsKept (es ++ e ∷ []) (set ss u s) refusal n m
    no_refusal same w b n m counted room =
        one_changed w b refusal (same ∙ k.refused ∙ sym (still_refused es e refusal k.place))
        (still_place es e refusal k.place) n m counted room

  last_place : (e : Event) → length es < length (es ++ e ∷ [])
  last_place e = omega (arith, one_longer es e)

  -- a task is done without an answer
  pub passes : (e : Event) (u : ℕ) → u < length ss → (progress es).status u ≡ is_waiting
      → after e (progress es) ≡ record {
        status = changed u (is_done None) (progress es).status;
        refusal = (progress es).refusal;
      } → done_by (Some e) ≡ is_done None → (m : ℕ) → length es + 1 + opened ≤ m
      → IsKept (es ++ e ∷ []) (set ss u (Done (length es))) refusal opened m
  passes e u h w is d m room =
      no_refusal e u (Done (length es)) h (is_done None) (ap done_by (got_last es e) ∙ d)
      (ap (λ (p : Progress). p.status) is) (ap (λ (p : Progress). p.refusal) is) (last_place e) tt opened m
      (let c = count_set ss u (Done (length es)) h in
      let o : open_one (stage_at ss u) ≡ 0 = ap (λ (b : Bool). if b then 1 else 0) (waiting_not_open u w) in
      omega (arith, c, o, k.counted)) room

  pub begins_one : (u w : ℕ) (b : Json) → u < length ss → (progress es).status u ≡ is_waiting → (m : ℕ)
      → length es + 1 + (opened + 1) ≤ m
      → IsKept (es ++ begin u w b ∷ []) (set ss u (Begun (length es))) refusal (opened + 1) m
  begins_one u w b h waits m room =
      no_refusal (begin u w b) u (Begun (length es)) h (is_begun w b) (ap begun_by (got_last es (begin u w b)))
      refl refl
      (last_place (begin u w b))
      (ap (λ (o : Option Event). begun_status (begun_by o)) (got_last es (begin u w b))) (opened + 1) m
      (let c = count_set ss u (Begun (length es)) h in
      let o : open_one (stage_at ss u) ≡ 0 = ap (λ (b : Bool). if b then 1 else 0) (waiting_not_open u waits) in
      omega (arith, c, o, k.counted)) room

  -- there is room for the end of an open Begin
  pub has_room_for : (u : ℕ) → IsBegun (progress es) u → (1 ≤ opened) × (length es + 1 ≤ room)
  has_room_for u b =
      let c = count_least ss u (is_begun_open u b) in
      let o = k.counted in
      let r = k.has_room in (omega (arith, c, o), omega (arith, c, o, r))

  pub inside : (u : ℕ) → IsBegun (progress es) u → u < length ss
  inside u b = open_inside ss u (is_begun_open u b)

  one_less : (u : ℕ) (s : Stage) → IsBegun (progress es) u → is_open s ≡ false → (n : ℕ) → n + 1 ≡ opened
      → n ≡ count_open (set ss u s)
  one_less u s b e n is =
      let c = count_set ss u s (inside u b) in
      let o : open_one (stage_at ss u) ≡ 1 = ap (λ (b : Bool). if b then 1 else 0) (is_begun_open u b) in
      let z : open_one s ≡ 0 = ap (λ (b : Bool). if b then 1 else 0) e in
      let d = k.counted in omega (arith, c, o, z, d, is)

  pub goes_back : (u : ℕ) → IsBegun (progress es) u → (n m : ℕ) → n + 1 ≡ opened → room ≤ m
      → IsKept (es ++ back u ∷ []) (set ss u Waiting) refusal n m
  goes_back u b n m is more =
      no_refusal (back u) u Waiting (inside u b) is_waiting refl refl refl tt tt n m (one_less u Waiting b refl n is)
      (let r = k.has_room in omega (arith, r, is, more))

  pub finishes : (u : ℕ) (a : Answer) (o : Option Json) → IsBegun (progress es) u
      → after (answer u a) (progress es) ≡ record {
        status = changed u (is_done o) (progress es).status;
        refusal = (progress es).refusal;
      } → done_by (Some (answer u a)) ≡ is_done o → (n m : ℕ) → n + 1 ≡ opened
      → room ≤ m → IsKept (es ++ answer u a ∷ []) (set ss u (Done (length es))) refusal n m
  finishes u a o b is d n m one more =
      no_refusal (answer u a) u (Done (length es)) (inside u b) (is_done o)
      (ap done_by (got_last es (answer u a)) ∙ d) (ap (λ (p : Progress). p.status) is)
      (ap (λ (p : Progress). p.refusal) is) (last_place (answer u a)) tt n m
      (one_less u (Done (length es)) b refl n one) (let r = k.has_room in omega (arith, r, one, more))

  pub refuses_one : (u : ℕ) (a : Answer) (code : List ℕ) → a ≡ Refused code → IsBegun (progress es) u → (n m : ℕ)
      → n + 1 ≡ opened → room ≤ m
      → IsKept (es ++ answer u a ∷ []) (set ss u Waiting) (first_of refusal (length es)) n m
  refuses_one u a code is b n m one more =
      subst (λ (a : Answer). IsKept (es ++ answer u a ∷ []) (set ss u Waiting) (first_of refusal (length es)) n m)
      (sym is)
      (one_changed (answer u (Refused code)) u Waiting (inside u b) is_waiting refl refl tt tt
      (first_of refusal (length es)) (by_first refusal k.refused k.place) (place_of refusal k.place) n m
      (one_less u Waiting b refl n one) (let r = k.has_room in omega (arith, r, one, more)))
    where
      by_some : (o p : Option Refusal) (r : Refusal) → p ≡ o → is_some o ≡ true → first_refusal p r ≡ o
      by_some None p r e h = absurd (true≢false (sym h))
      by_some (Some q) p r e h = ap (λ (o : Option Refusal). first_refusal o r) e

      by_first : (r : Option ℕ) → (progress es).refusal ≡ refusal_by es r → IsPlace es r
          → first_refusal (progress es).refusal (record { task = u; code = code })
          ≡ refusal_by (es ++ answer u (Refused code) ∷ []) (first_of r (length es))
      by_first None e h =
          ap (λ (o : Option Refusal). first_refusal o (record { task = u; code = code })) e
          ∙ sym (ap refusal_in (got_last es (answer u (Refused code))))
      by_first (Some p) e h =
          by_some (refusal_in (slice_get es p)) (progress es).refusal (record { task = u; code = code }) e h.1
          ∙ sym (ap refusal_in (got_before es (answer u (Refused code)) p h.0))

      place_of : (r : Option ℕ) → IsPlace es r → IsPlace (es ++ answer u (Refused code) ∷ []) (first_of r (length es))
      place_of None h = (
        last_place (answer u (Refused code)),
        ap (λ (o : Option Event). is_some (refusal_in o)) (got_last es (answer u (Refused code))),
      )
      place_of (Some p) h = still_place es (answer u (Refused code)) (Some p) h

  -- an answer that does not refuse
  pub finishes_by : (u : ℕ) (a : Answer) → refuses a ≡ false → IsBegun (progress es) u → (n m : ℕ) → n + 1 ≡ opened
      → room ≤ m → IsKept (es ++ answer u a ∷ []) (set ss u (Done (length es))) refusal n m
  finishes_by u (Stored j) e b n m one more = finishes u (Stored j) (Some j) b refl refl n m one more
  finishes_by u Gone e b n m one more = finishes u Gone None b refl refl n m one more
  finishes_by u (Refused code) e b n m one more = absurd (true≢false e)

  -- an answer that refuses
  pub refuses_by : (u : ℕ) (a : Answer) → refuses a ≡ true → IsBegun (progress es) u → (r : Option ℕ)
      → first_of refusal (length es) ≡ r → (n m : ℕ) → n + 1 ≡ opened → room ≤ m
      → IsKept (es ++ answer u a ∷ []) (set ss u Waiting) r n m
  refuses_by u (Refused code) e b r i n m one more =
      subst (λ (o : Option ℕ). IsKept (es ++ answer u (Refused code) ∷ []) (set ss u Waiting) o n m) i
      (refuses_one u (Refused code) code refl b n m one more)
  refuses_by u (Stored j) e b r i n m one more = absurd (true≢false (sym e))
  refuses_by u Gone e b r i n m one more = absurd (true≢false (sym e))

-- ---- a crash

none_closed : (s : Stage) → is_open (closed_stage s) ≡ false
none_closed Waiting = refl
none_closed (Begun p) = refl
none_closed (Done p) = refl

none_is_open : (ss : List Stage) → ((u : ℕ) → is_open (stage_at ss u) ≡ false) → count_open ss ≡ 0
none_is_open [] h = refl
none_is_open (s ∷ ss) h =
    let z : open_one s ≡ 0 = ap (λ (b : Bool). if b then 1 else 0) (h zero) in
    let r = none_is_open ss (λ u. h (suc u)) in omega (arith, z, r)

begun_closes : (s : Status) → begun_status s ≡ true → closed s ≡ is_waiting
begun_closes (is_begun w b) e = refl
begun_closes is_waiting e = refl
begun_closes (is_done o) e = absurd (true≢false (sym e))

done_stays : (s : Status) → done_status s ≡ true → closed s ≡ s
done_stays (is_done o) e = refl
done_stays is_waiting e = absurd (true≢false (sym e))
done_stays (is_begun w b) e = absurd (true≢false (sym e))

module _ (es : List Event) where
  closes : (s : Stage) → IsWithin (length es) s → IsOfBegin es s
      → closed (status_by es s) ≡ status_by (es ++ crash ∷ []) (closed_stage s)
  closes Waiting h i = refl
  closes (Begun p) h i = begun_closes (begun_by (slice_get es p)) i
  closes (Done p) h i =
      done_stays (done_by (slice_get es p)) (done_by_is (slice_get es p)) ∙ ap done_by (sym (got_before es crash p h))

  closed_within : (s : Stage) → IsWithin (length es) s → IsWithin (length (es ++ crash ∷ [])) (closed_stage s)
  closed_within Waiting h = tt
  closed_within (Begun p) h = tt
  closed_within (Done p) h = omega (arith, h, one_longer es crash)

  closed_begins : (s : Stage) → IsOfBegin (es ++ crash ∷ []) (closed_stage s)
  closed_begins Waiting = tt
  closed_begins (Begun p) = tt
  closed_begins (Done p) = tt

pub crashes : (es : List Event) (ss ns : List Stage) (refusal : Option ℕ) (opened room : ℕ)
    → IsKept es ss refusal opened room → length ns ≡ length ss
    → ((u : ℕ) → stage_at ns u ≡ closed_stage (stage_at ss u)) → (m : ℕ) → length es + 1 ≤ m
    → IsKept (es ++ crash ∷ []) ns refusal 0 m
crashes es ss ns refusal opened room k size each m more = record {
  statuses = λ u. ap (λ (p : Progress). p.status u) (progress_more es crash) ∙ ap closed (k.statuses u)
      ∙ closes es (stage_at ss u) (k.within u) (k.begins u) ∙ ap (status_by (es ++ crash ∷ [])) (sym (each u));
  within = λ u. subst (IsWithin (length (es ++ crash ∷ []))) (sym (each u))
      (closed_within es (stage_at ss u) (k.within u));
  begins = λ u. subst (IsOfBegin (es ++ crash ∷ [])) (sym (each u)) (closed_begins es (stage_at ss u));
  refused = ap (λ (p : Progress). p.refusal) (progress_more es crash) ∙ k.refused
      ∙ sym (still_refused es crash refusal k.place);
  place = still_place es crash refusal k.place;
  counted = sym (none_is_open ns (λ u. ap is_open (each u) ∙ none_closed (stage_at ss u)));
  has_room = omega (arith, more, one_longer es crash);
  few = (let f = k.few in omega (arith, f, size));
}

-- ---- at the beginning

pub at_first : (count room : ℕ) → count < 2 ^ 32 → IsKept [] (replicate count Waiting) None 0 room
at_first count room few = record {
  statuses = λ u. ap (status_by []) (sym (all_wait count u));
  within = λ u. subst (IsWithin 0) (sym (all_wait count u)) tt;
  begins = λ u. subst (IsOfBegin []) (sym (all_wait count u)) tt;
  refused = refl;
  place = tt;
  counted = sym (none_open count);
  has_room = omega arith;
  few = subst (λ (n : ℕ). n < 2 ^ 32) (sym (length-replicate count Waiting)) few;
}

-- ---- open Begins

none_counted : (ss : List Stage) → count_open ss ≡ 0 → (u : ℕ) → is_open (stage_at ss u) ≡ false
none_counted ss e u = by_bool (is_open (stage_at ss u)) refl
  where
    by_bool : (b : Bool) → is_open (stage_at ss u) ≡ b → b ≡ false
    by_bool false f = refl
    by_bool true f = let c = count_least ss u f in absurd (omega (arith, c, e))

some_by : (s : Stage) (ss : List Stage) (b : Bool) → is_open s ≡ b → 0 < count_open (s ∷ ss)
    → (0 < count_open ss → (u : ℕ) × (is_open (stage_at ss u) ≡ true))
    → (u : ℕ) × (is_open (stage_at (s ∷ ss) u) ≡ true)
some_by s ss true f h rest = (zero, f)
some_by s ss false f h rest =
    let z : open_one s ≡ 0 = ap (λ (b : Bool). if b then 1 else 0) f in
    let r = rest (omega (arith, z, h)) in (suc r.0, r.1)

some_counted : (ss : List Stage) → 0 < count_open ss → (u : ℕ) × (is_open (stage_at ss u) ≡ true)
some_counted [] h = absurd (omega (arith, h))
some_counted (s ∷ ss) h = some_by s ss (is_open s) refl h (λ i. some_counted ss i)

begun_is : (s : Status) → begun_status s ≡ true → (w : ℕ) × ((b : Json) × (s ≡ is_begun w b))
begun_is (is_begun w b) e = (w, (b, refl))
begun_is is_waiting e = absurd (true≢false (sym e))
begun_is (is_done o) e = absurd (true≢false (sym e))

module _ (es : List Event) (ss : List Stage) (refusal : Option ℕ) (opened room : ℕ)
    (k : IsKept es ss refusal opened room) where
  pub none_begun : opened ≡ 0 → NoneBegun (progress es)
  none_begun e u b =
      true≢false (sym (is_begun_open es ss refusal opened room k u b) ∙ none_counted ss (sym k.counted ∙ e) u)

  pub some_begun : 0 < opened → (u : ℕ) × IsBegun (progress es) u
  some_begun h =
      let o = k.counted in
      let r = some_counted ss (omega (arith, h, o)) in (
        r.0,
        begun_is ((progress es).status r.0)
            (ap begun_status (k.statuses r.0) ∙ begun_of_stage es (stage_at ss r.0) (k.begins r.0) ∙ r.1),
      )

  pub done_here : (u : ℕ) → done_status ((progress es).status u) ≡ done_status (status_by es (stage_at ss u))
  done_here u = ap done_status (k.statuses u)

  pub begun_here : (u : ℕ) → begun_status ((progress es).status u) ≡ is_open (stage_at ss u)
  begun_here u = ap begun_status (k.statuses u) ∙ begun_of_stage es (stage_at ss u) (k.begins u)

-- ---- events that were noted

pub mapped : (xs : List noted.Event) (e : noted.Event)
    → map event_of (xs ++ e ∷ []) ≡ map event_of xs ++ event_of e ∷ []
mapped [] e = refl
mapped (x ∷ xs) e = ap (λ (es : List Event). event_of x ∷ es) (mapped xs e)

pub kept_pushed : (ys xs : List noted.Event) (e : noted.Event) → ys ≡ xs ++ e ∷ [] → (ss : List Stage)
    (r : Option ℕ) (n m : ℕ) → IsKept (map event_of xs ++ event_of e ∷ []) ss r n m → IsKept (map event_of ys) ss r n m
kept_pushed ys xs e is ss r n m k =
    subst (λ (es : List Event). IsKept es ss r n m) (sym (ap (map event_of) is ∙ mapped xs e)) k

module _ (xs ys : List noted.Event) (ss : List Stage) (refusal : Option ℕ) (opened room place : ℕ)
    (k : IsKept (map event_of xs) ss refusal opened room) (at : place ≡ length xs) where
  place_is : length (map event_of xs) ≡ place
  place_is = length-map xs event_of ∙ sym at

  room_is : (n m : ℕ) → length xs + n ≤ m → length (map event_of xs) + n ≤ m
  room_is n m h = omega (arith, h, length-map xs event_of)

  pub enters_at : (u : ℕ) → ys ≡ xs ++ noted_as.Enter u ∷ [] → u < length ss
      → (progress (map event_of xs)).status u ≡ is_waiting → (m : ℕ) → length xs + 1 + opened ≤ m
      → IsKept (map event_of ys) (set ss u (Done place)) refusal opened m
  enters_at u is h w m fits =
      kept_pushed ys xs (noted_as.Enter u) is (set ss u (Done place)) refusal opened m
      (subst (λ (n : ℕ). IsKept (map event_of xs ++ enter u ∷ []) (set ss u (Done n)) refusal opened m) place_is
      (passes (map event_of xs) ss refusal opened room k (enter u) u h w refl refl m
      (omega (arith, fits, length-map xs event_of))))

  pub leaves_at : (u : ℕ) → ys ≡ xs ++ noted_as.Leave u ∷ [] → u < length ss
      → (progress (map event_of xs)).status u ≡ is_waiting → (m : ℕ) → length xs + 1 + opened ≤ m
      → IsKept (map event_of ys) (set ss u (Done place)) refusal opened m
  leaves_at u is h w m fits =
      kept_pushed ys xs (noted_as.Leave u) is (set ss u (Done place)) refusal opened m
      (subst (λ (n : ℕ). IsKept (map event_of xs ++ leave u ∷ []) (set ss u (Done n)) refusal opened m) place_is
      (passes (map event_of xs) ss refusal opened room k (leave u) u h w refl refl m
      (omega (arith, fits, length-map xs event_of))))

  pub begins_at : (u w : ℕ) (b : Value) → ys ≡ xs ++ noted_as.Begin u w b ∷ [] → u < length ss
      → (progress (map event_of xs)).status u ≡ is_waiting → (m : ℕ) → length xs + 1 + (opened + 1) ≤ m
      → IsKept (map event_of ys) (set ss u (Begun place)) refusal (opened + 1) m
  begins_at u w b is h waits m fits =
      kept_pushed ys xs (noted_as.Begin u w b) is (set ss u (Begun place)) refusal (opened + 1) m
      (subst (λ (n : ℕ). IsKept (map event_of xs ++ begin u w (json b) ∷ []) (set ss u (Begun n)) refusal
      (opened + 1) m)
      place_is (begins_one (map event_of xs) ss refusal opened room k u w (json b) h waits m
      (omega (arith, fits, length-map xs event_of))))

  pub finishes_at : (u : ℕ) (a : Answer) → ys ≡ xs ++ noted_as.Answer u a ∷ [] → refuses a ≡ false
      → IsBegun (progress (map event_of xs)) u → (n m : ℕ) → n + 1 ≡ opened → room ≤ m
      → IsKept (map event_of ys) (set ss u (Done place)) refusal n m
  finishes_at u a is does b n m one more =
      kept_pushed ys xs (noted_as.Answer u a) is (set ss u (Done place)) refusal n m
      (subst (λ (i : ℕ). IsKept (map event_of xs ++ answer u a ∷ []) (set ss u (Done i)) refusal n m) place_is
      (finishes_by (map event_of xs) ss refusal opened room k u a does b n m one more))

  pub refuses_at : (u : ℕ) (a : Answer) → ys ≡ xs ++ noted_as.Answer u a ∷ [] → refuses a ≡ true
      → IsBegun (progress (map event_of xs)) u → (r : Option ℕ) → r ≡ first_of refusal place → (n m : ℕ)
      → n + 1 ≡ opened → room ≤ m → IsKept (map event_of ys) (set ss u Waiting) r n m
  refuses_at u a is does b r first n m one more =
      kept_pushed ys xs (noted_as.Answer u a) is (set ss u Waiting) r n m
      (refuses_by (map event_of xs) ss refusal opened room k u a does b r
      (ap (first_of refusal) place_is ∙ sym first) n m one more)

-- what is said of the past holds of the fields
pub begun_inside : (n : ℕ) (es : List Event) (p : Past) → record { count = n; events = es } ≡ p → (u : ℕ)
    → IsBegun (progress p.events) u → IsBegun (progress es) u
begun_inside n es p is u b = subst (λ (q : Past). IsBegun (progress q.events) u) (sym is) b

pub waiting_inside : (n : ℕ) (es : List Event) (p : Past) → record { count = n; events = es } ≡ p → (u : ℕ)
    → (progress p.events).status u ≡ is_waiting → (progress es).status u ≡ is_waiting
waiting_inside n es p is u b = subst (λ (q : Past). (progress q.events).status u ≡ is_waiting) (sym is) b

pub within_inside : (n : ℕ) (es : List Event) (p : Past) → record { count = n; events = es } ≡ p → (u : ℕ)
    → u < p.count → u < n
within_inside n es p is u h = subst (λ (q : Past). u < q.count) (sym is) h

pub idle_inside : (n : ℕ) (es : List Event) (p : Past) → record { count = n; events = es } ≡ p
    → NoneBegun (progress es) → NoneBegun (progress p.events)
idle_inside n es p is h = subst (λ (q : Past). NoneBegun (progress q.events)) is h

pub busy_inside : (n : ℕ) (es : List Event) (p : Past) → record { count = n; events = es } ≡ p
    → (u : ℕ) × IsBegun (progress es) u → (u : ℕ) × IsBegun (progress p.events) u
busy_inside n es p is h = subst (λ (q : Past). (u : ℕ) × IsBegun (progress q.events) u) is h

-- a list that was lent whole and is given back
pub given_back : (n : ℕ) (old new : List Stage) → n ≡ length old → length new ≡ length old
    → take n (new ++ drop (length new) old) ≡ new
given_back n old new e f =
    ap (λ (m : ℕ). take m (new ++ drop (length new) old)) (e ∙ sym f)
    ∙ take-append new (drop (length new) old)
  where
    take-append : (xs ys : List Stage) → take (length xs) (xs ++ ys) ≡ xs
    take-append [] ys = refl
    take-append (x ∷ xs) ys = ap (λ (r : List Stage). x ∷ r) (take-append xs ys)
