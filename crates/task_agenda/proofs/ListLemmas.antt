-- Lists of tasks after a task was added or taken off.
use Rattle.std.proofs.Common.{◌≡◌, ◌⊎◌, inl, inr, ℕ, ◌<◌, ◌≤◌, ◌==◌, Bool, true, false, List}
use Rattle.std.proofs.Common.{[], ◌∷◌, ◌++◌, length, refl}
use Rattle.std.proofs.Common.{sym, ap, subst, ◌∙◌, cond, arith}
use Rattle.std.proofs.lemmas.Bool.Decides.{nat_tests}
use Rattle.std.specs.Prelude.{if◌then◌else◌, OnOk, Result, Ok, Err}
use Rattle.std.specs.declared.alloc.AllocError.{AllocError}
use Rattle.std.specs.BTreeSet.{BTreeSet}
use Rattle.foundation.proofs.Comparisons.{eq_itself, eq_of_true}
use Rattle.depend_graph.specs.Shape.{Shape, times, undone_needs}
use Rattle.task_agenda.specs.Lists.{is_scope, has, is_listed_in, ListsMore, Adds, IsSeenTo}

pub none_more : (g : Shape) (kinds : List Bool) (s a : BTreeSet ℕ) → ListsMore g kinds s a s a
none_more g kinds s a = record { only = λ u e. inl e; keeps = λ u e. e; apart = λ h. h }

pub more_then : (g : Shape) (kinds : List Bool) (s a t b v c : BTreeSet ℕ) → ListsMore g kinds s a t b
    → ListsMore g kinds t b v c → ListsMore g kinds s a v c
more_then g kinds s a t b v c h i = record {
  only = λ u e. elim (i.only u e) [ inl f ↦ h.only u f | inr f ↦ inr f ];
  keeps = λ u e. i.keeps u (h.keeps u e);
  apart = λ j. i.apart (h.apart j);
}

-- the numbers are the same, or their test is false
by_number : (u v : ℕ) → (u ≡ v) ⊎ ((u == v) ≡ false)
by_number u v = by_bool (u == v) refl
  where
    by_bool : (b : Bool) → (u == v) ≡ b → (u ≡ v) ⊎ ((u == v) ≡ false)
    by_bool true e = inl (grind (arith, nat_tests, e))
    by_bool false e = inr e

if_true : (b c : Bool) → (if b then true else c) ≡ true → (b ≡ true) ⊎ (c ≡ true)
if_true true c e = inl refl
if_true false c e = inr e

kept_true : (b c : Bool) → c ≡ true → (if b then true else c) ≡ true
kept_true true c e = refl
kept_true false c e = e

module _ (g : Shape) (kinds : List Bool) (s a n : BTreeSet ℕ) (task : ℕ)
    (added : (u : ℕ) → has n u ≡ (if u == task then true else has s u)) (free : length (undone_needs g task) ≡ 0)
    (kind : is_scope kinds task ≡ true) where
  scope_by : (u : ℕ) (b : Bool) → (if b then has n u else has a u) ≡ true
      → ((if b then has s u else has a u) ≡ true) ⊎ (length (undone_needs g u) ≡ 0)
  scope_by u true e = elim (if_true (u == task) (has s u) (sym (added u) ∙ e)) [
    | inl f ↦ inr (subst (λ (v : ℕ). length (undone_needs g v) ≡ 0) (sym (eq_of_true u task f)) free)
    | inr f ↦ inl f
  ]
  scope_by u false e = inl e

  keeps_by : (u : ℕ) (b : Bool) → (if b then has s u else has a u) ≡ true → (if b then has n u else has a u) ≡ true
  keeps_by u true e = added u ∙ kept_true (u == task) (has s u) e
  keeps_by u false e = e

  pub scope_added : ListsMore g kinds s a n a
  scope_added = record {
    only = λ u e. scope_by u (is_scope kinds u) e;
    keeps = λ u e. keeps_by u (is_scope kinds u) e;
    apart = λ h. record {
      are_scopes = λ u e. elim (if_true (u == task) (has s u) (sym (added u) ∙ e)) [
        | inl f ↦ subst (λ (v : ℕ). is_scope kinds v ≡ true) (sym (eq_of_true u task f)) kind
        | inr f ↦ h.are_scopes u f
      ];
      are_acts = h.are_acts;
    };
  }

module _ (g : Shape) (kinds : List Bool) (s a n : BTreeSet ℕ) (task : ℕ)
    (added : (u : ℕ) → has n u ≡ (if u == task then true else has a u)) (free : length (undone_needs g task) ≡ 0)
    (within : task < length kinds) (kind : is_scope kinds task ≡ false) where
  act_by : (u : ℕ) (b : Bool) → (if b then has s u else has n u) ≡ true
      → ((if b then has s u else has a u) ≡ true) ⊎ (length (undone_needs g u) ≡ 0)
  act_by u false e = elim (if_true (u == task) (has a u) (sym (added u) ∙ e)) [
    | inl f ↦ inr (subst (λ (v : ℕ). length (undone_needs g v) ≡ 0) (sym (eq_of_true u task f)) free)
    | inr f ↦ inl f
  ]
  act_by u true e = inl e

  act_keeps : (u : ℕ) (b : Bool) → (if b then has s u else has a u) ≡ true → (if b then has s u else has n u) ≡ true
  act_keeps u false e = added u ∙ kept_true (u == task) (has a u) e
  act_keeps u true e = e

  pub act_added : ListsMore g kinds s a s n
  act_added = record {
    only = λ u e. act_by u (is_scope kinds u) e;
    keeps = λ u e. act_keeps u (is_scope kinds u) e;
    apart = λ h. record {
      are_scopes = h.are_scopes;
      are_acts = λ u e. elim (if_true (u == task) (has a u) (sym (added u) ∙ e)) [
        | inl f ↦ subst (λ (v : ℕ). (v < length kinds) × (is_scope kinds v ≡ false)) (sym (eq_of_true u task f))
            (within, kind)
        | inr f ↦ h.are_acts u f
      ];
    };
  }

-- ---- after an answer

same_keeps : (b : Bool) (s a n m : Bool) → n ≡ s → m ≡ a → (if b then s else a) ≡ true → (if b then n else m) ≡ true
same_keeps true s a n m e f h = e ∙ h
same_keeps false s a n m e f h = f ∙ h

pub same_lists : (g : Shape) (kinds : List Bool) (s a n m : BTreeSet ℕ) → ((u : ℕ) → has n u ≡ has s u)
    → ((u : ℕ) → has m u ≡ has a u) → ListsMore g kinds s a n m
same_lists g kinds s a n m e f = record {
  only = λ u h. inl (same_keeps (is_scope kinds u) (has n u) (has m u) (has s u) (has a u) (sym (e u)) (sym (f u)) h);
  keeps = λ u h. same_keeps (is_scope kinds u) (has s u) (has a u) (has n u) (has m u) (e u) (f u) h;
  apart = λ h. record {
    are_scopes = λ u i. h.are_scopes u (sym (e u) ∙ i);
    are_acts = λ u i. h.are_acts u (sym (f u) ∙ i);
  };
}

pub scope_more : (g : Shape) (kinds : List Bool) (s a n : BTreeSet ℕ) (task : ℕ) (r : Result (Unit {0}) AllocError)
    → Adds s n task r → length (undone_needs g task) ≡ 0 → is_scope kinds task ≡ true → ListsMore g kinds s a n a
scope_more g kinds s a n task (Ok done) h free kind = scope_added g kinds s a n task h free kind
scope_more g kinds s a n task (Err e) h free kind = same_lists g kinds s a n a h (λ u. refl)

pub act_more : (g : Shape) (kinds : List Bool) (s a n : BTreeSet ℕ) (task : ℕ) (r : Result (Unit {0}) AllocError)
    → Adds a n task r → length (undone_needs g task) ≡ 0 → task < length kinds → is_scope kinds task ≡ false
    → ListsMore g kinds s a s n
act_more g kinds s a n task (Ok done) h free within kind = act_added g kinds s a n task h free within kind
act_more g kinds s a n task (Err e) h free within kind = same_lists g kinds s a s n (λ u. refl) h

pub now_has : (s n : BTreeSet ℕ) (task : ℕ) (r : Result (Unit {0}) AllocError) → Adds s n task r
    → OnOk r (has n task ≡ true)
now_has s n task (Ok done) h = h task ∙ ap (λ (b : Bool). if b then true else has s task) (eq_itself task)
now_has s n task (Err e) h = tt

pub listed_scope : (kinds : List Bool) (n a : BTreeSet ℕ) (task : ℕ) (r : Result (Unit {0}) AllocError)
    → is_scope kinds task ≡ true → OnOk r (has n task ≡ true) → OnOk r (is_listed_in kinds n a task ≡ true)
listed_scope kinds n a task (Ok done) e h = ap (λ (b : Bool). if b then has n task else has a task) e ∙ h
listed_scope kinds n a task (Err f) e h = tt

pub listed_act : (kinds : List Bool) (s n : BTreeSet ℕ) (task : ℕ) (r : Result (Unit {0}) AllocError)
    → is_scope kinds task ≡ false → OnOk r (has n task ≡ true) → OnOk r (is_listed_in kinds s n task ≡ true)
listed_act kinds s n task (Ok done) e h = ap (λ (b : Bool). if b then has s task else has n task) e ∙ h
listed_act kinds s n task (Err f) e h = tt

-- ---- tasks that are seen to

pub seen_more : (g : Shape) (kinds : List Bool) (s a n m : BTreeSet ℕ) (u : ℕ) → ListsMore g kinds s a n m
    → IsSeenTo g kinds s a u → IsSeenTo g kinds n m u
seen_more g kinds s a n m u h (inl e) = inl (h.keeps u e)
seen_more g kinds s a n m u h (inr i) = inr i

-- so many of the tasks are seen to, and nothing else has changed
pub record AreSeenTo (g : Shape) (kinds : List Bool) (s a n m : BTreeSet ℕ) (tasks : List ℕ) : Type 0 where
  pub more : ListsMore g kinds s a n m
  pub each : (u : ℕ) → 1 ≤ times tasks u → IsSeenTo g kinds n m u

pub none_seen_to : (g : Shape) (kinds : List Bool) (s a : BTreeSet ℕ) → AreSeenTo g kinds s a s a []
none_seen_to g kinds s a = record { more = none_more g kinds s a; each = λ u h. absurd (omega (arith, h)) }

either : (w u : ℕ) (front : List ℕ) → 1 ≤ times (front ++ w ∷ []) u → (1 ≤ times front u) ⊎ (w ≡ u)
either w u [] h = by_bool (w == u) refl
  where
    by_bool : (b : Bool) → (w == u) ≡ b → (1 ≤ times [] u) ⊎ (w ≡ u)
    by_bool true e = inr (eq_of_true w u e)
    by_bool false e =
        let o : ◌≡◌ {A = ℕ} (cond (w == u) 1 0) 0 = ap {A = Bool} {B = ℕ} (λ t. cond t 1 0) e in
        absurd (omega (arith, o, h))
either w u (v ∷ front) h = by_bool (v == u) refl (λ i. either w u front i)
  where
    by_bool : (b : Bool) → (v == u) ≡ b → (1 ≤ times (front ++ w ∷ []) u → (1 ≤ times front u) ⊎ (w ≡ u))
        → (1 ≤ times (v ∷ front) u) ⊎ (w ≡ u)
    by_bool true e rest =
        let o : ◌≡◌ {A = ℕ} (cond (v == u) 1 0) 1 = ap {A = Bool} {B = ℕ} (λ t. cond t 1 0) e in
        inl (omega (arith, o))
    by_bool false e rest =
        let o : ◌≡◌ {A = ℕ} (cond (v == u) 1 0) 0 = ap {A = Bool} {B = ℕ} (λ t. cond t 1 0) e in
        elim (rest (omega (arith, o, h))) [ inl i ↦ inl (omega (arith, i)) | inr i ↦ inr i ]

pub one_seen_to : (g : Shape) (kinds : List Bool) (s a n m b c : BTreeSet ℕ) (front : List ℕ) (task : ℕ)
    → AreSeenTo g kinds s a n m front → ListsMore g kinds n m b c → IsSeenTo g kinds b c task
    → AreSeenTo g kinds s a b c (front ++ task ∷ [])
one_seen_to g kinds s a n m b c front task h i j = record {
  more = more_then g kinds s a n m b c h.more i;
  each = λ u t. elim (either task u front t) [
    | inl k ↦ seen_more g kinds n m b c u i (h.each u k)
    | inr e ↦ subst (λ (v : ℕ). IsSeenTo g kinds b c v) e j
  ];
}
