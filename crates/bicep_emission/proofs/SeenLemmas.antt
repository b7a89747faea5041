-- What readings that are made of others have in a world, and whether they read a marked cell there.
use Rattle.std.proofs.Common.{◌≡◌, Option, Some, None, Bool, true, false, refl, sym, ap, ◌∙◌}
use Rattle.std.specs.Prelude.{◌||◌}
use Rattle.foundation.proofs.TruthValues.{or_false}
use Rattle.reading.specs.Reading.{Reading, done, ask, onward, continued, joined, beside, both}
use Rattle.reading.specs.World.{value_in}
use Rattle.bicep_emission.specs.Alike.{Seen, after, seen_in}

or_assoc : (a b c : Bool) → (a || b || c) ≡ (a || (b || c))
or_assoc true b c = refl
or_assoc false b c = refl

abbrev pub done_seen : {A : Type 0} → Option A → Seen A
done_seen o = (o, false)

-- goes on with the value
abbrev pub then_seen : {A B : Type 0} → Seen A → (A → Seen B) → Seen B
then_seen (None, b) f = (None, b)
then_seen (Some x, b) f = after b (f x)

abbrev pub both_seen : {A B : Type 0} → Seen A → Seen B → Seen (A × B)
both_seen s t = (joined s.0 t.0, t.1 || s.1)

pub then-same : {A B : Type 0} (s : Seen A) (f g : A → Seen B) → ((x : A) → f x ≡ g x) → then_seen s f ≡ then_seen s g
then-same (None, b) f g h = refl
then-same (Some x, b) f g h = ap (after b) (h x)

-- only the value that there is counts
pub then-at : {A B : Type 0} (s : Seen A) (f g : A → Seen B) → ((x : A) → s.0 ≡ Some x → f x ≡ g x)
    → then_seen s f ≡ then_seen s g
then-at (None, b) f g h = refl
then-at (Some x, b) f g h = ap (after b) (h x refl)

abbrev with_marks : {A : Type 0} → Option A → Bool → Seen A
with_marks o b = (o, b)

after-then : {A B : Type 0} (b : Bool) (t : Seen A) (f : A → Seen B) → after b (then_seen t f) ≡ then_seen (after b t) f
after-then b (None, c) f = refl
after-then b (Some x, c) f = ap (with_marks (f x).0) (or_assoc (f x).1 c b)

after-both : {A B : Type 0} (b : Bool) (s : Seen A) (t : Seen B) → after b (both_seen s t) ≡ both_seen (after b s) t
after-both b s t = ap (with_marks (joined s.0 t.0)) (or_assoc t.1 s.1 b)

pub after-false : {A : Type 0} (s : Seen A) → after false s ≡ s
after-false (o, b) = ap (with_marks o) (or_false b)

pub then-then : {A B C : Type 0} (s : Seen A) (f : A → Seen B) (g : B → Seen C)
    → then_seen (then_seen s f) g ≡ then_seen s (λ x. then_seen (f x) g)
then-then (None, b) f g = refl
then-then (Some x, b) f g = sym (after-then b (f x) g)

module _ {C J : Type 0} (w : C → Option J) (m : C → Bool) where
  onward_seen : {A B : Type 0} (o : Option A) (f : A → Reading C J B)
      → seen_in w m (onward o f) ≡ then_seen (o, false) (λ x. seen_in w m (f x))
  unfolding seen_in
  onward_seen (Some x) f = sym (after-false (seen_in w m (f x)))
  onward_seen None f = refl

  pub seen-done : {A : Type 0} (o : Option A) → seen_in w m (let r : Reading C J A = done o in r) ≡ (o, false)
  unfolding seen_in
  seen-done o = refl

  pub seen-continued : {A B : Type 0} (r : Reading C J A) (f : A → Reading C J B)
      → seen_in w m (continued r f) ≡ then_seen (seen_in w m r) (λ x. seen_in w m (f x))
  unfolding seen_in continued
  seen-continued (done o) f = onward_seen o f
  seen-continued (ask c k) f = ap (after (m c)) (seen-continued (k (w c)) f)
      ∙ after-then (m c) (seen_in w m (k (w c))) (λ x. seen_in w m (f x))

  seen-beside : {A B : Type 0} (o : Option A) (s : Reading C J B)
      → seen_in w m (beside o s) ≡ both_seen (with_marks o false) (seen_in w m s)
  unfolding seen_in beside
  seen-beside o (done u) = refl
  seen-beside o (ask c k) = ap (after (m c)) (seen-beside o (k (w c)))
      ∙ ap (with_marks (joined o (seen_in w m (k (w c))).0)) (or_swap (seen_in w m (k (w c))).1 (m c))
    where
      or_swap : (a b : Bool) → ((a || false) || b) ≡ ((a || b) || false)
      or_swap true b = refl
      or_swap false b = sym (or_false b)

  pub seen-both : {A B : Type 0} (r : Reading C J A) (s : Reading C J B)
      → seen_in w m (both r s) ≡ both_seen (seen_in w m r) (seen_in w m s)
  unfolding seen_in both
  seen-both (done o) s = seen-beside o s
  seen-both (ask c k) s = ap (after (m c)) (seen-both (k (w c)) s)
      ∙ after-both (m c) (seen_in w m (k (w c))) (seen_in w m s)

  pub value-seen : {A : Type 0} (r : Reading C J A) → (seen_in w m r).0 ≡ value_in w r
  unfolding seen_in value_in
  value-seen (done o) = refl
  value-seen (ask c k) = value-seen (k (w c))

  -- a reading that goes on twice
  pub seen-twice : {A B D : Type 0} (r : Reading C J A) (f : A → Reading C J B) (g : B → Reading C J D)
      → seen_in w m (continued (continued r f) g) ≡ seen_in w m (continued r (λ x. continued (f x) g))
  seen-twice r f g =
      seen-continued (continued r f) g
      ∙ ap (λ s. then_seen s (λ y. seen_in w m (g y))) (seen-continued r f)
      ∙ then-then (seen_in w m r) (λ x. seen_in w m (f x)) (λ y. seen_in w m (g y))
      ∙ then-same (seen_in w m r) (λ x. then_seen (seen_in w m (f x)) (λ y. seen_in w m (g y)))
      (λ x. seen_in w m (continued (f x) g)) (λ x. sym (seen-continued (f x) g))
      ∙ sym (seen-continued r (λ x. continued (f x) g))

  -- what goes on alike
  pub seen-same : {A B : Type 0} (r : Reading C J A) (f g : A → Reading C J B)
      → ((x : A) → seen_in w m (f x) ≡ seen_in w m (g x)) → seen_in w m (continued r f) ≡ seen_in w m (continued r g)
  seen-same r f g h = seen-continued r f
      ∙ then-same (seen_in w m r) (λ x. seen_in w m (f x)) (λ x. seen_in w m (g x)) h ∙ sym (seen-continued r g)

  -- goes on with what is done
  pub seen-pure : {A B : Type 0} (x : A) (f : A → Reading C J B)
      → seen_in w m (continued (done (Some x)) f) ≡ seen_in w m (f x)
  unfolding continued
  seen-pure x f = refl
