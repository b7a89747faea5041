-- Locks beside their places, after a change.
use Rattle.std.proofs.Common.{◌≡◌, ◌<◌, ◌≤◌, ℕ, length, get_or, List, [], map, sym, ap, ap₂, ◌∙◌, arith, subst, Some}
use Rattle.std.proofs.Common.{None, Ok, Err, Result, is_ok, cond}
use Rattle.std.proofs.Math.ListN.{set}
use Rattle.std.specs.List.{insert, remove}
use Rattle.std.proofs.lemmas.List.{length-map, map-set}
use Rattle.lock_rules.specs.Places.{place_of, AreInOrder, find, put, without}
use Rattle.lock_rules.specs.Searches.{IsFound, AreKept}
use Rattle.lock_rules.specs.declared.lock.Lock.{Lock}
use Rattle.lock_rules.specs.declared.place.Place.{Place}
use Rattle.lock_rules.proofs.PlaceLemmas.{find_here, find_none, put_here, put_before, without_here, without_none}
use Rattle.lock_rules.proofs.PlaceLemmas.{in_order-put, in_order-without, in_order-nil, map-insert, map-remove}

-- locks and their places after a change that leaves these locks
pub record Becomes (locks : List Lock) (places : List Place) (wanted : List Lock) : Type 0 where
  pub locks_are : locks ≡ wanted
  pub kept : AreKept locks places

becomes : (locks : List Lock) (places : List Place) (wanted : List Lock) → locks ≡ wanted
    → places ≡ map place_of locks → AreInOrder wanted → Becomes locks places wanted
becomes locks places wanted e p o = record {
  locks_are = e;
  kept = record { places_are = p; in_order = subst AreInOrder (sym e) o };
}

-- no locks are kept
pub nothing_kept : (locks : List Lock) (places : List Place) → locks ≡ [] → places ≡ [] → AreKept locks places
nothing_kept locks places e p = record {
  places_are = p ∙ ap (map place_of) (sym e);
  in_order = subst AreInOrder (sym e) in_order-nil;
}

module _ (place : Place) (places : List Place) (locks : List Lock) (same : places ≡ map place_of locks) where
  found_in : (r : Result ℕ ℕ) → IsFound place places r → IsFound place (map place_of locks) r
  found_in r f = subst (λ ps. IsFound place ps r) same f

  pub within : (i : ℕ) → IsFound place places (Ok i) → i < length locks
  within i f = let l = (found_in (Ok i) f).0 in omega (arith, l, length-map locks place_of)

  pub within_places : (i : ℕ) → IsFound place places (Ok i) → i < length places
  within_places i f = f.0

  pub up_to : (i : ℕ) → IsFound place places (Err i) → i ≤ length locks
  up_to i f = let l = (found_in (Err i) f).0 in omega (arith, l, length-map locks place_of)

  pub up_to_places : (i : ℕ) → IsFound place places (Err i) → i ≤ length places
  up_to_places i f = f.0

  pub lock_found : (i : ℕ) (lock : Lock) → IsFound place places (Ok i) → lock ≡ get_or locks i lock
      → find place locks ≡ Some lock
  lock_found i lock f is =
      let g = found_in (Ok i) f in find_here place locks i lock (within i f) is g.1 g.2

  pub lock_missing : (i : ℕ) → IsFound place places (Err i) → find place locks ≡ None
  lock_missing i f = let g = found_in (Err i) f in find_none place locks i (up_to i f) g.1 g.2

  pub removed : (i : ℕ) → IsFound place places (Ok i) → AreInOrder locks
      → Becomes (remove locks i) (remove places i) (without place locks)
  removed i f o =
      let g = found_in (Ok i) f in
      becomes (remove locks i) (remove places i) (without place locks)
      (sym (without_here place locks i (within i f) g.1 g.2)) (ap (λ ps. remove ps i) same ∙ sym (map-remove locks i))
      (in_order-without place locks o)

  pub kept : (i : ℕ) → IsFound place places (Err i) → locks ≡ without place locks
  kept i f = let g = found_in (Err i) f in sym (without_none place locks i (up_to i f) g.1 g.2)

module _ (lock : Lock) (place : Place) (places : List Place) (locks : List Lock) (same : places ≡ map place_of locks)
    (its : place ≡ place_of lock) (o : AreInOrder locks) where
  found_for : (r : Result ℕ ℕ) → IsFound place places r → IsFound (place_of lock) (map place_of locks) r
  found_for r f = subst (λ p. IsFound p (map place_of locks) r) its (subst (λ ps. IsFound place ps r) same f)

  pub replaced : (i : ℕ) → IsFound place places (Ok i)
      → Becomes (set locks i lock) (set places i place) (put lock locks)
  replaced i f =
      let g = found_for (Ok i) f in
      let l = g.0 in
      becomes (set locks i lock) (set places i place) (put lock locks)
      (sym (put_here lock locks i (omega (arith, l, length-map locks place_of)) g.1 g.2))
      (ap₂ (λ ps p. set ps i p) same its ∙ sym (map-set place_of locks i lock)) (in_order-put lock locks o)

  pub added : (i : ℕ) → IsFound place places (Err i)
      → Becomes (insert locks i lock) (insert places i place) (put lock locks)
  added i f =
      let g = found_for (Err i) f in
      let l = g.0 in
      becomes (insert locks i lock) (insert places i place) (put lock locks)
      (sym (put_before lock locks i (omega (arith, l, length-map locks place_of)) g.1 g.2))
      (ap₂ (λ ps p. insert ps i p) same its ∙ sym (map-insert locks i lock)) (in_order-put lock locks o)

  -- after an addition that may have been refused
  pub added_where : {T E : Type 0} (r : Result T E) (i : ℕ) (new : List Lock) (new_places : List Place)
      → IsFound place places (Err i) → new ≡ cond (is_ok r) (insert locks i lock) locks
      → new_places ≡ cond (is_ok r) (insert places i place) places
      → Becomes new new_places (cond (is_ok r) (put lock locks) locks)
  added_where (Ok x) i new new_places f e p =
      let a = added i f in
      becomes new new_places (put lock locks) (e ∙ a.locks_are) (p ∙ a.kept.places_are ∙ ap (map place_of) (sym e))
      (in_order-put lock locks o)
  added_where (Err x) i new new_places f e p =
      becomes new new_places locks e (p ∙ same ∙ ap (map place_of) (sym e)) o
