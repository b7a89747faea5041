-- The value that lists nested deployments is read back, and what is sought in it.
use Rattle.std.proofs.Common.{◌≡◌, ℕ, zero, suc, Bool, true, false, true≢false, List, [], ◌∷◌, map}
use Rattle.std.proofs.Common.{Option, Some, None, refl, sym, ap, ◌∙◌, subst}
use Rattle.std.specs.Prelude.{◌&&◌, ◌||◌, slice_get, option_map, if◌then◌else◌}
use Rattle.std.specs.List.{list_any}
use Rattle.std.proofs.lemmas.Option.{same_Some}
use Rattle.arm_value.specs.Json.{row, items}
use Rattle.foundation.proofs.TruthValues.{both, and_true}
use Rattle.deploy_cells.specs.Listing.{Named, named_json, instances_json, listing_json, named_of, instances_of}
use Rattle.deploy_cells.specs.Listing.{first_index, here_or, first_included, has_name}
use Rattle.deploy_cells.specs.Listing.{sought_by, sought, IsListed, IsSought}

instances_back : (ns : List Named) → map named_of (items (row (map named_json ns))) ≡ ns
instances_back [] = refl
instances_back (n ∷ ns) = ap (λ xs. n ∷ xs) (instances_back ns)

pub listing_back : (nss : List (List Named)) → map instances_of (items (row (map instances_json nss))) ≡ nss
listing_back [] = refl
listing_back (ns ∷ nss) = λ t. instances_back ns t ∷ listing_back nss t

module _ (test : List ℕ → Bool) where
  abbrev Passes : Named → Type 0
  Passes n = (n.included ≡ true) × (test n.name ≡ true)

  abbrev chosen : Named → Bool
  chosen n = n.included && test n.name

  -- what is found at an index of the instances of one nested deployment
  abbrev IsFirst : List Named → Option ℕ → Type 0
  IsFirst ns (Some i) = (n : Named) × ((slice_get ns i ≡ Some n) × Passes n)
  IsFirst ns None = (i : ℕ) (n : Named) → slice_get ns i ≡ Some n → chosen n ≡ false

  none_first : (n : Named) (ns : List Named) → chosen n ≡ false
      → ((i : ℕ) (m : Named) → slice_get ns i ≡ Some m → chosen m ≡ false)
      → (i : ℕ) (m : Named) → slice_get (n ∷ ns) i ≡ Some m → chosen m ≡ false
  none_first n ns c h zero m e = ap chosen (sym (same_Some n m e)) ∙ c
  none_first n ns c h (suc i) m e = h i m e

  further : (n : Named) (ns : List Named) → chosen n ≡ false → (o : Option ℕ) → IsFirst ns o
      → IsFirst (n ∷ ns) (option_map (λ i. suc i) o)
  further n ns c (Some i) f = f
  further n ns c None f = none_first n ns c f

  by_chosen : (n : Named) (ns : List Named) (b : Bool) → chosen n ≡ b → IsFirst ns (first_index test ns)
      → IsFirst (n ∷ ns) (if b then Some 0 else option_map (λ i. suc i) (first_index test ns))
  by_chosen n ns true c f = (n, (refl, both n.included (test n.name) c))
  by_chosen n ns false c f = further n ns c (first_index test ns) f

  first_is : (ns : List Named) → IsFirst ns (first_index test ns)
  first_is [] = λ i n e. cc
  first_is (n ∷ ns) = by_chosen n ns (chosen n) refl (first_is ns)

  abbrev IsFirstOf : List (List Named) → Option (ℕ × ℕ) → Type 0
  IsFirstOf nss (Some q) = (n : Named) × (IsListed nss q.0 q.1 n × Passes n)
  IsFirstOf nss None = (k i : ℕ) (n : Named) → IsListed nss k i n → chosen n ≡ false

  abbrev pushed : (ns : List Named) (nss : List (List Named)) (k i : ℕ) (n : Named) → IsListed nss k i n
      → IsListed (ns ∷ nss) (suc k) i n
  pushed ns nss k i n l = record { of = l.of; has = l.has; is = l.is }

  none_of : (ns : List Named) (nss : List (List Named)) → IsFirst ns None → IsFirstOf nss None
      → (k i : ℕ) (n : Named) → IsListed (ns ∷ nss) k i n → chosen n ≡ false
  none_of ns nss f g zero i n l =
      f i n (ap (λ xs. slice_get xs i) (same_Some ns l.of l.has) ∙ l.is)
  none_of ns nss f g (suc k) i n l = g k i n (record { of = l.of; has = l.has; is = l.is })

  here_is : (ns : List Named) (nss : List (List Named)) (o : Option ℕ) (q : Option (ℕ × ℕ)) → IsFirst ns o
      → IsFirstOf nss q → IsFirstOf (ns ∷ nss) (here_or o q)
  here_is ns nss (Some i) q f g = (f.0, (record { of = ns; has = refl; is = f.1.0 }, f.1.1))
  here_is ns nss None (Some q) f g = (g.0, (pushed ns nss q.0 q.1 g.0 g.1.0, g.1.1))
  here_is ns nss None None f g = none_of ns nss f g

  included_is : (nss : List (List Named)) → IsFirstOf nss (first_included test nss)
  included_is [] = λ k i n l. let e : None ≡ Some l.of = l.has in cc
  included_is (ns ∷ nss) =
      here_is ns nss (first_index test ns) (first_included test nss) (first_is ns) (included_is nss)

  -- whether a name passes the test at all
  abbrev IsAnyOf : List Named → Bool → Type 0
  IsAnyOf ns true = (i : ℕ) × ((n : Named) × ((slice_get ns i ≡ Some n) × (test n.name ≡ true)))
  IsAnyOf ns false = (i : ℕ) (n : Named) → slice_get ns i ≡ Some n → test n.name ≡ false

  none_any : (n : Named) (ns : List Named) → test n.name ≡ false → IsAnyOf ns false → IsAnyOf (n ∷ ns) false
  none_any n ns e f zero m g = ap (λ (x : Named). test x.name) (sym (same_Some n m g)) ∙ e
  none_any n ns e f (suc i) m g = f i m g

  by_any : (n : Named) (ns : List Named) (b c : Bool) → test n.name ≡ b → IsAnyOf ns c → IsAnyOf (n ∷ ns) (b || c)
  by_any n ns true true e f = (0, (n, (refl, e)))
  by_any n ns true false e f = (0, (n, (refl, e)))
  by_any n ns false true e f = (suc f.0, f.1)
  by_any n ns false false e f = none_any n ns e f

  any_is : (ns : List Named) → IsAnyOf ns (list_any (λ n. test n.name) ns)
  any_is [] = λ i n e. cc
  any_is (n ∷ ns) = by_any n ns (test n.name) (list_any (λ n. test n.name) ns) refl (any_is ns)

  abbrev IsNamedIn : List (List Named) → Bool → Type 0
  IsNamedIn nss true = (k : ℕ) × ((i : ℕ) × ((n : Named) × (IsListed nss k i n × (test n.name ≡ true))))
  IsNamedIn nss false = (k i : ℕ) (n : Named) → IsListed nss k i n → test n.name ≡ false

  none_named : (ns : List Named) (nss : List (List Named)) → IsAnyOf ns false → IsNamedIn nss false
      → IsNamedIn (ns ∷ nss) false
  none_named ns nss f g zero i n l = f i n (ap (λ xs. slice_get xs i) (same_Some ns l.of l.has) ∙ l.is)
  none_named ns nss f g (suc k) i n l = g k i n (record { of = l.of; has = l.has; is = l.is })

  by_named : (ns : List Named) (nss : List (List Named)) (b c : Bool) → IsAnyOf ns b → IsNamedIn nss c
      → IsNamedIn (ns ∷ nss) (b || c)
  by_named ns nss true true f g =
      (0, (f.0, (f.1.0, (record { of = ns; has = refl; is = f.1.1.0 }, f.1.1.1))))
  by_named ns nss true false f g =
      (0, (f.0, (f.1.0, (record { of = ns; has = refl; is = f.1.1.0 }, f.1.1.1))))
  by_named ns nss false true f g =
      (suc g.0, (g.1.0, (g.1.1.0, (pushed ns nss g.0 g.1.0 g.1.1.0 g.1.1.1.0, g.1.1.1.1))))
  by_named ns nss false false f g = none_named ns nss f g

  named_is : (nss : List (List Named)) → IsNamedIn nss (has_name test nss)
  named_is [] = λ k i n l. let e : None ≡ Some l.of = l.has in cc
  named_is (ns ∷ nss) = by_named ns nss (list_any (λ n. test n.name) ns) (has_name test nss) (any_is ns) (named_is nss)

  not_included : (n : Named) → chosen n ≡ false → test n.name ≡ true → n.included ≡ false
  not_included n c e = by_truth n.included refl
    where
      by_truth : (b : Bool) → n.included ≡ b → n.included ≡ false
      by_truth true h = absurd (true≢false (sym (and_true n.included (test n.name) h e) ∙ c))
      by_truth false h = h

  by_both : (nss : List (List Named)) (o : Option (ℕ × ℕ)) (b : Bool) → IsFirstOf nss o → IsNamedIn nss b
      → IsSought test nss (sought_by o b)
  by_both nss (Some q) b f g = (f.0, (f.1.0, f.1.1.0, f.1.1.1))
  by_both nss None true f g = (λ k i n l e. not_included n (f k i n l) e, g)
  by_both nss None false f g = g

  pub sought_is : (nss : List (List Named)) → IsSought test nss (sought test (listing_json nss))
  unfolding sought
  sought_is nss =
      subst (λ (xs : List (List Named)). IsSought test nss (sought_by (first_included test xs) (has_name test xs)))
      (sym (listing_back nss))
      (by_both nss (first_included test nss) (has_name test nss) (included_is nss) (named_is nss))
