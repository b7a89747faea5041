-- What holds of each number of a list, also in another order.
use Rattle.std.proofs.Common.{◌≡◌, ℕ, zero, suc, Bool, true, false, List, [], ◌∷◌, Some, Ordering, Less, Equal, Greater}
use Rattle.std.proofs.Common.{refl, subst}
use Rattle.std.specs.Prelude.{slice_get, if◌then◌else◌}
use Rattle.std.specs.Ordering.{match_ordering}
use Rattle.foundation.proofs.Options.{same_some}
use Rattle.arm_value.specs.Json.{key_cmp}
use Rattle.bicep_meaning.specs.Files.{SourceFile}
use Rattle.source_worlds.specs.Numbers.{passing, name_of, inserted, by_name}

module _ (P : ℕ → Type 0) where
  abbrev pub EachIs : List ℕ → Type 0
  EachIs [] = Unit {0}
  EachIs (n ∷ ns) = P n × EachIs ns

  pub each_at : (ns : List ℕ) (k n : ℕ) → EachIs ns → slice_get ns k ≡ Some n → P n
  each_at [] zero n h e = absurd cc
  each_at [] (suc k) n h e = absurd cc
  each_at (x ∷ xs) zero n h e = subst P (same_some e) h.0
  each_at (x ∷ xs) (suc k) n h e = each_at xs k n h.1 e

  pub passing_each : (test : ℕ → Bool) → ((n : ℕ) → test n ≡ true → P n) → (j k : ℕ) → EachIs (passing test j k)
  passing_each test f j zero = tt
  passing_each test f j (suc k) = by_test (test j) refl (passing_each test f (suc j) k)
    where
      by_test : (b : Bool) → test j ≡ b → EachIs (passing test (suc j) k)
          → EachIs (if b then j ∷ passing test (suc j) k else passing test (suc j) k)
      by_test true e h = (f j e, h)
      by_test false e h = h

  module _ (f : SourceFile) where
    placed_each : (o : Ordering) (n m : ℕ) (ms ns : List ℕ) → P n → EachIs (m ∷ ms) → EachIs ns
        → EachIs (match_ordering o (n ∷ m ∷ ms) (n ∷ m ∷ ms) (m ∷ ns))
    placed_each Less n m ms ns p h r = (p, h)
    placed_each Equal n m ms ns p h r = (p, h)
    placed_each Greater n m ms ns p h r = (h.0, r)

    inserted_each : (n : ℕ) (ms : List ℕ) → P n → EachIs ms → EachIs (inserted f n ms)
    inserted_each n [] p h = (p, tt)
    inserted_each n (m ∷ ms) p h =
        placed_each (key_cmp (name_of f n) (name_of f m)) n m ms (inserted f n ms) p h (inserted_each n ms p h.1)

    pub by_name_each : (ns : List ℕ) → EachIs ns → EachIs (by_name f ns)
    by_name_each [] h = tt
    by_name_each (n ∷ ns) h = inserted_each n (by_name f ns) h.0 (by_name_each ns h.1)
