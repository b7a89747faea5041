-- Texts and names as lists of numbers: the test whether two are the same.
use Rattle.std.proofs.Common.{◌≡◌, ℕ, true, List, bytes_eq, refl, sym}
use Rattle.std.specs.Cmp.{both_ways}
use Rattle.std.proofs.lemmas.Slice.Eq.{bytes_eq-Decides}

-- two texts that pass the test are the same, and the same text passes it
pub eq_word : (xs ys : List ℕ) → bytes_eq xs ys ≡ true → xs ≡ ys
eq_word xs ys e = (bytes_eq-Decides xs ys).0 e

pub word_eq : (xs ys : List ℕ) → xs ≡ ys → bytes_eq xs ys ≡ true
word_eq xs ys e = (bytes_eq-Decides xs ys).1 e

pub itself : (k : List ℕ) → bytes_eq k k ≡ true
itself k = (bytes_eq-Decides k k).1 refl

-- the order of the two does not matter
pub swapped : (s t : List ℕ) → bytes_eq s t ≡ bytes_eq t s
swapped s t =
    both_ways (bytes_eq s t) (bytes_eq t s) (λ h. (bytes_eq-Decides t s).1 (sym ((bytes_eq-Decides s t).0 h)))
    (λ h. (bytes_eq-Decides s t).1 (sym ((bytes_eq-Decides t s).0 h)))
