-- The order of the numbers of symbols by the bytes of their names.
use Rattle.std.specs.Prelude.{◌≡◌, ◌<◌, ℕ, List, [], ◌∷◌, map, encode_utf8_all}
use Rattle.std.specs.BTreeSet.{BTreeSet, insert_key}
use Rattle.std.specs.Cmp.Lexicographic.{slice_cmp}
use Rattle.std.specs.Ordering.{ordering_then, nat_cmp}
use Rattle.std.specs.declared.cmp.Ordering.{Ordering}
use denote.Ref.{Bor}
use Rattle.bicep_meaning.specs.Files.{SourceFile}
use Rattle.source_worlds.specs.Numbers.{name_of, by_name}

-- a number, with the bytes of the name of its symbol
abbrev pub Named : Type 0
Named = Bor (List ℕ) × ℕ

-- by the bytes of the names, and then by the numbers
abbrev pub order : Named → Named → Ordering
order x y = ordering_then (slice_cmp nat_cmp x.0.now y.0.now) (nat_cmp x.1 y.1)

abbrev pub with_name : List Named → Named → List Named
with_name ks k = insert_key order ks k

abbrev pub numbers_in : BTreeSet Named → List ℕ
numbers_in s = map (λ k. k.1) s.keys

-- each has the name of its number
abbrev pub HaveNames : SourceFile → List Named → Type 0
HaveNames f [] = Unit {0}
HaveNames f (k ∷ ks) = (k.0.now ≡ encode_utf8_all (name_of f k.1)) × HaveNames f ks

-- the numbers of others, and one more with its name
pub record IsOneMore (f : SourceFile) (n : ℕ) (others all : BTreeSet Named) : Type 0 where
  pub name : Bor (List ℕ)
  pub is : name.now ≡ encode_utf8_all (name_of f n)
  pub keys : all.keys ≡ with_name others.keys (name, n)

-- those of these numbers, in their order
pub record AreNamed (f : SourceFile) (ns : List ℕ) (s : BTreeSet Named) : Type 0 where
  pub numbers : numbers_in s ≡ by_name f ns
  pub names : HaveNames f s.keys

-- the numbers are above n
abbrev pub AreAbove : ℕ → List ℕ → Type 0
AreAbove n [] = Unit {0}
AreAbove n (m ∷ ms) = (n < m) × AreAbove n ms

-- each number is below those after it
abbrev pub Increase : List ℕ → Type 0
Increase [] = Unit {0}
Increase (n ∷ ns) = AreAbove n ns × Increase ns
