-- The names that loops give an object, beside its own.
use Rattle.std.specs.Prelude.{◌≡◌, ℕ, ◌&&◌, List, bytes_eq, Bool, encode_utf8_all}
use denote.Ref.{Bor}
use Rattle.std.specs.declared.cmp.Ordering.{Ordering}
use Rattle.std.specs.Ordering.{nat_cmp}
use Rattle.std.specs.Cmp.Lexicographic.{slice_cmp}
use Rattle.std.specs.List.{list_any}
use Rattle.std.specs.BTreeSet.{BTreeSet, contains}
use Rattle.arm_eval.specs.Trees.{are_new, differ}

-- none of the given names is one of the object's, and they differ
abbrev pub are_free : List (List ℕ) → List (List ℕ) → Bool
are_free names given = are_new names given && differ given

-- the order of texts: that of their bytes
abbrev pub text_cmp : Bor (List ℕ) → Bor (List ℕ) → Ordering
text_cmp s t = slice_cmp nat_cmp s.now t.now

-- the set has these names, in UTF-8, and no others
abbrev pub AreNames : BTreeSet (Bor (List ℕ)) → List (List ℕ) → Type 0
AreNames set names = (s : Bor (List ℕ))
    → contains text_cmp set s ≡ list_any (λ n. bytes_eq s.now (encode_utf8_all n)) names
