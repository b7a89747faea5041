-- Names that are compared after ASCII case folding, and letter by letter.
use Rattle.std.specs.Prelude.{◌≡◌, ℕ, Bool, List, bytes_eq, encode_utf8_all}
use Rattle.std.specs.declared.vec.Vec.{Vec}
use Rattle.std.specs.declared.alloc.Global.{Global}
use Rattle.std.specs.declared.cmp.Ordering.{Ordering}
use Rattle.std.specs.Ordering.{nat_cmp}
use Rattle.std.specs.Cmp.Lexicographic.{slice_cmp}
use Rattle.std.specs.List.{list_any}
use Rattle.std.specs.BTreeSet.{BTreeSet, contains}
use Rattle.arm_value.specs.Look.{fold, is_same_folded}

-- whether the name is one of these, in letters of any case
abbrev pub is_named : List (List ℕ) → List ℕ → Bool
is_named names name = list_any (λ other. is_same_folded name other) names

-- the order of keys: that of their bytes
abbrev pub bytes_cmp : Vec ℕ Global → Vec ℕ Global → Ordering
bytes_cmp s t = slice_cmp nat_cmp s.items t.items

-- the index has the folded names and nothing else
abbrev pub IsIndexOf : BTreeSet (Vec ℕ Global) → List (List ℕ) → Type 0
IsIndexOf index names =
    (s : Vec ℕ Global) → contains bytes_cmp index s ≡ list_any (λ n. bytes_eq s.items (encode_utf8_all (fold n))) names

-- whether the text is one of these, letter by letter
abbrev pub is_listed : List (List ℕ) → List ℕ → Bool
is_listed texts text = list_any (bytes_eq text) texts

-- the index has these texts and nothing else
abbrev pub IsTextIndexOf : BTreeSet (Vec ℕ Global) → List (List ℕ) → Type 0
IsTextIndexOf index texts =
    (s : Vec ℕ Global) → contains bytes_cmp index s ≡ list_any (λ t. bytes_eq s.items (encode_utf8_all t)) texts
