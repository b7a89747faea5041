-- The compact texts of values in a set, by which equal values are found.
use Rattle.std.specs.Prelude.{◌≡◌, ℕ, Some, List, bytes_eq}
use Rattle.std.specs.declared.vec.Vec.{Vec}
use Rattle.std.specs.declared.alloc.Global.{Global}
use Rattle.std.specs.declared.cmp.Ordering.{Ordering}
use Rattle.std.specs.Ordering.{nat_cmp}
use Rattle.std.specs.Cmp.Lexicographic.{slice_cmp}
use Rattle.std.specs.List.{list_any, AllByRecursion}
use Rattle.std.specs.BTreeSet.{BTreeSet, contains}
use Rattle.serde_json.specs.Written.{compact_text}
use Rattle.arm_value.specs.Json.{Json}
use Rattle.arm_value.specs.Reading.{data_of, reading}

-- the compact text of a value
abbrev pub text_of : Json → List ℕ
text_of j = compact_text (data_of j)

-- the compact text reads back as the value
abbrev pub ReadsBack : Json → Type 0
ReadsBack j = reading (text_of j) ≡ Some (data_of j)

-- the order of texts: that of their bytes
abbrev pub text_cmp : Vec ℕ Global → Vec ℕ Global → Ordering
text_cmp s t = slice_cmp nat_cmp s.items t.items

-- the set has the texts of these values and no others, and each text reads back
pub record IsIndexOf (texts : BTreeSet (Vec ℕ Global)) (js : List Json) : Type 0 where
  pub has : (s : Vec ℕ Global) → contains text_cmp texts s ≡ list_any (λ j. bytes_eq s.items (text_of j)) js
  pub read_back : AllByRecursion ReadsBack js
