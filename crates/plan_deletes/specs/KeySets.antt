-- Sets of keys, by their numbers.
use Rattle.std.specs.Prelude.{◌≡◌, ℕ, List, bytes_eq}
use Rattle.std.specs.List.{list_any}
use Rattle.std.specs.BTreeSet.{BTreeSet, contains}
use Rattle.std.specs.Cmp.Lexicographic.{slice_cmp}
use Rattle.std.specs.Ordering.{nat_cmp}
use Rattle.std.specs.declared.alloc.Global.{Global}
use Rattle.std.specs.declared.cmp.Ordering.{Ordering}
use Rattle.std.specs.declared.vec.Vec.{Vec}
use Rattle.arm_ids.specs.declared.id.ResourceId.{ResourceId}
use Rattle.key_tags.specs.KeyCodes.{key_code}

-- the order of lists of numbers
abbrev pub numbers_cmp : Vec ℕ Global → Vec ℕ Global → Ordering
numbers_cmp s t = slice_cmp nat_cmp s.items t.items

-- the set has the numbers of these keys, and no others
abbrev pub HasKeys : BTreeSet (Vec ℕ Global) → List ResourceId → Type 0
HasKeys s ks = (v : Vec ℕ Global) → contains numbers_cmp s v ≡ list_any (λ k. bytes_eq v.items (key_code k)) ks
