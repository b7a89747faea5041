-- For each tag the first place in a list that has it.
use Rattle.std.specs.Prelude.{◌≡◌, ℕ, zero, suc, bytes_eq, Bool, false, List, [], ◌∷◌, Option, Some, None}
use Rattle.std.specs.Prelude.{option_map, if◌then◌else◌}
use Rattle.std.specs.declared.vec.Vec.{Vec}
use Rattle.std.specs.declared.alloc.Global.{Global}
use Rattle.std.specs.declared.cmp.Ordering.{Ordering}
use Rattle.std.specs.Ordering.{nat_cmp}
use Rattle.std.specs.Cmp.Lexicographic.{slice_cmp}
use Rattle.std.specs.BTreeMap.{BTreeMap, get}

abbrev pub Tag : Type 0
Tag = List ℕ

abbrev pub is_tag : Tag → Option Tag → Bool
is_tag t None = false
is_tag t (Some u) = bytes_eq t u

-- the first place that has the tag; a place may have none
abbrev pub first_place : Tag → List (Option Tag) → Option ℕ
first_place t [] = None
first_place t (o ∷ os) = if is_tag t o then Some zero else option_map (λ n. suc n) (first_place t os)

-- the order of tags
abbrev pub tag_cmp : Vec ℕ Global → Vec ℕ Global → Ordering
tag_cmp s t = slice_cmp nat_cmp s.items t.items

abbrev pub Places : Type 0
Places = BTreeMap (Vec ℕ Global) ℕ

-- these are the first places of the tags of a list
abbrev pub ArePlaces : Places → List (Option Tag) → Type 0
ArePlaces m os = (t : Vec ℕ Global) → get tag_cmp m t ≡ first_place t.items os
