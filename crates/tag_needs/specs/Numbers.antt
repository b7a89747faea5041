-- For each tag the numbers of those that have it.
use Rattle.std.specs.Prelude.{◌≡◌, ℕ, suc, nat_eq, bytes_eq, Bool, List, [], ◌∷◌, ◌++◌, map, if◌then◌else◌}
use Rattle.std.specs.Option.{option_map_or}
use Rattle.std.specs.List.{list_any}
use Rattle.std.specs.declared.vec.Vec.{Vec}
use Rattle.std.specs.declared.alloc.Global.{Global}
use Rattle.std.specs.declared.cmp.Ordering.{Ordering}
use Rattle.std.specs.Ordering.{nat_cmp}
use Rattle.std.specs.Cmp.Lexicographic.{slice_cmp}
use Rattle.std.specs.BTreeMap.{BTreeMap, get_by}
use Rattle.std.specs.BTreeSet.{BTreeSet}
use denote.Ref.{Bor}
use Rattle.tag_needs.specs.Tags.{Tag}

abbrev pub Numbers : Type 0
Numbers = BTreeMap (Bor (List ℕ)) (Vec ℕ Global)

-- the order of tags
abbrev pub tag_cmp : Bor (List ℕ) → Bor (List ℕ) → Ordering
tag_cmp s t = slice_cmp nat_cmp s.now t.now

-- the numbers that are listed at a tag
abbrev pub numbers_at : Numbers → Tag → List ℕ
numbers_at m t = option_map_or (λ v. v.items) (get_by (λ k. slice_cmp nat_cmp t k.now) m) []

-- whether the tag is in the set
abbrev pub is_in : BTreeSet (Bor (List ℕ)) → Tag → Bool
is_in s t = list_any (bytes_eq t) (map (λ k. k.now) s.keys)

-- the number, once for each of the tags that is the one
abbrev pub times_listed : Tag → ℕ → List Tag → List ℕ
times_listed t j [] = []
times_listed t j (u ∷ us) = (if bytes_eq t u then j ∷ [] else []) ++ times_listed t j us

-- the numbers of those that have the tag, where the first has the number j
abbrev pub holders : Tag → ℕ → List (List Tag) → List ℕ
holders t j [] = []
holders t j (ts ∷ rest) = times_listed t j ts ++ holders t (suc j) rest

-- at each tag the numbers of those that have it are listed
abbrev pub AreNumbers : Numbers → List (List Tag) → Type 0
AreNumbers m tags = (t : Tag) → numbers_at m t ≡ holders t 0 tags

-- whether the number is listed at one of these tags
abbrev pub is_listed_at : Numbers → ℕ → List Tag → Bool
is_listed_at m j ts = list_any (λ t. list_any (nat_eq j) (numbers_at m t)) ts
