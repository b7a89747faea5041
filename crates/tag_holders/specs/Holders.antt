-- Things that are numbered from 0, each with tags and a class, and which of them have a tag.
use Rattle.std.specs.Prelude.{◌≡◌, ℕ, suc, bytes_eq, Bool, true, List, [], ◌∷◌, map, slice_get, slice_index_or}
use Rattle.std.specs.Prelude.{Option, Some, None, if◌then◌else◌}
use Rattle.std.specs.declared.vec.Vec.{Vec}
use Rattle.std.specs.declared.alloc.Global.{Global}
use Rattle.std.specs.Ordering.{nat_cmp}
use Rattle.std.specs.Cmp.Lexicographic.{slice_cmp}
use Rattle.std.specs.BTreeMap.{BTreeMap, get_by}
use denote.Ref.{Bor}
use Rattle.tag_needs.specs.Tags.{Tag, shares}
use Rattle.tag_holders.specs.declared.holders.Found.{Found}
use Rattle.tag_holders.specs.declared.holders.Found.TheVariants.{Alike, Differing}

-- the class of a thing
abbrev pub class_at : List Tag → ℕ → Tag
class_at cs j = slice_index_or cs j []

abbrev pub classes_in : List (Vec ℕ Global) → List Tag
classes_in vs = map (λ v. v.items) vs

-- a thing has a tag for which is asked
pub record IsHolder (tags : List (List Tag)) (asks : List Tag) (j : ℕ) : Type 0 where
  pub own : List Tag
  pub is_own : slice_get tags j ≡ Some own
  pub share : shares asks own ≡ true

-- of which things it is true: of none, of some of one class, one of which is named, or of two of different classes
abbrev pub IsTrueOf : List Tag → (ℕ → Type 0) → Option Found → Type 0
IsTrueOf cs P None = (j : ℕ) → P j → ⊥
IsTrueOf cs P (Some (Alike i)) = P i × ((j : ℕ) → P j → class_at cs j ≡ class_at cs i)
IsTrueOf cs P (Some (Differing i j)) = P i × (P j × (class_at cs i ≡ class_at cs j → ⊥))

-- who has one of the tags for which is asked
abbrev pub AreHolders : List (List Tag) → List Tag → List Tag → Option Found → Type 0
AreHolders tags cs asks f = IsTrueOf cs (IsHolder tags asks) f

-- for each tag who has it
abbrev pub Holders : Type 0
Holders = BTreeMap (Bor (List ℕ)) Found

abbrev pub found_at : Holders → Tag → Option Found
found_at m t = get_by (λ k. slice_cmp nat_cmp t k.now) m

abbrev pub AreKept : Holders → List (List Tag) → List Tag → Type 0
AreKept m tags cs = (t : Tag) → AreHolders tags cs (t ∷ []) (found_at m t)

-- ---- how they are found

abbrev pub found_by : Bool → ℕ → ℕ → Found
found_by alike i j = if alike then Alike i else Differing i j

-- of which things the one or the other is true
abbrev pub joined : List Tag → Option Found → Option Found → Option Found
joined cs None f = f
joined cs (Some (Differing i j)) f = Some (Differing i j)
joined cs (Some (Alike i)) None = Some (Alike i)
joined cs (Some (Alike i)) (Some (Differing j k)) = Some (Differing j k)
joined cs (Some (Alike i)) (Some (Alike j)) = Some (found_by (bytes_eq (class_at cs i) (class_at cs j)) i j)

-- with the thing of a number, where one of its tags is this one
abbrev pub found_with : List Tag → Tag → Option Found → ℕ → List Tag → Option Found
found_with cs t f n [] = f
found_with cs t f n (u ∷ us) = found_with cs t (if bytes_eq t u then joined cs f (Some (Alike n)) else f) n us

-- with all things, where the first has the number n
abbrev pub found_among : List Tag → Tag → Option Found → ℕ → List (List Tag) → Option Found
found_among cs t f n [] = f
found_among cs t f n (us ∷ rest) = found_among cs t (found_with cs t f n us) (suc n) rest

-- at one of these tags
abbrev pub found_asked : List Tag → Holders → Option Found → List Tag → Option Found
found_asked cs m f [] = f
found_asked cs m f (t ∷ ts) = found_asked cs m (joined cs f (found_at m t)) ts
