-- What a resource id is, by the parts that it names (Microsoft Learn, "Resource ID format").
use Rattle.std.specs.Prelude.{◌≡◌, ◌≢◌, ℕ, suc, ◌==◌, ◌<◌, nat_lt, ◌&&◌, not, Bool, true, false, List, [], ◌∷◌, ◌++◌}
use Rattle.std.specs.Prelude.{map, length, Option, Some, None, chars, codes, if◌then◌else◌}
use Rattle.std.specs.List.{list_any}
use Rattle.arm_value.specs.Look.{fold, is_same_folded}
use Rattle.arm_ids.specs.Segments.{segments, slashed, is_empty, has_slash, firsts, seconds, by_turns}
use Rattle.arm_ids.specs.declared.id.Place.{Place}
use Rattle.arm_ids.specs.declared.id.ResourceId.{ResourceId}
use Rattle.arm_ids.specs.declared.fault.IdFault.{IdFault}
use Rattle.arm_ids.specs.declared.fault.IdFault.TheVariants.{EmptySegment, SegmentsDiffer, NotAnId, OutOfMemory}

-- the id of a type and a name in a subscription and a group
abbrev pub resource : List ℕ → List ℕ → List ℕ → List ℕ → ResourceId
resource subscription group kind name =
    record { subscription = subscription; group = group; types = segments kind; names = segments name }

-- the id of a type and a name, both in UTF-8, in the subscription and group of a place
abbrev pub resource_at : Place → List ℕ → List ℕ → ResourceId
resource_at place kind name = resource place.subscription place.group (chars kind) (chars name)

-- the id in small ASCII letters
abbrev pub folded : ResourceId → ResourceId
folded i =
    record {
      subscription = fold i.subscription;
      group = fold i.group;
      types = map fold i.types;
      names =
          map fold i.names;
    }

-- the segments after `providers`: the provider's name, then a type and a name by turns
abbrev pub path : List (List ℕ) → List (List ℕ) → List (List ℕ)
path [] names = []
path (provider ∷ types) names = provider ∷ by_turns types names

-- the segments of the id's text up to the provider's name
abbrev pub start_of : ResourceId → List (List ℕ)
start_of i =
    codes "subscriptions" ∷ i.subscription ∷ codes "resourceGroups" ∷ i.group ∷ codes "providers" ∷ []

-- the segments of the id's text
abbrev pub id_segments : ResourceId → List (List ℕ)
id_segments i = start_of i ++ path i.types i.names

-- `/subscriptions/s/resourceGroups/g/providers/N/t1/n1/..`
unfoldable pub text_of : ResourceId → List ℕ
text_of i = slashed (id_segments i)

-- that text in small ASCII letters
abbrev pub folded_text : ResourceId → List ℕ
folded_text i = fold (text_of i)

-- the segments that must not be empty
abbrev pub named_segments : ResourceId → List (List ℕ)
named_segments i = i.subscription ∷ i.group ∷ (i.types ++ i.names)

-- whether one of them is empty
abbrev pub has_empty_segment : ResourceId → Bool
has_empty_segment i = list_any is_empty (named_segments i)

-- whether no segment is empty, and there is one type segment more than names, of which there is one
abbrev pub is_whole : ResourceId → Bool
is_whole i = not (has_empty_segment i) && ((length i.types == suc (length i.names)) && nat_lt 0 (length i.names))

-- what holds of every id that is read or made
pub record IsResourceId (i : ResourceId) : Type 0 where
  pub filled : has_empty_segment i ≡ false
  pub paired : length i.types ≡ suc (length i.names)
  pub named : 0 < length i.names
  pub types_cut : list_any has_slash i.types ≡ false
  pub names_cut : list_any has_slash i.names ≡ false

-- what holds of every key
pub record IsKey (i : ResourceId) : Type 0 where
  pub is_id : IsResourceId i
  pub is_folded : folded i ≡ i

-- neither the subscription nor the group has a slash in it
pub record IsPlain (i : ResourceId) : Type 0 where
  pub subscription : has_slash i.subscription ≡ false
  pub group : has_slash i.group ≡ false

-- whether these are the fixed words of an id, in letters of any case
abbrev pub are_words : List ℕ → List ℕ → List ℕ → Bool
are_words a b c =
    is_same_folded (codes "subscriptions") a
    && (is_same_folded (codes "resourceGroups") b && is_same_folded (codes "providers") c)

-- the id, where it is whole
abbrev pub if_whole : Bool → ResourceId → Option ResourceId
if_whole words i = if words && is_whole i then Some i else None

-- the id whose text has these segments
abbrev pub reading_of : List (List ℕ) → Option ResourceId
reading_of ([] ∷ a ∷ subscription ∷ b ∷ group ∷ c ∷ provider ∷ rest) =
    if_whole (are_words a b c)
    (record { subscription = subscription; group = group; types = provider ∷ firsts rest; names = seconds rest })
reading_of _ = None

-- the id that a text is, with its letters as the text has them
abbrev pub reading : List ℕ → Option ResourceId
reading text = reading_of (segments text)

-- the text is an id of this key
pub record IsIdOf (text : List ℕ) (key : ResourceId) : Type 0 where
  pub is_key : IsKey key
  pub is_plain : IsPlain key
  pub spelled : fold text ≡ folded_text key

-- the text is the id of a key
abbrev pub HasKey : List ℕ → Type 0
HasKey text = (key : ResourceId) × IsIdOf text key

-- the fault of these parts, which exclude one another
abbrev pub Refuses : ResourceId → IdFault → Type 0
Refuses i EmptySegment = has_empty_segment i ≡ true
Refuses i SegmentsDiffer = (has_empty_segment i ≡ false) × (length i.types ≢ suc (length i.names))
Refuses i NotAnId = ⊥
Refuses i OutOfMemory = Unit {0}

-- the fault of a text that was to be an id
abbrev pub IsNoId : List ℕ → IdFault → Type 0
IsNoId text NotAnId = reading text ≡ None
IsNoId text OutOfMemory = Unit {0}
IsNoId text EmptySegment = ⊥
IsNoId text SegmentsDiffer = ⊥

-- the fault of a text that was to be the id of a key
abbrev pub IsNoKey : List ℕ → IdFault → Type 0
IsNoKey text NotAnId = (key : ResourceId) → IsIdOf text key → ⊥
IsNoKey text OutOfMemory = Unit {0}
IsNoKey text EmptySegment = ⊥
IsNoKey text SegmentsDiffer = ⊥
