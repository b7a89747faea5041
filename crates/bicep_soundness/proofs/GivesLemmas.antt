-- What the functions of values give is of a type.
use Rattle.std.proofs.Common.{ℕ, Bool, true, false, List, [], ◌∷◌, map, Option, Some, None, refl, cond}
use Rattle.std.specs.Prelude.{ℤ, nat_le, unsigned_abs, ◌==◌, length, option_map, option_and_then}
use Rattle.arm_value.specs.Json as j
use Rattle.arm_value.specs.Json.{Json, Member, row, pairs, nesting, put_each}
use Rattle.arm_value.specs.Look.{fold}
use Rattle.function_numbers.specs.Kinds.{text_of, members_of, items_of, of_one, of_two}
use Rattle.function_numbers.specs.Numbers as numbers
use Rattle.function_numbers.specs.Logic as logic
use Rattle.function_texts.specs.Letters as letters
use Rattle.function_texts.specs.Cuts as cuts
use Rattle.function_texts.specs.Places as places
use Rattle.function_lists.specs.Values.{array_of, object_of}
use Rattle.function_lists.specs.Sizes as sizes
use Rattle.function_lists.specs.Items as items
use Rattle.function_lists.specs.Members as members
use Rattle.function_prints.specs.Printed as prints
use Rattle.function_prints.specs.Format as formats
use Rattle.function_identities.specs.Encodings as encodings
use Rattle.function_identities.specs.Identities as identities
use Rattle.bicep_signatures.specs.declared.value_type.ValueType.{ValueType}
use Rattle.bicep_signatures.specs.declared.value_type.ValueType.TheVariants as type
use Rattle.bicep_soundness.specs.Values.{IsOfType, Gives}

-- ---- options

pub of_chosen : (t : ValueType) (b : Bool) (x y : Option Json) → Gives t x → Gives t y → Gives t (cond b x y)
of_chosen t true x y h k = h
of_chosen t false x y h k = k

pub of_then : {A : Type 0} (t : ValueType) (f : A → Option Json) (o : Option A) → ((x : A) → Gives t (f x))
    → Gives t (option_and_then f o)
of_then t f None h = tt
of_then t f (Some x) h = h x

pub of_map : {A : Type 0} (t : ValueType) (f : A → Json) (o : Option A) → ((x : A) → IsOfType t (f x))
    → Gives t (option_map f o)
of_map t f None h = tt
of_map t f (Some x) h = h x

pub by_one : (t : ValueType) (f : Json → Option Json) (vs : List Json) → ((x : Json) → Gives t (f x))
    → Gives t (of_one f vs)
by_one t f [] h = tt
by_one t f (x ∷ []) h = h x
by_one t f (x ∷ y ∷ vs) h = tt

pub by_two : (t : ValueType) (f : Json → Json → Option Json) (vs : List Json) → ((x y : Json) → Gives t (f x y))
    → Gives t (of_two f vs)
by_two t f [] h = tt
by_two t f (x ∷ []) h = tt
by_two t f (x ∷ y ∷ []) h = h x y
by_two t f (x ∷ y ∷ z ∷ vs) h = tt

pub array_is : (vs : List Json) → Gives type.Array (array_of vs)
unfolding array_of
array_is vs =
    of_chosen type.Array (nat_le (nesting (j.array (row vs))) 120) (Some (j.array (row vs))) None refl tt

pub object_is : (ms : List Member) → Gives type.Object (object_of ms)
unfolding object_of
object_is ms =
    let x = j.object (pairs (put_each [] ms)) in of_chosen type.Object (nat_le (nesting x) 120) (Some x) None refl tt

-- ---- numbers

pub of_numbers_is : (f : _) (vs : List Json) → Gives type.Int (numbers.of_numbers f vs)
of_numbers_is f vs = of_map type.Int j.int _ (λ z. refl)

pub best_is : (f : _) (vs : List Json) → Gives type.Int (numbers.best_of f vs)
best_is f vs = of_map type.Int j.int _ (λ z. refl)

pub int_is : (vs : List Json) → Gives type.Int (numbers.to_int vs)
int_is vs = by_one type.Int _ vs (λ x. of_map type.Int j.int _ (λ z. refl))

from_is : (x y : ℤ) → Gives type.Array (numbers.numbers_from x y)
from_is x y =
    of_chosen type.Array (numbers.is_range x y) (Some (j.array (row (numbers.counted x (unsigned_abs y))))) None refl tt

pub range_is : (vs : List Json) → Gives type.Array (numbers.range vs)
range_is vs = of_then type.Array (λ p. numbers.numbers_from p.0 p.1) (numbers.two_numbers vs) (λ p. from_is p.0 p.1)

-- ---- truth values

pub not_is : (vs : List Json) → Gives type.Bool (logic.not vs)
not_is vs = by_one type.Bool _ vs (λ x. of_map type.Bool _ _ (λ b. refl))

pub to_bool_is : (vs : List Json) → Gives type.Bool (logic.to_bool vs)
to_bool_is vs = by_one type.Bool _ vs (λ x. of_map type.Bool j.bool _ (λ b. refl))

pub equals_is : (vs : List Json) → Gives type.Bool (logic.equals vs)
equals_is vs = by_two type.Bool _ vs (λ x y. refl)

pub compares_is : (test : _) (vs : List Json) → Gives type.Bool (logic.compares test vs)
compares_is test vs = of_map type.Bool _ _ (λ o. refl)

-- ---- texts

pub lower_is : (vs : List Json) → Gives type.Text (letters.to_lower vs)
lower_is vs = by_one type.Text _ vs (λ x. of_map type.Text _ _ (λ s. refl))

pub upper_is : (vs : List Json) → Gives type.Text (letters.to_upper vs)
upper_is vs = by_one type.Text _ vs (λ x. of_map type.Text _ _ (λ s. refl))

pub trim_is : (vs : List Json) → Gives type.Text (letters.trim vs)
trim_is vs = by_one type.Text _ vs (λ x. of_map type.Text _ _ (λ s. refl))

cut_is : (x y : Json) → Gives type.Text (cuts.cut x y)
cut_is x y =
    of_then type.Text _ (text_of x)
    (λ s. of_then type.Text _ (cuts.count_of y) (λ n. of_map type.Text j.text (cuts.rest_from s n) (λ p. refl)))

part_is : (x y z : Json) → Gives type.Text (cuts.cut_part x y z)
part_is x y z =
    of_then type.Text _ (text_of x)
    (λ s. of_then type.Text _ (cuts.count_of y)
    (λ n. of_then type.Text _ (cuts.count_of z) (λ m. of_map type.Text j.text (cuts.part s n m) (λ p. refl))))

pub substring_is : (vs : List Json) → Gives type.Text (cuts.substring vs)
substring_is [] = tt
substring_is (x ∷ []) = tt
substring_is (x ∷ y ∷ []) = cut_is x y
substring_is (x ∷ y ∷ z ∷ []) = part_is x y z
substring_is (x ∷ y ∷ z ∷ v ∷ vs) = tt

replaced_is : (s old new : List ℕ) → Gives type.Text (cuts.replaced_in s old new)
replaced_is s old new =
    of_chosen type.Text (length old == 0) None (Some (j.text (cuts.replaced old new s))) tt refl

pub replace_is : (vs : List Json) → Gives type.Text (cuts.replace vs)
replace_is [] = tt
replace_is (x ∷ []) = tt
replace_is (x ∷ y ∷ []) = tt
replace_is (x ∷ y ∷ z ∷ []) =
    of_then type.Text _ (text_of x)
    (λ s. of_then type.Text _ (text_of y)
    (λ old. of_then type.Text _ (text_of z) (λ new. replaced_is s old new)))
replace_is (x ∷ y ∷ z ∷ v ∷ vs) = tt

split_text_is : (s : List ℕ) (ds : List (List ℕ)) → Gives type.Array (cuts.split_text s ds)
split_text_is s ds =
    let xs = map j.text (cuts.pieces ds s) in
    of_chosen type.Array (cuts.can_cut ds) (array_of xs) None (array_is xs) tt

pub split_is : (vs : List Json) → Gives type.Array (cuts.split vs)
split_is vs =
    by_two type.Array _ vs
    (λ x y. of_then type.Array _ (text_of x)
    (λ s. of_then type.Array (cuts.split_text s) (cuts.delimiters y) (split_text_is s)))

starts_text_is : (x y : Json) → Gives type.Bool (places.starts_text x y)
starts_text_is (j.text s) (j.text t) = refl
starts_text_is (j.text s) j.null = tt
starts_text_is (j.text s) (j.bool b) = tt
starts_text_is (j.text s) (j.int z) = tt
starts_text_is (j.text s) (j.array vs) = tt
starts_text_is (j.text s) (j.object ms) = tt
starts_text_is j.null y = tt
starts_text_is (j.bool b) y = tt
starts_text_is (j.int z) y = tt
starts_text_is (j.array vs) y = tt
starts_text_is (j.object ms) y = tt

ends_text_is : (x y : Json) → Gives type.Bool (places.ends_text x y)
ends_text_is (j.text s) (j.text t) = refl
ends_text_is (j.text s) j.null = tt
ends_text_is (j.text s) (j.bool b) = tt
ends_text_is (j.text s) (j.int z) = tt
ends_text_is (j.text s) (j.array vs) = tt
ends_text_is (j.text s) (j.object ms) = tt
ends_text_is j.null y = tt
ends_text_is (j.bool b) y = tt
ends_text_is (j.int z) y = tt
ends_text_is (j.array vs) y = tt
ends_text_is (j.object ms) y = tt

pub starts_is : (vs : List Json) → Gives type.Bool (places.starts_with vs)
starts_is vs = by_two type.Bool _ vs starts_text_is

pub ends_is : (vs : List Json) → Gives type.Bool (places.ends_with vs)
ends_is vs = by_two type.Bool _ vs ends_text_is

place_is : (o : Option ℕ) → Gives type.Int (places.place o)
place_is None = refl
place_is (Some i) = of_map type.Int j.int _ (λ z. refl)

index_in_is : (x y : Json) → Gives type.Int (places.index_in x y)
index_in_is (j.text s) (j.text t) = place_is (places.first_from 0 (fold t) (fold s))
index_in_is (j.text s) j.null = tt
index_in_is (j.text s) (j.bool b) = tt
index_in_is (j.text s) (j.int z) = tt
index_in_is (j.text s) (j.array vs) = tt
index_in_is (j.text s) (j.object ms) = tt
index_in_is j.null y = tt
index_in_is (j.bool b) y = tt
index_in_is (j.int z) y = tt
index_in_is (j.array vs) y = place_is (items.first_place y (j.items vs))
index_in_is (j.object ms) y = tt

last_index_in_is : (x y : Json) → Gives type.Int (places.last_index_in x y)
last_index_in_is (j.text s) (j.text t) = place_is (places.last_from 0 (fold t) (fold s))
last_index_in_is (j.text s) j.null = tt
last_index_in_is (j.text s) (j.bool b) = tt
last_index_in_is (j.text s) (j.int z) = tt
last_index_in_is (j.text s) (j.array vs) = tt
last_index_in_is (j.text s) (j.object ms) = tt
last_index_in_is j.null y = tt
last_index_in_is (j.bool b) y = tt
last_index_in_is (j.int z) y = tt
last_index_in_is (j.array vs) y = place_is (items.last_place y (j.items vs))
last_index_in_is (j.object ms) y = tt

pub index_is : (vs : List Json) → Gives type.Int (places.index_of vs)
index_is vs = by_two type.Int _ vs index_in_is

pub last_index_is : (vs : List Json) → Gives type.Int (places.last_index_of vs)
last_index_is vs = by_two type.Int _ vs last_index_in_is

has_part_is : (x y : Json) → Gives type.Bool (places.has_part x y)
has_part_is (j.text s) (j.text t) = refl
has_part_is (j.text s) j.null = tt
has_part_is (j.text s) (j.bool b) = tt
has_part_is (j.text s) (j.int z) = tt
has_part_is (j.text s) (j.array vs) = tt
has_part_is (j.text s) (j.object ms) = tt
has_part_is j.null y = tt
has_part_is (j.bool b) y = tt
has_part_is (j.int z) y = tt
has_part_is (j.array vs) y = refl
has_part_is (j.object ms) (j.text t) = refl
has_part_is (j.object ms) j.null = tt
has_part_is (j.object ms) (j.bool b) = tt
has_part_is (j.object ms) (j.int z) = tt
has_part_is (j.object ms) (j.array vs) = tt
has_part_is (j.object ms) (j.object ns) = tt

pub contains_is : (vs : List Json) → Gives type.Bool (places.contains vs)
contains_is vs = by_two type.Bool _ vs has_part_is

-- ---- arrays and objects

pub size_is : (vs : List Json) → Gives type.Int (sizes.size vs)
size_is vs = by_one type.Int _ vs (λ x. of_map type.Int j.int _ (λ z. refl))

pub empty_is : (vs : List Json) → Gives type.Bool (sizes.empty vs)
empty_is vs = by_one type.Bool _ vs (λ x. of_map type.Bool j.bool _ (λ b. refl))

as_array_is : (x : Json) → Gives type.Array (items.as_array x)
as_array_is j.null = array_is (j.null ∷ [])
as_array_is (j.bool b) = array_is (j.bool b ∷ [])
as_array_is (j.int z) = array_is (j.int z ∷ [])
as_array_is (j.text s) = array_is (j.text s ∷ [])
as_array_is (j.array vs) = refl
as_array_is (j.object ms) = array_is (j.object ms ∷ [])

pub to_array_is : (vs : List Json) → Gives type.Array (items.to_array vs)
to_array_is vs = by_one type.Array _ vs as_array_is

concat_arrays_is : (vs : List Json) → Gives type.Array (items.concat_arrays vs)
concat_arrays_is vs = of_then type.Array _ (items.joined vs) (λ x. array_is x)

pub flatten_is : (vs : List Json) → Gives type.Array (items.flatten vs)
flatten_is vs = by_one type.Array _ vs (λ x. of_then type.Array _ (items_of x) concat_arrays_is)

pub items_is : (vs : List Json) → Gives type.Array (members.object_items vs)
items_is vs =
    by_one type.Array _ vs
    (λ x. of_then type.Array _ (members_of x) (λ ms. array_is (map members.key_and_value ms)))

pub keys_is : (vs : List Json) → Gives type.Array (members.object_keys vs)
keys_is vs =
    by_one type.Array _ vs
    (λ x. of_then type.Array _ (members_of x) (λ ms. array_is (map (λ m. j.text m.0) ms)))

-- ---- printed

join_items_is : (x y : Json) → Gives type.Text (prints.join_items x y)
join_items_is (j.array vs) (j.text s) = refl
join_items_is (j.array vs) j.null = tt
join_items_is (j.array vs) (j.bool b) = tt
join_items_is (j.array vs) (j.int z) = tt
join_items_is (j.array vs) (j.array us) = tt
join_items_is (j.array vs) (j.object ms) = tt
join_items_is j.null y = tt
join_items_is (j.bool b) y = tt
join_items_is (j.int z) y = tt
join_items_is (j.text s) y = tt
join_items_is (j.object ms) y = tt

pub join_is : (vs : List Json) → Gives type.Text (prints.join vs)
join_is vs = by_two type.Text _ vs join_items_is

pad_by_is : (x y : Json) (o : Option ℕ) → Gives type.Text (prints.pad_by x y o)
pad_by_is x y o =
    of_then type.Text _ o (λ c. of_then type.Text _ (prints.width_of y) (λ width. of_map type.Text _ _ (λ s. refl)))

pub pad_left_is : (vs : List Json) → Gives type.Text (prints.pad_left vs)
pad_left_is [] = tt
pad_left_is (x ∷ []) = tt
pad_left_is (x ∷ y ∷ []) = pad_by_is x y (Some 32)
pad_left_is (x ∷ y ∷ z ∷ []) = pad_by_is x y (prints.fill_of z)
pad_left_is (x ∷ y ∷ z ∷ v ∷ vs) = tt

pub to_text_is : (vs : List Json) → Gives type.Text (prints.to_text vs)
to_text_is vs = by_one type.Text _ vs (λ x. refl)

pub format_is : (vs : List Json) → Gives type.Text (formats.format vs)
format_is [] = tt
format_is (x ∷ vs) = of_then type.Text _ (text_of x) (λ s. of_map type.Text j.text _ (λ t. refl))

-- ---- names

pub base64_is : (vs : List Json) → Gives type.Text (encodings.to_base64 vs)
base64_is vs = by_one type.Text _ vs (λ x. of_map type.Text _ _ (λ s. refl))

pub from_base64_is : (vs : List Json) → Gives type.Text (encodings.base64_to_string vs)
from_base64_is vs = by_one type.Text _ vs (λ x. of_map type.Text j.text _ (λ s. refl))

pub unique_string_is : (vs : List Json) → Gives type.Text (identities.unique_string vs)
unique_string_is vs = of_map type.Text _ _ (λ s. refl)

pub guid_is : (vs : List Json) → Gives type.Text (identities.guid vs)
guid_is vs = of_map type.Text _ _ (λ s. refl)
