-- Members gathered in a map, and taken from it.
use Rattle.std.proofs.Common.{◌≡◌, ◌≤◌, ℕ, List, [], ◌∷◌, ◌++◌, map, Ordering, Less, Equal, Greater, nat_cmp, chars}
use Rattle.std.proofs.Common.{string_bytes, String, Global, refl, sym, ap, ap₂, ◌∙◌, arith}
use Rattle.std.proofs.lemmas.Str.{encodes-chars, IsUtf8-string_bytes}
use Rattle.std.specs.String.{string_cmp}
use Rattle.std.specs.BTreeMap.{insert_entry}
use Rattle.std.specs.Map.{keys_of}
use Rattle.std.specs.Ordering.{match_ordering}
use Rattle.std.specs.Cmp.Lexicographic.{slice_cmp}
use Rattle.std.specs.List.{AllByRecursion}
use Rattle.std.specs.List.Sorted.{IsStrictlySortedBy}
use Rattle.arm_value.specs.Json.{Member, members_nesting, keys, put, put_each, key_cmp, IsInOrder}
use Rattle.arm_value.specs.View.{json, member, entry}
use Rattle.arm_value.specs.declared.value.Value.{Value}
use Rattle.arm_value.specs.declared.value.Field.{Field}
use Rattle.arm_value.proofs.SetLemmas.{equal_keys, members_nesting-put}
use Rattle.foundation.proofs.Lists.{map-push}

-- an entry of a map of values by their names
abbrev pub Entry : Type 0
Entry = String Global × Value

-- strings compare as their keys do
pub key_cmp-strings : (a b : String Global) → key_cmp (chars (string_bytes a)) (chars (string_bytes b)) ≡ string_cmp a b
key_cmp-strings a b = ap₂ (slice_cmp nat_cmp) (encodes-chars (string_bytes a) (IsUtf8-string_bytes a))
    (encodes-chars (string_bytes b) (IsUtf8-string_bytes b))

entry-insert_by : (o : Ordering) (k : String Global) (v : Value) (e : Entry) (es : List Entry) → string_cmp k e.0 ≡ o
    → map entry (insert_entry string_cmp es k v) ≡ put (chars (string_bytes k)) (json v) (map entry es)
    → map entry (match_ordering o ((k, v) ∷ e ∷ es) ((e.0, v) ∷ es) (e ∷ insert_entry string_cmp es k v))
    ≡ match_ordering o (entry (k, v) ∷ entry e ∷ map entry es) (entry (k, v) ∷ map entry es)
    (entry e ∷ put (chars (string_bytes k)) (json v) (map entry es))
entry-insert_by Less k v e es c h = refl
entry-insert_by Equal k v e es c h =
    ap (λ (n : List ℕ). (n, json v) ∷ map entry es)
    (sym (equal_keys (chars (string_bytes k)) (chars (string_bytes e.0)) (key_cmp-strings k e.0 ∙ c)))
entry-insert_by Greater k v e es c h = ap (λ r. entry e ∷ r) h

-- what goes into the map goes among the members
pub entry-insert : (es : List Entry) (k : String Global) (v : Value)
    → map entry (insert_entry string_cmp es k v) ≡ put (chars (string_bytes k)) (json v) (map entry es)
entry-insert [] k v = refl
entry-insert (e ∷ es) k v =
    entry-insert_by (string_cmp k e.0) k v e es refl (entry-insert es k v)
    ∙ ap (λ o. match_ordering o (entry (k, v) ∷ entry e ∷ map entry es) (entry (k, v) ∷ map entry es)
    (entry e ∷ put (chars (string_bytes k)) (json v) (map entry es))) (sym (key_cmp-strings k e.0))

pub put_each-push : (ms ns : List Member) (n : Member) → put_each ms (ns ++ n ∷ []) ≡ put n.0 n.1 (put_each ms ns)
put_each-push ms [] n = refl
put_each-push ms (m ∷ ns) n = put_each-push (put m.0 m.1 ms) ns n

-- one more entry of the loop
pub gathered : (es new : List Entry) (fs : List Field) (f : Field) (k : String Global)
    → map entry es ≡ put_each [] (map member fs) → new ≡ insert_entry string_cmp es k f.value
    → chars (string_bytes k) ≡ f.name
    → map entry new ≡ put_each [] (map member (fs ++ f ∷ []))
gathered es new fs f k all n named =
    ap (map entry) n ∙ entry-insert es k f.value ∙ ap₂ (λ (c : List ℕ) ms. put c (json f.value) ms) named all
    ∙ sym (ap (put_each []) (map-push member fs f) ∙ put_each-push [] (map member fs) (member f))

pub members_nesting-put_each : (ms ns : List Member) → members_nesting ms ≤ 119 → members_nesting ns ≤ 119
    → members_nesting (put_each ms ns) ≤ 119
members_nesting-put_each ms [] h g = h
members_nesting-put_each ms (n ∷ ns) h g =
    members_nesting-put_each (put n.0 n.1 ms) ns (members_nesting-put n.0 n.1 ms (omega arith) h) (omega arith)

all_keys : (k : String Global) (es : List Entry) → AllByRecursion (λ y. string_cmp k y ≡ Less) (keys_of es)
    → AllByRecursion (λ y. key_cmp (chars (string_bytes k)) y ≡ Less) (keys (map entry es))
all_keys k [] h = tt
all_keys k (e ∷ es) h = (key_cmp-strings k e.0 ∙ h.0, all_keys k es h.1)

-- the entries of a map are in the order of members
pub entries_in_order : (es : List Entry) → IsStrictlySortedBy string_cmp (keys_of es) → IsInOrder (map entry es)
unfolding IsStrictlySortedBy
entries_in_order [] h = tt
entries_in_order (e ∷ es) h = (all_keys e.0 es h.0, entries_in_order es h.1)

all_front : (P : List ℕ → Type 0) (ms ns : List Member) → AllByRecursion P (keys (ms ++ ns))
    → AllByRecursion P (keys ms)
all_front P [] ns h = tt
all_front P (m ∷ ms) ns h = (h.0, all_front P ms ns h.1)

-- a front of members in order is in order
pub front_in_order : (ms ns : List Member) → IsInOrder (ms ++ ns) → IsInOrder ms
unfolding IsStrictlySortedBy
front_in_order [] ns h = tt
front_in_order (m ∷ ms) ns h = (all_front _ ms ns h.0, front_in_order ms ns h.1)

pub map-same : {A : Type 0} (xs : List A) → map (λ x. x) xs ≡ xs
map-same [] = refl
map-same (x ∷ xs) = ap (λ r. x ∷ r) (map-same xs)

-- the members so far, and one more, of a list that goes on
pub append_one : {A : Type 0} (xs ys : List A) (x : A) → xs ++ x ∷ ys ≡ (xs ++ x ∷ []) ++ ys
append_one [] ys x = refl
append_one (z ∷ xs) ys x = ap (λ r. z ∷ r) (append_one xs ys x)
