-- What a loop over the members of a resource has come to.
use Rattle.std.proofs.Common.{◌≡◌, ◌<◌, ◌≤◌, ◌+◌, ℕ, length, get_or, drop, Bool, true, false, List, [], ◌∷◌, ◌++◌}
use Rattle.std.proofs.Common.{map, Option, if◌then◌else◌, refl, sym, ap, ◌∙◌, subst, arith}
use Rattle.std.proofs.lemmas.List.{drop_all, append-nil}
use Rattle.foundation.proofs.Lists.{next_item}
use Rattle.arm_value.specs.Json.{Member, nesting, members_nesting, IsInOrder}
use Rattle.arm_value.specs.View.{json, member}
use Rattle.arm_value.specs.declared.value.Field.{Field}
use Rattle.arm_value.proofs.GatherLemmas.{front_in_order, append_one}
use Rattle.arm_value.proofs.JsonLemmas as parts
use Rattle.template_meaning.specs.Resources.{is_outside, body_of}
use Rattle.arm_value.proofs.GatheredLemmas.{without_one}

pub member_within : (fs : List Field) (ms : List Member) (i : ℕ) (f : Field) (n : ℕ) → map member fs ≡ ms
    → i < length fs → f ≡ get_or fs i f → members_nesting ms ≤ n → nesting (json f.value) ≤ n
member_within fs ms i f n e h is d = omega (arith, d, parts.member_nests fs i f h is, ap members_nesting e)

at_next : (made : List Member) (fs : List Field) (i : ℕ) (f : Field) → IsInOrder (made ++ map member (drop i fs))
    → i < length fs → f ≡ get_or fs i f → IsInOrder (made ++ member f ∷ map member (drop (i + 1) fs))
at_next made fs i f o h is = subst (λ ds. IsInOrder (made ++ map member ds)) (next_item fs i f h is) o

pub next_last : (made : List Member) (fs : List Field) (i : ℕ) (f : Field) → IsInOrder (made ++ map member (drop i fs))
    → i < length fs → f ≡ get_or fs i f → IsInOrder (made ++ (f.name, json f.value) ∷ [])
next_last made fs i f o h is =
    front_in_order (made ++ member f ∷ []) (map member (drop (i + 1) fs))
    (subst IsInOrder (append_one made (map member (drop (i + 1) fs)) (member f)) (at_next made fs i f o h is))

-- the members of the body with the next member, unless it is outside
ordered_by : (b : Bool) (made rest : List Member) (m : Member) → IsInOrder (made ++ m ∷ rest)
    → IsInOrder ((if b then made else made ++ m ∷ []) ++ rest)
ordered_by true made rest m o = without_one made m rest o
ordered_by false made rest m o = subst IsInOrder (append_one made rest m) o

pub next_ordered : (s : Option (List ℕ)) (made new : List Member) (fs : List Field) (i : ℕ) (f : Field)
    → IsInOrder (made ++ map member (drop i fs)) → i < length fs → f ≡ get_or fs i f
    → new ≡ (if is_outside s f.name then made else made ++ (f.name, json f.value) ∷ [])
    → IsInOrder (new ++ map member (drop (i + 1) fs))
next_ordered s made new fs i f o h is n =
    subst (λ ms. IsInOrder (ms ++ map member (drop (i + 1) fs))) (sym n)
    (ordered_by (is_outside s f.name) made (map member (drop (i + 1) fs)) (member f) (at_next made fs i f o h is))

-- what is left of the body, by whether the next member is of it
body_from : (s : Option (List ℕ)) (fs : List Field) (i : ℕ) (f : Field) → i < length fs → f ≡ get_or fs i f
    → body_of s (map member (drop i fs))
    ≡ (if is_outside s f.name then body_of s (map member (drop (i + 1) fs))
    else member f ∷ body_of s (map member (drop (i + 1) fs)))
body_from s fs i f h is = ap (λ ds. body_of s (map member ds)) (next_item fs i f h is)

body_by : (b : Bool) (made rest : List Member) (m : Member)
    → made ++ (if b then rest else m ∷ rest) ≡ (if b then made else made ++ m ∷ []) ++ rest
body_by true made rest m = refl
body_by false made rest m = append_one made rest m

pub body_next : (s : Option (List ℕ)) (all made new : List Member) (fs : List Field) (i : ℕ) (f : Field)
    → all ≡ made ++ body_of s (map member (drop i fs)) → i < length fs → f ≡ get_or fs i f
    → new ≡ (if is_outside s f.name then made else made ++ (f.name, json f.value) ∷ [])
    → all ≡ new ++ body_of s (map member (drop (i + 1) fs))
body_next s all made new fs i f a h is n =
    let rest = body_of s (map member (drop (i + 1) fs)) in
    a ∙ ap (λ ms. made ++ ms) (body_from s fs i f h is) ∙ body_by (is_outside s f.name) made rest (member f)
    ∙ ap (λ ms. ms ++ rest) (sym n)

pub body_all : (s : Option (List ℕ)) (made : List Member) (fs : List Field) (ms : List Member) (i : ℕ)
    → map member fs ≡ ms → body_of s (map member fs) ≡ made ++ body_of s (map member (drop i fs)) → length fs ≤ i
    → made ≡ body_of s ms
body_all s made fs ms i e a h =
    sym (ap (body_of s) (sym e) ∙ a ∙ ap (λ ds. made ++ body_of s (map member ds)) (drop_all i fs h)
    ∙ append-nil made)
