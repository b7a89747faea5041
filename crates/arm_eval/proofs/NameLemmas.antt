-- Names in a set, and names that are free.
use Rattle.std.proofs.Common.{◌≡◌, ◌<◌, ◌≤◌, ◌+◌, ℕ, suc, Bool, true, false, ◌&&◌, ◌||◌, List, [], ◌∷◌, ◌++◌}
use Rattle.std.proofs.Common.{length, get_or, take, drop, map, bytes_eq, encode_utf8_all, refl, ap, ap₂, sym, ◌∙◌}
use Rattle.std.proofs.Common.{add-one, append_assoc}
use Rattle.std.specs.Prelude.{cond, not}
use denote.Ref.{Bor}
use Rattle.std.specs.Cmp.{both_ways}
use Rattle.std.specs.List.{list_any}
use Rattle.std.specs.BTreeSet.{BTreeSet, contains, IsEmpty, Updates}
use Rattle.std.proofs.Math.Seq.{drop-cons}
use Rattle.std.proofs.lemmas.List.{drop_all}
use Rattle.std.proofs.lemmas.List.Folds.{list_any-append}
use Rattle.std.proofs.lemmas.Map.Text.{is_eq-slice_cmp}
use Rattle.std.proofs.lemmas.Slice.Eq.{bytes_eq-Decides}
use Rattle.std.proofs.lemmas.Str.{encodes_same}
use Rattle.arm_value.specs.Json.{Member}
use Rattle.arm_value.specs.View.{member}
use Rattle.arm_value.specs.declared.value.Field.{Field}
use Rattle.arm_value.proofs.JsonLemmas.{map-take-more}
use Rattle.arm_eval.specs.Trees.{are_new, differ, names_of}
use Rattle.arm_eval.specs.Free.{are_free, text_cmp, AreNames}
use Rattle.foundation.proofs.Words.{swapped}
use Rattle.foundation.proofs.TruthValues.{last_or}

-- ---- names in UTF-8

encoded : (s t : List ℕ) → bytes_eq (encode_utf8_all s) (encode_utf8_all t) ≡ bytes_eq s t
encoded s t =
    both_ways (bytes_eq (encode_utf8_all s) (encode_utf8_all t)) (bytes_eq s t)
    (λ h. (bytes_eq-Decides s t).1
    (encodes_same s t ((bytes_eq-Decides (encode_utf8_all s) (encode_utf8_all t)).0 h)))
    (λ h. (bytes_eq-Decides (encode_utf8_all s) (encode_utf8_all t)).1
    (ap encode_utf8_all ((bytes_eq-Decides s t).0 h)))

any_encoded : (s : List ℕ) (ns : List (List ℕ)) → list_any (λ n. bytes_eq (encode_utf8_all s) (encode_utf8_all n)) ns
    ≡ list_any (bytes_eq s) ns
any_encoded s [] = refl
any_encoded s (n ∷ ns) = ap₂ (λ a b. a || b) (encoded s n) (any_encoded s ns)

-- ---- the set

pub is_named : (set : BTreeSet (Bor (List ℕ))) (key : Bor (List ℕ)) (ns : List (List ℕ)) (name : List ℕ)
    → AreNames set ns → key.now ≡ encode_utf8_all name → contains text_cmp set key ≡ list_any (bytes_eq name) ns
is_named set key ns name h e = h key ∙ ap (λ s. list_any (λ n. bytes_eq s (encode_utf8_all n)) ns) e
    ∙ any_encoded name ns

pub no_names : (set : BTreeSet (Bor (List ℕ))) → IsEmpty set → AreNames set []
no_names set e = λ s. ap (list_any _) e

pub names_more : (old new : BTreeSet (Bor (List ℕ))) (key : Bor (List ℕ)) (ns : List (List ℕ)) (name : List ℕ)
    → AreNames old ns → key.now ≡ encode_utf8_all name → Updates text_cmp old new key true
    → AreNames new (ns ++ name ∷ [])
names_more old new key ns name h e u = λ s.
    let here = is_eq-slice_cmp key.now s.now ∙ swapped key.now s.now ∙ ap (bytes_eq s.now) e in
    u.0 s ∙ ap₂ (λ x y. cond x true y) here (h s)
    ∙ last_or (bytes_eq s.now (encode_utf8_all name)) (list_any (λ n. bytes_eq s.now (encode_utf8_all n)) ns)
    ∙ sym (list_any-append (λ n. bytes_eq s.now (encode_utf8_all n)) ns (name ∷ []))

-- ---- the names of members, one after another

names-push : (ms : List Member) (m : Member) → names_of (ms ++ m ∷ []) ≡ names_of ms ++ m.0 ∷ []
names-push [] m = refl
names-push (n ∷ ms) m = ap (λ r. n.0 ∷ r) (names-push ms m)

-- the names so far, and one more
pub front_names : (fs : List Field) (i : ℕ) (f : Field) → i < length fs → f ≡ get_or fs i f
    → names_of (map member (take i fs)) ++ f.name ∷ [] ≡ names_of (map member (take (i + 1) fs))
front_names fs i f h e =
    sym (ap names_of (rw add-one (map-take-more member fs i f h e)) ∙ names-push (map member (take i fs)) (member f))

-- one more name after those of an object
pub more_names : (ns : List (List ℕ)) (fs : List Field) (i : ℕ) (f : Field) → i < length fs → f ≡ get_or fs i f
    → (ns ++ names_of (map member (take i fs))) ++ f.name ∷ [] ≡ ns ++ names_of (map member (take (i + 1) fs))
more_names ns fs i f h e = append_assoc ns (names_of (map member (take i fs))) (f.name ∷ [])
    ∙ ap (λ r. ns ++ r) (front_names fs i f h e)

rest_names : (fs : List Field) (i : ℕ) (f : Field) → i < length fs → f ≡ get_or fs i f
    → names_of (map member (drop i fs)) ≡ f.name ∷ names_of (map member (drop (i + 1) fs))
rest_names fs i f h e =
    rw (add-one, drop-cons fs i f h) (ap (λ (g : Field). g.name ∷ names_of (map member (drop (suc i) fs))) (sym e))

no_rest : (fs : List Field) (i : ℕ) → length fs ≤ i → names_of (map member (drop i fs)) ≡ []
no_rest fs i h = ap (λ gs. names_of (map member gs)) (drop_all i fs h)

-- ---- free names

new_by : (a b r d : Bool) → (not (a || (b || false)) && (r && not d)) ≡ ((not a && r) && not (b || d))
new_by true b r d = refl
new_by false true true d = refl
new_by false true false d = refl
new_by false false r d = refl

are_new-push : (ns : List (List ℕ)) (g : List ℕ) (gs : List (List ℕ))
    → are_new (ns ++ g ∷ []) gs ≡ (are_new ns gs && not (list_any (bytes_eq g) gs))
are_new-push ns g [] = refl
are_new-push ns g (h ∷ gs) =
    ap₂ (λ x y. not x && y) (list_any-append (bytes_eq h) ns (g ∷ [])) (are_new-push ns g gs)
    ∙ new_by (list_any (bytes_eq h) ns) (bytes_eq h g) (are_new ns gs) (list_any (bytes_eq g) gs)
    ∙ ap (λ b. (not (list_any (bytes_eq h) ns) && are_new ns gs) && not (b || list_any (bytes_eq g) gs)) (swapped h g)

free_by : (x r d e : Bool) → ((not x && r) && (not d && e)) ≡ (not x && ((r && not d) && e))
free_by true r d e = refl
free_by false true d e = refl
free_by false false d e = refl

free-cons : (ns : List (List ℕ)) (g : List ℕ) (gs : List (List ℕ))
    → are_free ns (g ∷ gs) ≡ (not (list_any (bytes_eq g) ns) && are_free (ns ++ g ∷ []) gs)
free-cons ns g gs =
    free_by (list_any (bytes_eq g) ns) (are_new ns gs) (list_any (bytes_eq g) gs) (differ gs)
    ∙ ap (λ r. not (list_any (bytes_eq g) ns) && (r && differ gs)) (sym (are_new-push ns g gs))

-- a name that is new among those so far
pub free_more : (ns : List (List ℕ)) (fs : List Field) (i : ℕ) (f : Field) (all : Bool) → i < length fs
    → f ≡ get_or fs i f → not (list_any (bytes_eq f.name) (ns ++ names_of (map member (take i fs)))) ≡ true
    → are_free (ns ++ names_of (map member (take i fs))) (names_of (map member (drop i fs))) ≡ all
    → are_free (ns ++ names_of (map member (take (i + 1) fs))) (names_of (map member (drop (i + 1) fs))) ≡ all
free_more ns fs i f all h e new before =
    let so_far = ns ++ names_of (map member (take i fs)) in
    let rest = names_of (map member (drop (i + 1) fs)) in
    let step : are_free so_far (names_of (map member (drop i fs))) ≡ are_free (so_far ++ f.name ∷ []) rest =
    ap (are_free so_far) (rest_names fs i f h e) ∙ free-cons so_far f.name rest
    ∙ ap (λ b. b && are_free (so_far ++ f.name ∷ []) rest) new in
    ap (λ r. are_free r rest) (sym (more_names ns fs i f h e)) ∙ sym step ∙ before

-- a name that is not
pub free_fails : (ns : List (List ℕ)) (fs : List Field) (i : ℕ) (f : Field) (all : Bool) → i < length fs
    → f ≡ get_or fs i f → not (list_any (bytes_eq f.name) (ns ++ names_of (map member (take i fs)))) ≡ false
    → are_free (ns ++ names_of (map member (take i fs))) (names_of (map member (drop i fs))) ≡ all → false ≡ all
free_fails ns fs i f all h e old before =
    let so_far = ns ++ names_of (map member (take i fs)) in
    let rest = names_of (map member (drop (i + 1) fs)) in
    sym (ap (are_free so_far) (rest_names fs i f h e) ∙ free-cons so_far f.name rest
    ∙ ap (λ b. b && are_free (so_far ++ f.name ∷ []) rest) old) ∙ before

pub free_ends : (ns : List (List ℕ)) (fs : List Field) (i : ℕ) (all : Bool) → length fs ≤ i
    → are_free ns (names_of (map member (drop i fs))) ≡ all → true ≡ all
free_ends ns fs i all h before = sym (ap (are_free ns) (no_rest fs i h)) ∙ before
