-- What loops over members have come to.
use Rattle.std.proofs.Common.{◌≡◌, ◌<◌, ◌≤◌, ◌+◌, ℕ, length, get_or, drop, take, true, false, List, [], ◌∷◌}
use Rattle.std.proofs.Common.{◌++◌, map, Some, None, if◌then◌else◌, sym, ap, ap₂, ◌∙◌, add-one}
use Rattle.std.proofs.Common.{append_assoc}
use Rattle.std.proofs.lemmas.List.{take_all, drop_all, append-nil}
use Rattle.arm_value.specs.Json.{Member}
use Rattle.arm_value.specs.View.{json, member}
use Rattle.arm_value.specs.declared.value.Field.{Field}
use Rattle.arm_value.proofs.JsonLemmas.{map-take-more}
use Rattle.template_meaning.specs.Parts.{is_copy, unlooped, copies_in}
use Rattle.foundation.proofs.Lists.{map-both, next_item}

-- one part more
pub part_more : {A T : Type 0} (f : A → T) (parts new : List T) (xs : List A) (i : ℕ) (x : A) (y : T)
    → parts ≡ map f (take i xs) → i < length xs → x ≡ get_or xs i x → y ≡ f x → new ≡ parts ++ y ∷ []
    → new ≡ map f (take (i + 1) xs)
part_more f parts new xs i x y a h is s n =
    n ∙ ap₂ (λ ps z. ps ++ z ∷ []) a s ∙ sym (rw add-one (map-take-more f xs i x h is))

-- all parts
pub part_all : {A B T : Type 0} (v : A → B) (f : B → T) (parts : List T) (xs : List A) (i : ℕ)
    → length xs ≤ i → parts ≡ map (λ x. f (v x)) (take i xs) → parts ≡ map f (map v xs)
part_all v f parts xs i h a = a ∙ ap (map (λ x. f (v x))) (take_all i xs h) ∙ map-both v f xs

-- ---- members but the one that makes loops

unlooped_from : (fs : List Field) (i : ℕ) (f : Field) → i < length fs → f ≡ get_or fs i f
    → unlooped (map member (drop i fs))
    ≡ (if is_copy f.name then unlooped (map member (drop (i + 1) fs))
    else member f ∷ unlooped (map member (drop (i + 1) fs)))
unlooped_from fs i f h is = ap (λ ds. unlooped (map member ds)) (next_item fs i f h is)

pub part_kept : {T : Type 0} (p : Member → T) (all parts new : List T) (fs : List Field) (i : ℕ) (f : Field) (y : T)
    → all ≡ parts ++ map p (unlooped (map member (drop i fs))) → i < length fs → f ≡ get_or fs i f
    → is_copy f.name ≡ false → y ≡ p (member f) → new ≡ parts ++ y ∷ []
    → all ≡ new ++ map p (unlooped (map member (drop (i + 1) fs)))
part_kept p all parts new fs i f y a h is e s n =
    let rest = unlooped (map member (drop (i + 1) fs)) in
    a ∙ ap (λ ms. parts ++ map p ms) (unlooped_from fs i f h is)
    ∙ ap (λ b. parts ++ map p (if b then rest else member f ∷ rest)) e
    ∙ ap (λ z. parts ++ z ∷ map p rest) (sym s) ∙ sym (append_assoc parts (y ∷ []) (map p rest))
    ∙ ap (λ ps. ps ++ map p rest) (sym n)

pub part_left : {T : Type 0} (p : Member → T) (all parts : List T) (fs : List Field) (i : ℕ) (f : Field)
    → all ≡ parts ++ map p (unlooped (map member (drop i fs))) → i < length fs → f ≡ get_or fs i f
    → is_copy f.name ≡ true → all ≡ parts ++ map p (unlooped (map member (drop (i + 1) fs)))
part_left p all parts fs i f a h is e =
    let rest = unlooped (map member (drop (i + 1) fs)) in
    a ∙ ap (λ ms. parts ++ map p ms) (unlooped_from fs i f h is)
    ∙ ap (λ b. parts ++ map p (if b then rest else member f ∷ rest)) e

pub unlooped_all : {T : Type 0} (p : Member → T) (all parts : List T) (fs : List Field) (i : ℕ)
    → all ≡ parts ++ map p (unlooped (map member (drop i fs))) → length fs ≤ i → parts ≡ all
unlooped_all p all parts fs i a h =
    sym (a ∙ ap (λ ds. parts ++ map p (unlooped (map member ds))) (drop_all i fs h) ∙ append-nil parts)

-- ---- the member that makes loops

copies_from : (fs : List Field) (i : ℕ) (f : Field) → i < length fs → f ≡ get_or fs i f
    → copies_in (map member (drop i fs))
    ≡ (if is_copy f.name then Some (json f.value) else copies_in (map member (drop (i + 1) fs)))
copies_from fs i f h is = ap (λ ds. copies_in (map member ds)) (next_item fs i f h is)

pub copies_here : (fs : List Field) (i : ℕ) (f : Field)
    → copies_in (map member fs) ≡ copies_in (map member (drop i fs)) → i < length fs → f ≡ get_or fs i f
    → is_copy f.name ≡ true → Some (json f.value) ≡ copies_in (map member fs)
copies_here fs i f a h is e =
    sym (a ∙ copies_from fs i f h is
    ∙ ap (λ b. if b then Some (json f.value) else copies_in (map member (drop (i + 1) fs))) e)

pub copies_later : (fs : List Field) (i : ℕ) (f : Field)
    → copies_in (map member fs) ≡ copies_in (map member (drop i fs)) → i < length fs → f ≡ get_or fs i f
    → is_copy f.name ≡ false → copies_in (map member fs) ≡ copies_in (map member (drop (i + 1) fs))
copies_later fs i f a h is e =
    a ∙ copies_from fs i f h is
    ∙ ap (λ b. if b then Some (json f.value) else copies_in (map member (drop (i + 1) fs))) e

pub copies_nowhere : (fs : List Field) (i : ℕ) → copies_in (map member fs) ≡ copies_in (map member (drop i fs))
    → length fs ≤ i → None ≡ copies_in (map member fs)
copies_nowhere fs i a h = sym (a ∙ ap (λ ds. copies_in (map member ds)) (drop_all i fs h))

-- ---- variables that loops give

pub looped_more : {A T : Type 0} (f : A → T) (front all new : List T) (xs : List A) (i : ℕ) (x : A) (y : T)
    → all ≡ front ++ map f (take i xs) → i < length xs → x ≡ get_or xs i x → y ≡ f x → new ≡ all ++ y ∷ []
    → new ≡ front ++ map f (take (i + 1) xs)
looped_more f front all new xs i x y a h is s n =
    n ∙ ap₂ (λ ps z. ps ++ z ∷ []) a s ∙ append_assoc front (map f (take i xs)) (f x ∷ [])
    ∙ ap (λ ps. front ++ ps) (sym (rw add-one (map-take-more f xs i x h is)))

pub looped_all : {A B T : Type 0} (v : A → B) (f : B → T) (front all : List T) (xs : List A) (i : ℕ)
    → all ≡ front ++ map (λ x. f (v x)) (take i xs) → length xs ≤ i → all ≡ front ++ map f (map v xs)
looped_all v f front all xs i a h =
    a ∙ ap (λ ys. front ++ map (λ x. f (v x)) ys) (take_all i xs h) ∙ ap (λ ps. front ++ ps) (map-both v f xs)
