-- Texts that are added character by character, and the names of a key.
use Rattle.std.proofs.Common.{◌≡◌, ◌<◌, ℕ, List, [], ◌∷◌, ◌++◌, map, length, sym, ap, ◌∙◌, arith, append_assoc}
use Rattle.std.specs.Char.{to_ascii_lowercase}
use Rattle.std.proofs.lemmas.List.{map-append, length-map}
use Rattle.arm_value.specs.Look.{fold}
use Rattle.arm_ids.specs.Segments.{segments, slashed, joined}
use Rattle.arm_ids.specs.declared.id.ResourceId.{ResourceId}
use Rattle.arm_ids.specs.declared.id.Place.{Place}
use Rattle.arm_ids.proofs.SegmentLemmas.{slashed-segments, segments-fold, fold-fold, some_joined, same_tail}
use Rattle.arm_ids.proofs.SegmentLemmas.{some_segments}
use Rattle.deploy_cells.specs.Puts.{key_at}
use Rattle.tag_needs.specs.Tags.{Tag}
use Rattle.plan_cells.specs.Resources.{Listed}
use Rattle.plan_codes.specs.NameCodes.{keyed, spelled, loop_names, names_in_one}
use Rattle.foundation.proofs.Lists.{same_map}

-- ---- characters

pub exact_more : (first old new yielded : List ℕ) (c : ℕ) → old ≡ first ++ yielded → new ≡ old ++ c ∷ []
    → new ≡ first ++ (yielded ++ c ∷ [])
exact_more first old new yielded c e g = g ∙ ap (λ xs. xs ++ c ∷ []) e ∙ append_assoc first yielded (c ∷ [])

pub exact_all : (first new yielded all : List ℕ) → map (λ x. x) yielded ≡ all → new ≡ first ++ yielded
    → new ≡ first ++ all
exact_all first new yielded all e f = f ∙ ap (λ xs. first ++ xs) (sym (same_map yielded) ∙ e)

-- ---- the names of a key

joined_small : (t : List ℕ) → joined (map fold (segments t)) ≡ fold t
joined_small t =
    let some : 0 < length (segments t) = some_segments (segments t) t (slashed-segments t) in
    let same = length-map (segments t) fold in
    same_tail (joined (map fold (segments t))) (fold t)
    (sym (some_joined (map fold (segments t)) (omega (arith, some, same)))
    ∙ ap slashed (sym (segments-fold t)) ∙ slashed-segments (fold t))

-- the type and the full name that a key has spell the type and the name, in letters of any case
pub kind_spelled : (place : Place) (kind n : List ℕ) (k : ResourceId) → k ≡ key_at place kind n
    → fold (kind ++ 47 ∷ joined k.names) ≡ fold (kind ++ 47 ∷ n)
kind_spelled place kind n k e =
    map-append to_ascii_lowercase kind (47 ∷ joined k.names)
    ∙ ap (λ (i : ResourceId). fold kind ++ 47 ∷ fold (joined i.names)) e
    ∙ ap (λ x. fold kind ++ 47 ∷ fold x) (joined_small n)
    ∙ ap (λ x. fold kind ++ 47 ∷ x) (fold-fold n)
    ∙ sym (map-append to_ascii_lowercase kind (47 ∷ n))

-- the names of an instance in the first form, one after another
pub names_made : (f : ℕ) (place : Place) (r : Listed) (n : List ℕ) (k : ResourceId) (a b c e : List Tag)
    → k ≡ key_at place r.type n → b ≡ a ++ loop_names f r.declaration.copy → c ≡ b ++ keyed f k ∷ []
    → e ≡ c ++ (spelled f (fold (r.type ++ 47 ∷ joined k.names)) ∷ spelled f (fold (joined k.names)) ∷ [])
    → e ≡ a ++ names_in_one f place r n
names_made f place r n k a b c e h h1 h2 h3 =
    h3 ∙ ap (λ xs. xs ++ (spelled f (fold (r.type ++ 47 ∷ joined k.names)) ∷ spelled f (fold (joined k.names)) ∷ []))
    (h2 ∙ ap (λ xs. xs ++ keyed f k ∷ []) h1)
    ∙ append_assoc (a ++ loop_names f r.declaration.copy) (keyed f k ∷ [])
    (spelled f (fold (r.type ++ 47 ∷ joined k.names)) ∷ spelled f (fold (joined k.names)) ∷ [])
    ∙ append_assoc a (loop_names f r.declaration.copy) (keyed f k ∷ spelled f (fold (r.type ++ 47 ∷ joined k.names))
    ∷ spelled f (fold (joined k.names)) ∷ [])
    ∙ ap (λ x. a ++ (loop_names f r.declaration.copy ++ (keyed f k ∷ spelled f x ∷ spelled f (fold (joined k.names))
    ∷ []))) (kind_spelled place r.type n k h)
    ∙ ap (λ (i : ResourceId). a ++ (loop_names f r.declaration.copy ++ (keyed f i ∷ spelled f (fold (r.type ++ 47 ∷ n))
    ∷ spelled f (fold (joined i.names)) ∷ []))) h
