-- Whether a text spells a type and a name, by the key of these.
use Rattle.std.proofs.Common.{◌≡◌, ℕ, ◌<◌, Bool, true, false, List, ◌∷◌, ◌++◌, map, length, refl, sym, ap, ◌∙◌}
use Rattle.std.proofs.Common.{arith}
use Rattle.std.specs.Prelude.{◌||◌, bytes_eq}
use Rattle.std.specs.Char.{to_ascii_lowercase}
use Rattle.std.proofs.lemmas.List.{map-append, length-map}
use Rattle.foundation.proofs.TruthValues.{or_turned}
use Rattle.arm_value.specs.Look.{fold, is_same_folded}
use Rattle.arm_ids.specs.Segments.{segments, joined}
use Rattle.arm_ids.specs.declared.id.Place.{Place}
use Rattle.arm_ids.proofs.SegmentLemmas.{slashed-segments, segments-fold, fold-fold, some_segments}
use Rattle.arm_env.specs.Find.{names_resource, names_key}
use Rattle.foundation.proofs.Words.{swapped}
use Rattle.deploy_cells.specs.Puts.{key_at}
use Rattle.plan_sight.specs.Sites.{deployment_key}
use Rattle.plan_nested.proofs.KeyLemmas.{joined_segments}
use Rattle.plan_names.specs.Named.{is_spelled}
use Rattle.arm_ids.specs.Members.{deployment_type}

-- the segments of a text in small letters, joined, are that text in small letters
pub joined_small : (t : List ℕ) → joined (map fold (segments t)) ≡ fold t
joined_small t =
    let some : 0 < length (segments t) = some_segments (segments t) t (slashed-segments t) in
    let same = length-map (segments t) fold in
    joined_segments (map fold (segments t)) (fold t) (segments-fold t) (omega (arith, some, same))

small_twice : (a b : List ℕ) → fold (fold a ++ 47 ∷ fold b) ≡ fold (a ++ 47 ∷ b)
small_twice a b =
    map-append to_ascii_lowercase (fold a) (47 ∷ fold b)
    ∙ ap (λ x. x ++ 47 ∷ fold (fold b)) (fold-fold a) ∙ ap (λ x. fold a ++ 47 ∷ x) (fold-fold b)
    ∙ sym (map-append to_ascii_lowercase a (47 ∷ b))

-- in small letters it is the same
small_same : (x n : List ℕ) → is_same_folded x (fold n) ≡ is_same_folded n x
small_same x n = ap (bytes_eq (fold x)) (fold-fold n) ∙ swapped (fold x) (fold n)

small_joined : (x kind n : List ℕ)
    → is_same_folded x (fold kind ++ 47 ∷ fold n) ≡ is_same_folded (kind ++ 47 ∷ n) x
small_joined x kind n =
    ap (bytes_eq (fold x)) (small_twice kind n) ∙ swapped (fold x) (fold (kind ++ 47 ∷ n))

pub spelled_is : (place : Place) (x kind n : List ℕ)
    → names_resource x (record { spelling = kind ++ 47 ∷ n; key = key_at place kind n }) ≡ is_spelled x kind n
spelled_is place x kind n =
    ap (λ y. is_same_folded x (kind ++ 47 ∷ n) || is_same_folded x y) (joined_small n)
    ∙ ap (λ b. is_same_folded x (kind ++ 47 ∷ n) || b) (small_same x n)
    ∙ ap (λ b. b || is_same_folded n x) (swapped (fold x) (fold (kind ++ 47 ∷ n)))
    ∙ or_turned (is_same_folded (kind ++ 47 ∷ n) x) (is_same_folded n x)

pub key_spelled : (place : Place) (x n : List ℕ)
    → names_key x (deployment_key place n) ≡ is_spelled x deployment_type n
key_spelled place x n =
    ap (λ y. is_same_folded x (joined (map fold (segments deployment_type)) ++ 47 ∷ y) || is_same_folded x y)
    (joined_small n)
    ∙ ap (λ y. is_same_folded x (y ++ 47 ∷ fold n) || is_same_folded x (fold n)) (joined_small deployment_type)
    ∙ ap (λ b. b || is_same_folded x (fold n)) (small_joined x deployment_type n)
    ∙ ap (λ b. is_same_folded (deployment_type ++ 47 ∷ n) x || b) (small_same x n)
    ∙ or_turned (is_same_folded (deployment_type ++ 47 ∷ n) x) (is_same_folded n x)

pub spelled_first : (a b : Bool) → a ≡ true → true ≡ (a || b)
spelled_first a b e = sym (ap (λ c. c || b) e)

pub spelled_second : (a b c : Bool) → a ≡ false → c ≡ b → c ≡ (a || b)
spelled_second a b c e h = h ∙ sym (ap (λ d. d || b) e)
