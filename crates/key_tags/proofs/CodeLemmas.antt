-- Keys are told apart by their numbers.
use Rattle.std.proofs.Common.{◌≡◌, ℕ, ◌+◌, Bool, true, false, List, [], ◌∷◌, ◌++◌, map, refl, ap, ◌∙◌, arith}
use Rattle.std.specs.Prelude.{nat_eq, ◌&&◌, bytes_eq}
use Rattle.arm_ids.specs.declared.id.ResourceId.{ResourceId}
use Rattle.deploy_cells.specs.Same.{same_id, same_texts}
use Rattle.key_tags.specs.KeyCodes.{text_code, texts_code, key_code}
use Rattle.foundation.proofs.TruthValues.{and_true_is}

nothing : (n : ℕ) → nat_eq 0 (n + 1) ≡ false
nothing n = grind arith

something : (n : ℕ) → nat_eq (n + 1) 0 ≡ false
something n = grind arith

both_more : (n m : ℕ) → nat_eq (n + 1) (m + 1) ≡ nat_eq n m
both_more n m = grind arith

last_of : (a b c : Bool) → (a && (b && c)) ≡ ((a && b) && c)
last_of true b c = refl
last_of false b c = refl

text_eq : (x y r s : List ℕ) → bytes_eq (text_code x r) (text_code y s) ≡ (bytes_eq x y && bytes_eq r s)
text_eq [] [] r s = refl
text_eq [] (y ∷ ys) r s = ap (λ b. b && bytes_eq r (map (λ c. c + 1) ys ++ 0 ∷ s)) (nothing y)
text_eq (x ∷ xs) [] r s = ap (λ b. b && bytes_eq (map (λ c. c + 1) xs ++ 0 ∷ r) s) (something x)
text_eq (x ∷ xs) (y ∷ ys) r s =
    ap (λ b. b && bytes_eq (text_code xs r) (text_code ys s)) (both_more x y)
    ∙ ap (λ b. nat_eq x y && b) (text_eq xs ys r s)
    ∙ last_of (nat_eq x y) (bytes_eq xs ys) (bytes_eq r s)

texts_eq : (xs ys : List (List ℕ)) (r s : List ℕ)
    → bytes_eq (texts_code xs r) (texts_code ys s) ≡ (same_texts xs ys && bytes_eq r s)
texts_eq [] [] r s = refl
texts_eq [] (y ∷ ys) r s = refl
texts_eq (x ∷ xs) [] r s = refl
texts_eq (x ∷ xs) (y ∷ ys) r s =
    text_eq x y (texts_code xs r) (texts_code ys s)
    ∙ ap (λ b. bytes_eq x y && b) (texts_eq xs ys r s)
    ∙ last_of (bytes_eq x y) (same_texts xs ys) (bytes_eq r s)

pub key_eq : (k l : ResourceId) → bytes_eq (key_code k) (key_code l) ≡ same_id k l
key_eq k l =
    text_eq k.subscription l.subscription (text_code k.group (texts_code k.types (texts_code k.names [])))
    (text_code l.group (texts_code l.types (texts_code l.names [])))
    ∙ ap (λ b. bytes_eq k.subscription l.subscription && b)
    (text_eq k.group l.group (texts_code k.types (texts_code k.names [])) (texts_code l.types (texts_code l.names []))
    ∙ ap (λ b. bytes_eq k.group l.group && b)
    (texts_eq k.types l.types (texts_code k.names []) (texts_code l.names [])
    ∙ ap (λ b. same_texts k.types l.types && b)
    (texts_eq k.names l.names [] [] ∙ and_true_is (same_texts k.names l.names))))
