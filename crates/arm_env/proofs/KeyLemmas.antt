-- When two keys are one.
use Rattle.std.proofs.Common.{◌≡◌, ◌↔◌, ℕ, List, [], ◌∷◌, Bool, true, IsTrue, bytes_eq}
use Rattle.std.proofs.Common.{refl, sym, ap, ◌∙◌}
use Rattle.std.proofs.lemmas.Slice.Eq.{bytes_eq-Decides}
use Rattle.foundation.proofs.Words.{itself}
use Rattle.arm_ids.specs.declared.id.ResourceId.{ResourceId}
use Rattle.arm_env.specs.Find.{are_same, is_same_key}
use Rattle.foundation.proofs.TruthValues.{both, and_true, both_ways}

same_texts : (xs ys : List (List ℕ)) → are_same xs ys ≡ true → xs ≡ ys
same_texts [] [] e = refl
same_texts [] (y ∷ ys) e = cc
same_texts (x ∷ xs) [] e = cc
same_texts (x ∷ xs) (y ∷ ys) e =
    let each = both (bytes_eq x y) (are_same xs ys) e in
    let first : x ≡ y = (bytes_eq-Decides x y).0 each.0 in
    let rest : xs ≡ ys = same_texts xs ys each.1 in
    cc

texts_same : (xs : List (List ℕ)) → are_same xs xs ≡ true
texts_same [] = refl
texts_same (x ∷ xs) = and_true (bytes_eq x x) (are_same xs xs) ((bytes_eq-Decides x x).1 refl)
    (texts_same xs)

record_same : (i j : ResourceId) → i.subscription ≡ j.subscription → i.group ≡ j.group
    → i.types ≡ j.types → i.names ≡ j.names → i ≡ j
record_same i j s g t n = λ k. record { subscription = s k; group = g k; types = t k; names = n k }

pub key_same : (i : ResourceId) → is_same_key i i ≡ true
key_same i =
    and_true _ _ (itself i.subscription)
    (and_true _ _ (itself i.group) (and_true _ _ (texts_same i.types) (texts_same i.names)))

pub one_key : (i j : ResourceId) → is_same_key i j ≡ true → i ≡ j
one_key i j e =
    let a = both (bytes_eq i.subscription j.subscription) _ e in
    let b = both (bytes_eq i.group j.group) _ a.1 in
    let c = both (are_same i.types j.types) (are_same i.names j.names) b.1 in
    record_same i j ((bytes_eq-Decides _ _).0 a.0) ((bytes_eq-Decides _ _).0 b.0)
    (same_texts _ _ c.0) (same_texts _ _ c.1)

equal_tests : (i j : ResourceId) → i ≡ j → is_same_key i j ≡ true
equal_tests i j e = ap (λ k. is_same_key i k) (sym e) ∙ key_same i

-- a test that holds where two keys are one
pub same_key : (r : Bool) (i j : ResourceId) → IsTrue r ↔ (i ≡ j) → r ≡ is_same_key i j
same_key r i j h = both_ways r _ (λ e. equal_tests i j (h.0 e)) (λ e. h.1 (one_key i j e))
