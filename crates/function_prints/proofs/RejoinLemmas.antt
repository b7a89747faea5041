-- Texts cut at a delimiter and joined again.
use Rattle.std.proofs.Common.{◌≡◌, ◌<◌, ◌-◌, ℕ, zero, suc, Bool, true, false, List, [], ◌∷◌, ◌++◌}
use Rattle.std.proofs.Common.{length, map, Option, Some, None, refl, ap, sym, ◌∙◌, append-nil, arith}
use Rattle.std.specs.Prelude.{if◌then◌else◌}
use Rattle.std.specs.List.{flat_map}
use Rattle.std.proofs.lemmas.Bool.Decides.{nat_tests}
use Rattle.arm_value.proofs.SameLemmas.{items-row}
use Rattle.arm_value.specs.Json.{Json, text, array, row, items}
use Rattle.function_lists.specs.Values.{array_of}
use Rattle.function_lists.proofs.ValueLemmas.{array_of_is}
use Rattle.function_texts.specs.Places.{begins}
use Rattle.function_texts.specs.Cuts.{delimiter_at, Cut, IsFirstCut, first_cut, cut_at, pieces_within, pieces, joined, can_cut}
use Rattle.function_texts.proofs.CutLemmas.{delimiter-cons, delimiter-nil, one_not_empty, some_pieces, joined-cons}
use Rattle.function_texts.proofs.PieceLemmas.{cut_is}
use Rattle.function_prints.specs.Printed.{printed, joined_by}

same_joined : (d : List ℕ) (ps : List (List ℕ))
    → flat_map (λ j. d ++ printed j) (map text ps) ≡ flat_map (λ q. d ++ q) ps
same_joined d [] = refl
same_joined d (p ∷ ps) = ap (λ r. (d ++ p) ++ r) (same_joined d ps)

texts_joined : (d : List ℕ) (ps : List (List ℕ)) → joined_by d (map text ps) ≡ joined d ps
texts_joined d [] = refl
texts_joined d (p ∷ ps) = ap (λ r. p ++ r) (same_joined d ps)

alone : (d s x : List ℕ) → delimiter_at (d ∷ []) s ≡ Some x → d ≡ x
alone d s x e = by_test (begins d s) (sym (delimiter-cons d [] s) ∙ e)
  where
    by_test : (b : Bool) → (if b then Some d else delimiter_at [] s) ≡ Some x → d ≡ x
    by_test true f = cc
    by_test false f = absurd (cc (delimiter-nil s))

joined_back : (d : List ℕ) (n : ℕ) (s : List ℕ) → 0 < length d → joined d (pieces_within n (d ∷ []) s) ≡ s
unfolding pieces_within
joined_back d zero s h = append-nil s
joined_back d (suc n) s h = by_cut (first_cut (d ∷ []) s) refl (λ t. joined_back d n t h)
  where
    by_cut : (o : Option Cut) → first_cut (d ∷ []) s ≡ o
        → ((t : List ℕ) → joined d (pieces_within n (d ∷ []) t) ≡ t)
        → joined d (cut_at o s (pieces_within n (d ∷ []))) ≡ s
    by_cut None e back = append-nil s
    by_cut (Some k) e back =
        let cut : IsFirstCut (d ∷ []) s k = cut_is (d ∷ []) s k (one_not_empty d h) e in
        let same : d ≡ k.delimiter = alone d (k.delimiter ++ k.after) k.delimiter cut.there in
        joined-cons d k.before (pieces_within n (d ∷ []) k.after) (some_pieces n (d ∷ []) k.after)
        ∙ ap (λ r. k.before ++ (d ++ r)) (back k.after) ∙ ap (λ x. k.before ++ (x ++ k.after)) same ∙ sym cut.whole

rejoined : (d s : List ℕ) → 0 < length d → joined d (pieces (d ∷ []) s) ≡ s
unfolding pieces
rejoined d s h = joined_back d (length s) s h

pub recombined : (s d : List ℕ) (js : List Json)
    → (if can_cut (d ∷ []) then array_of (map text (pieces (d ∷ []) s)) else None) ≡ Some (array (row js))
    → joined_by d (items (row js)) ≡ s
recombined s d js e = by_test (can_cut (d ∷ [])) refl e
  where
    by_test : (b : Bool) → can_cut (d ∷ []) ≡ b
        → (if b then array_of (map text (pieces (d ∷ []) s)) else None) ≡ Some (array (row js))
        → joined_by d (items (row js)) ≡ s
    by_test true t f =
        let some : 0 < length d = grind (arith, nat_tests) in
        ap (joined_by d) (items-row js ∙ array_of_is (map text (pieces (d ∷ []) s)) js f)
        ∙ texts_joined d (pieces (d ∷ []) s) ∙ rejoined d s some
    by_test false t f = absurd (cc)

pub ruleset items_of_row = (items-row)
