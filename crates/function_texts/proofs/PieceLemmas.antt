-- The pieces of a text are what its cuts leave.
use Rattle.std.proofs.Common.{◌≡◌, ◌<◌, ◌≤◌, ◌+◌, ℕ, zero, suc, Bool, true, false, List, [], ◌∷◌, ◌++◌, length}
use Rattle.std.proofs.Common.{take, drop, Option, Some, None, refl, ap, ap₂, sym, ◌∙◌, arith, append_assoc}
use Rattle.std.proofs.Common.{length-append, subst, true≢false}
use Rattle.std.specs.Prelude.{◌==◌, ◌&&◌}
use Rattle.std.proofs.lemmas.List.{take_at, drop_at}
use Rattle.std.proofs.lemmas.Bool.Decides.{nat_tests}
use Rattle.function_texts.specs.Places.{begins}
use Rattle.function_texts.specs.Cuts.{delimiter_at, Cut, IsFirstCut, IsUncut, ArePieces, cut_here, first_cut}
use Rattle.function_texts.specs.Cuts.{cut_at, pieces_within, pieces, none_empty}
use Rattle.function_texts.proofs.CutLemmas.{Begun, delimiter_begins, cut_none, cut_some, cut_from, pieces-cut}
use Rattle.function_texts.proofs.CutLemmas.{pieces-uncut, cut-cons, cut-nil, some_pieces, after_shorter}

-- the characters begin with a part, and go on with what is left without it
pub begins_front : (d s : List ℕ) → begins d s ≡ true → d ++ drop (length d) s ≡ s
unfolding begins
begins_front [] s e = refl
begins_front (c ∷ cs) [] e = absurd (true≢false (sym e))
begins_front (c ∷ cs) (x ∷ xs) e = by_test (c == x) refl (begins_front cs xs) e
  where
    by_test : (b : Bool) → (c == x) ≡ b → (begins cs xs ≡ true → cs ++ drop (length cs) xs ≡ xs)
        → (b && begins cs xs) ≡ true → c ∷ cs ++ drop (length cs) xs ≡ x ∷ xs
    by_test true t h f =
        let same : c ≡ x = grind (arith, nat_tests) in
        ap₂ (λ y ys. y ∷ ys) same (h f)
    by_test false t h f = absurd (true≢false (sym f))

some_same : {x y : Cut} → Some x ≡ Some y → x ≡ y
some_same e = cc

pub cut_is : (ds : List (List ℕ)) (s : List ℕ) (k : Cut) → none_empty ds ≡ true → first_cut ds s ≡ Some k
    → IsFirstCut ds s k
cut_is ds [] k h e = absurd (cc (cut-nil ds))
cut_is ds (c ∷ cs) k h e = by_delimiter (delimiter_at ds (c ∷ cs)) refl (first_cut ds cs)
    (λ x f. cut_is ds cs x h f) (sym (cut-cons ds c cs) ∙ e)
  where
    with_first : (x : Cut) → delimiter_at ds (c ∷ cs) ≡ None → IsFirstCut ds cs x → (place : ℕ)
        → place < suc (length x.before) → delimiter_at ds (drop place (c ∷ cs)) ≡ None
    with_first x t first zero l = t
    with_first x t first (suc place) l = first.none_before place (omega arith)

    by_delimiter : (o : Option (List ℕ)) → delimiter_at ds (c ∷ cs) ≡ o → (later : Option Cut)
        → ((x : Cut) → later ≡ Some x → IsFirstCut ds cs x) → cut_here o c cs later ≡ Some k
        → IsFirstCut ds (c ∷ cs) k
    by_delimiter (Some d) t later is f =
        let begun : Begun d (c ∷ cs) = delimiter_begins ds (c ∷ cs) d h t in
        let front : d ++ drop (length d) (c ∷ cs) ≡ c ∷ cs = begins_front d (c ∷ cs) begun.is in
        subst (IsFirstCut ds (c ∷ cs)) (some_same f)
        (record {
          whole = sym front;
          there = ap (delimiter_at ds) front
              ∙ t;
          none_before = λ place l. absurd (omega arith);
        })
    by_delimiter None t None is f = absurd (cc)
    by_delimiter None t (Some x) is f =
        let first : IsFirstCut ds cs x = is x refl in
        subst (IsFirstCut ds (c ∷ cs)) (some_same f)
        (record {
          whole = ap (λ r. c ∷ r) first.whole;
          there = first.there;
          none_before =
              λ place l. with_first x t first place l;
        })

pub uncut_is : (ds : List (List ℕ)) (s : List ℕ) → first_cut ds s ≡ None → IsUncut ds s
uncut_is ds [] e place l = absurd (omega arith)
uncut_is ds (c ∷ cs) e place l = by_delimiter (delimiter_at ds (c ∷ cs)) refl (first_cut ds cs)
    (λ f. uncut_is ds cs f) (sym (cut-cons ds c cs) ∙ e) place l
  where
    by_delimiter : (o : Option (List ℕ)) → delimiter_at ds (c ∷ cs) ≡ o → (later : Option Cut)
        → (later ≡ None → IsUncut ds cs) → cut_here o c cs later ≡ None → (place : ℕ) → place < length (c ∷ cs)
        → delimiter_at ds (drop place (c ∷ cs)) ≡ None
    by_delimiter (Some d) t later u f place l = absurd (cc)
    by_delimiter None t (Some x) u f place l = absurd (cc)
    by_delimiter None t None u f zero l = t
    by_delimiter None t None u f (suc place) l = u refl place (omega arith)

are-cons : (ds : List (List ℕ)) (s : List ℕ) (k : Cut) (ps : List (List ℕ)) → 0 < length ps → IsFirstCut ds s k
    → ArePieces ds k.after ps → ArePieces ds s (k.before ∷ ps)
unfolding ArePieces
are-cons ds s k [] l first rest = absurd (omega arith)
are-cons ds s k (q ∷ ps) l first rest = (k, first, refl, rest)

are-alone : (ds : List (List ℕ)) (s : List ℕ) → IsUncut ds s → ArePieces ds s (s ∷ [])
unfolding ArePieces
are-alone ds s uncut = (uncut, refl)

are_within : (ds : List (List ℕ)) → none_empty ds ≡ true → (n : ℕ) (s : List ℕ) → length s ≤ n
    → ArePieces ds s (pieces_within n ds s)
unfolding pieces_within
are_within ds h zero s l = are-alone ds s (λ place k. absurd (omega arith))
are_within ds h (suc n) s l = by_cut (first_cut ds s) refl (λ t j. are_within ds h n t j)
  where
    by_cut : (o : Option Cut) → first_cut ds s ≡ o
        → ((t : List ℕ) → length t ≤ n → ArePieces ds t (pieces_within n ds t))
        → ArePieces ds s (cut_at o s (pieces_within n ds))
    by_cut None e rest = are-alone ds s (uncut_is ds s e)
    by_cut (Some k) e rest =
        let first : IsFirstCut ds s k = cut_is ds s k h e in
        let short : length k.after < length s = after_shorter ds s k h e in
        are-cons ds s k (pieces_within n ds k.after) (some_pieces n ds k.after) first (rest k.after (omega arith))

pub pieces_are : (ds : List (List ℕ)) (s : List ℕ) → none_empty ds ≡ true → ArePieces ds s (pieces ds s)
unfolding pieces
pieces_are ds s h = are_within ds h (length s) s (omega arith)

cut_pieces : (ds : List (List ℕ)) (s : List ℕ) (k : Cut) → none_empty ds ≡ true → IsFirstCut ds s k
    → pieces ds s ≡ k.before ∷ pieces ds k.after
cut_pieces ds s k h first =
    let q = length k.before in
    let rest : drop q s ≡ k.delimiter ++ k.after = ap (drop q) first.whole
    ∙ drop_at k.before (k.delimiter ++ k.after) q refl in
    let there : delimiter_at ds (drop q s) ≡ Some k.delimiter = ap (delimiter_at ds) rest ∙ first.there in
    let begun : Begun k.delimiter (drop q s) = delimiter_begins ds (drop q s) k.delimiter h there in
    let inside : q < length s = omega (
      arith,
      begun.some,
      ap length first.whole,
      length-append k.before
          (k.delimiter ++ k.after),
      length-append k.delimiter k.after,
    ) in
    let front : take q s ≡ k.before = ap (take q) first.whole ∙ take_at k.before (k.delimiter ++ k.after) q refl in
    let after : drop (q + length k.delimiter) s ≡ k.after =
    ap (drop (q + length k.delimiter)) (first.whole ∙ sym (append_assoc k.before k.delimiter k.after))
    ∙ drop_at (k.before ++ k.delimiter) k.after (q + length k.delimiter) (length-append k.before k.delimiter) in
    pieces-cut ds s (cut_from s q k.delimiter) h (cut_some ds s k.delimiter q inside there first.none_before)
    ∙ ap₂ (λ p r. p ∷ pieces ds r) front after

pub only_pieces : (ds : List (List ℕ)) (s : List ℕ) (ps : List (List ℕ)) → none_empty ds ≡ true → ArePieces ds s ps
    → ps ≡ pieces ds s
unfolding ArePieces
only_pieces ds s [] h are = absurd are
only_pieces ds s (p ∷ []) h are = ap (λ q. q ∷ []) are.1 ∙ sym (pieces-uncut ds s h (cut_none ds s are.0))
only_pieces ds s (p ∷ q ∷ ps) h are = ap₂ (λ r rs. r ∷ rs) are.2 (only_pieces ds are.0.after (q ∷ ps) h are.3)
    ∙ sym (cut_pieces ds s are.0 h are.1)
