-- Texts cut at delimiters.
use Rattle.std.proofs.Common.{◌≡◌, ◌<◌, ◌≤◌, ◌+◌, ℕ, zero, suc, Bool, true, false, List, [], ◌∷◌, ◌++◌, length}
use Rattle.std.proofs.Common.{take, drop, Option, Some, None, refl, ap, ap₂, sym, ◌∙◌, arith, append_assoc}
use Rattle.std.proofs.Common.{append-nil, subst}
use Rattle.std.specs.Prelude.{if◌then◌else◌, not, ◌==◌}
use Rattle.std.specs.List.{flat_map}
use Rattle.std.proofs.lemmas.List.{length-drop, drop-drop}
use Rattle.std.proofs.lemmas.Bool.Decides.{nat_tests}
use Rattle.foundation.proofs.TruthValues.{both}
use Rattle.function_texts.specs.Places.{begins}
use Rattle.function_texts.specs.Cuts.{delimiter_at, Cut, cut_here, first_cut, cut_at, pieces_within, pieces, joined}
use Rattle.function_texts.specs.Cuts.{replaced, none_empty}
use Rattle.function_texts.specs.Search.{IsFirst}
use Rattle.function_texts.proofs.SearchLemmas.{begins_fits}

-- ---- the delimiter that begins

pub delimiter-cons : (d : List ℕ) (ds : List (List ℕ)) (s : List ℕ)
    → delimiter_at (d ∷ ds) s ≡ (if begins d s then Some d else delimiter_at ds s)
unfolding delimiter_at
delimiter-cons d ds s = refl

pub delimiter-nil : (s : List ℕ) → delimiter_at [] s ≡ None
unfolding delimiter_at
delimiter-nil s = refl

some_length : (n : ℕ) → not (n == 0) ≡ true → 0 < n
some_length n h = grind (arith, nat_tests)

pub first_not_empty : (d : List ℕ) (ds : List (List ℕ)) → none_empty (d ∷ ds) ≡ true → 0 < length d
first_not_empty d ds h = some_length (length d) (both (not (length d == 0)) (none_empty ds) h).0

pub others_not_empty : (d : List ℕ) (ds : List (List ℕ)) → none_empty (d ∷ ds) ≡ true → none_empty ds ≡ true
others_not_empty d ds h = (both (not (length d == 0)) (none_empty ds) h).1

pub one_not_empty : (d : List ℕ) → 0 < length d → none_empty (d ∷ []) ≡ true
one_not_empty d h = grind (arith, nat_tests)

-- a delimiter that begins has characters, and the text has them
pub record Begun (d s : List ℕ) : Type 0 where
  pub some : 0 < length d
  pub fits : length d ≤ length s
  pub is : begins d s ≡ true

pub delimiter_begins : (ds : List (List ℕ)) (s d : List ℕ) → none_empty ds ≡ true → delimiter_at ds s ≡ Some d
    → Begun d s
delimiter_begins [] s d h e = absurd (cc (delimiter-nil s))
delimiter_begins (x ∷ ds) s d h e = by_test (begins x s) refl
    (λ f. delimiter_begins ds s d (others_not_empty x ds h) f) (sym (delimiter-cons x ds s) ∙ e)
  where
    by_test : (b : Bool) → begins x s ≡ b → (delimiter_at ds s ≡ Some d → Begun d s)
        → (if b then Some x else delimiter_at ds s) ≡ Some d → Begun d s
    by_test true t later f =
        let same : x ≡ d = cc in
        subst (λ y. Begun y s) same (record { some = first_not_empty x ds h; fits = begins_fits x s t; is = t })
    by_test false t later f = later f

-- ---- the first cut

pub cut-cons : (ds : List (List ℕ)) (c : ℕ) (cs : List ℕ)
    → first_cut ds (c ∷ cs) ≡ cut_here (delimiter_at ds (c ∷ cs)) c cs (first_cut ds cs)
unfolding first_cut
cut-cons ds c cs = refl

pub cut-nil : (ds : List (List ℕ)) → first_cut ds [] ≡ None
unfolding first_cut
cut-nil ds = refl

-- a text cut at a place, at a delimiter of a length
abbrev pub cut_from : List ℕ → ℕ → List ℕ → Cut
cut_from s place d = record { before = take place s; delimiter = d; after = drop (place + length d) s }

pub cut_none : (ds : List (List ℕ)) (s : List ℕ)
    → ((place : ℕ) → place < length s → delimiter_at ds (drop place s) ≡ None) → first_cut ds s ≡ None
cut_none ds [] h = cut-nil ds
cut_none ds (c ∷ cs) h = cut-cons ds c cs
    ∙ ap₂ (λ o later. cut_here o c cs later) (h 0 (omega arith))
    (cut_none ds cs (λ place l. h (suc place) (omega arith)))

pub cut_some : (ds : List (List ℕ)) (s d : List ℕ) (q : ℕ) → q < length s → delimiter_at ds (drop q s) ≡ Some d
    → ((place : ℕ) → place < q → delimiter_at ds (drop place s) ≡ None) → first_cut ds s ≡ Some (cut_from s q d)
cut_some ds [] d q l e h = absurd (omega arith)
cut_some ds (c ∷ cs) d zero l e h =
    let count : length d ≡ 0 + length d = omega arith in
    cut-cons ds c cs ∙ ap (λ o. cut_here o c cs (first_cut ds cs)) e
    ∙ ap (λ n. Some (record { before = []; delimiter = d; after = drop n (c ∷ cs) })) count
cut_some ds (c ∷ cs) d (suc q) l e h =
    let count : suc (q + length d) ≡ suc q + length d = omega arith in
    cut-cons ds c cs ∙ ap₂ (λ o later. cut_here o c cs later) (h 0 (omega arith))
    (cut_some ds cs d q (omega arith) e (λ place k. h (suc place) (omega arith)))
    ∙ ap (λ n. Some (record { before = c ∷ take q cs; delimiter = d; after = drop n (c ∷ cs) })) count

-- what is after a cut is shorter
pub after_shorter : (ds : List (List ℕ)) (s : List ℕ) (k : Cut) → none_empty ds ≡ true → first_cut ds s ≡ Some k
    → length k.after < length s
after_shorter ds [] k h e = absurd (cc (cut-nil ds))
after_shorter ds (c ∷ cs) k h e = by_delimiter (delimiter_at ds (c ∷ cs)) refl (first_cut ds cs)
    (λ x f. after_shorter ds cs x h f) (sym (cut-cons ds c cs) ∙ e)
  where
    after_of : Option Cut → List ℕ
    after_of None = []
    after_of (Some x) = x.after

    by_delimiter : (o : Option (List ℕ)) → delimiter_at ds (c ∷ cs) ≡ o → (later : Option Cut)
        → ((x : Cut) → later ≡ Some x → length x.after < length cs) → cut_here o c cs later ≡ Some k
        → length k.after < length (c ∷ cs)
    by_delimiter (Some d) t later short f =
        let begun : Begun d (c ∷ cs) = delimiter_begins ds (c ∷ cs) d h t in
        let after : drop (length d) (c ∷ cs) ≡ k.after = ap after_of f in
        omega (arith, ap length after, length-drop (length d) (c ∷ cs), begun.some)
    by_delimiter None t None short f = absurd (cc)
    by_delimiter None t (Some x) short f =
        let after : x.after ≡ k.after = ap after_of f in
        omega (arith, ap length after, short x refl)

-- ---- pieces

within-suc : (n : ℕ) (ds : List (List ℕ)) (s : List ℕ)
    → pieces_within (suc n) ds s ≡ cut_at (first_cut ds s) s (pieces_within n ds)
unfolding pieces_within
within-suc n ds s = refl

within-zero : (ds : List (List ℕ)) (s : List ℕ) → pieces_within 0 ds s ≡ s ∷ []
unfolding pieces_within
within-zero ds s = refl

within-nil : (n : ℕ) (ds : List (List ℕ)) → pieces_within n ds [] ≡ [] ∷ []
within-nil zero ds = within-zero ds []
within-nil (suc n) ds = within-suc n ds [] ∙ ap (λ o. cut_at o [] (pieces_within n ds)) (cut-nil ds)

no_characters : (s : List ℕ) → length s ≤ 0 → s ≡ []
no_characters [] h = refl
no_characters (c ∷ cs) h = absurd (omega arith)

-- as many cuts as there are characters are enough
enough : (ds : List (List ℕ)) → none_empty ds ≡ true → (n m : ℕ) (s : List ℕ) → length s ≤ n → length s ≤ m
    → pieces_within n ds s ≡ pieces_within m ds s
enough ds h zero m s l k = ap (pieces_within 0 ds) (no_characters s l) ∙ within-nil 0 ds
    ∙ sym (ap (pieces_within m ds) (no_characters s l) ∙ within-nil m ds)
enough ds h (suc n) zero s l k = ap (pieces_within (suc n) ds) (no_characters s k) ∙ within-nil (suc n) ds
    ∙ sym (ap (pieces_within 0 ds) (no_characters s k) ∙ within-nil 0 ds)
enough ds h (suc n) (suc m) s l k = within-suc n ds s
    ∙ by_cut (first_cut ds s) refl (λ t j i. enough ds h n m t j i) ∙ sym (within-suc m ds s)
  where
    by_cut : (o : Option Cut) → first_cut ds s ≡ o
        → ((t : List ℕ) → length t ≤ n → length t ≤ m → pieces_within n ds t ≡ pieces_within m ds t)
        → cut_at o s (pieces_within n ds) ≡ cut_at o s (pieces_within m ds)
    by_cut None e same = refl
    by_cut (Some x) e same =
        let short : length x.after < length s = after_shorter ds s x h e in
        ap (λ ps. x.before ∷ ps) (same x.after (omega arith) (omega arith))

pieces-is : (ds : List (List ℕ)) (s : List ℕ) → pieces ds s ≡ pieces_within (length s) ds s
unfolding pieces
pieces-is ds s = refl

pub pieces-cut : (ds : List (List ℕ)) (s : List ℕ) (k : Cut) → none_empty ds ≡ true → first_cut ds s ≡ Some k
    → pieces ds s ≡ k.before ∷ pieces ds k.after
pieces-cut ds s k h e =
    let short : length k.after < length s = after_shorter ds s k h e in
    pieces-is ds s ∙ enough ds h (length s) (suc (length s)) s (omega arith) (omega arith)
    ∙ within-suc (length s) ds s
    ∙ ap (λ o. cut_at o s (pieces_within (length s) ds)) e
    ∙ ap (λ ps. k.before ∷ ps) (enough ds h (length s) (length k.after) k.after (omega arith) (omega arith)
    ∙ sym (pieces-is ds k.after))

pub pieces-uncut : (ds : List (List ℕ)) (s : List ℕ) → none_empty ds ≡ true → first_cut ds s ≡ None
    → pieces ds s ≡ s ∷ []
pieces-uncut ds s h e =
    pieces-is ds s ∙ enough ds h (length s) (suc (length s)) s (omega arith) (omega arith)
    ∙ within-suc (length s) ds s ∙ ap (λ o. cut_at o s (pieces_within (length s) ds)) e

pub some_pieces : (n : ℕ) (ds : List (List ℕ)) (s : List ℕ) → 0 < length (pieces_within n ds s)
unfolding pieces_within
some_pieces zero ds s = omega arith
some_pieces (suc n) ds s = by_cut (first_cut ds s)
  where
    by_cut : (o : Option Cut) → 0 < length (cut_at o s (pieces_within n ds))
    by_cut None = omega arith
    by_cut (Some k) = omega arith

pub has_piece : (ds : List (List ℕ)) (s : List ℕ) → 0 < length (pieces ds s)
unfolding pieces
has_piece ds s = some_pieces (length s) ds s

-- ---- one part alone

pub alone_begins : (p s : List ℕ) → begins p s ≡ true → delimiter_at (p ∷ []) s ≡ Some p
alone_begins p s t = delimiter-cons p [] s ∙ ap (λ b. if b then Some p else delimiter_at [] s) t

pub alone_none : (p s : List ℕ) → begins p s ≡ false → delimiter_at (p ∷ []) s ≡ None
alone_none p s t = delimiter-cons p [] s ∙ ap (λ b. if b then Some p else delimiter_at [] s) t ∙ delimiter-nil s

pub part_cut : (p s : List ℕ) (q : ℕ) → 0 < length p → IsFirst p s (Some q)
    → first_cut (p ∷ []) s ≡ Some (cut_from s q p)
part_cut p s q h found =
    let fits : length p ≤ length (drop q s) = begins_fits p (drop q s) found.1 in
    cut_some (p ∷ []) s p q (omega (arith, length-drop q s)) (alone_begins p (drop q s) found.1)
    (λ place l. alone_none p (drop place s) (found.2 place l))

pub part_uncut : (p s : List ℕ) → IsFirst p s None → first_cut (p ∷ []) s ≡ None
part_uncut p s missed = cut_none (p ∷ []) s (λ place l. alone_none p (drop place s) (missed place (omega arith)))

-- ---- replaced

pub joined-cons : (between p : List ℕ) (ps : List (List ℕ)) → 0 < length ps
    → joined between (p ∷ ps) ≡ p ++ (between ++ joined between ps)
joined-cons between p [] h = absurd (omega arith)
joined-cons between p (q ∷ qs) h = ap (λ r. p ++ r) (append_assoc between q (flat_map (λ r. between ++ r) qs))

replaced-is : (old new s : List ℕ) → replaced old new s ≡ joined new (pieces (old ∷ []) s)
unfolding replaced
replaced-is old new s = refl

pub replaced-cut : (old new s : List ℕ) (q : ℕ) → 0 < length old → IsFirst old s (Some q)
    → replaced old new s ≡ take q s ++ (new ++ replaced old new (drop (q + length old) s))
replaced-cut old new s q h found =
    let rest = drop (q + length old) s in
    replaced-is old new s ∙ ap (joined new)
    (pieces-cut (old ∷ []) s (cut_from s q old) (one_not_empty old h) (part_cut old s q h found))
    ∙ joined-cons new (take q s) (pieces (old ∷ []) rest) (has_piece (old ∷ []) rest)
    ∙ ap (λ r. take q s ++ (new ++ r)) (sym (replaced-is old new rest))

pub replaced-uncut : (old new s : List ℕ) → 0 < length old → IsFirst old s None → replaced old new s ≡ s
replaced-uncut old new s h missed =
    replaced-is old new s ∙ ap (joined new)
    (pieces-uncut (old ∷ []) s (one_not_empty old h) (part_uncut old s missed)) ∙ append-nil s

-- the characters so far, one part and what is left
pub replaced_more : (out front more old new s rest : List ℕ) (start q : ℕ) (all : List ℕ) → 0 < length old
    → rest ≡ drop start s → IsFirst old rest (Some q) → front ≡ out ++ take q rest → more ≡ front ++ new
    → out ++ replaced old new (drop start s) ≡ all
    → more ++ replaced old new (drop (start + (q + length old)) s) ≡ all
replaced_more out front more old new s rest start q all h e found f m before =
    let left = replaced old new (drop (start + (q + length old)) s) in
    let after : drop (q + length old) rest ≡ drop (start + (q + length old)) s = ap (drop (q + length old)) e
    ∙ drop-drop (q + length old) start s in
    let step : replaced old new rest ≡ take q rest ++ (new ++ left) = replaced-cut old new rest q h found
    ∙ ap (λ r. take q rest ++ (new ++ replaced old new r)) after in
    rw (m, f) (append_assoc (out ++ take q rest) new left ∙ append_assoc out (take q rest) (new ++ left)
    ∙ ap (λ r. out ++ r) (sym step) ∙ ap (λ r. out ++ replaced old new r) e ∙ before)

pub replaced_ends : (out more old new s rest : List ℕ) (start : ℕ) (all : List ℕ) → 0 < length old
    → rest ≡ drop start s → IsFirst old rest None → more ≡ out ++ rest
    → out ++ replaced old new (drop start s) ≡ all → more ≡ all
replaced_ends out more old new s rest start all h e missed m before =
    m ∙ ap (λ r. out ++ r) (sym (replaced-uncut old new rest h missed)) ∙ ap (λ r. out ++ replaced old new r) e
    ∙ before

pub part_fits : (p s : List ℕ) (q : ℕ) → IsFirst p s (Some q) → q + length p ≤ length s
part_fits p s q found = let fits : length p ≤ length (drop q s) = begins_fits p (drop q s) found.1 in
    omega (arith, length-drop q s, found.0)
