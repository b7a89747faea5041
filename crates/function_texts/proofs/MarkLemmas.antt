-- Marks at the places where delimiters begin, and the cuts at them.
use Rattle.std.proofs.Common.{◌≡◌, ◌<◌, ◌≤◌, ◌+◌, ◌-◌, ℕ, zero, suc, Bool, true, false, List, [], ◌∷◌, ◌++◌, length}
use Rattle.std.proofs.Common.{get_or, take, drop, replicate, Option, Some, None, option_map, Vec, Global, refl, ap}
use Rattle.std.proofs.Common.{sym, ◌∙◌, arith, append-nil, subst, ◌⊎◌, inl, inr}
use Rattle.std.specs.Prelude.{if◌then◌else◌}
use Rattle.std.proofs.Math.ListN.{set}
use Rattle.std.proofs.lemmas.Bool.{cases_lt, cases_eq}
use Rattle.std.proofs.lemmas.List.{length-drop, length-set, length-replicate, drop-drop, drop_all, take_all}
use Rattle.std.proofs.lemmas.List.{take_more, get_or-set_same, get_or-set_other, get_or-replicate, map_push}
use Rattle.function_lists.specs.Items.{or_found, here}
use Rattle.function_texts.specs.Places.{begins}
use Rattle.function_texts.specs.Cuts.{delimiter_at, first_cut, pieces, none_empty}
use Rattle.function_texts.specs.Search.{IsLongest, AreMarks, AreMarked, AreMarkedBefore, IsNextMark}
use Rattle.function_texts.proofs.SearchLemmas.{begun_at, not_begun}
use Rattle.function_texts.proofs.PlaceLemmas.{no_room}
use Rattle.function_texts.proofs.CutLemmas.{delimiter-cons, delimiter-nil, Begun, delimiter_begins, cut_from}
use Rattle.function_texts.proofs.CutLemmas.{cut_some, cut_none, pieces-cut, pieces-uncut, others_not_empty}
use Rattle.function_texts.proofs.CutLemmas.{first_not_empty}
use Rattle.function_texts.proofs.SplitLemmas.{spelled}

-- ---- one delimiter more

or_none : (o : Option ℕ) → or_found o None ≡ o
or_none None = refl
or_none (Some i) = refl

delimiter_push : (ds : List (List ℕ)) (d s : List ℕ)
    → option_map length (delimiter_at (ds ++ d ∷ []) s) ≡ or_found (option_map length (delimiter_at ds s))
    (here (begins d s) (length d))
delimiter_push [] d s = ap (option_map length) (delimiter-cons d [] s) ∙ by_test (begins d s)
    ∙ ap (λ o. or_found (option_map length o) (here (begins d s) (length d))) (sym (delimiter-nil s))
  where
    by_test : (b : Bool) → option_map length (if b then Some d else delimiter_at [] s) ≡ here b (length d)
    by_test true = refl
    by_test false = ap (option_map length) (delimiter-nil s)
delimiter_push (x ∷ ds) d s =
    ap (option_map length) (delimiter-cons x (ds ++ d ∷ []) s) ∙ by_test (begins x s) (delimiter_push ds d s)
    ∙ ap (λ o. or_found (option_map length o) (here (begins d s) (length d))) (sym (delimiter-cons x ds s))
  where
    by_test : (b : Bool) → option_map length (delimiter_at (ds ++ d ∷ []) s) ≡ or_found
        (option_map length (delimiter_at ds s)) (here (begins d s) (length d))
        → option_map length (if b then Some x else delimiter_at (ds ++ d ∷ []) s) ≡ or_found
        (option_map length (if b then Some x else delimiter_at ds s)) (here (begins d s) (length d))
    by_test true later = refl
    by_test false later = later

pub marks-none : (s : List ℕ) (marks : List (Option ℕ)) → marks ≡ replicate (length s) None → AreMarks [] s marks
marks-none s marks e = record {
  count = ap length e ∙ length-replicate (length s) None;
  each = λ place l. ap (λ ms. get_or ms place None) e ∙ get_or-replicate (length s) place None None l
      ∙ sym (ap (option_map length) (delimiter-nil (drop place s)));
}

-- the marks as they come back from a slice of them
pub lent : (new old : List (Option ℕ)) (n : ℕ) → length new ≡ length old → n ≡ length old
    → take n (new ++ drop (length new) old) ≡ new
lent new old n e k = ap (λ r. take n (new ++ r)) (drop_all (length new) old (omega arith))
    ∙ ap (take n) (append-nil new) ∙ take_all n new (omega arith)

pub marks_more : (ds : List (Vec ℕ Global)) (i : ℕ) (d : Vec ℕ Global) (s : List ℕ) (old new : List (Option ℕ))
    → i < length ds → d ≡ get_or ds i d
    → AreMarks (spelled (take i ds)) s old → AreMarked d.items s old new
    → AreMarks (spelled (take (i + 1) ds)) s new
marks_more ds i d s old new l e before marked =
    let more : spelled (take (i + 1) ds) ≡ spelled (take i ds) ++ d.items ∷ [] =
    ap spelled (take_more ds i d l ∙ ap (λ (x : Vec ℕ Global). take i ds ++ x ∷ []) (sym e))
    ∙ map_push (λ (x : Vec ℕ Global). x.items) (take i ds) d in
    subst (λ xs. AreMarks xs s new) (sym more) (record {
      count = marked.count ∙ before.count;
      each = λ place k. marked.each place k
          ∙ ap (λ o. or_found o (here (begins d.items (drop place s)) (length d.items))) (before.each place k)
          ∙ sym (delimiter_push (spelled (take i ds)) d.items (drop place s));
    })

pub not_empty_at : (ds : List (Vec ℕ Global)) (i : ℕ) (d : Vec ℕ Global) → none_empty (spelled ds) ≡ true
    → i < length ds → d ≡ get_or ds i d → 0 < length d.items
not_empty_at [] i d h l e = absurd (omega arith)
not_empty_at (x ∷ ds) zero d h l e = let some : 0 < length x.items = first_not_empty x.items (spelled ds) h in
    omega (arith, ap (λ (v : Vec ℕ Global). length v.items) e)
not_empty_at (x ∷ ds) (suc i) d h l e = not_empty_at ds i d (others_not_empty x.items (spelled ds) h) (omega arith)
    e

-- ---- the marks of one part

pub marked-none : (p s : List ℕ) (marks : List (Option ℕ)) → 0 < length p → AreMarkedBefore p s 0 marks marks
marked-none p s marks h = record {
  count = refl;
  ended = λ place l. absurd (omega arith);
  open_still =
      λ place l. refl;
}

-- the part does not end with the character that is read
marked_fewer : (p s : List ℕ) (i n : ℕ) (old marks : List (Option ℕ)) → AreMarkedBefore p s i old marks
    → IsLongest p s (i + 1) (length p) n → n < length p → AreMarkedBefore p s (i + 1) old marks
marked_fewer p s i n old marks before long h = record {
  count = before.count;
  ended = λ place l. by_order place l (cases_lt i (place + length p));
  open_still = λ place l. before.open_still place (omega arith);
}
  where
    by_order : (place : ℕ) → place + length p ≤ i + 1 → (i < place + length p) ⊎ (place + length p ≤ i)
        → get_or marks place None ≡ or_found (get_or old place None) (here (begins p (drop place s)) (length p))
    by_order place l (inr ended) = before.ended place ended
    by_order place l (inl new) =
        before.open_still place new ∙ sym
        (ap (λ b. or_found (get_or old place None) (here b (length p)))
        (not_begun p s (i + 1) n place long h (omega arith)) ∙ or_none (get_or old place None))

-- it ends with that
marked_whole : (p s : List ℕ) (i : ℕ) (old marks new : List (Option ℕ)) → AreMarkedBefore p s i old marks
    → i < length s → length old ≡ length s → 0 < length p → IsLongest p s (i + 1) (length p) (length p)
    → new ≡ set marks (i + 1 - length p) (or_found (get_or marks (i + 1 - length p) None) (Some (length p)))
    → AreMarkedBefore p s (i + 1) old new
marked_whole p s i old marks new before l count some long e = record {
  count = ap length e ∙ length-set marks at value ∙ before.count;
  ended = λ place k. ap (λ ms. get_or ms place None) e ∙ by_place place k (cases_eq place at);
  open_still = λ place k. ap (λ ms. get_or ms place None) e
      ∙ get_or-set_other marks at place value None (λ same. absurd (omega (arith, same, long.ends.room)))
      ∙ before.open_still place (omega arith);
}
  where
    at : ℕ
    at = i + 1 - length p

    value : Option ℕ
    value = or_found (get_or marks at None) (Some (length p))

    by_place : (place : ℕ) → place + length p ≤ i + 1 → (place ≡ at) ⊎ (place ≡ at → ⊥)
        → get_or (set marks at value) place None ≡ or_found (get_or old place None)
        (here (begins p (drop place s)) (length p))
    by_place place k (inl same) =
        let open_there : get_or marks at None ≡ get_or old at None =
        before.open_still at (omega (arith, long.ends.room)) in
        let begun : begins p (drop at s) ≡ true = begun_at p s (i + 1) long.ends (omega arith) in
        rw same (get_or-set_same marks at value None (omega (arith, before.count, long.ends.room))
        ∙ ap (λ o. or_found o (Some (length p))) open_there
        ∙ sym (ap (λ b. or_found (get_or old at None) (here b (length p))) begun))
    by_place place k (inr other) = get_or-set_other marks at place value None other
        ∙ before.ended place (omega (arith, other, long.ends.room))

pub marked_more : (p s : List ℕ) (i n : ℕ) (old marks new : List (Option ℕ)) → AreMarkedBefore p s i old marks
    → i < length s → length old ≡ length s → 0 < length p → IsLongest p s (i + 1) (length p) n
    → (n ≡ length p → new ≡ set marks (i + 1 - length p)
    (or_found (get_or marks (i + 1 - length p) None) (Some (length p)))) → (n < length p → new ≡ marks)
    → AreMarkedBefore p s (i + 1) old new
marked_more p s i n old marks new before l count some long whole fewer = by_order (cases_lt n (length p))
  where
    by_order : (n < length p) ⊎ (length p ≤ n) → AreMarkedBefore p s (i + 1) old new
    by_order (inl short) = subst (AreMarkedBefore p s (i + 1) old) (sym (fewer short))
        (marked_fewer p s i n old marks before long short)
    by_order (inr all) =
        let same : n ≡ length p = omega (arith, long.within) in
        marked_whole p s i old marks new before l count some (subst (IsLongest p s (i + 1) (length p)) same long)
        (whole same)

pub marked_all : (p s : List ℕ) (i : ℕ) (old marks : List (Option ℕ)) → AreMarkedBefore p s i old marks
    → length s ≤ i → i ≤ length s → 0 < length p → AreMarked p s old marks
marked_all p s i old marks before h k some =
    record { count = before.count; each = λ place l. by_order place l (cases_lt i (place + length p)) }
  where
    by_order : (place : ℕ) → place < length s → (i < place + length p) ⊎ (place + length p ≤ i)
        → get_or marks place None ≡ or_found (get_or old place None) (here (begins p (drop place s)) (length p))
    by_order place l (inr ended) = before.ended place ended
    by_order place l (inl short) =
        let nowhere : begins p (drop place s) ≡ false =
        sym (no_room p (drop place s) (omega (arith, length-drop place s))) in
        before.open_still place short ∙ sym (ap (λ b. or_found (get_or old place None) (here b (length p))) nowhere
        ∙ or_none (get_or old place None))

-- ---- cuts at marks

no_length : (o : Option (List ℕ)) → option_map length o ≡ None → o ≡ None
no_length None e = refl
no_length (Some d) e = absurd (cc)

-- a delimiter, and where it ends
pub record CutThere (ds : List (List ℕ)) (s : List ℕ) (from place n : ℕ) : Type 0 where
  pub later : from ≤ place
  pub some : 0 < n
  pub fits : place + n ≤ length s
  pub is : pieces ds (drop from s) ≡ take (place - from) (drop from s) ∷ pieces ds (drop (place + n) s)

unmarked : (ds : List (List ℕ)) (s : List ℕ) (marks : List (Option ℕ)) (place : ℕ) → AreMarks ds s marks
    → place < length s → get_or marks place None ≡ None → delimiter_at ds (drop place s) ≡ None
unmarked ds s marks place are l e = no_length (delimiter_at ds (drop place s)) (sym (are.each place l) ∙ e)

cut_at_mark : (ds : List (List ℕ)) (s : List ℕ) (marks : List (Option ℕ)) (from place n : ℕ) → none_empty ds ≡ true
    → AreMarks ds s marks → IsNextMark marks from place n → CutThere ds s from place n
cut_at_mark ds s marks from place n h are next =
    by_delimiter (delimiter_at ds (drop place s)) refl (sym (are.each place inside) ∙ next.there)
  where
    inside : place < length s
    inside = omega (arith, next.within, are.count)

    by_delimiter : (o : Option (List ℕ)) → delimiter_at ds (drop place s) ≡ o → option_map length o ≡ Some n
        → CutThere ds s from place n
    by_delimiter None t e = absurd (cc)
    by_delimiter (Some d) t e =
        let begun : Begun d (drop place s) = delimiter_begins ds (drop place s) d h t in
        let size : length d ≡ n = cc in
        let moved : from + (place - from) ≡ place = omega (arith, next.later) in
        let there : delimiter_at ds (drop (place - from) (drop from s)) ≡ Some d =
        ap (delimiter_at ds) (drop-drop (place - from) from s ∙ ap (λ q. drop q s) moved) ∙ t in
        let rest : drop (place - from + length d) (drop from s) ≡ drop (place + n) s =
        drop-drop (place - from + length d) from s ∙ ap (λ q. drop q s) (omega (arith, next.later)) in
        let cut : first_cut ds (drop from s) ≡ Some (cut_from (drop from s) (place - from) d) =
        cut_some ds (drop from s) d (place - from) (omega (arith, next.later, inside, length-drop from s)) there
        (λ q l. ap (delimiter_at ds) (drop-drop q from s)
        ∙ unmarked ds s marks (from + q) are (omega (arith, inside))
        (next.none_before (from + q) (omega arith) (omega arith))) in
        record {
          later = next.later;
          some = omega (arith, begun.some);
          fits = omega (arith, begun.fits, inside, length-drop place s);
          is = pieces-cut ds (drop from s) (cut_from (drop from s) (place - from) d) h cut
              ∙ ap (λ r. take (place - from) (drop from s) ∷ pieces ds r) rest;
        }

-- the same of a slice of the marks
pub cut_there : (ds : List (List ℕ)) (s : List ℕ) (marks seen : List (Option ℕ)) (from place n : ℕ)
    → none_empty ds ≡ true → AreMarks ds s marks → seen ≡ marks → IsNextMark seen from place n
    → CutThere ds s from place n
cut_there ds s marks seen from place n h are e next =
    cut_at_mark ds s marks from place n h are (subst (λ ms. IsNextMark ms from place n) e next)

pub no_cut_there : (ds : List (List ℕ)) (s : List ℕ) (marks seen : List (Option ℕ)) (from : ℕ)
    → none_empty ds ≡ true → AreMarks ds s marks → seen ≡ marks
    → ((place : ℕ) → from ≤ place → get_or seen place None ≡ None)
    → pieces ds (drop from s) ≡ drop from s ∷ []
no_cut_there ds s marks seen from h are e none =
    pieces-uncut ds (drop from s) h (cut_none ds (drop from s) (λ q l. ap (delimiter_at ds) (drop-drop q from s)
    ∙ unmarked ds s marks (from + q) are (omega (arith, length-drop from s))
    (ap (λ ms. get_or ms (from + q) None) (sym e) ∙ none (from + q) (omega arith))))
