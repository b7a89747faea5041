-- A part that is looked for in a text that is read once.
use Rattle.std.proofs.Common.{◌≡◌, ◌<◌, ◌≤◌, ◌+◌, ◌-◌, ℕ, zero, suc, Bool, true, false, List, [], ◌∷◌, ◌++◌, length}
use Rattle.std.proofs.Common.{get_or, drop, refl, ap, ap₂, sym, ◌∙◌, arith, subst, ◌⊎◌, inl, inr, true≢false}
use Rattle.std.specs.Prelude.{◌==◌, ◌&&◌}
use Rattle.std.proofs.lemmas.Bool.{cases_lt}
use Rattle.std.proofs.lemmas.List.{get_or-drop, length-drop, get_or_append_left, get_or_push, length_push}
use Rattle.foundation.proofs.Comparisons.{eq_of_true, eq_true}
use Rattle.foundation.proofs.TruthValues.{both}
use Rattle.function_texts.specs.Places.{begins}
use Rattle.function_texts.specs.Search.{EndAt, IsLongest, AreBorders, HasAt, GoesOn, IsNext, HasNotBegun}
use Rattle.function_texts.proofs.PlaceLemmas.{no_room}

-- ---- ends of what was read

pub ends-none : (p s : List ℕ) (i : ℕ) → EndAt p s i 0
ends-none p s i = record { room = omega arith; same = λ t h. absurd (omega arith) }

pub ends-whole : (p : List ℕ) (k : ℕ) → EndAt p p k k
ends-whole p k = record {
  room = omega arith;
  same = λ t h. let e : k - k + t ≡ t = omega arith in
      ap (λ n. get_or p n 0) (sym e);
}

same_place : (i k x t : ℕ) → k ≤ i → x ≤ k → i - k + (k - x + t) ≡ i - x + t
same_place i k x t h l = omega arith

-- the end of an end
pub ends_within : (p s : List ℕ) (i k x : ℕ) → EndAt p s i k → EndAt p p k x → EndAt p s i x
ends_within p s i k x e f = record {
  room = omega (arith, e.room, f.room);
  same = λ t h. f.same t h ∙ e.same (k - x + t) (omega (arith, f.room))
      ∙ ap (λ n. get_or s n 0) (same_place i k x t e.room f.room);
}

-- of two ends the shorter is an end of the longer
pub ends_both : (p s : List ℕ) (i k x : ℕ) → EndAt p s i k → EndAt p s i x → x ≤ k → EndAt p p k x
ends_both p s i k x e f h = record {
  room = h;
  same = λ t l. f.same t l ∙ sym (e.same (k - x + t) (omega arith)
      ∙ ap (λ n. get_or s n 0) (same_place i k x t e.room h));
}

grown_at : (p s : List ℕ) (i x t : ℕ) → EndAt p s i x → get_or p x 0 ≡ get_or s i 0 → (t < x) ⊎ (x ≤ t) → t < x + 1
    → get_or p t 0 ≡ get_or s (i + 1 - (x + 1) + t) 0
grown_at p s i x t e c (inl l) h =
    let moved : i - x + t ≡ i + 1 - (x + 1) + t = omega (arith, e.room) in
    e.same t l ∙ ap (λ n. get_or s n 0) moved
grown_at p s i x t e c (inr g) h =
    let last : t ≡ x = omega arith in
    let moved : i ≡ i + 1 - (x + 1) + t = omega (arith, e.room) in
    ap (λ n. get_or p n 0) last ∙ c ∙ ap (λ n. get_or s n 0) moved

pub ends_longer : (p s : List ℕ) (i x : ℕ) → EndAt p s i x → get_or p x 0 ≡ get_or s i 0 → EndAt p s (i + 1) (x + 1)
ends_longer p s i x e c = record {
  room = omega (arith, e.room);
  same =
      λ t h. grown_at p s i x t e c (cases_lt t x) h;
}

pub ends_shorter : (p s : List ℕ) (i x : ℕ) → EndAt p s (i + 1) (x + 1) → EndAt p s i x
ends_shorter p s i x e = record {
  room = omega (arith, e.room);
  same = λ t h. let moved : i + 1 - (x + 1) + t ≡ i - x + t = omega arith in e.same t (omega arith)
      ∙ ap (λ n. get_or s n 0) moved;
}

pub last_same : (p s : List ℕ) (i x : ℕ) → EndAt p s (i + 1) (x + 1) → get_or p x 0 ≡ get_or s i 0
last_same p s i x e =
    let moved : i + 1 - (x + 1) + x ≡ i = omega (arith, e.room) in
    e.same x (omega arith) ∙ ap (λ n. get_or s n 0) moved

-- ---- the character that is read next

-- what is longest after it, where limits fit
pub longest_next : (p s : List ℕ) (i limit next_limit k c n : ℕ) → IsLongest p s i limit k → IsNext p k c n
    → c ≡ get_or s i 0
    → next_limit ≤ limit + 1 → next_limit ≤ length p → ((y : ℕ) → y ≤ limit → y < length p → y + 1 ≤ next_limit)
    → IsLongest p s (i + 1) next_limit n
longest_next p s i limit next_limit k c n long next is h l within = by_length n refl
  where
    greatest_of : (m : ℕ) → m ≤ next_limit → EndAt p s (i + 1) m → m ≤ n
    greatest_of zero h2 e = omega arith
    greatest_of (suc y) h2 e =
        let count : suc y ≡ y + 1 = omega arith in
        let grown : EndAt p s (i + 1) (y + 1) = subst (EndAt p s (i + 1)) count e in
        let before : EndAt p s i y = ends_shorter p s i y grown in
        let short : y ≤ k = long.greatest y (omega arith) before in
        let below : y < n = next.greatest y
        (record {
          ends = ends_both p s i k y long.ends before short;
          next =
              record { inside = omega arith; is = last_same p s i y grown ∙ sym is };
        }) in
        omega arith

    by_length : (m : ℕ) → n ≡ m → IsLongest p s (i + 1) next_limit n
    by_length zero e = record {
      ends = subst (EndAt p s (i + 1)) (sym e) (ends-none p s (i + 1));
      within =
          omega arith;
      greatest = greatest_of;
    }
    by_length (suc m) e =
        let on : GoesOn p k c (n - 1) = next.reached (omega arith) in
        let count : n - 1 + 1 ≡ n = omega arith in
        record {
          ends = subst (EndAt p s (i + 1)) count
              (ends_longer p s i (n - 1) (ends_within p s i k (n - 1) long.ends on.ends) (on.next.is ∙ is));
          within = let fits : n - 1 + 1 ≤ next_limit =
              within (n - 1) (omega (arith, on.ends.room, long.within)) on.next.inside in omega arith;
          greatest = greatest_of;
        }

-- ---- shorter and shorter ends

-- what is left of the ends of the first k that go on with the character
pub record Left (p : List ℕ) (k c x : ℕ) : Type 0 where
  pub ends : EndAt p p k x
  pub above : (m : ℕ) → GoesOn p k c m → m ≤ x

pub left-all : (p : List ℕ) (k c : ℕ) → Left p k c k
left-all p k c = record { ends = ends-whole p k; above = λ m g. g.ends.room }

-- an end that does not go on is none of them
pub left_below : (p : List ℕ) (k c x : ℕ) → Left p k c x → (HasAt p x c → ⊥) → (m : ℕ) → GoesOn p k c m → m < x
left_below p k c x left not m g = by_order (cases_lt m x)
  where
    by_order : (m < x) ⊎ (x ≤ m) → m < x
    by_order (inl l) = l
    by_order (inr h) =
        let same : m ≡ x = omega (arith, left.above m g) in
        absurd (not (subst (λ n. HasAt p n c) same g.next))

pub left_shorter : (p bs : List ℕ) (k c x b : ℕ) → AreBorders p bs → Left p k c x → (HasAt p x c → ⊥) → 0 < x
    → x < length bs → b ≡ get_or bs x 0 → Left p k c b
left_shorter p bs k c x b borders left not h l e =
    let border : IsLongest p p x (x - 1) b = subst (IsLongest p p x (x - 1)) (sym e) (borders.each x h l) in
    record {
      ends = ends_within p p k x b left.ends border.ends;
      above = λ m g.
          let below : m < x = left_below p k c x left not m g in
          border.greatest m (omega arith) (ends_both p p k x m left.ends g.ends (omega arith));
    }

pub next_none : (p : List ℕ) (k c x : ℕ) → Left p k c x → (HasAt p x c → ⊥) → x ≡ 0 → IsNext p k c 0
next_none p k c x left not e = record {
  greatest = λ m g. let below : m < x = left_below p k c x left not m g in absurd (omega arith);
  reached = λ h. absurd (omega arith);
}

pub next_found : (p : List ℕ) (k c x : ℕ) → Left p k c x → HasAt p x c → IsNext p k c (x + 1)
next_found p k c x left has = record {
  greatest = λ m g. omega (arith, left.above m g);
  reached = λ h.
      let last : x ≡ x + 1 - 1 = omega arith in
      subst (GoesOn p k c) last (record { ends = left.ends; next = has });
}

-- ---- where the whole part begins

begins-cons : (c d : ℕ) (cs ds : List ℕ) → begins (c ∷ cs) (d ∷ ds) ≡ ((c == d) && begins cs ds)
unfolding begins
begins-cons c d cs ds = refl

-- a part begins where each of its characters is
pub begins_from_reads : (p s : List ℕ) → length p ≤ length s
    → ((i : ℕ) → i < length p → get_or p i 0 ≡ get_or s i 0) → begins p s ≡ true
unfolding begins
begins_from_reads [] s h same = refl
begins_from_reads (c ∷ cs) [] h same = absurd (omega arith)
begins_from_reads (c ∷ cs) (d ∷ ds) h same =
    let rest : begins cs ds ≡ true = begins_from_reads cs ds (omega arith) (λ i l. same (suc i) (omega arith)) in
    ap₂ (λ a b. a && b) (eq_true c d (same 0 (omega arith))) rest

pub begins_fits : (p s : List ℕ) → begins p s ≡ true → length p ≤ length s
unfolding begins
begins_fits [] s h = omega arith
begins_fits (c ∷ cs) [] h = absurd (true≢false (sym h))
begins_fits (c ∷ cs) (d ∷ ds) h = let fits : length cs ≤ length ds =
    begins_fits cs ds (both (c == d) (begins cs ds) h).1 in omega arith

pub begins_reads : (p s : List ℕ) → begins p s ≡ true → (i : ℕ) → i < length p → get_or p i 0 ≡ get_or s i 0
unfolding begins
begins_reads [] s h i l = absurd (omega arith)
begins_reads (c ∷ cs) [] h i l = absurd (true≢false (sym h))
begins_reads (c ∷ cs) (d ∷ ds) h zero l = eq_of_true c d (both (c == d) (begins cs ds) h).0
begins_reads (c ∷ cs) (d ∷ ds) h (suc i) l =
    begins_reads cs ds (both (c == d) (begins cs ds) h).1 i (omega arith)

-- the whole part ends where it began so many characters before
pub begun_at : (p s : List ℕ) (i : ℕ) → EndAt p s i (length p) → i ≤ length s
    → begins p (drop (i - length p) s) ≡ true
begun_at p s i e h =
    begins_from_reads p (drop (i - length p) s) (omega (arith, e.room, length-drop (i - length p) s))
    (λ t l. e.same t l ∙ sym (get_or-drop (i - length p) s t 0))

pub ends_whole_at : (p s : List ℕ) (place : ℕ) → begins p (drop place s) ≡ true
    → EndAt p s (place + length p) (length p)
ends_whole_at p s place b = record {
  room = omega arith;
  same = λ t l.
      let moved : place + t ≡ place + length p - length p + t = omega arith in
      begins_reads p (drop place s) b t l ∙ get_or-drop place s t 0 ∙ ap (λ n. get_or s n 0) moved;
}

-- fewer characters than the part has are read: it does not begin so many before
pub not_begun : (p s : List ℕ) (i n place : ℕ) → IsLongest p s i (length p) n → n < length p → place + length p ≡ i
    → begins p (drop place s) ≡ false
not_begun p s i n place long h e = by_test (begins p (drop place s)) refl
  where
    by_test : (b : Bool) → begins p (drop place s) ≡ b → begins p (drop place s) ≡ false
    by_test false t = t
    by_test true t =
        let whole : EndAt p s i (length p) = subst (λ j. EndAt p s j (length p)) e (ends_whole_at p s place t) in
        let all : length p ≤ n = long.greatest (length p) (omega arith) whole in
        absurd (omega arith)

pub nowhere-none : (p s : List ℕ) → 0 < length p → HasNotBegun p s 0
nowhere-none p s h = record { nowhere = λ place l. absurd (omega arith) }

pub nowhere_more : (p s : List ℕ) (i n : ℕ) → HasNotBegun p s i → IsLongest p s (i + 1) (length p) n → n < length p
    → HasNotBegun p s (i + 1)
nowhere_more p s i n before long h = record {
  nowhere =
      λ place l. by_order place l (cases_lt i (place + length p));
}
  where
    by_order : (place : ℕ) → place + length p ≤ i + 1 → (i < place + length p) ⊎ (place + length p ≤ i)
        → begins p (drop place s) ≡ false
    by_order place l (inr old) = before.nowhere place old
    by_order place l (inl new) = not_begun p s (i + 1) n place long h (omega arith)

-- nowhere at all, once all was read
pub nowhere_left : (p s : List ℕ) (i : ℕ) → HasNotBegun p s i → length s ≤ i → (place : ℕ) → place ≤ length s
    → begins p (drop place s) ≡ false
nowhere_left p s i before h place l = by_order (cases_lt (length s) (place + length p))
  where
    by_order : (length s < place + length p) ⊎ (place + length p ≤ length s) → begins p (drop place s) ≡ false
    by_order (inl short) = sym (no_room p (drop place s) (omega (arith, length-drop place s)))
    by_order (inr fits) = before.nowhere place (omega arith)

-- ---- borders

pub border_shorter : (p bs : List ℕ) (x : ℕ) → AreBorders p bs → 0 < x → x < length bs → get_or bs x 0 < x
border_shorter p bs x borders h l = let border : IsLongest p p x (x - 1) (get_or bs x 0) = borders.each x h l in
    omega (arith, border.within)

pub borders-first : (p bs : List ℕ) → bs ≡ 0 ∷ 0 ∷ [] → AreBorders p bs
borders-first p bs e = record { each = λ k h l. at_one k h (omega (arith, ap length e)) }
  where
    no_border : IsLongest p p 1 0 0
    no_border = record { ends = ends-none p p 1; within = omega arith; greatest = λ m h f. h }

    at_one : (k : ℕ) → 0 < k → k < 2 → IsLongest p p k (k - 1) (get_or bs k 0)
    at_one zero h l = absurd (omega arith)
    at_one (suc zero) h l = subst (λ xs. IsLongest p p 1 0 (get_or xs 1 0)) (sym e) no_border
    at_one (suc (suc k)) h l = absurd (omega arith)

pub borders_push : (p bs more : List ℕ) (i b c n : ℕ) → AreBorders p bs → length bs ≡ i + 1 → 1 ≤ i → i < length p
    → b ≡ get_or bs i 0 → c ≡ get_or p i 0 → IsNext p b c n → more ≡ bs ++ n ∷ [] → AreBorders p more
borders_push p bs more i b c n borders count h l e is next grown =
    subst (AreBorders p) (sym grown) (record {
      each =
          λ k some within. by_order k some within (cases_lt k (length bs));
    })
  where
    new : IsLongest p p (i + 1) (i + 1 - 1) n
    new =
        let at : i ≡ i + 1 - 1 = omega arith in
        subst (λ m. IsLongest p p (i + 1) m n) at
        (longest_next p p i (i - 1) i b c n
        (subst (IsLongest p p i (i - 1)) (sym e) (borders.each i (omega arith) (omega arith))) next is
        (omega arith) (omega arith) (λ y k m. omega arith))

    by_order : (k : ℕ) → 0 < k → k < length (bs ++ n ∷ []) → (k < length bs) ⊎ (length bs ≤ k)
        → IsLongest p p k (k - 1) (get_or (bs ++ n ∷ []) k 0)
    by_order k some within (inl old) = subst (IsLongest p p k (k - 1))
        (sym (get_or_append_left bs (n ∷ []) 0 k old)) (borders.each k some old)
    by_order k some within (inr beyond) =
        let last : k ≡ i + 1 = omega (arith, length_push bs n) in
        subst (λ j. IsLongest p p j (j - 1) (get_or (bs ++ n ∷ []) j 0)) (sym last)
        (subst (IsLongest p p (i + 1) (i + 1 - 1)) (sym (get_or_push bs n 0 (i + 1) count)) new)

pub longest-none : (p s : List ℕ) → IsLongest p s 0 (length p) 0
longest-none p s = record { ends = ends-none p s 0; within = omega arith; greatest = λ m h e. e.room }

pub longest_more : (p s : List ℕ) (i k c n : ℕ) → IsLongest p s i (length p) k → IsNext p k c n → c ≡ get_or s i 0
    → IsLongest p s (i + 1) (length p) n
longest_more p s i k c n long next is = longest_next p s i (length p) (length p) k c n long next is (omega arith)
    (omega arith) (λ y h l. omega arith)
