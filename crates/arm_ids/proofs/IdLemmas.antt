-- Ids as texts and as parts.
use Rattle.std.proofs.Common.{◌≡◌, ◌<◌, ◌≤◌, ◌-◌, ℕ, length, get_or, take, drop, Bool, true, false, List, [], ◌∷◌}
use Rattle.std.proofs.Common.{◌++◌, chars, IsUtf8, refl, sym}
use Rattle.std.proofs.Common.{ap, ◌∙◌, arith, append_assoc, append-nil, suc, ◌&&◌, not, codes, Some, None}
use Rattle.std.proofs.Common.{true≢false, eq-eqb, cond, subst, ◌⊎◌, inl, inr, lt-ltb, Result, Ok, Err, IfOk}
use lib.Utf8.{encode}
use Rattle.std.proofs.lemmas.Str.{chars-append, chars-encodes, chars-nil}
use Rattle.std.specs.List.{list_any}
use Rattle.arm_ids.specs.Id.{path, start_of, text_of, has_empty_segment, is_whole, IsResourceId, IsPlain, reading}
use Rattle.arm_ids.specs.Id.{reading_of}
use Rattle.arm_ids.specs.Id.{are_words, if_whole}
use Rattle.arm_ids.specs.declared.id.ResourceId.{ResourceId}
use Rattle.arm_ids.proofs.TextLemmas.{some_segment}
use Rattle.arm_ids.proofs.SegmentLemmas.{segments_cut, segments-slashed, none_in_front, none_after}
use Rattle.arm_ids.proofs.SegmentLemmas.{none_in_turns, none_in_firsts, none_in_seconds, firsts-by_turns}
use Rattle.arm_ids.proofs.SegmentLemmas.{seconds-by_turns}
use Rattle.std.proofs.lemmas.Bool.{eqb-true}
use Rattle.std.proofs.lemmas.List.{take_all}
use Rattle.std.proofs.lemmas.Bool.Decides.{nat_tests}
use Rattle.arm_ids.specs.Segments.{segments, slashed, joined, is_empty, has_slash, firsts, seconds, by_turns}
use Rattle.foundation.proofs.TruthValues.{nor}

-- a slash and a segment after a text
pub pushed : (a b c segment : List ℕ) → IsUtf8 a → IsUtf8 b → b ≡ a ++ encode 47 → c ≡ b ++ segment
    → chars c ≡ chars a ++ 47 ∷ chars segment
pushed a b c segment u v e f =
    ap chars f ∙ chars-append b segment v
    ∙ ap (λ s. s ++ chars segment) (ap chars e ∙ chars-append a (encode 47) u
    ∙ ap (λ s. chars a ++ s) (ap chars (sym (append-nil (encode 47))) ∙ chars-encodes (47 ∷ []) refl))
    ∙ append_assoc (chars a) (47 ∷ []) (chars segment)

some_name : (name : List ℕ) → 0 < length (segments name)
some_name name = let some = some_segment name in omega (arith, ap length some.2)

-- what holds of an id that is made from a type and a name
pub made : (i : ResourceId) (kind name : List ℕ) → i.types ≡ segments kind → i.names ≡ segments name
    → has_empty_segment i ≡ false → length i.types ≡ suc (length i.names) → IsResourceId i
made i kind name types names filled paired = record {
  filled = filled;
  paired = paired;
  named = omega (arith, some_name name, ap length names);
  types_cut = ap (list_any has_slash) types ∙ segments_cut kind;
  names_cut = ap (list_any has_slash) names ∙ segments_cut name;
}

-- segments of two lists as one text
pub slashed-append : (xs ys : List (List ℕ)) → slashed (xs ++ ys) ≡ slashed xs ++ slashed ys
slashed-append [] ys = refl
slashed-append (x ∷ xs) ys =
    ap (λ r. 47 ∷ r) (ap (λ r. x ++ r) (slashed-append xs ys) ∙ sym (append_assoc x (slashed xs) (slashed ys)))

-- the text of an id, as it is written
pub written : (i : ResourceId) (start t : List ℕ) → start ≡ slashed (start_of i)
    → t ≡ start ++ slashed (path i.types i.names) → t ≡ text_of i
unfolding text_of
written i start t e f =
    let parts = path i.types i.names in
    f ∙ ap (λ s. s ++ slashed parts) e ∙ sym (slashed-append (start_of i) parts)

-- two lists by turns are empty where one of them is
pub by_turns-done : (xs ys : List (List ℕ)) → (xs ≡ []) ⊎ (ys ≡ []) → by_turns xs ys ≡ []
by_turns-done [] ys h = refl
by_turns-done (x ∷ xs) [] h = refl
by_turns-done (x ∷ xs) (y ∷ ys) (inl e) = cc
by_turns-done (x ∷ xs) (y ∷ ys) (inr e) = cc

whole_by : (a b c : Bool) → a ≡ false → b ≡ true → c ≡ true → (not a && (b && c)) ≡ true
whole_by true b c e f g = absurd (true≢false e)
whole_by false true c e f g = g
whole_by false false c e f g = f

pub whole : (i : ResourceId) → IsResourceId i → is_whole i ≡ true
whole i h =
    whole_by (has_empty_segment i) _ _ h.filled (eq-eqb _ _ h.paired) (lt-ltb 0 (length i.names) h.named)

some_if : (b : Bool) (i : ResourceId) → b ≡ true → cond b (Some i) None ≡ Some i
some_if true i e = refl
some_if false i e = absurd (true≢false (sym e))

-- the text of an id, with any spelling of the fixed words, is read as that id
pub read_back : (a b c s g : List ℕ) (ts ns : List (List ℕ)) → are_words a b c ≡ true → has_slash a ≡ false
    → has_slash b ≡ false → has_slash c ≡ false → let i : ResourceId =
    record { subscription = s; group = g; types = ts; names = ns } in IsResourceId i → IsPlain i
    → reading (slashed (a ∷ s ∷ b ∷ g ∷ c ∷ path ts ns)) ≡ Some i
read_back a b c s g [] ns words no_a no_b no_c h plain = absurd (omega (arith, h.paired))
read_back a b c s g (provider ∷ ts) ns words no_a no_b no_c h plain =
    let same : length ts ≡ length ns = omega (arith, h.paired) in
    let turns = none_in_turns has_slash ts ns (none_after has_slash provider ts h.types_cut) h.names_cut in
    let i : ResourceId = record { subscription = s; group = g; types = provider ∷ ts; names = ns } in
    let all = a ∷ s ∷ b ∷ g ∷ c ∷ provider ∷ by_turns ts ns in
    let cut : list_any has_slash all ≡ false =
    nor (has_slash a) _ no_a
    (nor (has_slash s) _ plain.subscription
    (nor (has_slash b) _ no_b
    (nor (has_slash g) _ plain.group
    (nor (has_slash c) _ no_c
    (nor (has_slash provider) _ (none_in_front has_slash provider ts h.types_cut) turns))))) in
    ap reading_of (segments-slashed all cut)
    ∙ (λ j. if_whole (words j)
    (record {
      subscription = s;
      group = g;
      types = provider ∷ firsts-by_turns ts ns same j;
      names =
          seconds-by_turns ts ns same j;
    })) ∙ some_if (is_whole i) i (whole i h)

-- the text of an id is read as that id
pub reading-text_of : (i : ResourceId) → IsResourceId i → IsPlain i → reading (text_of i) ≡ Some i
unfolding text_of
reading-text_of i h plain =
    read_back (codes "subscriptions") (codes "resourceGroups") (codes "providers") i.subscription i.group i.types
    i.names refl refl refl refl h plain

nil_from_empty : (s : List ℕ) → is_empty s ≡ true → s ≡ []
nil_from_empty [] e = refl
nil_from_empty (c ∷ cs) e = absurd (true≢false (sym e))

-- seven segments or more with the fixed words are read as the id of the others, where it is whole
pub reading_by_parts : (xs path : List (List ℕ)) (root a s b g c provider : List ℕ) → 7 ≤ length xs
    → path ≡ take (length xs - 7) (drop 7 xs) → root ≡ get_or xs 0 root → a ≡ get_or xs 1 a → s ≡ get_or xs 2 s
    → b ≡ get_or xs 3 b → g ≡ get_or xs 4 g → c ≡ get_or xs 5 c → provider ≡ get_or xs 6 provider
    → is_empty root ≡ true → are_words a b c ≡ true → reading_of xs ≡ if_whole true (record {
      subscription = s;
      group = g;
      types = provider ∷ firsts path;
      names = seconds path;
    })
reading_by_parts [] _ _ _ _ _ _ _ _ l _ _ _ _ _ _ _ _ _ _ = absurd (omega (arith, l))
reading_by_parts (x₀ ∷ []) _ _ _ _ _ _ _ _ l _ _ _ _ _ _ _ _ _ _ = absurd (omega (arith, l))
reading_by_parts (x₀ ∷ x₁ ∷ []) _ _ _ _ _ _ _ _ l _ _ _ _ _ _ _ _ _ _ = absurd (omega (arith, l))
reading_by_parts (x₀ ∷ x₁ ∷ x₂ ∷ []) _ _ _ _ _ _ _ _ l _ _ _ _ _ _ _ _ _ _ = absurd (omega (arith, l))
reading_by_parts (x₀ ∷ x₁ ∷ x₂ ∷ x₃ ∷ []) _ _ _ _ _ _ _ _ l _ _ _ _ _ _ _ _ _ _ = absurd (omega (arith, l))
reading_by_parts (x₀ ∷ x₁ ∷ x₂ ∷ x₃ ∷ x₄ ∷ []) _ _ _ _ _ _ _ _ l _ _ _ _ _ _ _ _ _ _ = absurd (omega (arith, l))
reading_by_parts (x₀ ∷ x₁ ∷ x₂ ∷ x₃ ∷ x₄ ∷ x₅ ∷ []) _ _ _ _ _ _ _ _ l _ _ _ _ _ _ _ _ _ _ = absurd (omega (arith, l))
reading_by_parts (x₀ ∷ x₁ ∷ x₂ ∷ x₃ ∷ x₄ ∷ x₅ ∷ x₆ ∷ rest) path root a s b g c provider l e e₀ e₁ e₂ e₃ e₄ e₅ e₆
    blank words =
    let start : x₀ ≡ [] = sym e₀ ∙ nil_from_empty root blank in
    let whole_rest : path ≡ rest =
    e ∙ take_all (length (x₀ ∷ x₁ ∷ x₂ ∷ x₃ ∷ x₄ ∷ x₅ ∷ x₆ ∷ rest) - 7) rest (omega arith) in
    (λ j. reading_of (start j ∷ sym e₁ j ∷ sym e₂ j ∷ sym e₃ j ∷ sym e₄ j ∷ sym e₅ j ∷ sym e₆ j
    ∷ sym whole_rest j))
    ∙ ap (λ w. if_whole w (record {
      subscription = s;
      group = g;
      types = provider ∷ firsts path;
      names = seconds path;
    })) words

-- what a list of segments has that is read as an id
pub record Reads (xs : List (List ℕ)) (i : ResourceId) : Type 0 where
  pub a : List ℕ
  pub b : List ℕ
  pub c : List ℕ
  pub provider : List ℕ
  pub rest : List (List ℕ)
  pub shape : xs ≡ [] ∷ a ∷ i.subscription ∷ b ∷ i.group ∷ c ∷ provider ∷ rest
  pub words : are_words a b c ≡ true
  pub types : i.types ≡ provider ∷ firsts rest
  pub names : i.names ≡ seconds rest
  pub whole : is_whole i ≡ true

read_by : (w v : Bool) (i r : ResourceId) → cond (w && v) (Some r) None ≡ Some i → (w ≡ true) × (v ≡ true) × (r ≡ i)
read_by true true i r e = (refl, refl, cc)
read_by true false i r e = cc
read_by false v i r e = cc

pub reads : (xs : List (List ℕ)) (i : ResourceId) → reading_of xs ≡ Some i → Reads xs i
reads ([] ∷ a ∷ s ∷ b ∷ g ∷ c ∷ provider ∷ rest) i e =
    let r : ResourceId = record { subscription = s; group = g; types = provider ∷ firsts rest; names = seconds rest } in
    let h : (are_words a b c ≡ true) × (is_whole r ≡ true) × (r ≡ i) = read_by (are_words a b c) (is_whole r) i r e in
    let P : ResourceId → Type 0 = λ i. Reads ([] ∷ a ∷ s ∷ b ∷ g ∷ c ∷ provider ∷ rest) i in
    subst P h.2 (record {
      a = a;
      b = b;
      c = c;
      provider = provider;
      rest = rest;
      shape = refl;
      words = h.0;
      types =
          refl;
      names = refl;
      whole = h.1;
    })
reads _ i e = cc

and_parts : (a b c : Bool) → (not a && (b && c)) ≡ true → (a ≡ false) × (b ≡ true) × (c ≡ true)
and_parts false true c e = (refl, refl, e)
and_parts false false c e = absurd (true≢false (sym e))
and_parts true b c e = absurd (true≢false (sym e))

after_six : (x₁ x₂ x₃ x₄ x₅ x₆ : List ℕ) (xs : List (List ℕ))
    → list_any has_slash (x₁ ∷ x₂ ∷ x₃ ∷ x₄ ∷ x₅ ∷ x₆ ∷ xs) ≡ false → list_any has_slash xs ≡ false
after_six x₁ x₂ x₃ x₄ x₅ x₆ xs n =
    none_after has_slash x₆ xs
    (none_after has_slash x₅ (x₆ ∷ xs)
    (none_after has_slash x₄ (x₅ ∷ x₆ ∷ xs)
    (none_after has_slash x₃ (x₄ ∷ x₅ ∷ x₆ ∷ xs)
    (none_after has_slash x₂ (x₃ ∷ x₄ ∷ x₅ ∷ x₆ ∷ xs)
    (none_after has_slash x₁ (x₂ ∷ x₃ ∷ x₄ ∷ x₅ ∷ x₆ ∷ xs) n)))))

-- what is read is an id
pub id_from_reading : (t : List ℕ) (i : ResourceId) → reading t ≡ Some i → IsResourceId i
id_from_reading t i e =
    let h = reads (segments t) i e in
    let parts = and_parts (has_empty_segment i) _ _ h.whole in
    let cut : list_any has_slash (h.provider ∷ h.rest) ≡ false = let P : List (List ℕ)
    → Type 0 = λ xs. list_any has_slash xs ≡ false in
    after_six [] h.a i.subscription h.b i.group h.c (h.provider ∷ h.rest) (subst P h.shape (segments_cut t)) in
    record {
      filled = parts.0;
      paired = eqb-true _ _ parts.1;
      named = grind (arith, nat_tests, parts.2);
      types_cut = ap (list_any has_slash) h.types
          ∙ nor (has_slash h.provider) _ (none_in_front has_slash h.provider h.rest cut)
          (none_in_firsts has_slash h.rest (none_after has_slash h.provider h.rest cut));
      names_cut = ap (list_any has_slash) h.names
          ∙ none_in_seconds has_slash h.rest (none_after has_slash h.provider h.rest cut);
    }

-- no segments are joined to the empty text
pub joined_none : {E : Type 0} (r : Result (List ℕ) E) (ss : List (List ℕ)) → length ss < 1
    → IfOk r (λ t. t ≡ chars []) → IfOk r (λ t. t ≡ joined ss)
joined_none (Ok t) [] l e = e ∙ chars-nil
joined_none (Ok t) (s ∷ ss) l e = absurd (omega (arith, l))
joined_none (Err f) ss l e = tt
