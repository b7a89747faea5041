-- The id of a child is that of its parent with one segment more.
use Rattle.std.proofs.Common.{◌≡◌, ◌<◌, ℕ, suc, length, List, [], ◌∷◌, ◌++◌, Option, Some, None, Bool, true}
use Rattle.std.proofs.Common.{false}
use Rattle.std.proofs.Common.{length-append, map, ◌+◌, refl, sym, ap, ◌∙◌, arith, ◌||◌, ◌&&◌, not}
use Rattle.std.proofs.lemmas.List.{length-map}
use Rattle.std.proofs.lemmas.Bool.Decides.{nat_tests}
use Rattle.std.specs.Prelude.{◌==◌, nat_lt, option_map, option_and_then, if◌then◌else◌}
use Rattle.std.specs.List.{list_any}
use Rattle.std.proofs.lemmas.Bool.{not_from_false}
use Rattle.foundation.proofs.TruthValues.{both, and_true, both_ways, or_left, or_right, nor, of_not}
use Rattle.arm_value.specs.Json.{Json, null, bool, int, text, array, object}
use Rattle.arm_value.specs.Look.{fold}
use Rattle.arm_ids.specs.Id.{is_whole, has_empty_segment}
use Rattle.arm_ids.specs.Segments.{segments, is_empty, has_slash}
use Rattle.arm_ids.specs.declared.id.Place.{Place}
use Rattle.arm_ids.specs.declared.id.ResourceId.{ResourceId}
use Rattle.arm_ids.proofs.SegmentLemmas.{any_empty-fold}
use Rattle.function_prints.specs.Cuts.{texts_in}
use Rattle.function_numbers.specs.Kinds.{text_of}
use Rattle.bicep_emission.specs.Declared.{id_after, id_with}
use Rattle.bicep_emission.specs.Made.{made, is_made, made_whole}
use Rattle.emitted_declarations.specs.Parts.{made_of}
use Rattle.emitted_declarations.specs.ChildTypes.{IsChildType}
use Rattle.foundation.proofs.Comparisons.{positive, eq_of_true, eq_true}

is_positive : (n : ℕ) → 0 < n → nat_lt 0 n ≡ true
is_positive n h = grind (arith, nat_tests)

any_front : {A : Type 0} (p : A → Bool) (xs ys : List A) → list_any p (xs ++ ys) ≡ false → list_any p xs ≡ false
any_front p [] ys e = refl
any_front p (x ∷ xs) ys e =
    nor (p x) (list_any p xs) (or_left (p x) (list_any p (xs ++ ys)) e) (any_front p xs ys (or_right (p x)
    (list_any p (xs ++ ys)) e))

any_back : {A : Type 0} (p : A → Bool) (xs ys : List A) → list_any p (xs ++ ys) ≡ false → list_any p ys ≡ false
any_back p [] ys e = e
any_back p (x ∷ xs) ys e = any_back p xs ys (or_right (p x) (list_any p (xs ++ ys)) e)

any_none : {A : Type 0} (p : A → Bool) (xs ys : List A) → list_any p xs ≡ false → list_any p ys ≡ false
    → list_any p (xs ++ ys) ≡ false
any_none p [] ys e h = h
any_none p (x ∷ xs) ys e h =
    nor (p x) (list_any p (xs ++ ys)) (or_left (p x) (list_any p xs) e) (any_none p xs ys (or_right (p x)
    (list_any p xs) e) h)

-- what makes an id whole
record IsWhole (place : Place) (kind : List ℕ) (ns : List (List ℕ)) : Type 0 where
  subscription : is_empty place.subscription ≡ false
  group : is_empty place.group ≡ false
  types : list_any is_empty (segments kind) ≡ false
  names : list_any is_empty ns ≡ false
  paired : length (segments kind) ≡ suc (length ns)
  some : 0 < length ns

whole_is : (place : Place) (kind : List ℕ) (ns : List (List ℕ)) → is_whole (made place kind ns) ≡ true
    → IsWhole place kind ns
whole_is place kind ns e =
    let a = both (not (has_empty_segment (made place kind ns)))
    ((length (segments kind) == suc (length ns)) && nat_lt 0 (length ns)) e in
    let n = of_not (has_empty_segment (made place kind ns)) a.0 in
    let r = or_right (is_empty place.subscription) (is_empty place.group || list_any is_empty
    (segments kind ++ ns)) n in
    let q = or_right (is_empty place.group) (list_any is_empty (segments kind ++ ns)) r in
    let b = both (length (segments kind) == suc (length ns)) (nat_lt 0 (length ns)) a.1 in record {
      subscription = or_left (is_empty place.subscription) (is_empty place.group || list_any is_empty
          (segments kind ++ ns)) n;
      group = or_left (is_empty place.group) (list_any is_empty (segments kind ++ ns)) r;
      types = any_front is_empty (segments kind) ns q;
      names = any_back is_empty (segments kind) ns q;
      paired = eq_of_true (length (segments kind)) (suc (length ns)) b.0;
      some = positive (length ns) b.1;
    }

is_whole_of : (place : Place) (kind : List ℕ) (ns : List (List ℕ)) → IsWhole place kind ns
    → is_whole (made place kind ns) ≡ true
is_whole_of place kind ns w =
    and_true (not (has_empty_segment (made place kind ns))) ((length (segments kind) == suc (length ns)) && nat_lt 0
    (length ns))
    (not_from_false (has_empty_segment (made place kind ns))
    (nor (is_empty place.subscription) (is_empty place.group || list_any is_empty (segments kind ++ ns)) w.subscription
    (nor (is_empty place.group) (list_any is_empty (segments kind ++ ns)) w.group
    (any_none is_empty (segments kind) ns w.types w.names))))
    (and_true (length (segments kind) == suc (length ns)) (nat_lt 0 (length ns))
    (eq_true (length (segments kind)) (suc (length ns)) w.paired) (is_positive (length ns) w.some))

module _ (place : Place) (kind upper : List ℕ) (c : IsChildType kind upper) where
  -- a child has one segment more than its parent, none of which is empty where none of its own is
  longer : length (segments kind) ≡ suc (length (segments upper))
  longer =
      sym (length-map (segments kind) fold) ∙ ap length c.is ∙ length-append (map fold (segments upper)) (c.last ∷ [])
      ∙ one_more (length-map (segments upper) fold)
    where
      one_more : length (map fold (segments upper)) ≡ length (segments upper)
          → length (map fold (segments upper)) + 1 ≡ suc (length (segments upper))
      one_more e = omega (arith, e)

  upper_filled : list_any is_empty (segments kind) ≡ false → list_any is_empty (segments upper) ≡ false
  upper_filled e =
      sym (any_empty-fold (segments upper))
      ∙ any_front is_empty (map fold (segments upper)) (c.last ∷ [])
      (sym (ap (list_any is_empty) c.is) ∙ any_empty-fold (segments kind) ∙ e)

  -- a child that is made has a parent that is made
  parent_made : (ns : List (List ℕ)) (n : List ℕ) → is_made place kind (ns ++ n ∷ []) ≡ true
      → is_made place upper ns ≡ true
  parent_made ns n e =
      let a = both (is_whole (made place kind (ns ++ n ∷ []))) (not (list_any has_slash (ns ++ n ∷ []))) e in
      let w = whole_is place kind (ns ++ n ∷ []) a.0 in
      and_true (is_whole (made place upper ns)) (not (list_any has_slash ns))
      (is_whole_of place upper ns (record {
        subscription = w.subscription;
        group = w.group;
        types = upper_filled w.types;
        names = any_front is_empty ns (n ∷ []) w.names;
        paired = one_less (sym longer ∙ w.paired);
        some = some_names (sym longer ∙ w.paired) c.parent;
      }))
      (not_from_false (list_any has_slash ns) (any_front has_slash ns (n ∷ []) (of_not (list_any has_slash (ns ++ n
      ∷ [])) a.1)))
    where
      one_less : suc (length (segments upper)) ≡ suc (length (ns ++ n ∷ []))
          → length (segments upper) ≡ suc (length ns)
      one_less e = omega (arith, length-append ns (n ∷ []))

      some_names : suc (length (segments upper)) ≡ suc (length (ns ++ n ∷ []))
          → 1 < length (segments upper) → 0 < length ns
      some_names e h = omega (arith, length-append ns (n ∷ []))

  last_cut : (ns : List (List ℕ)) (n : List ℕ) → list_any has_slash (ns ++ n ∷ []) ≡ false → has_slash n ≡ false
  last_cut ns n e = or_left (has_slash n) false (any_back has_slash ns (n ∷ []) e)

  -- whether a child is made
  child_is : (ns : List (List ℕ)) (n : List ℕ)
      → is_made place kind (ns ++ n ∷ [])
      ≡ (is_made place upper ns && (not (has_slash n) && is_whole (made place kind (ns ++ n ∷ []))))
  child_is ns n = both_ways (is_made place kind (ns ++ n ∷ [])) _ forth back
    where
      forth : is_made place kind (ns ++ n ∷ []) ≡ true
          → (is_made place upper ns && (not (has_slash n) && is_whole (made place kind (ns ++ n ∷ [])))) ≡ true
      forth e =
          let a = both (is_whole (made place kind (ns ++ n ∷ []))) (not (list_any has_slash (ns ++ n ∷ []))) e in
          and_true (is_made place upper ns) (not (has_slash n) && is_whole (made place kind (ns ++ n
          ∷ []))) (parent_made ns n e)
          (and_true (not (has_slash n)) (is_whole (made place kind (ns ++ n ∷ [])))
          (not_from_false (has_slash n) (last_cut ns n (of_not (list_any has_slash (ns ++ n ∷ [])) a.1))) a.0)

      back : (is_made place upper ns && (not (has_slash n) && is_whole (made place kind (ns ++ n ∷ [])))) ≡ true
          → is_made place kind (ns ++ n ∷ []) ≡ true
      back e =
          let a = both (is_made place upper ns) (not (has_slash n) && is_whole (made place kind (ns ++ n ∷ []))) e in
          let b = both (is_whole (made place upper ns)) (not (list_any has_slash ns)) a.0 in
          let d = both (not (has_slash n)) (is_whole (made place kind (ns ++ n ∷ []))) a.1 in
          and_true (is_whole (made place kind (ns ++ n ∷ []))) (not (list_any has_slash (ns ++ n ∷ []))) d.1
          (not_from_false (list_any has_slash (ns ++ n ∷ []))
          (any_none has_slash ns (n ∷ []) (of_not (list_any has_slash ns) b.1)
          (nor (has_slash n) false (of_not (has_slash n) d.0) refl)))

  child_by : (ns : List (List ℕ)) (n : List ℕ) (p q w m : Bool) → m ≡ (p && (not q && w))
      → (if m then Some (made place kind (ns ++ n ∷ [])) else None)
      ≡ option_and_then (λ i. if q then None else (if w then Some (id_with i kind n) else None))
      (if p then Some (made place upper ns) else None)
  child_by ns n true true w m e = ap (λ m. if m then Some (made place kind (ns ++ n ∷ [])) else None) e
  child_by ns n true false true m e = ap (λ m. if m then Some (made place kind (ns ++ n ∷ [])) else None) e
  child_by ns n true false false m e = ap (λ m. if m then Some (made place kind (ns ++ n ∷ [])) else None) e
  child_by ns n false q w m e = ap (λ m. if m then Some (made place kind (ns ++ n ∷ [])) else None) e

  child_whole : (ns : List (List ℕ)) (n : List ℕ) (p : Bool) → is_made place upper ns ≡ p
      → made_whole place kind (ns ++ n ∷ [])
      ≡ option_and_then (λ i. id_after kind i (text n)) (if p then Some (made place upper ns) else None)
  child_whole ns n true e =
      child_by ns n true (has_slash n) (is_whole (made place kind (ns ++ n ∷ []))) (is_made place kind (ns ++ n ∷ []))
      (child_is ns n ∙ ap (λ p. p && (not (has_slash n) && is_whole (made place kind (ns ++ n ∷ [])))) e)
  child_whole ns n false e =
      child_by ns n false (has_slash n) (is_whole (made place kind (ns ++ n ∷ []))) (is_made place kind (ns ++ n ∷ []))
      (child_is ns n ∙ ap (λ p. p && (not (has_slash n) && is_whole (made place kind (ns ++ n ∷ [])))) e)

  texts_last : (vs : List Json) (v : Json)
      → texts_in (vs ++ v ∷ []) ≡ option_and_then (λ ts. option_map (λ t. ts ++ t ∷ []) (text_of v)) (texts_in vs)
  unfolding texts_in
  texts_last [] v = one_more (text_of v)
    where
      one_more : (o : Option (List ℕ))
          → option_and_then (λ s. option_map (λ ss. s ∷ ss) (Some [])) o ≡ option_map (λ t. [] ++ t ∷ []) o
      one_more (Some t) = refl
      one_more None = refl
  texts_last (u ∷ vs) v = front (text_of u) (texts_in (vs ++ v ∷ [])) (texts_in vs) (texts_last vs v)
    where
      after_texts : (o : Option (List (List ℕ))) → Option (List (List ℕ))
      after_texts o = option_and_then (λ ts. option_map (λ t. ts ++ t ∷ []) (text_of v)) o

      in_front : (s : List ℕ) (o : Option (List (List ℕ)))
          → option_map (λ ss. s ∷ ss) (after_texts o) ≡ after_texts (option_map (λ ss. s ∷ ss) o)
      in_front s None = refl
      in_front s (Some ts) = by_text (text_of v)
        where
          by_text : (o : Option (List ℕ))
              → option_map (λ ss. s ∷ ss) (option_map (λ t. ts ++ t ∷ []) o) ≡ option_map (λ t. (s ∷ ts) ++ t ∷ []) o
          by_text (Some t) = refl
          by_text None = refl

      front : (o : Option (List ℕ)) (p q : Option (List (List ℕ))) → p ≡ after_texts q
          → option_and_then (λ s. option_map (λ ss. s ∷ ss) p) o
          ≡ after_texts (option_and_then (λ s. option_map (λ ss. s ∷ ss) q) o)
      front (Some s) p q e = ap (option_map (λ (ss : List (List ℕ)). s ∷ ss)) e ∙ in_front s q
      front None p q e = refl

  no_text : (o : Option (List (List ℕ))) (v : Json) → text_of v ≡ None
      → ((i : ResourceId) → id_after kind i v ≡ None)
      → option_and_then (made_whole place kind) (option_and_then (λ ts. option_map (λ t. ts ++ t ∷ []) (text_of v)) o)
      ≡ option_and_then (λ i. id_after kind i v) (option_and_then (made_whole place upper) o)
  no_text None v e h = refl
  no_text (Some ns) v e h =
      ap (λ o. option_and_then (made_whole place kind) (option_map (λ t. ns ++ t ∷ []) o)) e
      ∙ sym (nothing_after (made_whole place upper ns))
    where
      nothing_after : (o : Option ResourceId) → option_and_then (λ i. id_after kind i v) o ≡ None
      nothing_after (Some i) = h i
      nothing_after None = refl

  by_value : (o : Option (List (List ℕ))) (v : Json)
      → option_and_then (made_whole place kind) (option_and_then (λ ts. option_map (λ t. ts ++ t ∷ []) (text_of v)) o)
      ≡ option_and_then (λ i. id_after kind i v) (option_and_then (made_whole place upper) o)
  by_value None (text n) = refl
  by_value (Some ns) (text n) = child_whole ns n (is_made place upper ns) refl
  by_value o null = no_text o null refl (λ i. refl)
  by_value o (bool b) = no_text o (bool b) refl (λ i. refl)
  by_value o (int z) = no_text o (int z) refl (λ i. refl)
  by_value o (array js) = no_text o (array js) refl (λ i. refl)
  by_value o (object ms) = no_text o (object ms) refl (λ i. refl)

  pub made_child : (vs : List Json) (v : Json)
      → made_of place kind (vs ++ v ∷ []) ≡ option_and_then (λ i. id_after kind i v) (made_of place upper vs)
  made_child vs v = ap (option_and_then (made_whole place kind)) (texts_last vs v) ∙ by_value (texts_in vs) v
