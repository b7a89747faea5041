-- What the parts of a name are, by the value of the name.
use Rattle.std.proofs.Common.{◌≡◌, ℕ, zero, suc, drop, List, [], ◌∷◌, ◌++◌, map, max, Option, Some, None}
use Rattle.std.proofs.Common.{refl, ap, ◌∙◌}
use Rattle.std.specs.List.{flat_map}
use Rattle.std.specs.Prelude.{pos, nat_le, slice_get, option_map, option_and_then, if◌then◌else◌}
use Rattle.arm_value.proofs.SameLemmas.{items-row}
use Rattle.arm_value.specs.Json.{Json, int, text, array, items, row, row_nesting}
use Rattle.arm_ids.specs.Segments.{segments, slashed, joined}
use Rattle.function_lists.specs.Values as lists
use Rattle.function_lists.specs.Ends.{without_front}
use Rattle.function_prints.specs.Printed.{printed, joined_by, join_items}
use Rattle.function_prints.specs.Cuts as cuts
use Rattle.reading.specs.Reading.{joined as joined_options}
use Rattle.arm_env.specs.Part.{part_of}
use Rattle.bicep_emission.proofs.KeptLemmas.{kept_of}
use Rattle.emitted_declarations.proofs.SplitLemmas.{slash, pieces_are}
use Rattle.emitted_declarations.proofs.NameLemmas.{names_from}

-- ---- the value of each part

abbrev pub split_of : Json → Option Json
split_of v = kept_of (cuts.split_by v (text slash))

abbrev pub segment_of : ℕ → Json → Option Json
segment_of i v = option_and_then (λ a. kept_of (part_of a (int (pos i)))) (split_of v)

abbrev pub rest_of : ℕ → Json → Option Json
rest_of i v =
    option_and_then (λ a. kept_of (join_items a (text slash)))
    (option_and_then (λ a. kept_of (without_front a (int (pos i)))) (split_of v))

abbrev front_of : Option Json → Option (List Json) → Option (List Json)
front_of o p = option_map (λ q. q.0 ∷ q.1) (joined_options o p)

-- the values of n segments from number i on, and of what is after them
abbrev pub values_from : ℕ → ℕ → Json → Option (List Json)
values_from i zero v = option_map (λ a. a ∷ []) (rest_of i v)
values_from i (suc n) v = front_of (segment_of i v) (values_from (suc i) n v)

-- ---- of a text

texts_nest : (ss : List (List ℕ)) → row_nesting (row (map text ss)) ≡ 0
texts_nest [] = refl
texts_nest (s ∷ ss) = ap (max 0) (texts_nest ss)

kept_texts : (ss : List (List ℕ)) → kept_of (lists.array_of (map text ss)) ≡ Some (array (row (map text ss)))
unfolding lists.array_of
kept_texts ss =
    ap (λ n. kept_of (if nat_le (suc n) 120 then Some (array (row (map text ss))) else None)) (texts_nest ss)
    ∙ ap (λ n. if nat_le (suc n) 100 then Some (array (row (map text ss))) else None) (texts_nest ss)

split_text : (t : List ℕ) → split_of (text t) ≡ Some (array (row (map text (segments t))))
split_text t = ap (λ ss. kept_of (lists.array_of (map text ss))) (pieces_are t) ∙ kept_texts (segments t)

item_text : (ss : List (List ℕ)) (i : ℕ)
    → kept_of (slice_get (items (row (map text ss))) i) ≡ option_map text (slice_get ss i)
item_text [] zero = refl
item_text [] (suc i) = refl
item_text (s ∷ ss) zero = refl
item_text (s ∷ ss) (suc i) = item_text ss i

segment_text : (t : List ℕ) (i : ℕ) → segment_of i (text t) ≡ option_map text (slice_get (segments t) i)
segment_text t i = ap (option_and_then (λ (a : Json). kept_of (part_of a (int (pos i))))) (split_text t)
    ∙ item_text (segments t) i

drop_texts : (ss : List (List ℕ)) (i : ℕ) → drop i (items (row (map text ss))) ≡ map text (drop i ss)
drop_texts ss zero = items-row (map text ss)
drop_texts [] (suc i) = refl
drop_texts (s ∷ ss) (suc i) = drop_texts ss i

after_first : (ss : List (List ℕ)) → flat_map (λ k. slash ++ printed k) (map text ss) ≡ slashed ss
after_first [] = refl
after_first (s ∷ ss) = ap (λ (r : List ℕ). 47 ∷ (s ++ r)) (after_first ss)

texts_joined : (ss : List (List ℕ)) → joined_by slash (map text ss) ≡ joined ss
texts_joined [] = refl
texts_joined (s ∷ ss) = ap (λ (r : List ℕ). s ++ r) (after_first ss)

rest_text : (t : List ℕ) (i : ℕ) → rest_of i (text t) ≡ Some (text (joined (drop i (segments t))))
rest_text t i =
    ap (λ o. option_and_then (λ (a : Json). kept_of (join_items a (text slash)))
    (option_and_then (λ (a : Json). kept_of (without_front a (int (pos i)))) o)) (split_text t)
    ∙ ap (λ js. option_and_then (λ (a : Json). kept_of (join_items a (text slash))) (kept_of (lists.array_of js)))
    (drop_texts (segments t) i)
    ∙ ap (option_and_then (λ (a : Json). kept_of (join_items a (text slash)))) (kept_texts (drop i (segments t)))
    ∙ ap (λ js. kept_of (Some (text (joined_by slash js)))) (items-row (map text (drop i (segments t))))
    ∙ ap (λ r. kept_of (Some (text r))) (texts_joined (drop i (segments t)))

-- the parts of a text are names
abbrev as_texts : Option (List (List ℕ)) → Option (List Json)
as_texts o = option_map (map text) o

front_texts : (s : List ℕ) (o : Option (List (List ℕ)))
    → front_of (Some (text s)) (as_texts o) ≡ as_texts (option_map (λ ns. s ∷ ns) o)
front_texts s (Some ns) = refl
front_texts s None = refl

front_none : (p : Option (List Json)) → front_of None p ≡ None
front_none (Some js) = refl
front_none None = refl

dropped : (ss : List (List ℕ)) (i : ℕ) (rest : List (List ℕ)) → drop i ss ≡ rest
    → slice_get ss i ≡ slice_get rest 0
dropped [] zero rest e = ap (λ (r : List (List ℕ)). slice_get r 0) e
dropped [] (suc i) rest e = ap (λ (r : List (List ℕ)). slice_get r 0) e
dropped (s ∷ ss) zero rest e = ap (λ (r : List (List ℕ)). slice_get r 0) e
dropped (s ∷ ss) (suc i) rest e = dropped ss i rest e

drop_next : (ss : List (List ℕ)) (i : ℕ) (s : List ℕ) (rest : List (List ℕ)) → drop i ss ≡ s ∷ rest
    → drop (suc i) ss ≡ rest
drop_next [] zero s rest e = cc
drop_next [] (suc i) s rest e = cc
drop_next (t ∷ ss) zero s rest e = cc
drop_next (t ∷ ss) (suc i) s rest e = drop_next ss i s rest e

text_values : (t : List ℕ) (n i : ℕ) (rest : List (List ℕ)) → drop i (segments t) ≡ rest
    → values_from i n (text t) ≡ as_texts (names_from rest n)
text_values t zero i rest e =
    ap (option_map (λ (a : Json). a ∷ [])) (rest_text t i) ∙ ap (λ (r : List (List ℕ)). Some (text (joined r) ∷ [])) e
    ∙ same_one rest
  where
    same_one : (rest : List (List ℕ)) → Some (text (joined rest) ∷ []) ≡ as_texts (names_from rest 0)
    same_one [] = refl
    same_one (s ∷ ss) = refl
text_values t (suc n) i [] e =
    ap (λ o. front_of o (values_from (suc i) n (text t))) (segment_text t i
    ∙ ap (option_map text) (dropped (segments t) i [] e))
    ∙ front_none (values_from (suc i) n (text t))
text_values t (suc n) i (s ∷ rest) e =
    ap (λ o. front_of o (values_from (suc i) n (text t)))
    (segment_text t i ∙ ap (option_map text) (dropped (segments t) i (s ∷ rest) e))
    ∙ ap (front_of (Some (text s))) (text_values t n (suc i) rest (drop_next (segments t) i s rest e))
    ∙ front_texts s (names_from rest n)

pub values_are : (t : List ℕ) (n : ℕ) → values_from 0 n (text t) ≡ option_map (map text) (names_from (segments t) n)
values_are t n = text_values t n 0 (segments t) refl

-- what is no text has no parts
pub no_values : (v : Json) (n : ℕ) → split_of v ≡ None → values_from 0 n v ≡ None
no_values v zero e = ap (λ o. option_map (λ (a : Json). a
    ∷ []) (option_and_then (λ (a : Json). kept_of (join_items a (text slash)))
    (option_and_then (λ (a : Json). kept_of (without_front a (int (pos 0)))) o))) e
no_values v (suc n) e =
    ap (λ o. front_of (option_and_then (λ (a : Json). kept_of (part_of a (int (pos 0)))) o) (values_from 1 n v)) e
    ∙ front_none (values_from 1 n v)
