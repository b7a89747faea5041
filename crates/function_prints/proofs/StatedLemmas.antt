-- A tree and its data of `serde_json`.
use Rattle.std.proofs.Common.{◌≡◌, ◌<◌, ◌≤◌, ◌+◌, ◌*◌, ◌-◌, ◌/◌, ◌%◌, ◌^◌, ℕ, zero, suc, ℤ, pos, negsuc, Bool, true}
use Rattle.std.proofs.Common.{false, nat_le, List, [], ◌∷◌, ◌++◌, Option, Some, None, is_some, cond, ltb, option_map}
use Rattle.std.proofs.Common.{option_and_then, encode_utf8_all, refl, ap, sym, ◌∙◌, arith}
use Rattle.std.specs.Prelude.{IsSomeAnd, if◌then◌else◌}
use Rattle.std.specs.Char.{encode_utf8}
use Rattle.std.specs.Str.{chars, chars_after, continuation_len, lead_bits}
use Rattle.std.specs.Prelude.{nat_lt}
use Rattle.std.proofs.lemmas.Str.{chars-nil}
use Rattle.std.proofs.lemmas.Bool.Decides.{nat_tests}
use Rattle.serde_json.specs.Data as d
use Rattle.serde_json.specs.Find.{as_i64, of_integer}
use Rattle.arm_value.specs.Json.{Json, null, bool, int, text, array, object, Row, no_items, item, Pairs, no_pairs, pair}
use Rattle.arm_value.specs.Fault.{Gives}
use Rattle.arm_value.specs.Reading.{data_of, row_data, pairs_data, or_else, not_whole, items_not_whole}
use Rattle.arm_value.specs.Reading.{members_not_whole}
use Rattle.function_prints.specs.Stated.{tree_of, row_of, pairs_of, shallow_tree}
use Rattle.arm_value.proofs.DataLemmas.{mapped_none, or_else_first, or_else_none}
use Rattle.function_texts.proofs.Comparisons.{le_true}

-- ---- data of a tree

whole : (c : ℕ) (bs : List ℕ) → chars_after zero c bs ≡ c ∷ chars bs
unfolding chars
whole c [] = refl
whole c (b ∷ bs) = refl

led : (a n v : ℕ) (bs : List ℕ) → n ≡ continuation_len a → v ≡ lead_bits a → chars (a ∷ bs) ≡ chars_after n v bs
unfolding chars
led a n v bs p q = λ i. chars_after (sym p i) (sym q i) bs

from_four : (c : ℕ) (rest : List ℕ) → 65536 ≤ c
    → chars ((240 + c / 262144) ∷ (128 + c / 4096 % 64) ∷ (128 + c / 64 % 64) ∷ (128 + c % 64) ∷ rest) ≡ c
    ∷ chars rest
from_four c rest h =
    let is : (((240 + c / 262144 - 240) * 64 + (128 + c / 4096 % 64 - 128)) * 64 + (128 + c / 64 % 64 - 128)) * 64
    + (128 + c % 64 - 128) ≡ c = omega arith in
    led (240 + c / 262144) (suc (suc (suc zero))) (240 + c / 262144 - 240) _ (grind arith) (grind arith)
    ∙ whole _ rest ∙ ap (λ y. y ∷ chars rest) is

from_three : (c : ℕ) (rest : List ℕ) → 2048 ≤ c → c < 65536
    → chars ((224 + c / 4096) ∷ (128 + c / 64 % 64) ∷ (128 + c % 64) ∷ rest) ≡ c ∷ chars rest
from_three c rest l h =
    let is : ((224 + c / 4096 - 224) * 64 + (128 + c / 64 % 64 - 128)) * 64 + (128 + c % 64 - 128) ≡ c = omega arith in
    let below : c / 4096 < 16 = omega arith in
    led (224 + c / 4096) (suc (suc zero)) (224 + c / 4096 - 224) _ (grind arith) (grind arith)
    ∙ whole _ rest ∙ ap (λ y. y ∷ chars rest) is

from_two : (c : ℕ) (rest : List ℕ) → 128 ≤ c → c < 2048
    → chars ((192 + c / 64) ∷ (128 + c % 64) ∷ rest) ≡ c ∷ chars rest
from_two c rest l h =
    let is : (192 + c / 64 - 192) * 64 + (128 + c % 64 - 128) ≡ c = omega arith in
    let below : c / 64 < 32 = omega arith in
    led (192 + c / 64) (suc zero) (192 + c / 64 - 192) _ (grind arith) (grind arith)
    ∙ whole _ rest ∙ ap (λ y. y ∷ chars rest) is

from_one : (c : ℕ) (rest : List ℕ) → c < 128 → chars (c ∷ rest) ≡ c ∷ chars rest
from_one c rest h = led c zero c rest (grind arith) (grind arith) ∙ whole c rest

by_range : (x y z : Bool) (c : ℕ) (rest : List ℕ) → ltb c 128 ≡ x → ltb c 2048 ≡ y → ltb c 65536 ≡ z
    → chars
    (cond x (c ∷ [])
    (cond y ((192 + c / 64) ∷ (128 + c % 64) ∷ [])
    (cond z ((224 + c / 4096) ∷ (128 + c / 64 % 64) ∷ (128 + c % 64) ∷ [])
    ((240 + c / 262144) ∷ (128 + c / 4096 % 64) ∷ (128 + c / 64 % 64) ∷ (128 + c % 64) ∷ []))) ++ rest) ≡ c
    ∷ chars rest
by_range true y z c rest a b d = from_one c rest (grind (arith, nat_tests))
by_range false true z c rest a b d = from_two c rest (grind (arith, nat_tests)) (grind (arith, nat_tests))
by_range false false true c rest a b d = from_three c rest (grind (arith, nat_tests)) (grind (arith, nat_tests))
by_range false false false c rest a b d = from_four c rest (grind (arith, nat_tests))

from_encode : (c : ℕ) (rest : List ℕ) → chars (encode_utf8 c ++ rest) ≡ c ∷ chars rest
unfolding encode_utf8
from_encode c rest = by_range (ltb c 128) (ltb c 2048) (ltb c 65536) c rest refl refl refl

-- the characters of a list's bytes are the list, whatever numbers these are
pub chars-encodes_all : (s : List ℕ) → chars (encode_utf8_all s) ≡ s
chars-encodes_all [] = chars-nil
chars-encodes_all (c ∷ cs) = from_encode c (encode_utf8_all cs) ∙ ap (λ r. c ∷ r) (chars-encodes_all cs)

number_tree : (z : ℤ) → not_whole (d.number (of_integer z)) ≡ None → as_i64 (of_integer z) ≡ Some z
number_tree (pos n) e = whole_unsigned (nat_lt n (2 ^ 63)) n e
  where
    whole_unsigned : (b : Bool) (n : ℕ)
        → ◌≡◌ {A = Option (List ℕ)} (if is_some {T = ℤ} (if b then Some (pos n) else None) then None else Some [])
        None → (if b then Some (pos n) else None) ≡ Some (pos n)
    whole_unsigned true n e = refl
    whole_unsigned false n e = absurd (cc)
number_tree (negsuc n) e = refl

mutual
  pub tree_of-data_of : (j : Json) → not_whole (data_of j) ≡ None → tree_of (data_of j) ≡ Some j
  tree_of-data_of null e = refl
  tree_of-data_of (bool b) e = refl
  tree_of-data_of (int z) e = ap (option_map int) (number_tree z e)
  tree_of-data_of (text s) e = ap (λ t. Some (text t)) (chars-encodes_all s)
  tree_of-data_of (array js) e = ap (option_map array) (row_of-row_data 0 js e)
  tree_of-data_of (object ms) e = ap (option_map object) (pairs_of-pairs_data ms e)

  row_of-row_data : (i : ℕ) (js : Row) → items_not_whole i (row_data js) ≡ None → row_of (row_data js) ≡ Some js
  row_of-row_data i no_items e = refl
  row_of-row_data i (item j js) e =
      let here : tree_of (data_of j) ≡ Some j = tree_of-data_of j (mapped_none _ _ (or_else_first _ _ e)) in
      let after : row_of (row_data js) ≡ Some js = row_of-row_data (suc i) js (or_else_none _ _ e) in
      rw (here, after) refl

  pairs_of-pairs_data : (ms : Pairs) → members_not_whole (pairs_data ms) ≡ None → pairs_of (pairs_data ms) ≡ Some ms
  pairs_of-pairs_data no_pairs e = refl
  pairs_of-pairs_data (pair k j ms) e =
      let here : tree_of (data_of j) ≡ Some j = tree_of-data_of j (mapped_none _ _ (or_else_first _ _ e)) in
      let after : pairs_of (pairs_data ms) ≡ Some ms = pairs_of-pairs_data ms (or_else_none _ _ e) in
      rw (here, after, chars-encodes_all k) refl

-- ---- data that is no tree

-- of two parts one of which is no tree the whole is none
both_none : {A B C : Type 0} (f : A → B → C) (a : Option A) (b : Option B) (front : List ℕ → List ℕ)
    (x y : Option (List ℕ)) (q : List ℕ)
    → ((r : List ℕ) → x ≡ Some r → a ≡ None) → ((r : List ℕ) → y ≡ Some r → b ≡ None)
    → or_else (option_map front x) y ≡ Some q
    → option_and_then (λ j. option_map (f j) b) a ≡ None
both_none f a b front (Some r) y q here after e = rw (here r refl) refl
both_none f None b front None y q here after e = refl
both_none f (Some j) b front None y q here after e = rw (after q e) refl

number_none : (n : d.Num) (p : List ℕ) → not_whole (d.number n) ≡ Some p → option_map int (as_i64 n) ≡ None
number_none n p e = by_number (as_i64 n) e
  where
    by_number : (o : Option ℤ) → (if is_some o then None else Some []) ≡ Some p → option_map int o ≡ None
    by_number None e = refl
    by_number (Some z) e = absurd (cc)

mutual
  pub tree_none : (x : d.Data) (p : List ℕ) → not_whole x ≡ Some p → tree_of x ≡ None
  tree_none d.null p e = absurd (cc)
  tree_none (d.boolean b) p e = absurd (cc)
  tree_none (d.number n) p e = number_none n p e
  tree_none (d.string s) p e = absurd (cc)
  tree_none (d.array ds) p e = ap (option_map array) (row_none 0 ds p e)
  tree_none (d.object ms) p e = ap (option_map object) (pairs_none ms p e)

  row_none : (i : ℕ) (ds : d.Items) (p : List ℕ) → items_not_whole i ds ≡ Some p → row_of ds ≡ None
  row_none i d.no_items p e = absurd (cc)
  row_none i (d.item x ds) p e = both_none item (tree_of x) (row_of ds) _ (not_whole x) (items_not_whole (suc i) ds) p
      (tree_none x) (row_none (suc i) ds) e

  pairs_none : (ms : d.Members) (p : List ℕ) → members_not_whole ms ≡ Some p → pairs_of ms ≡ None
  pairs_none d.no_members p e = absurd (cc)
  pairs_none (d.member k x ms) p e =
      both_none (pair (chars k)) (tree_of x) (pairs_of ms) _ (not_whole x) (members_not_whole ms) p (tree_none x)
      (pairs_none ms) e

-- ---- what is read

pub stated_tree : (o : Option d.Data) (j : Json) → Gives o j → Some j ≡ option_and_then shallow_tree o
stated_tree o j g =
    let shallow : nat_le (d.depth (data_of j)) 120 ≡ true = le_true _ 120 g.1 in
    rw (g.0, shallow) (sym (tree_of-data_of j g.2))

pub stated_none : (o : Option d.Data) (p : List ℕ) → IsSomeAnd o (λ x. (d.depth x ≤ 120) × (not_whole x ≡ Some p))
    → ◌≡◌ {A = Option Json} None (option_and_then shallow_tree o)
stated_none None p e = refl
stated_none (Some x) p e = shallow (nat_le (d.depth x) 120)
  where
    shallow : (b : Bool) → ◌≡◌ {A = Option Json} None (if b then tree_of x else None)
    shallow true = sym (tree_none x p e.1)
    shallow false = refl
