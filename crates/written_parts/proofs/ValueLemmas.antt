-- Values that are read out of a value and written again: they are the same, and nest as deep.
use Rattle.std.proofs.Common.{◌≡◌, ◌≤◌, ◌+◌, ℕ, ℤ, max, Bool, true, false}
use Rattle.std.proofs.Common.{List, [], ◌∷◌, map, Option, Some, None, option_map, refl, sym, ap, ap₂, subst}
use Rattle.std.proofs.Common.{arith, if◌then◌else◌}
use Rattle.arm_expr.specs.Brackets.{escaped}
use Rattle.arm_expr.proofs.BracketLemmas.{meaning-escaped}
use Rattle.arm_value.specs.Json.{Json, null, bool, int, text, array, object, Row, no_items, item, row, items}
use Rattle.arm_value.specs.Json.{Pairs, no_pairs, pair, nesting, row_nesting}
use Rattle.arm_value.specs.View.{json}
use Rattle.arm_value.proofs.TreeLemmas.{row-items}
use Rattle.plain_values.specs.Plain.{each_text, row_texts, pairs_texts, meant_text, meant, written_plainly}
use Rattle.plain_values.proofs.TextsLemmas.{nesting-each_text}
use Rattle.template_meaning.specs.Values.{optional, value_in}
use Rattle.template_meaning.specs.Parts.{allowed_in}
use Rattle.template_meaning.proofs.ValueLemmas.{tree_back}
use Rattle.template_members.specs.Objects.{Single, Rule, object_fault}
use Rattle.template_members.specs.Parameters.{plain_fault, row_plain_fault, pairs_plain_fault, unless_plain}
use Rattle.template_members.specs.Parameters.{allowed_fault}
use Rattle.template_members.specs.Parameters.{int_fault}
use Rattle.template_parts.specs.declared.fault.TemplateFault.{TemplateFault}
use Rattle.template_values.specs.Order.{missing, has, to_item, to_member}
use Rattle.template_written.specs.Slots.{NestsWithin}
use Rattle.written_parts.proofs.FaultLemmas.{Holds, Sound, sound_members, then_nothing}

-- ---- values

pub kept : (P : Json → Type 0) (o : Option Json) → Holds P o → Holds P (option_map json (optional o))
kept P None h = tt
kept P (Some j) h = subst P (sym (tree_back j)) h

pub kept_value : (P : Json → Type 0) → P null → (o : Option Json) → Holds P o → P (json (value_in o))
kept_value P n None h = n
kept_value P n (Some j) h = subst P (sym (tree_back j)) h

pub within_kept : (n : ℕ) (o : Option Json) → NestsWithin n o → NestsWithin n (option_map json (optional o))
within_kept n None h = tt
within_kept n (Some j) h = omega (arith, h, ap nesting (tree_back j))

pub within_value : (n : ℕ) (o : Option Json) → NestsWithin n o → nesting (json (value_in o)) ≤ n
within_value n None h = omega arith
within_value n (Some j) h = omega (arith, h, ap nesting (tree_back j))

pub within_more : (n m : ℕ) (o : Option Json) → n ≤ m → NestsWithin n o → NestsWithin m o
within_more n m None l h = tt
within_more n m (Some j) l h = omega (arith, l, h)

-- ---- numbers

pub int_passes : (o : Option ℤ) → Holds (λ j. int_fault j ≡ None) (option_map int o)
int_passes None = tt
int_passes (Some z) = refl

pub int_within : (n : ℕ) (o : Option ℤ) → NestsWithin n (option_map int o)
int_within n None = tt
int_within n (Some z) = omega arith

-- ---- values without expressions

mutual
  plain_passes : (j : Json) → plain_fault (written_plainly j) ≡ None
  plain_passes null = refl
  plain_passes (bool b) = refl
  plain_passes (int z) = refl
  plain_passes (text t) = ap unless_plain (meaning-escaped t)
  plain_passes (array js) = row_passes 0 js
  plain_passes (object ms) = pairs_pass ms

  row_passes : (i : ℕ) (js : Row) → row_plain_fault i (row_texts escaped js) ≡ None
  row_passes i no_items = refl
  row_passes i (item j js) =
      then_nothing (to_item i) (plain_fault (written_plainly j)) (row_plain_fault (i + 1) (row_texts escaped js))
      (plain_passes j) (row_passes (i + 1) js)

  pairs_pass : (ms : Pairs) → pairs_plain_fault (pairs_texts escaped ms) ≡ None
  pairs_pass no_pairs = refl
  pairs_pass (pair k j ms) =
      then_nothing (to_member k) (plain_fault (written_plainly j)) (pairs_plain_fault (pairs_texts escaped ms))
      (plain_passes j) (pairs_pass ms)

list_passes : (i : ℕ) (js : List Json) → row_plain_fault i (row (map written_plainly js)) ≡ None
list_passes i [] = refl
list_passes i (j ∷ js) =
    then_nothing (to_item i) (plain_fault (written_plainly j)) (row_plain_fault (i + 1) (row (map written_plainly js)))
    (plain_passes j) (list_passes (i + 1) js)

pub allowed_passes : (o : Option (List Json))
    → Holds (λ j. allowed_fault j ≡ None) (option_map (λ js. array (row (map written_plainly js))) o)
allowed_passes None = tt
allowed_passes (Some js) = list_passes 0 js

each_nests : (f : List ℕ → List ℕ) (js : List Json) → row_nesting (row (map (each_text f) js)) ≡ row_nesting (row js)
each_nests f [] = refl
each_nests f (j ∷ js) = ap₂ max (nesting-each_text f j) (each_nests f js)

pub allowed_within : (n : ℕ) (o : Option Json) → Holds (λ j. allowed_fault j ≡ None) o → NestsWithin n o
    → NestsWithin n (option_map (λ js. array (row (map written_plainly js))) (allowed_in o))
allowed_within n None h w = tt
allowed_within n (Some null) h w = cc
allowed_within n (Some (bool b)) h w = cc
allowed_within n (Some (int z)) h w = cc
allowed_within n (Some (text t)) h w = cc
allowed_within n (Some (array js)) h w =
    omega (arith, w, each_nests escaped (map meant (items js)), meant_nests (items js), ap row_nesting (row-items js))
  where
    meant_nests : (ks : List Json) → row_nesting (row (map meant ks)) ≡ row_nesting (row ks)
    meant_nests [] = refl
    meant_nests (k ∷ ks) = ap₂ max (nesting-each_text meant_text k) (meant_nests ks)
allowed_within n (Some (object ms)) h w = cc

-- ---- objects

-- what holds of each object whose members are not refused, holds of each value that is not refused
pub by_object : (required : List (List ℕ)) (single : Single) (rule : Rule) (G : Json → Type 0)
    → ((ms : Pairs) → Sound required single rule ms → G (object ms)) → (j : Json)
    → object_fault required single rule j ≡ None → G j
by_object required single rule G h null e = cc
by_object required single rule G h (bool b) e = cc
by_object required single rule G h (int z) e = cc
by_object required single rule G h (text t) e = cc
by_object required single rule G h (array js) e = cc
by_object required single rule G h (object ms) e = h ms (sound_members required single rule ms e)

-- each of these names is that of a member
abbrev pub AllThere : List (List ℕ) → Pairs → Type 0
AllThere [] ms = Unit {0}
AllThere (n ∷ ns) ms = (has n ms ≡ true) × AllThere ns ms

pub missing_none : (required : List (List ℕ)) (ms : Pairs) → missing required ms ≡ None → AllThere required ms
missing_none [] ms e = tt
missing_none (n ∷ ns) ms e = by_test (has n ms) refl (λ g. missing_none ns ms g) e
  where
    by_test : (b : Bool) → has n ms ≡ b → (missing ns ms ≡ None → AllThere ns ms)
        → (if b then missing ns ms else Some n) ≡ None
        → (has n ms ≡ true) × AllThere ns ms
    by_test true f h g = (f, h g)
    by_test false f h g = cc

-- a written value is not refused, and nests no deeper
abbrev pub Kept : (Json → Option TemplateFault) → Json → Json → Type 0
Kept fault j w = (fault w ≡ None) × (nesting w ≤ nesting j)
