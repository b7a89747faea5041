-- Operators of one and two operands, literals, and accesses with a `?`.
use Rattle.std.proofs.Common.{◌≡◌, ℕ, List, [], ◌∷◌, Option, Some, None, true, false, codes, refl, sym, ap, ◌∙◌}
use Rattle.std.specs.Prelude.{pos, ℤ, option_and_then}
use Rattle.arm_value.specs.Json.{Json, null, bool, int, text, array, object}
use Rattle.expression_values.specs.Tree.{Tree, Trees, call}
use Rattle.expression_values.specs.Tree as tree
use Rattle.bicep_meaning.specs.Table.{table, row_in}
use Rattle.bicep_meaning.specs.Values.{function_value, value_of, of_numbers, of_truth, of_texts, of_lists}
use Rattle.expression_values.specs.Logic as logic
use Rattle.expression_values.specs.Numbers as number_functions
use Rattle.function_lists.specs.Members as members
use Rattle.reading.specs.Reading.{done, pure, continued}
use Rattle.expression_values.specs.Look.{Surroundings}
use Rattle.expression_values.specs.Names.{lazy_named, strict_named, placed_named}
use Rattle.expression_values.specs.Meaning.{value}
use Rattle.expression_values.proofs.Equations.{texts, numbers}
use Rattle.bicep_meaning.specs.Guarded.{Reads}
use Rattle.bicep_resolved.specs.Literal.{Literal}
use Rattle.bicep_resolved.specs.Literal.TheVariants as l
use Rattle.bicep_resolved.specs.Operator.{Operator}
use Rattle.bicep_resolved.specs.Operator.TheVariants as o
use Rattle.bicep_resolved.specs.Prefix.{Prefix}
use Rattle.bicep_resolved.specs.Prefix.TheVariants as prefix
use Rattle.bicep_meaning.specs.Rows.{all, capped, by_both, operator_value, operated, opposite, same_folded, prefix_value, literal_value}
use Rattle.bicep_emission.specs.Alike.{Seen, seen_in}
use Rattle.bicep_emission.specs.Answered.{Sides}
use Rattle.bicep_emission.specs.Emitted.{two, not_of, small, literal_of, binary_of, prefix_of, try_get}
use Rattle.bicep_emission.proofs.SeenLemmas.{then_seen, both_seen, done_seen}
use Rattle.bicep_emission.proofs.KeptLemmas.{kept_of}
use Rattle.bicep_emission.proofs.CallLemmas.{Like, seen, seen-on, seen-capped-on, like_done, like_one, like_two}
use Rattle.bicep_emission.proofs.CallLemmas.{like_plain}
use Rattle.bicep_emission.proofs.OperatorLemmas.{equal, lower, lowered_of, by_both_seen, after_two, small_two}
use Rattle.bicep_emission.proofs.OperatorLemmas.{like_and, like_or, like_coalesce}

-- equality of texts gives a truth value or nothing, which the cap keeps
same_bool : (v w : Json) → kept_of (same_folded v w) ≡ same_folded v w
same_bool (text s) (text t) = refl
same_bool (text s) null = refl
same_bool (text s) (bool b) = refl
same_bool (text s) (int z) = refl
same_bool (text s) (array js) = refl
same_bool (text s) (object ms) = refl
same_bool null w = refl
same_bool (bool b) w = refl
same_bool (int z) w = refl
same_bool (array js) w = refl
same_bool (object ms) w = refl

not_same : (v w : Json) → kept_of (option_and_then (λ u. logic.not (u ∷ [])) (kept_of (same_folded v w)))
    ≡ kept_of (opposite (same_folded v w))
not_same v w = ap (λ o. kept_of (option_and_then (λ u. logic.not (u ∷ [])) o)) (same_bool v w)

module _ (x : Sides) (here : Surroundings) (a b : Tree) (r s : Reads Json) (i : Like x (value here a) r)
    (j : Like x (value here b) s) where
  -- a function of two values that is the operator
  by_function : (name : List ℕ) (f : Json → Json → Option Json) → lazy_named name ≡ None → strict_named name ≡ None
      → ((v w : Json) → kept_of (function_value name (v ∷ w ∷ [])) ≡ kept_of (f v w))
      → Like x (value here (call name (two a b))) (capped (by_both f r s))
  by_function name f e h q = like_two x here name a b r s f e h q i j

  equals_like : Like x (value here (call (codes "equals") (two a b)))
      (capped (by_both (λ v w. logic.equals (v ∷ w ∷ [])) r s))
  unfolding lazy_named strict_named placed_named table row_in value_of of_truth
  equals_like = by_function (codes "equals") (λ v w. logic.equals (v ∷ w ∷ [])) refl refl (λ v w. refl)

  not_like : (f h : Json → Json → Option Json) (e : Tree) → Like x (value here e) (capped (by_both f r s))
      → ((v w : Json) → kept_of (option_and_then (λ u. logic.not (u ∷ [])) (kept_of (f v w))) ≡ kept_of (h v w))
      → Like x (value here (not_of e)) (capped (by_both h r s))
  unfolding lazy_named strict_named placed_named table row_in value_of of_truth
  not_like f h e k q =
      like_one x here (codes "not") e (capped (by_both f r s)) (λ u. logic.not (u ∷ [])) refl refl (λ v. refl) k
      ∙ after_two x f h (λ u. logic.not (u ∷ [])) r s q

  small_like : Like x (value here (call (codes "equals") (two (small a) (small b)))) (capped (by_both same_folded r s))
  unfolding lazy_named strict_named placed_named table row_in value_of of_truth of_texts
  small_like =
      like_two x here (codes "equals") (small a) (small b) (lowered_of r) (lowered_of s) equal refl refl (λ v w. refl)
      (like_one x here (codes "toLower") a r lower refl refl (λ v. refl) i)
      (like_one x here (codes "toLower") b s lower refl refl (λ v. refl) j)
      ∙ small_two x r s

  pub like_binary : (op : Operator) → Like x (value here (binary_of op a b)) (capped (operated op r s))
  unfolding lazy_named strict_named placed_named table row_in value_of of_truth of_numbers operator_value
  like_binary o.Coalesce = like_coalesce x here a b r s i j
  like_binary o.Or = like_or x here a b r s i j
  like_binary o.And = like_and x here a b r s i j
  like_binary o.Equals = by_function (codes "equals") (operator_value o.Equals) refl refl (λ v w. refl)
  like_binary o.Less = by_function (codes "less") (operator_value o.Less) refl refl (λ v w. refl)
  like_binary o.LessOrEqual = by_function (codes "lessOrEquals") (operator_value o.LessOrEqual) refl refl (λ v w. refl)
  like_binary o.Greater = by_function (codes "greater") (operator_value o.Greater) refl refl (λ v w. refl)
  like_binary o.GreaterOrEqual =
      by_function (codes "greaterOrEquals") (operator_value o.GreaterOrEqual) refl refl (λ v w. refl)
  like_binary o.Add = by_function (codes "add") (operator_value o.Add) refl refl (λ v w. refl)
  like_binary o.Subtract = by_function (codes "sub") (operator_value o.Subtract) refl refl (λ v w. refl)
  like_binary o.Multiply = by_function (codes "mul") (operator_value o.Multiply) refl refl (λ v w. refl)
  like_binary o.Divide = by_function (codes "div") (operator_value o.Divide) refl refl (λ v w. refl)
  like_binary o.Remainder = by_function (codes "mod") (operator_value o.Remainder) refl refl (λ v w. refl)
  like_binary o.NotEquals = not_like (λ v w. logic.equals (v ∷ w ∷ [])) (operator_value o.NotEquals)
      (call (codes "equals") (two a b)) equals_like (λ v w. refl)
  like_binary o.EqualsInsensitive = small_like
  like_binary o.NotEqualsInsensitive = not_like same_folded (operator_value o.NotEqualsInsensitive)
      (call (codes "equals") (two (small a) (small b))) small_like not_same

some_again : (o : Option Json) → option_and_then (λ v. Some v) o ≡ o
some_again (Some v) = refl
some_again None = refl

-- one of two values is known
known_first : (c : Json) (t : Seen Json) (f : Json → Json → Option Json)
    → then_seen (both_seen (done_seen (Some c)) t) (λ p. done_seen (kept_of (f p.0 p.1)))
    ≡ then_seen t (λ v. done_seen (kept_of (f c v)))
known_first c (Some v, true) f = refl
known_first c (Some v, false) f = refl
known_first c (None, true) f = refl
known_first c (None, false) f = refl

pub known_second : (c : Json) (s : Seen Json) (f : Json → Json → Option Json)
    → then_seen (both_seen s (done_seen (Some c))) (λ p. done_seen (kept_of (f p.0 p.1)))
    ≡ then_seen s (λ v. done_seen (kept_of (f v c)))
known_second c (Some v, b) f = refl
known_second c (None, b) f = refl

module _ (x : Sides) (here : Surroundings) where
  pure_seen : (v : Json) → seen x (pure v) ≡ done_seen (Some v)
  unfolding seen_in
  pure_seen v = refl

  pub with_first : (c : Json) (r : Reads Json) (f : Json → Json → Option Json)
      → seen x (capped (by_both f (pure c) r)) ≡ seen x (capped (continued r (λ v. done (f c v))))
  with_first c r f = by_both_seen x f (pure c) r
      ∙ ap (λ s. then_seen (both_seen s (seen x r)) (λ p. done_seen (kept_of (f p.0 p.1)))) (pure_seen c)
      ∙ known_first c (seen x r) f
      ∙ sym (seen-on x r (λ v. kept_of (f c v))) ∙ sym (seen-capped-on x r (λ v. f c v))

  pub with_second : (c : Json) (r : Reads Json) (f : Json → Json → Option Json)
      → seen x (capped (by_both f r (pure c))) ≡ seen x (capped (continued r (λ v. done (f v c))))
  with_second c r f = by_both_seen x f r (pure c)
      ∙ ap (λ s. then_seen (both_seen (seen x r) s) (λ p. done_seen (kept_of (f p.0 p.1)))) (pure_seen c)
      ∙ known_second c (seen x r) f
      ∙ sym (seen-on x r (λ v. kept_of (f v c))) ∙ sym (seen-capped-on x r (λ v. f v c))

  pub int_like : (z : ℤ) → Like x (value here (tree.int z)) (pure (int z))
  int_like z = ap (λ u. seen_in x.template x.template_marks u) (numbers here z) ∙ like_done x (Some (int z))

  pub text_like : (t : List ℕ) → Like x (value here (tree.text t)) (pure (text t))
  text_like t = ap (λ u. seen_in x.template x.template_marks u) (texts here t) ∙ like_done x (Some (text t))

  pub like_prefix : (p : Prefix) (a : Tree) (r : Reads Json) → Like x (value here a) r
      → Like x (value here (prefix_of p a)) (capped (continued r (λ v. done (prefix_value p v))))
  unfolding lazy_named strict_named placed_named table row_in value_of of_truth of_numbers
  like_prefix prefix.Not a r i =
      like_one x here (codes "not") a r (prefix_value prefix.Not) refl refl (λ v. refl) i
  like_prefix prefix.Negate a r i =
      like_two x here (codes "sub") (tree.int (pos 0)) a (pure (int (pos 0))) r (λ v w. number_functions.sub (v ∷ w
      ∷ []))
      refl refl (λ v w. refl) (int_like (pos 0)) i
      ∙ with_first (int (pos 0)) r (λ v w. number_functions.sub (v ∷ w ∷ []))

  pub like_literal : (v : Literal) → Like x (value here (literal_of v)) (capped (pure (literal_value v)))
  unfolding lazy_named strict_named placed_named table row_in value_of of_truth capped continued all
  like_literal (l.Number z) = int_like z
  like_literal (l.Text t) = text_like t
  like_literal l.True = like_plain x here (codes "true") tree.none [] refl refl tt
  like_literal l.False = like_plain x here (codes "false") tree.none [] refl refl tt
  like_literal l.Null = like_plain x here (codes "null") tree.none [] refl refl tt

  -- ---- accesses with a `?`

  pub like_try : (a i : Tree) (r s : Reads Json) → Like x (value here a) r → Like x (value here i) s
      → Like x (value here (try_get a i)) (capped (by_both members.part_of r s))
  unfolding lazy_named strict_named placed_named table row_in value_of of_lists members.part_along
  like_try a i r s h k = like_two x here (codes "tryGet") a i r s members.part_of refl refl
      (λ v w. ap kept_of (some_again (members.part_of v w))) h k

  pub like_try_member : (a : Tree) (name : List ℕ) (r : Reads Json) → Like x (value here a) r
      → Like x (value here (try_get a (tree.text name))) (capped (continued r (λ v. done (members.part_of v
      (text name)))))
  like_try_member a name r h =
      like_try a (tree.text name) r (pure (text name)) h (text_like name) ∙ with_second (text name) r members.part_of
