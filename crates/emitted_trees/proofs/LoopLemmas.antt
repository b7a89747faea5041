-- Loops of a template and of a program: how often they run, their items and their indices.
use Rattle.std.proofs.Common.{◌≡◌, ◌≤◌, ◌<◌, ◌+◌, ◌^◌, ℕ, zero, suc, pos, List, [], ◌∷◌, ◌++◌, Option, Some, None}
use Rattle.std.proofs.Common.{Bool, true, false, codes, nat_le, refl, sym, ap, ap₂, ◌∙◌, subst, arith, length}
use Rattle.std.proofs.lemmas.Slice.Eq.{bytes_eq-Decides}
use Rattle.std.specs.Prelude.{◌+ℤ◌, nat_lt, option_map, option_and_then, if◌then◌else◌}
use Rattle.foundation.proofs.Comparisons.{lt_true, le_of_true, le_false, le_of_false}
use Rattle.arm_value.specs.Json.{Json, null, bool, int, text, array, object, row, items, members}
use Rattle.arm_value.specs.Look.{fold, is_same_folded}
use Rattle.arm_expr.specs.Tree.{Tree, index}
use Rattle.bicep_emission.specs.Table.{table, row_in}
use Rattle.bicep_emission.specs.Values.{function_value, value_of, of_lists}
use Rattle.function_numbers.specs.Numbers.{within, from_zero}
use Rattle.function_lists.specs.Sizes.{size_of}
use Rattle.reading.specs.Reading.{done, pure, continued, both, beside}
use Rattle.reading.specs.World.{value_in}
use Rattle.arm_env.specs.declared.env.Looping.{Looping}
use Rattle.arm_env.specs.Look as look
use Rattle.arm_env.specs.Look.{Looking, Surroundings}
use Rattle.arm_env.specs.Loop.{copy_index, index_named, main_index, own_index, or_nearest, shifted}
use Rattle.arm_env.specs.Names.{lazy_named, strict_named, placed_named}
use Rattle.arm_env.specs.Part.{part_of}
use Rattle.arm_env.specs.Held.{held_value}
use Rattle.arm_eval.specs.Trees.{counting, array_of, turns, looping_of, Copy}
use Rattle.arm_eval.specs.Trees as trees
use Rattle.arm_eval.specs.Outputs.{inputs, input_at}
use Rattle.arm_eval.specs.Meaning.{held, value, called}
use Rattle.arm_eval.proofs.Equations.{texts}
use Rattle.deploy_cells.specs.Guarded.{Reads}
use Rattle.bicep_emission.specs.Around as source
use Rattle.bicep_emission.specs.Around.{Here, run_at, runs, looped}
use Rattle.bicep_emission.specs.Rows.{all, capped, by_both, few, runs_of}
use Rattle.bicep_emission.specs.Alike.{Seen, seen_in}
use Rattle.bicep_emission.specs.Answered.{Sides, Answers, IsPlainPlace}
use Rattle.bicep_emission.specs.Emitted.{element}
use Rattle.bicep_emission.specs.Stands.{Like, HoldsValue, Stands, FrameStands, surroundings}
use Rattle.bicep_emission.proofs.SeenLemmas.{then_seen, both_seen, done_seen, then-then, then-same, seen-continued, value-seen}
use Rattle.bicep_emission.proofs.KeptLemmas.{kept_of}
use Rattle.bicep_emission.proofs.AlikeLemmas.{alike_at}
use Rattle.bicep_emission.proofs.AccessLemmas.{plain_value, used_held, keep_done, index_seen, plain_index}
use Rattle.bicep_emission.proofs.CallLemmas.{AllLike, seen, seen-on, seen-capped, seen-capped-on, like_on, like_all, like_capped, like_one}
use Rattle.bicep_emission.proofs.OperatorLemmas.{by_both_seen}
use Rattle.bicep_emission.proofs.StateLemmas.{used_same, plain_same}
use Rattle.bicep_emission.proofs.ExpressionLemmas.{stands, is_plain}
use Rattle.emitted_trees.specs.EmittedTrees.{copy_index as index_of, count_of}
use Rattle.emitted_trees.specs.Standing.{AreInner}

-- ---- how often

abbrev pub size_json : Json → Option Json
size_json j = option_map int (option_and_then from_zero (size_of j))

pub size_made : (v : Json) → kept_of (function_value (codes "length") (v ∷ [])) ≡ kept_of (size_json v)
unfolding table row_in value_of of_lists
size_made v = refl

counts_by : (n : ℕ) (b : Bool) → nat_lt n (2 ^ 63) ≡ b
    → option_and_then trees.count_of (kept_of (option_map int (if b then Some (pos n) else None))) ≡ few n
counts_by n true e = refl
counts_by n false e =
    let l : 2 ^ 63 ≤ n = le_of_false n (2 ^ 63) e in
    sym (ap (λ b. if b then Some n else None) (le_false n 800 (omega arith)))

counts_same : (n : ℕ) → option_and_then trees.count_of (kept_of (option_map int (from_zero n))) ≡ few n
counts_same n = counts_by n (nat_lt n (2 ^ 63)) refl

runs_same : (v : Json) → option_and_then trees.count_of (kept_of (size_json v)) ≡ runs_of v
runs_same null = refl
runs_same (bool b) = refl
runs_same (int z) = refl
runs_same (text t) = counts_same (length t)
runs_same (array js) = counts_same (length (items js))
runs_same (object ms) = counts_same (length (members ms))

done_then : {A B : Type 0} (o : Option A) (g : A → Option B)
    → then_seen (done_seen o) (λ v. done_seen (g v)) ≡ done_seen (option_and_then g o)
done_then (Some v) g = refl
done_then None g = refl

few_by : (m n : ℕ) (b : Bool) → nat_le m 800 ≡ b → (if b then Some m else None) ≡ Some n → n ≤ 800
few_by m n true e h = subst (λ k. k ≤ 800) (same h) (le_of_true m 800 e)
  where
    same : Some m ≡ Some n → m ≡ n
    same h = cc
few_by m n false e h = absurd cc

few_is : (o : Option ℕ) (n : ℕ) → option_and_then few o ≡ Some n → n ≤ 800
few_is (Some m) n h = few_by m n (nat_le m 800) refl h
few_is None n h = absurd cc

few_seen : (s : Seen Json) (n : ℕ) → (then_seen s (λ j. done_seen (runs_of j))).0 ≡ Some n → n ≤ 800
few_seen (Some j, b) n h = few_is (size_of j) n h
few_seen (None, b) n h = absurd cc

module _ (x : Sides) where
  count_like : (around : Surroundings) (xs : Tree) (r : Reads Json) → Like x (value around xs) r
      → Like x (value around (count_of xs)) (capped (continued r (λ j. done (size_json j))))
  unfolding lazy_named strict_named placed_named
  count_like around xs r h = like_one x around (codes "length") xs r size_json refl refl size_made h

  counted_seen : (r : Reads Json) → seen x (source.counted r) ≡ then_seen (seen x r) (λ j. done_seen (runs_of j))
  unfolding seen_in
  counted_seen r = seen-continued x.source x.source_marks r (λ j. done (runs_of j))

  counting_seen : (r : Reads Json)
      → seen x (continued (capped (continued r (λ j. done (size_json j)))) (λ v. done (trees.count_of v)))
      ≡ seen x (source.counted r)
  unfolding seen_in
  counting_seen r =
      seen-continued x.source x.source_marks (capped (continued r (λ j. done (size_json j))))
      (λ v. done (trees.count_of v))
      ∙ ap (λ s. then_seen s (λ v. done_seen (trees.count_of v)))
      (seen-capped-on x r size_json ∙ seen-on x r (λ v. kept_of (size_json v)))
      ∙ then-then (seen x r) (λ v. done_seen (kept_of (size_json v))) (λ v. done_seen (trees.count_of v))
      ∙ then-same (seen x r) (λ v. then_seen (done_seen (kept_of (size_json v))) (λ v. done_seen (trees.count_of v)))
      (λ v. done_seen (runs_of v))
      (λ v. done_then (kept_of (size_json v)) trees.count_of
      ∙ ap (λ (o : Option ℕ). let r : Seen ℕ = done_seen o in r) (runs_same v))
      ∙ sym (counted_seen r)

  -- the count of a loop over what an expression stands for
  pub counting_like : (around : Surroundings) (count : Looking Json) (xs : Tree) (r : Reads Json)
      → count ≡ value around (count_of xs) → Like x (value around xs) r → Like x (counting count) (source.counted r)
  counting_like around count xs r e h =
      like_on x count (capped (continued r (λ j. done (size_json j)))) trees.count_of
      (ap (λ c. seen_in x.template x.template_marks c) e ∙ count_like around xs r h)
      ∙ counting_seen r

  at_most_800 : (r : Reads Json) (n : ℕ) → value_in x.source (source.counted r) ≡ Some n → n ≤ 800
  at_most_800 r n e =
      few_seen (seen x r) n
      (ap (λ s. s.0) (sym (counted_seen r)) ∙ value-seen x.source x.source_marks (source.counted r) ∙ e)

  -- the array of a loop
  pub loop_like : (count : Looking Json) (ts : ℕ → List (Looking Json)) (r : Reads Json)
      (body : source.Frame → Reads Json) → Like x (counting count) (source.counted r)
      → ((n : ℕ) → n ≤ 800 → AllLike x (ts n) (runs body r 0 n))
      → Like x (continued (counting count) (λ n. array_of (ts n))) (capped (looped r body))
  unfolding looped
  loop_like count ts r body h q =
      alike_at x.template x.template_marks x.source x.source_marks (counting count) (source.counted r)
      (λ n. array_of (ts n)) (λ n. capped (continued (all (runs body r 0 n)) (λ vs. pure (array (row vs))))) h
      (λ n e. like_capped x (continued (look.all (ts n)) (λ vs. pure (array (row vs))))
      (continued (all (runs body r 0 n)) (λ vs. pure (array (row vs))))
      (like_on x (look.all (ts n)) (all (runs body r 0 n)) (λ vs. Some (array (row vs)))
      (like_all x (ts n) (runs body r 0 n) (q n (at_most_800 r n e)))))
      ∙ sym (seen-capped x (source.counted r) (λ n. continued (all (runs body r 0 n)) (λ vs. pure (array (row vs)))))

  -- what each run gives
  pub turns_like : (c : Copy) (around : Surroundings) (r : Reads Json) (body : source.Frame → Reads Json)
      → ((i : ℕ) → i < 800 → Like x (c.input (trees.within c.name i around)) (body (run_at r i)))
      → (n i : ℕ) → i + n ≤ 800 → AllLike x (turns c around i n) (runs body r i n)
  turns_like c around r body h zero i l = tt
  turns_like c around r body h (suc n) i l = (h i (omega arith), turns_like c around r body h n (suc i) (omega arith))

-- what each run of the loop of an output gives
module _ (x : Sides) where
  pub inputs_like : (j : Json) (around : Surroundings) (r : Reads Json) (body : source.Frame → Reads Json)
      → ((i : ℕ) → i < 800 → Like x (input_at j around i) (body (run_at r i)))
      → (n i : ℕ) → i + n ≤ 800 → AllLike x (inputs j around i n) (runs body r i n)
  inputs_like j around r body h zero i l = tt
  inputs_like j around r body h (suc n) i l =
      (h i (omega arith), inputs_like j around r body h n (suc i) (omega arith))

-- ---- the index

shifted_by : (i : ℕ) → i < 2 ^ 63 → option_map int (within (pos i)) ≡ Some (int (pos i))
shifted_by i l = ap (λ b. option_map int (if b then Some (pos i) else None)) (lt_true i (2 ^ 63) l)

no_offset : (i : ℕ) → (pos i +ℤ pos 0) ≡ pos i
no_offset i = ap pos (same i)
  where
    same : (i : ℕ) → i + 0 ≡ i
    same i = omega arith

index_there : (o : Option ℕ) (i : ℕ) → o ≡ Some i → i < 2 ^ 63 → shifted o (pos 0) ≡ Some (int (pos i))
index_there o i e l =
    ap (λ o. shifted o (pos 0)) e ∙ ap (λ z. option_map int (within z)) (no_offset i) ∙ shifted_by i l

same_name : (name : List ℕ) → is_same_folded name name ≡ true
same_name name = (bytes_eq-Decides (fold name) (fold name)).1 refl

named_index : (name : List ℕ) (i : ℕ) (ls : List Looping) → index_named name (looping_of name i ∷ ls) ≡ Some i
named_index name i ls = ap (λ b. if b then Some i else index_named name ls) (same_name name)

main_by : (b : Bool) (l : Looping) (ls : List Looping) (i : ℕ) → b ≡ false → main_index ls ≡ Some i
    → (if b then Some l.index else main_index ls) ≡ Some i
main_by true l ls i e h = absurd cc
main_by false l ls i e h = h

main_there : (inner : List Looping) (l : Looping) (ls : List Looping) → AreInner inner → l.main ≡ true
    → main_index (inner ++ l ∷ ls) ≡ Some l.index
main_there [] l ls h e = ap (λ b. if b then Some l.index else main_index ls) e
main_there (k ∷ ks) l ls h e = main_by k.main k (ks ++ l ∷ ls) l.index h.0 (main_there ks l ls h.1 e)

module _ (x : Sides) (here : Here) (place : IsPlainPlace here.place) (ans : Answers x here) where
  abbrev sees : {A : Type 0} → Looking A → Seen A
  sees r = seen_in x.template x.template_marks r

  named_held : (around : Surroundings) (name : List ℕ)
      → sees (held around (index_of (Some name))) ≡ sees (held_value (done (copy_index around.loops (text name ∷ []))))
  unfolding called lazy_named strict_named look.all continued both beside
  named_held around name = ap (λ v. sees (called around (codes "copyIndex") (v ∷ []))) (texts around name)

  main_held : (around : Surroundings)
      → sees (held around (index_of None)) ≡ sees (held_value (done (copy_index around.loops [])))
  unfolding called lazy_named strict_named look.all continued both beside
  main_held around = refl

  number_capped : (i : ℕ) → seen x (capped (pure (int (pos i)))) ≡ done_seen (Some (int (pos i)))
  unfolding capped continued seen_in
  number_capped i = refl

  number_seen : (i : ℕ) → seen x (pure (int (pos i))) ≡ done_seen (Some (int (pos i)))
  unfolding seen_in
  number_seen i = refl

  index_stands : (ls : List Looping) (e : Tree) (o : Option Json) (i : ℕ)
      → sees (held (surroundings here ls) e) ≡ sees (held_value (done o)) → o ≡ Some (int (pos i))
      → Stands x (surroundings here ls) e (pure (int (pos i)))
  index_stands ls e o i h q =
      stands x here ls place ans e (pure (int (pos i)))
      (used_same x.template x.template_marks (held (surroundings here ls) e) (held_value (done o)) h
      ∙ used_held x.template x.template_marks (done o) ∙ keep_done x.template x.template_marks o
      ∙ ap (λ (o : Option Json). let r : Seen Json = done_seen (kept_of o) in r) q ∙ sym (number_capped i))
      (plain_same x.template x.template_marks (held (surroundings here ls) e) (held_value (done o)) h
      (plain_value x.template x.template_marks (done o)))

  item_stands : (ls : List Looping) (e i : Tree) (r q : Reads Json) → HoldsValue x (surroundings here ls) e
      → Like x (value (surroundings here ls) e) r → Like x (value (surroundings here ls) i) q
      → Stands x (surroundings here ls) (index e i) (by_both part_of r q)
  item_stands ls e i r q v h k =
      let p = is_plain x here ls place ans e v in
      let around = surroundings here ls in
      stands x here ls place ans (index e i) (by_both part_of r q)
      (index_seen x.template x.template_marks around e i p
      ∙ ap₂ (λ s t. then_seen (both_seen s t) (λ p. done_seen (kept_of (part_of p.0 p.1)))) h k
      ∙ sym (by_both_seen x part_of r q))
      (plain_index x.template x.template_marks around e i p)

  -- a run of a loop, whose index stands for this number
  run_stands : (ls : List Looping) (xs i : Tree) (r : Reads Json) (n : ℕ) → HoldsValue x (surroundings here ls) xs
      → Like x (value (surroundings here ls) xs) r → Stands x (surroundings here ls) i (pure (int (pos n)))
      → FrameStands x (surroundings here ls) (element xs i) (run_at r n)
  unfolding source.element
  run_stands ls xs i r n v h k = record {
    item = item_stands ls xs i r (pure (int (pos n))) v h (k.alike ∙ number_capped n ∙ sym (number_seen n));
    index = k;
    index_capped = number_capped n ∙ sym (number_seen n);
  }

  -- a run of a loop of a value, whose name it is
  pub named_run : (ls : List Looping) (name : List ℕ) (xs : Tree) (r : Reads Json) (n : ℕ) → n < 800
      → Stands x (surroundings here (looping_of name n ∷ ls)) xs r
      → FrameStands x (surroundings here (looping_of name n ∷ ls)) (element xs (index_of (Some name)))
      (run_at (capped r) n)
  named_run ls name xs r n l h =
      run_stands (looping_of name n ∷ ls) xs (index_of (Some name)) (capped r) n h.holds_value h.alike
      (index_stands (looping_of name n ∷ ls) (index_of (Some name))
      (copy_index (looping_of name n ∷ ls) (text name ∷ [])) n
      (named_held (surroundings here (looping_of name n ∷ ls)) name)
      (index_there (index_named name (looping_of name n ∷ ls)) n (named_index name n ls) (omega arith)))

  -- a run of the loop of a resource, a module or an output
  pub main_run : (inner : List Looping) (l : Looping) (ls : List Looping) (xs : Tree) (r : Reads Json)
      → AreInner inner → l.main ≡ true → l.index < 2 ^ 63 → HoldsValue x (surroundings here (inner ++ l ∷ ls)) xs
      → Like x (value (surroundings here (inner ++ l ∷ ls)) xs) r
      → FrameStands x (surroundings here (inner ++ l ∷ ls)) (element xs (index_of None)) (run_at r l.index)
  main_run inner l ls xs r h m b v i =
      let all = inner ++ l ∷ ls in
      run_stands all xs (index_of None) r l.index v i
      (index_stands all (index_of None) (copy_index all []) l.index (main_held (surroundings here all))
      (index_there (own_index all) l.index (ap (or_nearest all) (main_there inner l ls h m)) b))
