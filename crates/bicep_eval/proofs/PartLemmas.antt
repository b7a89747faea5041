-- What is returned for each kind of expression, by what is returned for its parts.
use Rattle.std.proofs.Common.{◌≡◌, ℕ, suc, List, [], ◌∷◌, codes, Bool, true, false, Option, Some, None}
use Rattle.std.proofs.Common.{option_map, refl, sym, ap, ◌∙◌, subst, map, length, arith}
use Rattle.std.proofs.lemmas.Bool.Decides.{nat_tests}
use Rattle.std.specs.Prelude.{Result, Ok, Err, if◌then◌else◌, ◌==◌}
use Rattle.std.specs.declared.vec.Vec.{Vec}
use Rattle.std.specs.declared.alloc.Global.{Global}
use Rattle.arm_value.specs.Json.{Json}
use Rattle.arm_value.specs.Look.{is_same_folded}
use Rattle.arm_value.specs.View.{json}
use Rattle.arm_value.specs.declared.value.Value.{Value}
use Rattle.arm_value.specs.declared.value.Field.{Field}
use Rattle.arm_ids.specs.declared.id.Place.{Place}
use Rattle.arm_env.specs.Names.{placed_named}
use Rattle.arm_env.specs.Object.{object_of}
use Rattle.reading.specs.Reading.{done, pure, continued}
use Rattle.reading.specs.Knowledge.{Told, value, no_value, told, and_then}
use Rattle.deploy_cells.specs.Cells.{Cell}
use Rattle.deploy_cells.specs.Guarded.{Reads}
use Rattle.bicep_tree.specs.declared.leaf.Operator.{Operator}
use Rattle.bicep_tree.specs.declared.leaf.Operator.TheVariants as o
use Rattle.bicep_resolved.specs.declared.source.Source.{Source}
use Rattle.bicep_resolved.specs.Source.{SourceTree, SourceTrees, PropertyTrees, ReachTree}
use Rattle.bicep_resolved.specs.View.{source_of, sources}
use Rattle.bicep_meaning.specs.Rows.{called, coalesced, value_by, array_of, all, by_both, operated, operator_value}
use Rattle.bicep_meaning.specs.Rows.{runs_of, coalesce_value, or_value, and_value}
use Rattle.bicep_meaning.specs.Around.{Frame, looped, counted, runs}
use Rattle.bicep_meaning.specs.Meaning as m
use Rattle.bicep_outcomes.specs.declared.stop.Stop.{Stop}
use Rattle.bicep_outcomes.specs.declared.stop.Stop.TheVariants as stop
use Rattle.bicep_outcomes.specs.declared.operators.Reach.TheVariants as reach
use Rattle.bicep_outcomes.specs.Outcomes.{Stops, Gives, IsFound, Then, ThenItems, ThenMembers, all_json}
use Rattle.bicep_outcomes.specs.Outcomes.{all_members, all_texts}
use Rattle.bicep_outcomes.specs.Outcomes.{value_and_runs, json_first, reach_of}
use Rattle.bicep_outcomes.proofs.OutcomeLemmas.{told-done, told-continued, goes, stays}
use Rattle.bicep_outcomes.specs.declared.loops.Turn.{Turn}
use Rattle.bicep_surroundings.specs.Sight.{Sight, Answers, IsInside}
use Rattle.bicep_eval.specs.Values as spec
use Rattle.bicep_eval.proofs.BoundLemmas.{values_nest, members_nest, runs_nest}
use Rattle.bicep_surroundings.proofs.ReadLemmas.{of_equal, then_reads}

-- an operator that looks at both operands
pub strict_is : (op : Operator) (x y : Reads Json) → reach_of op ≡ reach.Both
    → operated op x y ≡ by_both (operator_value op) x y
strict_is o.Coalesce x y h = absurd cc
strict_is o.Or x y h = absurd cc
strict_is o.And x y h = absurd cc
strict_is o.Equals x y h = refl
strict_is o.NotEquals x y h = refl
strict_is o.EqualsInsensitive x y h = refl
strict_is o.NotEqualsInsensitive x y h = refl
strict_is o.Less x y h = refl
strict_is o.LessOrEqual x y h = refl
strict_is o.Greater x y h = refl
strict_is o.GreaterOrEqual x y h = refl
strict_is o.Add x y h = refl
strict_is o.Subtract x y h = refl
strict_is o.Multiply x y h = refl
strict_is o.Divide x y h = refl
strict_is o.Remainder x y h = refl

-- the operators that look at the second operand only where the first asks for it
pub coalesce_by : (op : Operator) (x y : Reads Json) → reach_of op ≡ reach.Coalesce
    → operated op x y ≡ coalesce_value x y
coalesce_by o.Coalesce x y h = refl
coalesce_by o.Or x y h = absurd cc
coalesce_by o.And x y h = absurd cc
coalesce_by o.Equals x y h = absurd cc
coalesce_by o.NotEquals x y h = absurd cc
coalesce_by o.EqualsInsensitive x y h = absurd cc
coalesce_by o.NotEqualsInsensitive x y h = absurd cc
coalesce_by o.Less x y h = absurd cc
coalesce_by o.LessOrEqual x y h = absurd cc
coalesce_by o.Greater x y h = absurd cc
coalesce_by o.GreaterOrEqual x y h = absurd cc
coalesce_by o.Add x y h = absurd cc
coalesce_by o.Subtract x y h = absurd cc
coalesce_by o.Multiply x y h = absurd cc
coalesce_by o.Divide x y h = absurd cc
coalesce_by o.Remainder x y h = absurd cc

pub or_by : (op : Operator) (x y : Reads Json) → reach_of op ≡ reach.Or → operated op x y ≡ or_value x y
or_by o.Coalesce x y h = absurd cc
or_by o.Or x y h = refl
or_by o.And x y h = absurd cc
or_by o.Equals x y h = absurd cc
or_by o.NotEquals x y h = absurd cc
or_by o.EqualsInsensitive x y h = absurd cc
or_by o.NotEqualsInsensitive x y h = absurd cc
or_by o.Less x y h = absurd cc
or_by o.LessOrEqual x y h = absurd cc
or_by o.Greater x y h = absurd cc
or_by o.GreaterOrEqual x y h = absurd cc
or_by o.Add x y h = absurd cc
or_by o.Subtract x y h = absurd cc
or_by o.Multiply x y h = absurd cc
or_by o.Divide x y h = absurd cc
or_by o.Remainder x y h = absurd cc

pub and_by : (op : Operator) (x y : Reads Json) → reach_of op ≡ reach.And → operated op x y ≡ and_value x y
and_by o.Coalesce x y h = absurd cc
and_by o.Or x y h = absurd cc
and_by o.And x y h = refl
and_by o.Equals x y h = absurd cc
and_by o.NotEquals x y h = absurd cc
and_by o.EqualsInsensitive x y h = absurd cc
and_by o.NotEqualsInsensitive x y h = absurd cc
and_by o.Less x y h = absurd cc
and_by o.LessOrEqual x y h = absurd cc
and_by o.Greater x y h = absurd cc
and_by o.GreaterOrEqual x y h = absurd cc
and_by o.Add x y h = absurd cc
and_by o.Subtract x y h = absurd cc
and_by o.Multiply x y h = absurd cc
and_by o.Divide x y h = absurd cc
and_by o.Remainder x y h = absurd cc

some_is : {A : Type 0} (x y : A) → ◌≡◌ {A = Option A} (Some x) (Some y) → x ≡ y
some_is x y e = cc

-- of the items that a slice has
pub at_list : {T X A : Type 0} (f : List T → List Frame → Reads A) (s : Sight) (ts : List Turn) (view : X → A)
    (r : Result X Stop) (xs ys : List T) → xs ≡ ys → Answers s ts view r (f xs) → Answers s ts view r (f ys)
at_list {T = T} f s ts view r xs ys e h = subst (λ (zs : List T). Answers s ts view r (f zs)) e h

module _ (s : Sight) where
  -- of a tree that is equal
  pub at_tree : {T X A : Type 0} (f : T → List Frame → Reads A) (ts : List Turn) (view : X
      → A) (r : Result X Stop) (x y : T)
      → x ≡ y → Answers s ts view r (f y) → Answers s ts view r (f x)
  at_tree {T = T} f ts view r x y e h = subst (λ (z : T). Answers s ts view r (f z)) (sym e) h

  -- the loop around a resource or a module that is equal
  pub at_reach : (ts : List Turn) (t : Option Turn) (x y : ReachTree) → x ≡ y → IsInside s ts y t → IsInside s ts x t
  at_reach ts t x y e h = subst (λ (z : ReachTree). IsInside s ts z t) (sym e) h

  -- of a reading that is equal
  pub at_reading : {X A : Type 0} (ts : List Turn) (view : X → A) (r : Result X Stop) (q p : List Frame → Reads A)
      → ((fs : List Frame) → q fs ≡ p fs) → Answers s ts view r p → Answers s ts view r q
  at_reading ts view r q p e h =
      λ fs seen. of_equal s.known s.cell view r (told s.known (q fs)) (told s.known (p fs)) (ap (told s.known)
      (e fs)) (h fs seen)

  -- of a part that is equal
  pub at_part : (f : SourceTree → List Frame → Reads Json) (ts : List Turn) (r : Result Value Stop) (x y : Source)
      → x ≡ y
      → Answers s ts json r (f (source_of x)) → Answers s ts json r (f (source_of y))
  at_part f ts r x y e h = subst (λ (z : Source). Answers s ts json r (f (source_of z))) e h

  pub of_part : (ts : List Turn) (r : Result Value Stop) (x y : Source) → x ≡ y
      → Answers s ts json r (spec.value s (source_of x)) → Answers s ts json r (spec.value s (source_of y))
  of_part ts r x y e h = at_part (spec.value s) ts r x y e h

  -- an array and an object, whose parts are capped
  pub array_reads : (es : SourceTrees) (fs : List Frame) (given : Result (Vec Value Global) Stop)
      (r : Result Value Stop)
      → Gives s.cell all_json given (told s.known (spec.values s es fs)) → ThenItems given r
      → Gives s.cell json r (told s.known (continued (spec.values s es fs) (λ vs. pure (array_of vs))))
  array_reads es fs (Ok vs) r g h =
      then_reads s.known s.cell all_json json (λ js. Some (array_of js)) (Ok vs) r (spec.values s es fs) g
      (h (values_nest s.known s.here s.around es fs (all_json vs) g))
  array_reads es fs (Err e) r g h =
      then_reads s.known s.cell all_json json (λ js. Some (array_of js)) (Err e) r (spec.values s es fs) g h

  pub object_reads : (ps : PropertyTrees) (fs : List Frame) (given : Result (Vec Field Global) Stop)
      (r : Result Value Stop) → Gives s.cell all_members given (told s.known (spec.members s ps fs))
      → ThenMembers given r
      → Gives s.cell json r (told s.known (continued (spec.members s ps fs) (λ ms. pure (object_of ms))))
  object_reads ps fs (Ok ms) r g h =
      then_reads s.known s.cell all_members json (λ xs. Some (object_of xs)) (Ok ms) r (spec.members s ps fs) g
      (h (members_nest s.known s.here s.around ps fs (all_members ms) g))
  object_reads ps fs (Err e) r g h =
      then_reads s.known s.cell all_members json (λ xs. Some (object_of xs)) (Err e) r (spec.members s ps fs) g h

  -- ---- loops

  abbrev rest_of : SourceTree → List Frame → Reads Json → ℕ → Reads Json
  rest_of body fs xs n =
      continued (all (runs (λ f. spec.value s body (f ∷ fs)) xs 0 n)) (λ vs. pure (array_of vs))

  runs_reads : (body : SourceTree) (fs : List Frame) (xs : Reads Json) (n : ℕ) (given : Result
      (Vec Value Global) Stop)
      (r : Result Value Stop)
      → Gives s.cell all_json given (told s.known (all (runs (λ f. spec.value s body (f ∷ fs)) xs 0 n)))
      → ThenItems given r → Gives s.cell json r (told s.known (rest_of body fs xs n))
  runs_reads body fs xs n (Ok vs) r g h =
      then_reads s.known s.cell all_json json (λ js. Some (array_of js)) (Ok vs) r _ g
      (h (runs_nest s.known s.here s.around body fs xs n (all_json vs) g))
  runs_reads body fs xs n (Err e) r g h =
      then_reads s.known s.cell all_json json (λ js. Some (array_of js)) (Err e) r _ g h

  counted_by : (j k : Json) (o : Option ℕ) (n : ℕ) → option_map {U = Json × ℕ} (λ m. (j, m)) o ≡ Some (k, n)
      → (j ≡ k) × (o ≡ Some n)
  counted_by j k (Some m) n e =
      let q = some_is {A = Json × ℕ} (j, m) (k, n) e in
      (ap (λ (x : Json × ℕ). x.0) q, ap (λ (x : Json × ℕ). Some x.1) q)
  counted_by j k None n e = absurd cc

  pub counted_ok : (given : Result Value Stop) (xs : Reads Json) (v : Value) (n : ℕ)
      → Gives s.cell json given (told s.known xs) → Then json json_first value_and_runs given (Ok (v, n))
      → (told s.known xs ≡ value (json v)) × (runs_of (json v) ≡ Some n)
  counted_ok (Ok w) xs v n g h =
      let c = counted_by (json w) (json v) (runs_of (json w)) n h in
      (g ∙ ap value c.0, ap runs_of (sym c.0) ∙ c.1)
  counted_ok (Err e) xs v n g h = absurd cc

  none_counted : (j : Json) (q : Option ℕ) → option_map {U = Json × ℕ} (λ m. (j, m)) q ≡ None → q ≡ None
  none_counted j (Some m) e = absurd cc
  none_counted j None e = refl

  looped_at : (xs : Reads Json) (body : SourceTree) (fs : List Frame) (j : Json) (q : Option ℕ)
      → told s.known xs ≡ value j → runs_of j ≡ q
      → told s.known (spec.looping s xs body fs) ≡ told s.known (continued (done q) (rest_of body fs xs))
  unfolding looped
  looped_at xs body fs j q e h =
      told-continued s.known (counted xs) (rest_of body fs xs)
      ∙ ap (λ t. and_then t (λ n. told s.known (rest_of body fs xs n)))
      (goes s.known xs (λ i. done (runs_of i)) j e ∙ ap (λ u. told s.known (done u)) h)
      ∙ sym (told-continued s.known (done q) (rest_of body fs xs))

  -- a loop that runs
  pub looped_ok : (xs : Reads Json) (body : SourceTree) (fs : List Frame) (v : Value) (n : ℕ)
      (given : Result (Vec Value Global) Stop) (r : Result Value Stop) → told s.known xs ≡ value (json v)
      → runs_of (json v) ≡ Some n
      → Gives s.cell all_json given (told s.known (all (runs (λ f. spec.value s body (f ∷ fs)) xs 0 n)))
      → ThenItems given r → Gives s.cell json r (told s.known (spec.looping s xs body fs))
  looped_ok xs body fs v n given r e h g k =
      of_equal s.known s.cell json r _ (told s.known (rest_of body fs xs n))
      (looped_at xs body fs (json v) (Some n) e h ∙ goes s.known (done (Some n)) (rest_of body fs xs) n
      (told-done s.known (Some n)))
      (runs_reads body fs xs n given r g k)

  looped_wrong : (xs : Reads Json) (body : SourceTree) (fs : List Frame) (v : Value) (e : Stop)
      → told s.known xs ≡ value (json v) → IsFound json_first (value_and_runs (json v)) (Err e)
      → Stops s.cell e (told s.known (spec.looping s xs body fs))
  looped_wrong xs body fs v stop.NoValue h k =
      looped_at xs body fs (json v) None h (none_counted (json v) (runs_of (json v)) k)
      ∙ told-continued s.known (done None) (rest_of body fs xs)
      ∙ ap (λ t. and_then t (λ n. told s.known (rest_of body fs xs n))) (told-done s.known None)
  looped_wrong xs body fs v (stop.Waits n) h k = absurd k
  looped_wrong xs body fs v stop.OutOfMemory h k = tt

  err_of : {A : Type 0} (e d : Stop) → ◌≡◌ {A = Result A Stop} (Err e) (Err d) → e ≡ d
  err_of e d h = cc

  -- a loop that does not run
  pub looped_stops : (xs : Reads Json) (body : SourceTree) (fs : List Frame) (given : Result Value Stop) (e : Stop)
      → Gives s.cell json given (told s.known xs) → Then json json_first value_and_runs given (Err e)
      → Stops s.cell e (told s.known (spec.looping s xs body fs))
  unfolding looped
  looped_stops xs body fs (Ok v) e g h = looped_wrong xs body fs v e g h
  looped_stops xs body fs (Err d) e g h =
      subst (λ (u : Stop). Stops s.cell u (told s.known (spec.looping s xs body fs)))
      (sym (err_of {A = Value × ℕ} e d h))
      (subst (λ (t : Told Cell Json). Stops s.cell d t)
      (sym (told-continued s.known (counted xs) (rest_of body fs xs)))
      (stays s.cell d (told s.known (counted xs)) (λ n. told s.known (rest_of body fs xs n))
      (subst (λ (t : Told Cell ℕ). Stops s.cell d t) (sym (told-continued s.known xs (λ j. done (runs_of j))))
      (stays s.cell d (told s.known xs) (λ j. told s.known (done (runs_of j))) g))))

  -- ---- calls

  -- a function that looks at all its arguments
  pub called_reads : (place : Place) (name : List ℕ) (rs : List (Reads Json)) (given : Result (Vec Value Global) Stop)
      (r : Result Value Stop) → place ≡ s.here.place → is_same_folded (codes "coalesce") name ≡ false
      → Gives s.cell all_json given (told s.known (all rs))
      → Then all_json json (value_by place name (placed_named name)) given r
      → Gives s.cell json r (told s.known (called s.here.place name rs))
  unfolding called
  called_reads place name rs given r e h g k =
      subst (λ (p : Place). Gives s.cell json r (told s.known (called p name rs))) e
      (of_equal s.known s.cell json r _ _
      (ap (λ (b : Bool). told s.known (if b then coalesced rs
      else continued (all rs) (λ vs. done (value_by place name (placed_named name) vs)))) h)
      (then_reads s.known s.cell all_json json (value_by place name (placed_named name)) given r (all rs) g k))

  -- `coalesce`
  coalesce_is : (name : List ℕ) (rs : List (Reads Json)) → is_same_folded (codes "coalesce") name ≡ true
      → called s.here.place name rs ≡ coalesced rs
  unfolding called
  coalesce_is name rs h =
      ap (λ (b : Bool). if b then coalesced rs
      else continued (all rs) (λ vs. done (value_by s.here.place name (placed_named name) vs))) h

  none_coalesced : (es : List Source) (fs : List Frame) → (length es == 0) ≡ true
      → told s.known (coalesced (m.values s.here s.around (sources (map source_of es)) fs)) ≡ no_value
  none_coalesced [] fs e = told-done s.known {A = Json} None
  none_coalesced (x ∷ xs) fs e = let n : suc (length xs) ≡ 0 = grind (arith, nat_tests) in absurd (omega arith)

  pub coalesce_none : (name : List ℕ) (es : List Source) (fs : List Frame)
      → is_same_folded (codes "coalesce") name ≡ true
      → (length es == 0) ≡ true → told s.known (spec.call s name (sources (map source_of es)) fs) ≡ no_value
  coalesce_none name es fs h e =
      ap (told s.known) (coalesce_is name (m.values s.here s.around (sources (map source_of es)) fs) h)
      ∙ none_coalesced es fs e

  -- of one or more
  some_coalesced : (es : List Source) (fs : List Frame) → (length es == 0) ≡ false
      → coalesced (m.values s.here s.around (sources (map source_of es)) fs)
      ≡ spec.first_there s (sources (map source_of es)) fs
  some_coalesced [] fs e = absurd cc
  some_coalesced (x ∷ xs) fs e = refl

  pub coalesce_some : (name : List ℕ) (es : List Source) (fs : List Frame)
      → is_same_folded (codes "coalesce") name ≡ true
      → (length es == 0) ≡ false
      → spec.call s name (sources (map source_of es)) fs ≡ spec.first_there s (sources (map source_of es)) fs
  coalesce_some name es fs h e =
      coalesce_is name (m.values s.here s.around (sources (map source_of es)) fs) h ∙ some_coalesced es fs e

map_itself : {A : Type 0} (xs : List A) → map (λ (x : A). x) xs ≡ xs
map_itself [] = refl
map_itself (x ∷ xs) = ap (λ ys. x ∷ ys) (map_itself xs)

-- texts as they are
pub texts_given : (cell : ℕ → Cell) (r : Result (Vec (List ℕ) Global) Stop) (t : Told Cell (List (List ℕ)))
    → Gives cell (λ (v : Vec (List ℕ) Global). map (λ (x : List ℕ). x) v.items) r t → Gives cell all_texts r t
texts_given cell (Ok v) t h = h ∙ ap value (map_itself v.items)
texts_given cell (Err e) t h = h
