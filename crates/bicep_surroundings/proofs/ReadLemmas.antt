-- What is returned for the readings that expressions are made of.
use Rattle.std.proofs.Common.{◌≡◌, ℕ, Bool, true, false, Option, Some, None, option_map, refl, sym, ap}
use Rattle.std.proofs.Common.{◌∙◌, subst}
use Rattle.std.specs.Prelude.{Result, Ok, Err, if◌then◌else◌}
use Rattle.arm_value.specs.Json.{Json, null, bool, int, text, array, object}
use Rattle.arm_value.specs.View.{json}
use Rattle.arm_value.specs.declared.value.Value.{Value}
use Rattle.arm_env.specs.Part.{kept}
use Rattle.function_numbers.specs.Kinds.{truth_of}
use Rattle.reading.specs.Reading.{done, pure, continued, both}
use Rattle.reading.specs.Knowledge.{Known, Told, value, told, finished, and_then, both_told}
use Rattle.deploy_cells.specs.Cells.{Cell}
use Rattle.deploy_cells.specs.Guarded.{Reads}
use Rattle.bicep_meaning.specs.Rows.{by_both, chosen, conditional_value, truth, or_if_null, coalesce_value}
use Rattle.bicep_meaning.specs.Rows.{capped}
use Rattle.bicep_outcomes.specs.declared.stop.Stop.{Stop}
use Rattle.bicep_outcomes.specs.declared.stop.Stop.TheVariants as stop
use Rattle.bicep_outcomes.specs.Outcomes.{Stops, Gives, IsFound, Then, paired, both_json, truth_alone, null_left}
use Rattle.bicep_outcomes.proofs.OutcomeLemmas.{told-done, told-continued, told-both, told-then, goes, stays}
use Rattle.bicep_outcomes.proofs.OutcomeLemmas.{found_gives, then_gives, pair_gives}

module _ (p : Cell → Known Json) (cell : ℕ → Cell) where
  -- what is told of an equal reading
  pub of_equal : {X A : Type 0} (view : X → A) (r : Result X Stop) (t u : Told Cell A) → t ≡ u → Gives cell view r u
      → Gives cell view r t
  of_equal {A = A} view r t u e g = subst (λ (x : Told Cell A). Gives cell view r x) (sym e) g

  -- a value that is there without reading
  pub done_gives : {X A : Type 0} (view : X → A) (o : Option A) (r : Result X Stop) → IsFound view o r
      → Gives cell view r (told p (done o))
  done_gives view o r h = of_equal view r (told p (done o)) (finished o) (told-done p o) (found_gives cell view o r h)

  -- of the value of a part
  pub then_reads : {X Y A B : Type 0} (from : X → A) (to : Y → B) (f : A → Option B) (given : Result X Stop)
      (r : Result Y Stop) (q : Reads A) → Gives cell from given (told p q) → Then from to f given r
      → Gives cell to r (told p (continued q (λ x. done (f x))))
  then_reads from to f given r q g h =
      of_equal to r (told p (continued q (λ x. done (f x)))) (and_then (told p q) (λ x. finished (f x)))
      (told-then p q f) (then_gives cell from to f given r (told p q) g h)

  pub capped_reads : (given r : Result Value Stop) (q : Reads Json) → Gives cell json given (told p q)
      → Then json json kept given r → Gives cell json r (told p (capped q))
  unfolding capped
  capped_reads given r q g h = then_reads json json kept given r q g h

  -- of the values of both parts
  pub both_reads : (f : Json → Json → Option Json) (a b r : Result Value Stop) (pair : Result (Value × Value) Stop)
      (x y : Reads Json) → Gives cell json a (told p x) → Gives cell json b (told p y) → pair ≡ paired a b
      → Then both_json json (λ q. f q.0 q.1) pair r → Gives cell json r (told p (by_both f x y))
  unfolding by_both
  both_reads f a b r pair x y g h e k =
      let t : Told Cell (Json × Json) = both_told (told p x) (told p y) in
      then_reads both_json json (λ q. f q.0 q.1) pair r (both x y)
      (of_equal both_json pair (told p (both x y)) t (told-both p x y)
      (subst (λ (q : Result (Value × Value) Stop). Gives cell both_json q t) (sym e)
      (pair_gives cell json json a b (told p x) (told p y) g h))) k

  -- ---- truth values

  ok_of : {A : Type 0} (x : A) (s : Stop) → ◌≡◌ {A = Result A Stop} (Ok x) (Err s) → ⊥
  ok_of x s e = absurd cc

  err_of : {A : Type 0} (s t : Stop) → ◌≡◌ {A = Result A Stop} (Err s) (Err t) → s ≡ t
  err_of s t e = cc

  -- the chosen one, where the condition has a truth value
  pub truth_goes : (given : Result Value Stop) (b : Bool) (c x y : Reads Json) → Gives cell json given (told p c)
      → Then json (λ (t : Bool). t) truth_of given (Ok b)
      → told p (conditional_value c x y) ≡ told p (chosen (Some b) x y)
  unfolding conditional_value
  truth_goes (Ok v) b c x y g h =
      goes p c (λ j. chosen (truth_of j) x y) (json v) g ∙ ap (λ o. told p (chosen o x y)) h
  truth_goes (Err s) b c x y g h = absurd (ok_of b s h)

  truth_wrong : (v : Value) (s : Stop) (c x y : Reads Json) → told p c ≡ value (json v)
      → IsFound (λ (t : Bool). t) (truth_of (json v)) (Err s) → Stops cell s (told p (conditional_value c x y))
  unfolding conditional_value
  truth_wrong v stop.NoValue c x y g h =
      goes p c (λ j. chosen (truth_of j) x y) (json v) g ∙ ap (λ o. told p (chosen o x y)) h ∙ told-done p None
  truth_wrong v (stop.Waits n) c x y g h = absurd h
  truth_wrong v stop.OutOfMemory c x y g h = tt

  -- where it has none
  pub truth_stops : (given : Result Value Stop) (s : Stop) (c x y : Reads Json) → Gives cell json given (told p c)
      → Then json (λ (t : Bool). t) truth_of given (Err s) → Stops cell s (told p (conditional_value c x y))
  unfolding conditional_value
  truth_stops (Ok v) s c x y g h = truth_wrong v s c x y g h
  truth_stops (Err t) s c x y g h =
      subst (λ (u : Stop). Stops cell u (told p (conditional_value c x y))) (sym (err_of {A = Bool} s t h))
      (subst (λ (w : Told Cell Json). Stops cell t w) (sym (told-continued p c (λ j. chosen (truth_of j) x y)))
      (stays cell t (told p c) (λ j. told p (chosen (truth_of j) x y)) g))

  pub truth_reads : (given r : Result Value Stop) (q : Reads Json) → Gives cell json given (told p q)
      → Then json json truth_alone given r → Gives cell json r (told p (truth q))
  unfolding truth
  truth_reads given r q g h = then_reads json json truth_alone given r q g h

  -- ---- the first that is not null

  there : (b : Bool) (j v : Json) → Some v ≡ (if b then None else Some j) → (b ≡ false) × (v ≡ j)
  there true j v e = absurd cc
  there false j v e = (refl, cc)

  nowhere : (b : Bool) (j : Json) → None ≡ (if b then None else Some j) → b ≡ true
  nowhere true j e = refl
  nowhere false j e = absurd cc

  kept_if : (j : Json) (b : Reads Json) → null_left j ≡ false → or_if_null j b ≡ pure j
  kept_if null b e = absurd cc
  kept_if (bool t) b e = refl
  kept_if (int z) b e = refl
  kept_if (text x) b e = refl
  kept_if (array js) b e = refl
  kept_if (object ms) b e = refl

  null_if : (j : Json) (b : Reads Json) → null_left j ≡ true → or_if_null j b ≡ b
  null_if null b e = refl
  null_if (bool t) b e = absurd cc
  null_if (int z) b e = absurd cc
  null_if (text x) b e = absurd cc
  null_if (array js) b e = absurd cc
  null_if (object ms) b e = absurd cc

  -- a value that is not null
  pub coalesce_found : (v w : Value) (x y : Reads Json) → told p x ≡ value (json v)
      → option_map json (Some w) ≡ (if null_left (json v) then None else Some (json v))
      → told p (coalesce_value x y) ≡ value (json w)
  unfolding coalesce_value
  coalesce_found v w x y g e =
      let f = there (null_left (json v)) (json v) (json w) e in
      goes p x (λ j. or_if_null j y) (json v) g ∙ ap (told p) (kept_if (json v) y f.0)
      ∙ told-done p (Some (json v)) ∙ ap value (sym f.1)

  -- null
  pub coalesce_null : (v : Value) (x y : Reads Json) → told p x ≡ value (json v)
      → option_map json None ≡ (if null_left (json v) then None else Some (json v))
      → told p (coalesce_value x y) ≡ told p y
  unfolding coalesce_value
  coalesce_null v x y g e =
      goes p x (λ j. or_if_null j y) (json v) g
      ∙ ap (told p) (null_if (json v) y (nowhere (null_left (json v)) (json v) e))

  pub coalesce_stops : (s : Stop) (x y : Reads Json) → Stops cell s (told p x)
      → Stops cell s (told p (coalesce_value x y))
  unfolding coalesce_value
  coalesce_stops s x y g =
      subst (λ (w : Told Cell Json). Stops cell s w) (sym (told-continued p x (λ j. or_if_null j y)))
      (stays cell s (told p x) (λ j. told p (or_if_null j y)) g)
