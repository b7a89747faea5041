-- What is told of paths that are made of others.
use Rattle.std.proofs.Common.{◌≡◌, ◌++◌, ◌∷◌, [], Option, Some, None, option_map, true, false, Result, Ok, Err}
use Rattle.std.proofs.Common.{refl, sym, ap, ◌∙◌, subst}
use Rattle.std.specs.declared.vec.Vec.{Vec}
use Rattle.std.specs.declared.alloc.Global.{Global}
use Rattle.arm_value.specs.Json.{Json}
use Rattle.reading.specs.Reading.{pure}
use Rattle.reading.specs.Knowledge.{Known, Told, value, no_value, waits, told, and_then}
use Rattle.arm_env.specs.Look.{Look, Fact, Looking}
use Rattle.arm_env.specs.Answer.{Gives, Stops, outcome_told}
use Rattle.arm_env.specs.declared.stop.Stop.{Stop}
use Rattle.arm_env.specs.declared.stop.Stop.TheVariants as stop
use Rattle.arm_env.proofs.Answers.{told-done, told-continued, goes, stops, stopped}
use Rattle.expression_values.specs.Meaning.{outcome}
use Rattle.expression_values.proofs.Answers.{told-outcome}
use Rattle.missing_values.specs.Missing.{Step as PathStep, Path, Missing, below}
use Rattle.missing_values.specs.Missing.{or_else, or_later, or_whole, by_value, in_whole}
use Rattle.missing_values.specs.Words.{path_of, path_found, is_nowhere, there_told}
use Rattle.missing_values.specs.declared.path.Step.{Step}

module _ (p : Look → Known Fact) where
  pub below_told : (s : PathStep) (o : Missing) (r : Option Path) → told p o ≡ value r
      → told p (below s o) ≡ value (option_map (λ path. path ++ s ∷ []) r)
  below_told s o r e =
      goes p o (λ r. pure (option_map (λ path. path ++ s ∷ []) r)) r e
      ∙ told-done p (Some (option_map (λ path. path ++ s ∷ []) r))

  pub below_stops : (t : Stop) (s : PathStep) (o : Missing) → Stops t (told p o) → Stops t (told p (below s o))
  below_stops t s o h = stops t p o (λ r. pure (option_map (λ path. path ++ s ∷ []) r)) h

  -- ---- the first of several paths

  pub goes_on : (r : Result (Option (Vec Step Global)) Stop) (o rest : Missing) → true ≡ is_nowhere r
      → Gives path_found r (told p o) → told p (or_later o rest) ≡ told p rest
  goes_on (Ok None) o rest e h = goes p o (λ r. or_else r rest) None h
  goes_on (Ok (Some path)) o rest e h = absurd cc
  goes_on (Err s) o rest e h = absurd cc

  pub ends_here : (r : Result (Option (Vec Step Global)) Stop) (o rest : Missing) → false ≡ is_nowhere r
      → Gives path_found r (told p o) → Gives path_found r (told p (or_later o rest))
  ends_here (Ok None) o rest e h = absurd cc
  ends_here (Ok (Some path)) o rest e h =
      goes p o (λ r. or_else r rest) (Some (path_of path)) h ∙ told-done p (Some (Some (path_of path)))
  ends_here (Err s) o rest e h = stops s p o (λ r. or_else r rest) h

  -- ---- a whole, by its value

  there_is : (t : Told Look Json) → there_told t ≡ value true → (v : Json) × (outcome_told t ≡ value (Some v))
  there_is (value v) e = (v, refl)
  there_is no_value e = absurd cc
  there_is (waits c) e = absurd cc

  there_none : (t : Told Look Json) → there_told t ≡ value false → outcome_told t ≡ value None
  there_none (value v) e = absurd cc
  there_none no_value e = refl
  there_none (waits c) e = absurd cc

  there_stops : (s : Stop) (t : Told Look Json) → Stops s (there_told t) → Stops s (outcome_told t)
  there_stops stop.NoValue (value v) h = absurd cc
  there_stops stop.NoValue no_value h = absurd cc
  there_stops stop.NoValue (waits c) h = absurd cc
  there_stops (stop.Waits d) (value v) h = absurd cc
  there_stops (stop.Waits d) no_value h = absurd cc
  there_stops (stop.Waits d) (waits c) h = cc
  there_stops stop.OutOfMemory t h = tt

  whole_told : (o : Looking Json) (inside : Missing) → told p (in_whole o inside)
      ≡ and_then (outcome_told (told p o)) (λ v. told p (by_value v inside))
  whole_told o inside =
      told-continued p (outcome o) (λ v. by_value v inside)
      ∙ ap (λ t. and_then t (λ v. told p (by_value v inside))) (told-outcome p o)

  pub whole_there : (o : Looking Json) (inside : Missing) → there_told (told p o) ≡ value true
      → told p (in_whole o inside) ≡ value None
  whole_there o inside e =
      let v = there_is (told p o) e in
      whole_told o inside ∙ ap (λ t. and_then t (λ v. told p (by_value v inside))) v.1 ∙ told-done p (Some None)

  whole_none : (o : Looking Json) (inside : Missing) → there_told (told p o) ≡ value false
      → told p (in_whole o inside) ≡ told p (by_value None inside)
  whole_none o inside e =
      whole_told o inside ∙ ap (λ t. and_then t (λ v. told p (by_value v inside))) (there_none (told p o) e)

  pub whole_found : (o : Looking Json) (inside : Missing) (r : Option Path) → there_told (told p o) ≡ value false
      → told p inside ≡ value r → told p (in_whole o inside) ≡ value (Some (or_whole r))
  whole_found o inside r e h =
      whole_none o inside e ∙ goes p inside (λ r. pure (Some (or_whole r))) r h ∙ told-done p (Some (Some (or_whole r)))

  pub whole_stops : (s : Stop) (o : Looking Json) (inside : Missing) → Stops s (there_told (told p o))
      → Stops s (told p (in_whole o inside))
  whole_stops s o inside h =
      let P : Told Look (Option Path) → Type 0 = λ t. Stops s t in
      subst P (sym (whole_told o inside))
      (stopped s (outcome_told (told p o)) (λ v. told p (by_value v inside)) (there_stops s (told p o) h))

  pub parts_stop : (s : Stop) (o : Looking Json) (inside : Missing) → there_told (told p o) ≡ value false
      → Stops s (told p inside) → Stops s (told p (in_whole o inside))
  parts_stop s o inside e h =
      let P : Told Look (Option Path) → Type 0 = λ t. Stops s t in
      subst P (sym (whole_none o inside e)) (stops s p inside (λ r. pure (Some (or_whole r))) h)

-- ---- whether there is a value

pub there_by : (t : Told Look Json) (j : Json) → outcome_told t ≡ value (Some j) → there_told t ≡ value true
there_by (value v) j e = refl
there_by no_value j e = absurd cc
there_by (waits c) j e = absurd cc

pub none_by : (t : Told Look Json) → outcome_told t ≡ value None → there_told t ≡ value false
none_by (value v) e = absurd cc
none_by no_value e = refl
none_by (waits c) e = absurd cc

pub stops_by : (s : Stop) (t : Told Look Json) → Stops s (outcome_told t) → Stops s (there_told t)
stops_by stop.NoValue (value v) h = absurd cc
stops_by stop.NoValue no_value h = absurd cc
stops_by stop.NoValue (waits c) h = absurd cc
stops_by (stop.Waits d) (value v) h = absurd cc
stops_by (stop.Waits d) no_value h = absurd cc
stops_by (stop.Waits d) (waits c) h = cc
stops_by stop.OutOfMemory t h = tt
