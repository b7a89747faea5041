-- The first of several values that is not null.
use Rattle.std.proofs.Common.{◌≡◌, ◌<◌, ◌≤◌, ◌+◌, ℕ, List, map, drop, length, get_or, Some, None}
use Rattle.std.proofs.Common.{option_map, sym, ap, ◌∙◌, subst}
use Rattle.std.proofs.lemmas.List.{drop_all}
use Rattle.std.specs.Prelude.{if◌then◌else◌}
use Rattle.arm_value.specs.Json.{Json, null}
use Rattle.arm_value.specs.View.{json}
use Rattle.arm_value.specs.declared.value.Value.{Value}
use Rattle.reading.specs.Knowledge.{Told, value, told}
use Rattle.deploy_cells.specs.Cells.{Cell}
use Rattle.bicep_resolved.specs.declared.source.Source.{Source}
use Rattle.bicep_resolved.specs.View.{source_of, sources}
use Rattle.bicep_meaning.specs.Rows.{first_there, coalesce_value}
use Rattle.bicep_meaning.specs.Around.{Frame}
use Rattle.bicep_outcomes.specs.declared.stop.Stop.{Stop}
use Rattle.bicep_outcomes.specs.Outcomes.{Stops, null_left}
use Rattle.bicep_outcomes.proofs.OutcomeLemmas.{told-done}
use Rattle.bicep_surroundings.specs.Sight.{Sight}
use Rattle.bicep_surroundings.proofs.ReadLemmas.{coalesce_found, coalesce_null, coalesce_stops}
use Rattle.bicep_eval.specs.Values as spec
use Rattle.foundation.proofs.Lists.{next_item}

module _ (s : Sight) (es : List Source) (i : ℕ) (fs : List Frame) where
  -- what is told of those from an index on
  abbrev pub first_from : ℕ → Told Cell Json
  first_from k = told s.known (spec.first_there s (sources (map source_of (drop k es))) fs)

  -- the first of them, and then the others
  first_left : (x : Source) → i < length es → x ≡ get_or es i x
      → first_from i ≡ told s.known (coalesce_value (spec.value s (source_of x) fs)
      (spec.first_there s (sources (map source_of (drop (i + 1) es))) fs))
  unfolding first_there
  first_left x l e =
      ap (λ (xs : List Source). told s.known (spec.first_there s (sources (map source_of xs)) fs))
      (next_item es i x l e)

  -- a value that is not null
  pub first_found : (x : Source) (v w : Value) (t : Told Cell Json) → i < length es → x ≡ get_or es i x
      → t ≡ first_from i
      → told s.known (spec.value s (source_of x) fs) ≡ value (json v)
      → option_map json (Some w) ≡ (if null_left (json v) then None else Some (json v)) → t ≡ value (json w)
  first_found x v w t l e before g h =
      before ∙ first_left x l e ∙ coalesce_found s.known s.cell v w (spec.value s (source_of x) fs) _ g h

  -- null
  pub first_null : (x : Source) (v : Value) (t : Told Cell Json) → i < length es → x ≡ get_or es i x
      → t ≡ first_from i
      → told s.known (spec.value s (source_of x) fs) ≡ value (json v)
      → option_map json None ≡ (if null_left (json v) then None else Some (json v)) → t ≡ first_from (i + 1)
  first_null x v t l e before g h =
      before ∙ first_left x l e ∙ coalesce_null s.known s.cell v (spec.value s (source_of x) fs) _ g h

  -- what stops
  pub first_stops : (x : Source) (q : Stop) (t : Told Cell Json) → i < length es → x ≡ get_or es i x
      → t ≡ first_from i
      → Stops s.cell q (told s.known (spec.value s (source_of x) fs)) → Stops s.cell q t
  first_stops x q t l e before g =
      subst (λ (u : Told Cell Json). Stops s.cell q u) (sym (before ∙ first_left x l e))
      (coalesce_stops s.known s.cell q (spec.value s (source_of x) fs) _ g)

  -- none is next_item
  pub first_ends : (t : Told Cell Json) → length es ≤ i → t ≡ first_from i → t ≡ value null
  unfolding first_there
  first_ends t l before =
      before ∙ ap (λ (xs : List Source). told s.known (spec.first_there s (sources (map source_of xs)) fs))
      (drop_all i es l)
      ∙ told-done s.known (Some null)
