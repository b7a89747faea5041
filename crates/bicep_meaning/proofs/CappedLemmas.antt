-- A value that is kept nests at most 100 deep.
use Rattle.std.proofs.Common.{◌≡◌, ◌≤◌, List, nat_le, Some, sym, ◌∙◌, subst}
use Rattle.std.proofs.lemmas.Option.{cond_some, option_and_then_some}
use Rattle.foundation.specs.declared.limits.TheConstants.{MAX_VALUE_NESTING}
use Rattle.function_prints.specs.Json.{Json, nesting}
use Rattle.arm_env.specs.Part.{kept}
use Rattle.reading.specs.Reading.{done}
use Rattle.reading.specs.World.{value_in}
use Rattle.reading.proofs.Parts.{value_in-continued}
use Rattle.deploy_cells.specs.Cells.{Cell, World}
use Rattle.deploy_cells.specs.Guarded.{Reads}
use Rattle.bicep_resolved.specs.Source.{SourceTree}
use Rattle.bicep_meaning.specs.Rows.{capped}
use Rattle.bicep_meaning.specs.Around.{Here, Frame, Around}
use Rattle.bicep_meaning.specs.Meaning.{bare, value}
use Rattle.foundation.proofs.Comparisons.{le_of_true}

pub kept_nests : (i j : Json) → kept i ≡ Some j → nesting j ≤ 100
kept_nests i j e =
    let c = cond_some (nat_le (nesting i) 100) i j e in
    subst (λ (v : Json). nesting v ≤ 100) c.1 (le_of_true (nesting i) 100 c.0)

capped_nests : (w : World) (r : Reads Json) (j : Json) → value_in w (capped r) ≡ Some j → nesting j ≤ 100
unfolding value_in capped
capped_nests w r j e =
    option_and_then_some (λ i. kept i) (value_in w r) j
    (sym (value_in-continued Cell Json Json Json w r (λ i. done (kept i))) ∙ e) (λ i h k. kept_nests i j k)

pub value_kept : (here : Here) (a : Around) (e : SourceTree) (fs : List Frame) (w : World) (j : Json)
    → value_in w (value here a e fs) ≡ Some j → nesting j ≤ MAX_VALUE_NESTING
value_kept here a e fs w j h = capped_nests w (bare here a e fs) j h
