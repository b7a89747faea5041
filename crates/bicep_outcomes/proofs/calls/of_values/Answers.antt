use Rattle.std.proofs.Common.{map, ap, ◌∙◌}
use Rattle.std.proofs.lemmas.Result.{IfOk-weaker}
use Rattle.std.specs.Str.{chars}
use Rattle.arm_value.specs.Look.{fold}
use Rattle.arm_value.specs.View.{json}
use Rattle.arm_env.specs.Names.{placed_named}
use Rattle.bicep_meaning.specs.Rows.{value_by}
use Rattle.bicep_outcomes.proofs.calls.of_values.Goals as goal

pub returns : goal.returns
returns c =
    let name = fold (chars c.args.name.now) in
    c.made.ensures _ (IfOk-weaker c.value_of-value.result _ _
    (λ v h. h ∙ ap (λ vs. value_by c.args.place.now name (placed_named name) (map json vs)) c.as_slice.ensures.value)
    c.value_of-value.ensures)
