use Rattle.std.proofs.Common.{map, sym, ap, ◌∙◌}
use Rattle.std.proofs.lemmas.Result.{IfOk-weaker}
use Rattle.std.specs.Str.{chars}
use Rattle.arm_value.specs.Look.{fold}
use Rattle.arm_value.specs.View.{json}
use Rattle.bicep_meaning.specs.Rows.{value_by}
use Rattle.bicep_outcomes.proofs.CallLemmas.{value_folded}
use Rattle.bicep_outcomes.proofs.calls.value_of.Goals as goal

pub returns-in-None : goal.returns-in-None
returns-in-None c =
    let name = chars c.args.name.now in
    let args = map json c.args.args.now in
    IfOk-weaker c.plain_call.result _ _
    (λ v h. h ∙ sym (value_folded name args)
    ∙ ap (λ o. value_by c.args.place.now (fold name) o args) (sym c.in-None.is ∙ c.in_ok-function.ensures))
    c.plain_call.ensures
