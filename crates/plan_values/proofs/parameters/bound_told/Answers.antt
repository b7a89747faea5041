use Rattle.std.proofs.Common.{◌≡◌, sym, ap, subst, ◌∙◌}
use Rattle.arm_value.specs.View.{json}
use Rattle.reading.specs.Knowledge.{value}
use Rattle.template_parameters.specs.Binding.{value_view}
use Rattle.plan_cells.specs.Meaning.{bound_value}
use Rattle.plan_sight.specs.Ready.{told_in}
use Rattle.plan_table.specs.Whole.{whole_of}
use Rattle.plan_values.proofs.parameters.bound_told.Goals as goal
use Rattle.plan_sight.proofs.ToldLemmas.{told_pure}

pub returns-in-Ok : goal.returns-in-Ok
returns-in-Ok c =
    let t = c.args.register.now.table in
    subst (λ b. told_in t (bound_value (whole_of t) (value_view b)) ≡ value (json c.in-Ok.value)) (sym c.in-Known.is)
    (told_pure t (json c.in-Known.value) ∙ ap (λ v. value (json v)) (sym c.in-Ok.ensures))
