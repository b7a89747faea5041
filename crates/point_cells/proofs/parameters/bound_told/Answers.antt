use Rattle.std.proofs.Common.{◌≡◌, sym, ap, subst, ◌∙◌}
use Rattle.arm_value.specs.View.{json}
use Rattle.reading.specs.Knowledge.{value}
use Rattle.template_parameters.specs.Binding.{value_view}
use Rattle.plan_cells.specs.Meaning.{bound_value}
use Rattle.point_rows.specs.Rows.{told_now}
use Rattle.plan_table.specs.Whole.{whole_of}
use Rattle.point_cells.proofs.parameters.bound_told.Goals as goal
use Rattle.point_rows.proofs.ToldNowLemmas.{told_pure}

pub returns-in-Ok : goal.returns-in-Ok
returns-in-Ok c =
    let t = c.args.register.now.table in
    let w = c.args.later.now in
    subst (λ b. told_now t w (bound_value (whole_of t) (value_view b)) ≡ value (json c.in-Ok.value)) (sym c.in-Known.is)
    (told_pure t w (json c.in-Known.value) ∙ ap (λ v. value (json v)) (sym c.in-Ok.ensures))
