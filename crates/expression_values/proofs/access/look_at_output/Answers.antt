use Rattle.std.proofs.Common.{◌∙◌, Some}
use Rattle.std.proofs.lemmas.Result.{err_from_is_err_and}
use Rattle.arm_env.proofs.Answers.{goes, stops, told-done}
use Rattle.expression_values.proofs.access.look_at_output.Goals as goal

pub returns-in_err-output : goal.returns-in_err-output
returns-in_err-output g c =
    let r = err_from_is_err_and c.from_residual.result c.from_residual.ensures.1 in
    rw (r.1, r.2) (stops _ (g.K.Entries.known c.args.entries.now) _ _ c.in_err-output.ensures)

pub returns-in_err-_value : goal.returns-in_err-_value
returns-in_err-_value g c =
    let r = err_from_is_err_and c.from_residual-in_err-_value.result
    c.from_residual-in_err-_value.ensures.1 in
    let p = g.K.Entries.known c.args.entries.now in
    rw (r.1, r.2, goes p _ _ _ c.in_ok-output.ensures) (stops _ p _ _ c.in_err-_value.ensures.value)

pub returns : goal.returns
returns g c =
    let p = g.K.Entries.known c.args.entries.now in (
      _,
      goes p _ _ _ c.in_ok-output.ensures ∙ goes p _ _ _ c.in_ok-_value.ensures.value
          ∙ told-done p (Some _),
    )
