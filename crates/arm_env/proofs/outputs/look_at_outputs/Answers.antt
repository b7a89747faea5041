use Rattle.std.proofs.Common.{sym}
use Rattle.std.proofs.lemmas.Result.{err_from_is_err_and}
use Rattle.arm_env.proofs.HeldLemmas.{outputs_told, outputs_stop, looked}
use Rattle.arm_env.proofs.outputs.look_at_outputs.Goals as goal

pub returns-in_err-outputs : goal.returns-in_err-outputs
returns-in_err-outputs g c =
    let r = err_from_is_err_and c.from_residual.result c.from_residual.ensures.1 in
    rw (r.1, r.2) (outputs_stop _ (g.K.Entries.known c.args.entries.now) c.args.key.now c.in_err-outputs.ensures)

pub returns : goal.returns
returns g c =
    let p = g.K.Entries.known c.args.entries.now in
    rw (outputs_told p c.args.key.now _ c.in_ok-outputs.ensures)
    (looked p c.args.key.now c.in_ok-outputs.outputs.items c.look_at_each-looked.result
    (rw (sym c.as_slice.ensures.value) c.look_at_each-looked.ensures))
