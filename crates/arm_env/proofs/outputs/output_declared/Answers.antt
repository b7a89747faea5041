use Rattle.std.proofs.Common.{sym}
use Rattle.std.proofs.lemmas.Result.{err_from_is_err_and}
use Rattle.arm_env.specs.Held.{OutputOf}
use Rattle.arm_env.proofs.HeldLemmas.{declared_told, declared_stops}
use Rattle.arm_env.proofs.outputs.output_declared.Goals as goal

pub returns-in_err-outputs : goal.returns-in_err-outputs
returns-in_err-outputs g c =
    let r = err_from_is_err_and c.from_residual.result c.from_residual.ensures.1 in
    let o : OutputOf = record { key = c.args.key.now; name = c.args.name.now } in
    rw (r.1, r.2) (declared_stops _ (g.K.Entries.known c.args.entries.now) o c.in_err-outputs.ensures)

pub returns : goal.returns
returns g c =
    let p = g.K.Entries.known c.args.entries.now in
    let o : OutputOf = record { key = c.args.key.now; name = c.args.name.now } in
    rw (declared_told p o _ c.in_ok-outputs.ensures)
    (rw (sym c.as_slice.ensures.value) c.declared_among-output.ensures)
