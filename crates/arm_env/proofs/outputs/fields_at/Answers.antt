use Rattle.std.proofs.Common.{sym}
use Rattle.std.proofs.lemmas.Result.{err_from_is_err_and}
use Rattle.reading.specs.Knowledge.{told}
use Rattle.arm_env.specs.Held.{all_outputs}
use Rattle.arm_env.proofs.Answers.{stopped}
use Rattle.arm_env.proofs.HeldLemmas.{outputs_told, outputs_stop, put_together}
use Rattle.arm_env.proofs.outputs.fields_at.Goals as goal

pub returns-in_err-outputs : goal.returns-in_err-outputs
returns-in_err-outputs g c =
    let r = err_from_is_err_and c.from_residual.result c.from_residual.ensures.1 in
    let p = g.K.Entries.known c.args.entries.now in
    rw (r.1, r.2)
    (stopped _ (told p (all_outputs c.args.key.now)) _
    (outputs_stop _ p c.args.key.now c.in_err-outputs.ensures))

pub returns : goal.returns
returns g c =
    let p = g.K.Entries.known c.args.entries.now in
    rw (outputs_told p c.args.key.now _ c.in_ok-outputs.ensures)
    (put_together p c.args.key.now c.in_ok-outputs.outputs.items c.output_fields-fields.result
    (rw (sym c.as_slice.ensures.value) c.output_fields-fields.ensures))
