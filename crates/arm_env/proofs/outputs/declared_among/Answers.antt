use Rattle.std.proofs.Common.{Some, None}
use Rattle.std.proofs.lemmas.Result.{err_from_is_err_and}
use Rattle.arm_env.specs.Held.{OutputOf}
use Rattle.arm_env.specs.Sight.{declared_of}
use Rattle.arm_env.proofs.HeldLemmas.{among_told, among_stops}
use Rattle.arm_env.proofs.outputs.declared_among.Goals as goal

pub returns-in_err-look_at_each : goal.returns-in_err-look_at_each
returns-in_err-look_at_each g c =
    let r = err_from_is_err_and c.from_residual.result c.from_residual.ensures.1 in
    let o : OutputOf = record { key = c.args.key.now; name = c.args.name.now } in
    rw (r.1, r.2)
    (among_stops _ (g.K.Entries.known c.args.entries.now) o c.args.outputs.now c.in_err-look_at_each.ensures)

pub returns-in-Some : goal.returns-in-Some
returns-in-Some g c =
    let o : OutputOf = record { key = c.args.key.now; name = c.args.name.now } in
    among_told (g.K.Entries.known c.args.entries.now) o c.args.outputs.now (Some (declared_of c.in-Some.output))
    c.in_ok-look_at_each.ensures c.in-Some.ensures

pub returns-in-None : goal.returns-in-None
returns-in-None g c =
    let o : OutputOf = record { key = c.args.key.now; name = c.args.name.now } in
    among_told (g.K.Entries.known c.args.entries.now) o c.args.outputs.now None
    c.in_ok-look_at_each.ensures c.in-None.ensures
