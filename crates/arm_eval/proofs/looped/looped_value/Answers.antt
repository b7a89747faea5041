use Rattle.std.proofs.Common.{sym, subst}
use Rattle.std.proofs.lemmas.Result.{err_from_is_err_and}
use Rattle.arm_value.specs.Json.{Json}
use Rattle.arm_value.specs.View.{json}
use Rattle.reading.specs.Knowledge.{Told}
use Rattle.arm_env.specs.Look.{Look}
use Rattle.arm_env.specs.Answer.{Gives}
use Rattle.arm_env.specs.Sight.{here}
use Rattle.arm_eval.specs.Trees.{Copy, tree_value}
use Rattle.arm_eval.proofs.LoopedLemmas.{loop_uncounted, loop_stops, loop_told}
use Rattle.arm_eval.proofs.looped.looped_value.Goals as goal

pub returns-in_err-count : goal.returns-in_err-count
returns-in_err-count g c =
    let r = err_from_is_err_and c.from_residual.result c.from_residual.ensures.1 in
    let p = g.K.Entries.known c.args.entries.now in
    let loop : Copy = record {
      name = c.args.name.now;
      count = tree_value (json c.args.count.now);
      input = tree_value (json c.args.input.now);
    } in
    rw (r.1, r.2) (loop_uncounted p loop (here c.args.around.now) _ c.in_err-count.ensures)

pub returns-in_err-values : goal.returns-in_err-values
returns-in_err-values g c =
    let r = err_from_is_err_and c.from_residual-in_err-values.result c.from_residual-in_err-values.ensures.1 in
    let p = g.K.Entries.known c.args.entries.now in
    let loop : Copy = record {
      name = c.args.name.now;
      count = tree_value (json c.args.count.now);
      input = tree_value (json c.args.input.now);
    } in
    rw (r.1, r.2) (loop_stops p loop (here c.args.around.now) _ _ c.in_ok-count.ensures
    c.in_err-values.ensures)

pub returns : goal.returns
returns g c =
    let p = g.K.Entries.known c.args.entries.now in
    let loop : Copy = record {
      name = c.args.name.now;
      count = tree_value (json c.args.count.now);
      input = tree_value (json c.args.input.now);
    } in
    let P : Told Look Json → Type 0 = Gives json c.array_of.result in
    subst P
    (sym (loop_told p loop (here c.args.around.now) _ _ c.in_ok-count.ensures c.in_ok-values.ensures))
    c.array_of.ensures
