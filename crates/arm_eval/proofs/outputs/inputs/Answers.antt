use Rattle.std.proofs.Common.{◌≡◌, List, Some, option_map, sym, ap, ◌∙◌, subst}
use Rattle.arm_value.specs.View.{json}
use Rattle.reading.specs.Knowledge.{value, told, finished}
use Rattle.arm_env.specs.Answer.{Stops, outcome_told}
use Rattle.arm_env.specs.Sight.{here}
use Rattle.arm_env.specs.declared.env.Looping.{Looping}
use Rattle.arm_eval.specs.Trees.{tree_value}
use Rattle.arm_eval.specs.Outputs.{output_loop}
use Rattle.arm_eval.proofs.OutputLemmas.{no_input_yet, input_turn, input_stops, all_inputs}
use Rattle.arm_eval.proofs.outputs.inputs.Goals as goal

pub loop-index-init : goal.loop-index-init
loop-index-init g c = record {
  nearest = (0, c.in_ok-loops.ensures);
  values = no_input_yet (g.K.Entries.known c.args.entries.now) (json c.args.input.now) (here c.args.around.now)
      (Some c.new.result) (ap Some c.new.ensures);
}

pub returns-in-Err : goal.returns-in-Err
returns-in-Err g c =
    let p = g.K.Entries.known c.args.entries.now in
    let near = c.as_slice.ensures.value
    ∙ c.turn_to.ensures (output_loop c.loop-index.invariant.nearest.0) c.args.around.now.loops.now
    c.loop-index.invariant.nearest.1 in
    let P : List Looping
    → Type 0 =
    λ ls. Stops c.in-Err.stop
    (outcome_told
    (told p
    (tree_value (json c.args.input.now) (record (here c.args.around.now) { loops = ls })))) in
    rw c.stopped.ensures (input_stops p (json c.args.input.now) (here c.args.around.now) c.in-Err.stop
    c.args.count c.loop-index.index c.loop-index.values c.loop-index-test.true c.loop-index.invariant.values
    (subst P near c.in-Err.ensures.value))

pub loop-index-preserved : goal.loop-index-preserved
loop-index-preserved g c =
    let p = g.K.Entries.known c.args.entries.now in
    let turned =
    c.turn_to.ensures (output_loop c.loop-index.invariant.nearest.0) c.args.around.now.loops.now
    c.loop-index.invariant.nearest.1 in
    let near = c.as_slice.ensures.value ∙ turned in
    let P : List Looping
    → Type 0 =
    λ ls. outcome_told
    (told p
    (tree_value (json c.args.input.now) (record (here c.args.around.now) { loops = ls })))
    ≡ value (option_map json c.in-Ok.value) in
    record {
      nearest = (c.loop-index.index, turned);
      values = input_turn p (json c.args.input.now) (here c.args.around.now) c.args.count c.loop-index.index
          c.loop-index.values (option_map json c.in-Ok.value) c.loop-index-test.true
          c.loop-index.invariant.values (subst P near c.in-Ok.ensures.value)
          ∙ ap finished (sym c.in_ok-values-in-Ok.ensures);
    }

pub returns : goal.returns
returns g c = all_inputs (g.K.Entries.known c.args.entries.now) (json c.args.input.now) (here c.args.around.now)
    c.args.count c.loop-index.index c.loop-index.values c.loop-index-test.false c.loop-index.invariant.values
