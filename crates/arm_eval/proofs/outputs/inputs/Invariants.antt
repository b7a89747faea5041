use Rattle.std.proofs.Common.{◌≡◌, ◌∷◌, ℕ, take, map}
use Rattle.arm_value.specs.View.{json}
use Rattle.reading.specs.Knowledge.{finished}
use Rattle.arm_env.specs.Answer.{gathered}
use Rattle.arm_env.specs.Sight.{here}
use Rattle.arm_eval.specs.Outputs.{output_loop, input_at}
use Rattle.arm_eval.proofs.RoundLemmas.{below}
use Rattle.arm_eval.proofs.outputs.inputs.Given as goal

-- what is there so far, or nothing where one has no value, and the nearest loop is that of the output
abbrev pub invariant-loop-index : goal.invariant-loop-index
invariant-loop-index g l = record {
  nearest : (k : ℕ) × (l.loops.items ≡ output_loop k ∷ l.around.loops.now);
  values : gathered (λ vs. vs) (g.K.Entries.known l.entries)
      (map (input_at (json l.input) (here l.around)) (take l.index (below l.count))) ≡ finished l.values;
}
