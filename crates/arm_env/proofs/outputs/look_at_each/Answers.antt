use Rattle.std.proofs.Common.{Bool, true, Bor, Some, None, option_map, refl, sym, ap, ◌∙◌, ◌≡◌}
use Rattle.std.proofs.lemmas.Result.{err_from_is_err_and}
use Rattle.arm_value.specs.Json.{Member}
use Rattle.arm_value.specs.View.{json}
use Rattle.arm_value.specs.declared.value.Value.{Value}
use Rattle.arm_env.specs.Held.{output_value, output_member, shown}
use Rattle.arm_env.specs.Sight.{declared_of}
use Rattle.reading.specs.Knowledge.{told, value}
use Rattle.arm_env.specs.Answer.{so_far, outcome_told}
use Rattle.arm_env.specs.declared.entries.Declared.{Declared}
use Rattle.arm_env.proofs.Gather.{gathered-nil, one_value, one_none, one_stops}
use Rattle.arm_env.proofs.HeldLemmas.{member_outcome, member_stops}
use Rattle.arm_env.proofs.outputs.look_at_each.Goals as goal
use Rattle.arm_env.proofs.outputs.look_at_each.Goals.{in-Some, in-None}

pub loop-output-init : goal.loop-output-init
loop-output-init g c = gathered-nil Member (g.K.Entries.known c.args.entries.now) Bool (λ _. true)

pub returns-in_err-_value : goal.returns-in_err-_value
returns-in_err-_value g c =
    let p = err_from_is_err_and c.from_residual.result c.from_residual.ensures.1 in
    rw (p.1, p.2) (one_stops Member (g.K.Entries.known c.args.entries.now) Bool (λ _. true) Declared
    (λ x. output_member c.args.key.now (declared_of x)) _ c.args.outputs.now
    c.loop-output.output-index c.output-item.result c.loop-output.complete true
    c.loop-output-test.true c.output-item.is c.loop-output.invariant
    (member_stops _ (g.K.Entries.known c.args.entries.now) c.args.key.now
    (declared_of c.output-item.result) c.in_err-_value.ensures))

pub loop-output-preserved : goal.loop-output-preserved
loop-output-preserved g c =
    let p = g.K.Entries.known c.args.entries.now in
    let x = declared_of c.output-item.result in
    elim c.match-branch-2.branch [
      | in-Some w ↦
          let found : outcome_told (told p (output_value c.args.key.now x))
          ≡ value (Some (json w.in-Some._value.now)) =
          c.in_ok-_value.ensures
          ∙ ap (λ o. value (option_map (λ (v : Bor Value). json v.now) o)) w.in-Some.is in
          one_value Member p Bool (λ _. true) Declared
          (λ x. output_member c.args.key.now (declared_of x)) (λ b a. true)
          (λ xs x. refl) c.args.outputs.now c.loop-output.output-index c.output-item.result
          c.loop-output.complete true (shown x (json w.in-Some._value.now))
          c.loop-output-test.true c.output-item.is c.loop-output.invariant
          (member_outcome p c.args.key.now x _ found)
          ∙ ap (λ b. so_far b true) (sym w.complete-is)
      | in-None w ↦
          let found : outcome_told (told p (output_value c.args.key.now x)) ≡ value None =
          c.in_ok-_value.ensures
          ∙ ap (λ o. value (option_map (λ (v : Bor Value). json v.now) o)) w.in-None.is in
          one_none Member p Bool (λ _. true) Declared
          (λ x. output_member c.args.key.now (declared_of x)) c.args.outputs.now
          c.loop-output.output-index c.output-item.result c.loop-output.complete true true
          c.loop-output-test.true c.output-item.is c.loop-output.invariant
          (member_outcome p c.args.key.now x _ found)
          ∙ ap (λ b. so_far b true) (sym w.complete-is)
    ]
