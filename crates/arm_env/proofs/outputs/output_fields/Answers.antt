use Rattle.std.proofs.Common.{Some, None, List, option_map, [], sym, ap, ◌∙◌, ◌≡◌}
use Rattle.std.proofs.lemmas.Result.{err_from_is_err_and}
use Rattle.arm_value.specs.Json.{Member, put, put_each}
use Rattle.arm_value.specs.View.{member}
use Rattle.arm_value.proofs.GatherLemmas.{put_each-push}
use Rattle.arm_env.specs.Held.{output_member}
use Rattle.arm_env.specs.Sight.{declared_of}
use Rattle.reading.specs.Knowledge.{told, value}
use Rattle.arm_env.specs.Answer.{so_far, outcome_told}
use Rattle.arm_env.specs.declared.entries.Declared.{Declared}
use Rattle.arm_env.proofs.Gather.{gathered-nil, one_value, one_none, one_stops}
use Rattle.arm_env.proofs.outputs.output_fields.Goals as goal
use Rattle.arm_env.proofs.outputs.output_fields.Goals.{in-Some+in_ok-put_field-in-Some, in-None}

pub loop-output-init : goal.loop-output-init
loop-output-init g c = gathered-nil Member (g.K.Entries.known c.args.entries.now) (List Member) (put_each [])
    ∙ ap value (sym c.new-fields.ensures)

pub returns-in_err-member : goal.returns-in_err-member
returns-in_err-member g c =
    let p = err_from_is_err_and c.from_residual.result c.from_residual.ensures.1 in
    rw (p.1, p.2) (one_stops Member (g.K.Entries.known c.args.entries.now) (List Member) (put_each []) Declared
    (λ x. output_member c.args.key.now (declared_of x)) _ c.args.outputs.now
    c.loop-output.output-index c.output-item.result c.loop-output.complete c.loop-output.fields
    c.loop-output-test.true c.output-item.is c.loop-output.invariant
    c.in_err-member.ensures.value)

pub loop-output-preserved : goal.loop-output-preserved
loop-output-preserved g c =
    let p = g.K.Entries.known c.args.entries.now in
    elim c.match-branch-2.branch [
      | in-Some+in_ok-put_field-in-Some w ↦
          let found : outcome_told
          (told p (output_member c.args.key.now (declared_of c.output-item.result)))
          ≡ value (Some (member w.in-Some.member)) =
          c.in_ok-member.ensures.value ∙ ap (λ o. value (option_map member o)) w.in-Some.is in
          one_value Member p (List Member) (put_each []) Declared
          (λ x. output_member c.args.key.now (declared_of x)) (λ ms m. put m.0 m.1 ms)
          (put_each-push []) c.args.outputs.now c.loop-output.output-index c.output-item.result
          c.loop-output.complete c.loop-output.fields
          (member w.in-Some.member) c.loop-output-test.true c.output-item.is
          c.loop-output.invariant found
          ∙ ap (so_far c.loop-output.complete)
          (sym (w.fields-is ∙ w.in_ok-put_field-in-Some.ensures))
          ∙ ap (λ b. so_far b c.match-branch-2.fields) (sym w.complete-is)
      | in-None w ↦
          let found : outcome_told
          (told p (output_member c.args.key.now (declared_of c.output-item.result)))
          ≡ value None = c.in_ok-member.ensures.value
          ∙ ap (λ o. value (option_map member o)) w.in-None.is in
          one_none Member p (List Member) (put_each []) Declared
          (λ x. output_member c.args.key.now (declared_of x)) c.args.outputs.now
          c.loop-output.output-index c.output-item.result c.loop-output.complete
          c.loop-output.fields c.match-branch-2.fields c.loop-output-test.true c.output-item.is
          c.loop-output.invariant found
          ∙ ap (λ b. so_far b c.match-branch-2.fields) (sym w.complete-is)
    ]
