use Rattle.std.proofs.Common.{Bool, Option, Some, None, option_map, sym, ap, ◌∙◌, subst}
use Rattle.std.proofs.lemmas.Result.{err_from_is_err_and}
use Rattle.arm_value.specs.View.{json}
use Rattle.reading.specs.Reading.{pure}
use Rattle.reading.specs.Knowledge.{told}
use Rattle.arm_env.specs.Answer.{Gives}
use Rattle.arm_env.specs.Sight.{here}
use Rattle.arm_env.proofs.Answers.{goes, stops, told-done}
use Rattle.arm_eval.specs.Outputs.{content_value, where_true}
use Rattle.arm_eval.specs.Words.{content_of}
use Rattle.arm_eval.proofs.outputs.where_true.Goals as goal

pub returns-in_err-content_value-in-Some-true : goal.returns-in_err-content_value-in-Some-true
returns-in_err-content_value-in-Some-true g c =
    let p = g.K.Entries.known c.args.entries.now in
    let o = content_value (content_of c.args.content.now) (here c.args.around.now) in
    let r = err_from_is_err_and c.from_residual.result c.from_residual.ensures.1 in
    let P : Option Bool → Type 0 = λ b. Gives (option_map json) c.from_residual.result (told p (where_true b o)) in
    subst P (sym (c.in-Some-true.is ∙ ap Some c.in-Some-true.field-0-test))
    (rw (r.1, r.2) (stops _ p o (λ j. pure (Some j)) c.in_err-content_value-in-Some-true.ensures))

pub returns-in_ok-content_value-in-Some-true : goal.returns-in_ok-content_value-in-Some-true
returns-in_ok-content_value-in-Some-true g c =
    let p = g.K.Entries.known c.args.entries.now in
    let o = content_value (content_of c.args.content.now) (here c.args.around.now) in
    let v = json c.in_ok-content_value-in-Some-true.field-0 in
    ap (λ b. told p (where_true b o)) (c.in-Some-true.is ∙ ap Some c.in-Some-true.field-0-test)
    ∙ goes p o (λ j. pure (Some j)) v c.in_ok-content_value-in-Some-true.ensures ∙ told-done p (Some (Some v))

pub returns-in-Some-false : goal.returns-in-Some-false
returns-in-Some-false g c =
    let p = g.K.Entries.known c.args.entries.now in
    let o = content_value (content_of c.args.content.now) (here c.args.around.now) in
    ap (λ b. told p (where_true b o)) (c.in-Some-false.is ∙ ap Some c.in-Some-false.field-0-test)
    ∙ told-done p (Some None)

pub returns-in-None : goal.returns-in-None
returns-in-None g c =
    let p = g.K.Entries.known c.args.entries.now in
    let o = content_value (content_of c.args.content.now) (here c.args.around.now) in
    ap (λ b. told p (where_true b o)) c.in-None.is ∙ told-done p None
