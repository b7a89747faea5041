use Rattle.std.proofs.Common.{Option, option_map, sym, ap, ◌∙◌, subst}
use Rattle.std.proofs.lemmas.Result.{err_from_is_err_and}
use Rattle.arm_value.specs.Json.{Json}
use Rattle.arm_value.specs.View.{json}
use Rattle.arm_env.specs.Kinds.{truth_of}
use Rattle.reading.specs.Knowledge.{Told, told}
use Rattle.arm_env.specs.Look.{Look}
use Rattle.arm_env.specs.Answer.{Gives}
use Rattle.arm_env.specs.Sight.{here}
use Rattle.arm_env.proofs.Answers.{goes, stops}
use Rattle.arm_eval.specs.Trees.{tree_value}
use Rattle.arm_eval.specs.Outputs.{content_value, where_true, output_value}
use Rattle.arm_eval.specs.Words.{content_of}
use Rattle.arm_eval.proofs.outputs.output_value.Goals as goal

pub returns-in_err-value-in-Some : goal.returns-in_err-value-in-Some
returns-in_err-value-in-Some g c =
    let p = g.K.Entries.known c.args.entries.now in
    let content = content_of c.args.content.now in
    let near = here c.args.around.now in
    let r = err_from_is_err_and c.from_residual.result c.from_residual.ensures.1 in
    let P : Option Json → Type 0 =
    λ o. Gives (option_map json) c.from_residual.result (told p (output_value o content near)) in
    subst P (sym (ap (option_map (λ v. json v.now)) c.in-Some.is))
    (rw (r.1, r.2) (stops _ p (tree_value (json c.in-Some.condition.now) near)
    (λ v. where_true (truth_of v) (content_value content near)) c.in_err-value-in-Some.ensures))

pub returns-in_ok-value-in-Some : goal.returns-in_ok-value-in-Some
returns-in_ok-value-in-Some g c =
    let p = g.K.Entries.known c.args.entries.now in
    let content = content_of c.args.content.now in
    let near = here c.args.around.now in
    let P : Told Look (Option Json) → Type 0 = Gives (option_map json) c.where_true.result in
    subst P
    (sym
    (ap (λ o. told p (output_value o content near)) (ap (option_map (λ v. json v.now)) c.in-Some.is)
    ∙ goes p (tree_value (json c.in-Some.condition.now) near)
    (λ v. where_true (truth_of v) (content_value content near)) (json c.in_ok-value-in-Some.value)
    c.in_ok-value-in-Some.ensures
    ∙ ap (λ b. told p (where_true b (content_value content near))) (sym c.truth.ensures)))
    c.where_true.ensures
