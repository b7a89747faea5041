use Rattle.std.proofs.Common.{sym, ◌∙◌, subst}
use Rattle.std.proofs.lemmas.Result.{err_from_is_err_and}
use Rattle.arm_value.specs.Json.{Json}
use Rattle.arm_value.specs.View.{json}
use Rattle.reading.specs.Knowledge.{Told}
use Rattle.arm_env.specs.Look.{Look}
use Rattle.arm_env.specs.Answer.{Gives}
use Rattle.arm_env.specs.Sight.{here}
use Rattle.arm_env.proofs.Answers.{goes, stops}
use Rattle.arm_eval.specs.Trees.{array_of}
use Rattle.arm_eval.specs.Outputs.{inputs}
use Rattle.arm_eval.proofs.TurnLemmas.{array_given, array_stops}
use Rattle.arm_eval.proofs.outputs.copied.Goals as goal

pub returns-in_err-count : goal.returns-in_err-count
returns-in_err-count g c =
    let r = err_from_is_err_and c.from_residual.result c.from_residual.ensures.1 in
    rw (r.1, r.2) (stops _ (g.K.Entries.known c.args.entries.now) _ _ c.in_err-count.ensures)

pub returns-in_err-values : goal.returns-in_err-values
returns-in_err-values g c =
    let r = err_from_is_err_and c.from_residual-in_err-values.result c.from_residual-in_err-values.ensures.1 in
    let p = g.K.Entries.known c.args.entries.now in
    rw (r.1, r.2, goes p _ _ _ c.in_ok-count.ensures) (array_stops p _ _ c.in_err-values.ensures)

pub returns : goal.returns
returns g c =
    let p = g.K.Entries.known c.args.entries.now in
    let P : Told Look Json → Type 0 = Gives json c.array_of.result in
    subst P
    (sym
    (goes p _ (λ n. array_of (inputs (json c.args.input.now) (here c.args.around.now) 0 n)) _ c.in_ok-count.ensures
    ∙ array_given p _ _ c.in_ok-values.ensures)) c.array_of.ensures
