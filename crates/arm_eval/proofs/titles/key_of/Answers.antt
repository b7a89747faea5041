use Rattle.std.proofs.Common.{sym, ap, ◌∙◌}
use Rattle.std.proofs.lemmas.Result.{err_from_is_err_and}
use Rattle.reading.specs.Knowledge.{finished}
use Rattle.arm_env.proofs.Answers.{goes, stops, told-done}
use Rattle.arm_eval.proofs.titles.key_of.Goals as goal

pub returns-in_err-value : goal.returns-in_err-value
returns-in_err-value g c =
    let r = err_from_is_err_and c.from_residual.result c.from_residual.ensures.1 in
    rw (r.1, r.2) (stops _ (g.K.Entries.known c.args.entries.now) _ _ c.in_err-value.ensures)

pub returns-in-Some : goal.returns-in-Some
returns-in-Some g c =
    let p = g.K.Entries.known c.args.entries.now in
    goes p _ _ _ c.in_ok-value.ensures ∙ told-done p _
    ∙ ap finished (sym c.in_ok-key.ensures ∙ c.in-Some.is)

pub returns-in-None : goal.returns-in-None
returns-in-None g c =
    let p = g.K.Entries.known c.args.entries.now in
    goes p _ _ _ c.in_ok-value.ensures ∙ told-done p _
    ∙ ap finished (sym c.in_ok-key.ensures ∙ c.in-None.is)
