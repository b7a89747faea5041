use Rattle.std.proofs.Common.{◌∙◌, ap, Result, Err, subst}
use Rattle.arm_value.specs.View.{json}
use Rattle.arm_value.specs.declared.value.Value.{Value}
use Rattle.reading.specs.Knowledge.{told}
use Rattle.arm_env.specs.Answer.{Gives}
use Rattle.arm_env.specs.declared.stop.Stop.{Stop}
use Rattle.arm_eval.specs.Titles.{titled, known_through}
use Rattle.arm_eval.specs.Words.{titles_in}
use Rattle.arm_eval.proofs.CellLemmas.{titled_value_told, titled_none_told}
use Rattle.arm_eval.proofs.titles.resolved.Goals as goal

pub returns-in-Ok : goal.returns-in-Ok
returns-in-Ok g c =
    λ r h.
    let p = g.K.Entries.known c.args.entries.now in
    let ts = titles_in c.args.titles.now in
    titled_value_told p ts c.args.place.now r (json c.in-Ok.value)
    (subst (λ (f : Result Value Stop). Gives json f (told (known_through
    (titled ts c.args.place.now) p) r)) c.in-Ok.is h)

pub returns-in-Err-NoValue : goal.returns-in-Err-NoValue
returns-in-Err-NoValue g c =
    λ r h.
    let p = g.K.Entries.known c.args.entries.now in
    let ts = titles_in c.args.titles.now in
    titled_none_told p ts c.args.place.now r
    (subst (λ (f : Result Value Stop). Gives json f (told (known_through (titled ts c.args.place.now) p) r))
    (c.in-Err-NoValue.is ∙ ap Err c.in-Err-NoValue.field-0-is) h)

pub returns-in-Err-Waits : goal.returns-in-Err-Waits
returns-in-Err-Waits g c =
    λ r h.
    let p = g.K.Entries.known c.args.entries.now in
    let ts = titles_in c.args.titles.now in
    c.resolved_cell.ensures r
    (subst (λ (f : Result Value Stop). Gives json f (told (known_through (titled ts c.args.place.now) p) r))
    (c.in-Err-Waits.is ∙ ap Err c.in-Err-Waits.field-0-is) h)
