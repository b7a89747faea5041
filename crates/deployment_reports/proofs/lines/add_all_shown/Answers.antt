use Rattle.std.proofs.Common.{◌∙◌, ◌++◌, ◌∷◌, ◌+◌, ap, sym, drop, append_assoc, append-nil}
use Rattle.std.proofs.lemmas.List.{drop_more, drop_all}
use Rattle.deployment_reports.specs.Lines.{shown, shown_of}
use Rattle.deployment_reports.proofs.lines.add_all_shown.Goals as goal

pub loop-output-preserved : goal.loop-output-preserved
loop-output-preserved c =
    let outputs = c.args.outputs.now in
    let i = c.loop-output.output-index in
    let x = c.output-item.result in
    let rest = shown (drop (i + 1) outputs) in
    let old = c.loop-output.lines.items in
    ap (λ ls. ls ++ rest) c.in_ok-add_shown.ensures
    ∙ append_assoc old (shown_of x) rest
    ∙ ap (λ os. old ++ shown os)
    (sym (drop_more outputs i x c.loop-output-test.true ∙ ap (λ y. y ∷ drop (i + 1) outputs) (sym c.output-item.is)))
    ∙ c.loop-output.invariant

pub returns : goal.returns
returns c =
    let outputs = c.args.outputs.now in
    let i = c.loop-output.output-index in
    let old = c.loop-output.lines.items in
    sym (ap (λ os. old ++ shown os) (drop_all i outputs c.loop-output-test.false) ∙ append-nil old)
    ∙ c.loop-output.invariant
