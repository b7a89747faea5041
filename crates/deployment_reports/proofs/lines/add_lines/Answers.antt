use Rattle.std.proofs.Common.{◌∙◌, ◌++◌, ◌∷◌, ◌+◌, ap, sym, drop, append_assoc, append-nil}
use Rattle.std.proofs.lemmas.List.{drop_more, drop_all}
use Rattle.deployment_reports.specs.Lines.{line_text, text_of}
use Rattle.deployment_reports.proofs.lines.add_lines.Goals as goal

pub loop-line-preserved : goal.loop-line-preserved
loop-line-preserved c =
    let lines = c.args.lines.now in
    let i = c.loop-line.line-index in
    let x = c.line-item.result in
    let rest = text_of (drop (i + 1) lines) in
    let old = c.loop-line.text in
    ap (λ t. t ++ rest) c.in_ok-add_line.ensures
    ∙ append_assoc old (line_text x) rest
    ∙ ap (λ ls. old ++ text_of ls)
    (sym (drop_more lines i x c.loop-line-test.true ∙ ap (λ y. y ∷ drop (i + 1) lines) (sym c.line-item.is)))
    ∙ c.loop-line.invariant

pub returns : goal.returns
returns c =
    let lines = c.args.lines.now in
    let i = c.loop-line.line-index in
    let old = c.loop-line.text in
    sym (ap (λ ls. old ++ text_of ls) (drop_all i lines c.loop-line-test.false) ∙ append-nil old)
    ∙ c.loop-line.invariant
