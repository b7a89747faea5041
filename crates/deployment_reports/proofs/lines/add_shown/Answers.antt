use Rattle.std.proofs.Common.{◌≡◌, ◌∙◌, ◌++◌, ◌∷◌, [], List, ap}
use Rattle.deployment_reports.specs.declared.lines.OutputLine.{OutputLine}
use Rattle.deployment_reports.proofs.LineLemmas.{shown_none, shown_one}
use Rattle.deployment_reports.proofs.lines.add_shown.Goals as goal

pub returns-then-is_secret : goal.returns-then-is_secret
returns-then-is_secret c =
    shown_none c.args.lines.now.items c.args.output.now c.is_secret.result c.is_secret.ensures c.if-is_secret.true

pub returns : goal.returns
returns c =
    c.in_ok-push.ensures.items
    ∙ ap (λ (l : OutputLine). c.args.lines.now.items ++ l ∷ []) c.in_ok-line.ensures
    ∙ shown_one c.args.lines.now.items c.args.output.now c.is_secret.result c.is_secret.ensures c.if-is_secret.false
