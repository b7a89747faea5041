use Rattle.std.proofs.Common.{◌++◌, ◌∙◌, ℕ, List, ap}
use Rattle.command_reports.specs.Faults.{refusal_report}
use Rattle.command_refusals.proofs.ReportLemmas.{report_so}
use Rattle.command_refusals.proofs.templates.worded.Goals as goal

pub returns : goal.returns
returns c =
    report_so c.refusal_report.result (refusal_report c.args.code.now) _ _
    (c.as_str-2.ensures.value ∙ c.in_ok-detail.ensures.ok
    ∙ ap (λ (n : List ℕ). c.args.before.now ++ (c.args.word.now ++ n)) c.as_str.ensures.bytes) c.refusal_report.ensures
