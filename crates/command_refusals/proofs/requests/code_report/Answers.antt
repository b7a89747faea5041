use Rattle.std.proofs.Common.{ℕ, List, sym, ap, ◌∙◌}
use Rattle.std.specs.Prelude.{encode_utf8_all}
use Rattle.std.proofs.lemmas.Str.{encodes-chars}
use Rattle.http_replies.specs.Codes.{name_of}
use Rattle.command_reports.specs.Faults.{refusal_report}
use Rattle.command_refusals.proofs.ReportLemmas.{report_so}
use Rattle.command_refusals.proofs.requests.code_report.Goals as goal

pub returns : goal.returns
returns c =
    let message = sym (encodes-chars c.message.result.now c.message.utf8) ∙ ap encode_utf8_all c.message.ensures in
    report_so c.refusal_report.result (refusal_report (name_of c.args.code.now)) _ _ message
    (report_so c.refusal_report.result (λ (k : List ℕ). refusal_report k c.message.result.now) _ _ c.name.ensures
    c.refusal_report.ensures)
