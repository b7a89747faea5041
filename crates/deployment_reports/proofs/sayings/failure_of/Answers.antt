use Rattle.std.proofs.Common.{sym, ap, ◌∙◌}
use Rattle.std.specs.Prelude.{encode_utf8_all}
use Rattle.std.proofs.lemmas.Str.{encodes-chars}
use Rattle.deployment_reports.proofs.SayingLemmas.{line_so}
use Rattle.deployment_reports.proofs.sayings.failure_of.Goals as goal

pub returns : goal.returns
returns c =
    line_so c.failure_line.result c.args.name.now _ _ _ _
    (sym (encodes-chars c.code.result.now c.code.utf8) ∙ ap encode_utf8_all c.code.ensures)
    (c.as_str.ensures.bytes ∙ ap encode_utf8_all c.in_ok-message.ensures) c.failure_line.ensures
