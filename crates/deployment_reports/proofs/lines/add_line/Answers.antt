use Rattle.std.proofs.Common.{◌∙◌, codes, encode_utf8_all}
use Rattle.deployment_reports.proofs.LineLemmas.{four_added}
use Rattle.deployment_reports.proofs.lines.add_line.Goals as goal

pub returns : goal.returns
returns c =
    four_added c.args.text.now _ _ _ _ _ (encode_utf8_all c.args.line.now.name) (codes "=") _ c.args.line.now.value
    (codes "\n") c.in_ok-extend.ensures (c.as_bytes.ensures.value ∙ c.as_str.ensures.bytes) c.in_ok-extend-2.ensures
    c.in_ok-extend-3.ensures c.as_slice.ensures c.in_ok-extend-4.ensures
