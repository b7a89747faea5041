use Rattle.std.proofs.Common.{◌∙◌}
use Rattle.std.specs.Ordering.{nat_cmp}
use Rattle.std.specs.Cmp.Lexicographic.{slice_cmp}
use Rattle.lock_rules.specs.Texts.{text_cmp}
use Rattle.deployment_reports.proofs.lines.by_name.Goals as goal

pub returns : goal.returns
unfolding text_cmp
returns c = c.cmp.ensures ∙ (λ i. slice_cmp nat_cmp (c.as_str.ensures.bytes i) (c.as_str-2.ensures.bytes i))
