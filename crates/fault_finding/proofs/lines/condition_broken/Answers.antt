use Rattle.std.proofs.Common.{sym, ◌∙◌}
use Rattle.arm_value.specs.View.{json}
use Rattle.fault_finding.proofs.BreakLemmas.{condition_bound}
use Rattle.fault_finding.proofs.lines.condition_broken.Goals as goal

pub returns-in-Ok-Some : goal.returns-in-Ok-Some
returns-in-Ok-Some c = λ mode held.
    condition_bound c.args.table.now c.requires.sound c.args.path mode held (json c.args.value.now)
    c.args.frame c.args.resource c.args.copy c.in-Ok-Some.fault c.requires.broken
    (sym c.in-Ok-Some.ensures ∙ c.in-Ok-Some.field-0-is)
