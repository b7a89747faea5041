use Rattle.std.proofs.Common.{sym, ◌∙◌}
use Rattle.arm_value.specs.View.{json}
use Rattle.fault_finding.proofs.BreakLemmas.{count_bound, count_above}
use Rattle.fault_finding.proofs.lines.count_broken.Goals as goal

pub returns-in-Ok-Some : goal.returns-in-Ok-Some
returns-in-Ok-Some c = λ mode held.
    count_bound c.args.table.now c.requires.sound c.args.path mode held (json c.args.value.now)
    c.args.frame c.args.resource c.in-Ok-Some.fault c.requires.broken
    (sym c.in-Ok-Some.ensures ∙ c.in-Ok-Some.field-0-is)

pub returns-in-Ok-None : goal.returns-in-Ok-None
returns-in-Ok-None c = λ mode held.
    count_above c.args.table.now c.requires.sound c.args.path mode held (json c.args.value.now)
    c.args.frame c.args.resource c.number_of.result c.requires.broken
    (sym c.in-Ok-None.ensures ∙ c.in-Ok-None.field-0-is) c.number_of.ensures
