use Rattle.std.proofs.Common.{subst}
use Rattle.plan_table.specs.declared.line.Spot.{Spot}
use Rattle.lack_faults.specs.Lacks.{IsMissingAt}
use Rattle.fault_finding.proofs.MissingLemmas.{variable_there, included_there, count_there, name_there}
use Rattle.fault_finding.proofs.lines.missing_fault.Goals as goal

pub unreachable-requires : goal.unreachable-requires
unreachable-requires c =
    variable_there c.args.table.now (record { laid = c.requires.laid; sound = c.requires.sound }) c.args.path
    c.in-Variable.field-0 c.in-Variable.field-1
    (subst (λ (s : Spot). IsMissingAt c.args.table.now s c.args.path) c.in-Variable.is c.requires.missing)

pub unreachable-requires-in-Included : goal.unreachable-requires-in-Included
unreachable-requires-in-Included c =
    included_there c.args.table.now (record { laid = c.requires.laid; sound = c.requires.sound }) c.args.path
    c.in-Included.field-0 c.in-Included.field-1 c.in-Included.field-2
    (subst (λ (s : Spot). IsMissingAt c.args.table.now s c.args.path) c.in-Included.is c.requires.missing)

pub unreachable-requires-in-Count : goal.unreachable-requires-in-Count
unreachable-requires-in-Count c =
    count_there c.args.table.now (record { laid = c.requires.laid; sound = c.requires.sound }) c.args.path
    c.in-Count.field-0 c.in-Count.field-1
    (subst (λ (s : Spot). IsMissingAt c.args.table.now s c.args.path) c.in-Count.is c.requires.missing)

pub unreachable-requires-in-Name : goal.unreachable-requires-in-Name
unreachable-requires-in-Name c =
    name_there c.args.table.now (record { laid = c.requires.laid; sound = c.requires.sound }) c.args.path
    c.in-Name.field-0 c.in-Name.field-1 c.in-Name.field-2
    (subst (λ (s : Spot). IsMissingAt c.args.table.now s c.args.path) c.in-Name.is c.requires.missing)
