use Rattle.std.proofs.Common.{subst}
use Rattle.arm_value.specs.Look.{fold}
use Rattle.plan_cells.specs.Children.{Has}
use Rattle.plan_cells.specs.Resources.{header_in}
use Rattle.plan_table.specs.Found.{scope_at}
use Rattle.plan_table.proofs.FrameLemmas.{name_read}
use Rattle.plan_sight.proofs.LookLemmas.{found_none}
use Rattle.scope_entries.proofs.ValueLemmas.{output_within}
use Rattle.scope_outputs.specs.Outputs.{names_of}
use Rattle.scope_outputs.proofs.OfferLemmas.{name_has}
use Rattle.scope_outputs.proofs.offering.note_of.Goals as goal

pub unreachable-requires : goal.unreachable-requires
unreachable-requires c =
    let t = c.args.register.now.table in
    let names = names_of t c.args.frame in
    found_none _ c.in-Ok-None.field-0 c.in-Ok-None.field-0-is c.in-Ok-None.ensures.missing
    (subst (λ x. Has x names)
    (name_read (λ o. fold o.name) (header_in (scope_at t c.args.frame).template).outputs c.args.number
    c.output_at-declared.result.now (output_within t c.args.frame c.args.number c.requires.number)
    c.output_at-declared.ensures) (name_has names c.args.number c.requires.number))
