use Rattle.std.proofs.Common.{map, sym, subst, ◌∙◌}
use Rattle.bicep_symbols.specs.declared.entry.Entry.{Entry}
use Rattle.bicep_circles.specs.Links.{links}
use Rattle.bicep_circles.specs.Orders.{IsLinkOrder}
use Rattle.bicep_states.specs.Entries.{misplaced_variable}
use Rattle.bicep_checks.proofs.KindLemmas.{same_file}
use Rattle.bicep_checks.proofs.circles.state_place.Goals as goal

pub state_table-requires : goal.state_table-requires
state_table-requires c =
    subst (λ ls. IsLinkOrder ls c.args.order.now)
    (sym (same_file links c.args.file.now c.as_slice.result.now c.as_slice-declarations.result.now
    c.as_slice.ensures.value c.as_slice-declarations.ensures.value)) c.requires

pub returns : goal.returns
returns c =
    c.misplaced_variable.ensures (map (λ (e : Entry). e.kind) c.as_slice.result.now) c.in_ok-table.ensures
    ∙ same_file misplaced_variable c.args.file.now c.as_slice.result.now c.as_slice-declarations.result.now
    c.as_slice.ensures.value c.as_slice-declarations.ensures.value
