use Rattle.std.proofs.Common.{◌≤◌, option_map, sym, subst}
use Rattle.bicep_resolved.specs.View.{value_of}
use Rattle.emitted_expressions.specs.Sight.{frames_of}
use Rattle.filled_tables.specs.Filled.{emission_sight}
use Rattle.tree_building.specs.Built.{Matches}
use Rattle.tree_building.specs.Depth.{value_depth}
use Rattle.tree_building.specs.Each.{ValueIsSmall}
use Rattle.tree_building.specs.Sight as spec
use Rattle.emitted_values.proofs.contents.content.Goals as goal

pub made_value-requires-clause-within : goal.made_value-requires-clause-within
made_value-requires-clause-within c =
    let s = c.args.table.now in
    let name = option_map (λ t. t.now) c.args.name in
    let v = value_of c.args.value.now in
    let fs = frames_of c.args.turns.now in
    subst ValueIsSmall (sym (c.tables_give_values.ensures s c.requires.filled c.requires.sound name v fs))
    (c.values_are_small.ensures (spec.value (emission_sight s) name v fs) c.requires.within).0

pub made_value-requires-clause-nests : goal.made_value-requires-clause-nests
made_value-requires-clause-nests c =
    let s = c.args.table.now in
    let name = option_map (λ t. t.now) c.args.name in
    let v = value_of c.args.value.now in
    let fs = frames_of c.args.turns.now in
    subst (λ x. value_depth x ≤ 119)
    (sym (c.tables_give_values.ensures s c.requires.filled c.requires.sound name v fs))
    (c.values_are_small.ensures (spec.value (emission_sight s) name v fs) c.requires.within).1

pub returns-in-Ok : goal.returns-in-Ok
returns-in-Ok c =
    let s = c.args.table.now in
    let name = option_map (λ t. t.now) c.args.name in
    let v = value_of c.args.value.now in
    let fs = frames_of c.args.turns.now in
    c.content_of.ensures (spec.value (emission_sight s) name v fs)
    (subst (λ x. Matches x c.in-Ok.written)
    (c.tables_give_values.ensures s c.requires.filled c.requires.sound name v fs) c.in-Ok.ensures)
    c.requires.within.within
