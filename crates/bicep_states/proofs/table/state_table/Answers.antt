use Rattle.std.proofs.Common.{map, length, get_or, sym, ap, ◌∙◌, arith}
use Rattle.bicep_symbols.specs.declared.entry.Entry.{Entry}
use Rattle.std.proofs.lemmas.List.{length-map}
use Rattle.bicep_declared.specs.View.{declared_tree}
use Rattle.bicep_mentions.specs.Names.{whole_reads}
use Rattle.bicep_mentions.proofs.OrderLemmas.{has_place}
use Rattle.bicep_states.specs.View.{known}
use Rattle.bicep_states.proofs.TableLemmas.{declaration_is, within_both, filled_begun, filled_after}
use Rattle.bicep_states.proofs.TableLemmas.{filled_all}
use Rattle.bicep_states.proofs.table.state_table.Goals as goal

pub loop-node-init : goal.loop-node-init
loop-node-init c =
    filled_begun (map (λ (e : Entry). e.kind) c.args.entries.now) (map declared_tree c.args.declarations.now)
    c.args.order.now c.in_ok-table.table.own.items c.in_ok-table.table.whole.items
    (rw length-map c.in_ok-table.ensures.own) (rw length-map c.in_ok-table.ensures.whole)

pub bounds-entries-place : goal.bounds-entries-place
bounds-entries-place c = (
    within_both (λ (e : Entry). e.kind) declared_tree c.args.entries.now c.args.declarations.now
    (get_or c.args.order.now c.loop-node.node-index 0)
    (c.requires.nodes c.loop-node.node-index c.loop-node-test.true)
    ).0

pub bounds-entries-place-in-loop-node : goal.bounds-entries-place-in-loop-node
bounds-entries-place-in-loop-node c = (
    within_both (λ (e : Entry). e.kind) declared_tree c.args.entries.now c.args.declarations.now
    (get_or c.args.order.now c.loop-node.node-index 0)
    (c.requires.nodes c.loop-node.node-index c.loop-node-test.true)
    ).0

pub bounds-declarations-place : goal.bounds-declarations-place
bounds-declarations-place c = (
    within_both (λ (e : Entry). e.kind) declared_tree c.args.entries.now c.args.declarations.now
    (get_or c.args.order.now c.loop-node.node-index 0)
    (c.requires.nodes c.loop-node.node-index c.loop-node-test.true)
    ).1

pub mark-requires-clause-own : goal.mark-requires-clause-own
mark-requires-clause-own c =
    has_place (map (λ (e : Entry). e.kind) c.args.entries.now) (map declared_tree c.args.declarations.now)
    c.args.order.now c.requires c.loop-node.node-index (length c.loop-node.table.own.items) c.loop-node-test.true
    c.loop-node.invariant.own_size

pub mark-requires-clause-whole : goal.mark-requires-clause-whole
mark-requires-clause-whole c =
    has_place (map (λ (e : Entry). e.kind) c.args.entries.now) (map declared_tree c.args.declarations.now)
    c.args.order.now c.requires c.loop-node.node-index (length c.loop-node.table.whole.items) c.loop-node-test.true
    c.loop-node.invariant.whole_size

pub loop-node-preserved : goal.loop-node-preserved
loop-node-preserved c =
    let both =
    within_both (λ (e : Entry). e.kind) declared_tree c.args.entries.now c.args.declarations.now
    (get_or c.args.order.now c.loop-node.node-index 0)
    (c.requires.nodes c.loop-node.node-index c.loop-node-test.true) in
    filled_after (map (λ (e : Entry). e.kind) c.args.entries.now) (map declared_tree c.args.declarations.now)
    c.args.order.now c.requires c.loop-node.table.own.items c.loop-node.table.whole.items c.mark.new.table.own.items
    c.mark.new.table.whole.items c.loop-node.node-index c.in_ok-reads.reads.own c.in_ok-reads.reads.whole
    c.index-entries-place.result.kind (declared_tree c.index-declarations-place.result) c.loop-node-test.true
    c.loop-node.invariant
    (declaration_is (λ (e : Entry). e.kind) declared_tree c.args.entries.now c.args.declarations.now
    (get_or c.args.order.now c.loop-node.node-index 0) c.index-entries-place.result c.index-declarations-place.result
    both.0 both.1 c.index-entries-place.is c.index-declarations-place.is) c.in_ok-reads.ensures.own
    (c.in_ok-reads.ensures.whole
    ∙ ap (λ (e : Entry). whole_reads (known c.loop-node.table) e.kind (declared_tree c.index-declarations-place.result))
    (sym c.index-entries-place.is)) c.mark.ensures.own c.mark.ensures.whole

pub returns : goal.returns
returns c =
    filled_all (map (λ (e : Entry). e.kind) c.args.entries.now) (map declared_tree c.args.declarations.now)
    c.args.order.now c.requires c.loop-node.table.own.items c.loop-node.table.whole.items c.loop-node.node-index
    (omega (arith, c.loop-node-test.false)) c.loop-node.invariant
