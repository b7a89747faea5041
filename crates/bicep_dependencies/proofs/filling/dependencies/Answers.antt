use Rattle.std.proofs.Common.{◌≡◌, ◌∙◌, ℕ, List, [], map, length, get_or, sym, ap, arith}
use Rattle.std.specs.BTreeSet.{BTreeSet}
use Rattle.std.specs.declared.vec.Vec.{Vec}
use Rattle.std.specs.declared.alloc.Global.{Global}
use Rattle.std.proofs.lemmas.List.{length-map, get_or-map}
use Rattle.depend_graph.specs.Sets.{keys_of_each}
use Rattle.bicep_symbols.specs.declared.entry.Entry.{Entry}
use Rattle.bicep_declared.specs.View.{declared_tree}
use Rattle.bicep_mentions.specs.Links.{links}
use Rattle.bicep_mentions.proofs.OrderLemmas.{has_place}
use Rattle.bicep_dependencies.proofs.FillLemmas.{filled_begun, filled_after, filled_all}
use Rattle.bicep_dependencies.proofs.filling.dependencies.Goals as goal

pub loop-node-init : goal.loop-node-init
loop-node-init c =
    filled_begun (map (λ (e : Entry). e.kind) c.args.entries.now) (map declared_tree c.args.declarations.now)
    c.args.order.now (keys_of_each c.in_ok-sets.sets.items) (rw length-map c.in_ok-sets.ensures)

pub fill-requires : goal.fill-requires
fill-requires c =
    let place =
    has_place (map (λ (e : Entry). e.kind) c.args.entries.now) (map declared_tree c.args.declarations.now)
    c.args.order.now c.requires c.loop-node.node-index (length (keys_of_each c.loop-node.sets.items))
    c.loop-node-test.true c.loop-node.invariant.size in
    let size = length-map c.loop-node.sets.items (λ (s : BTreeSet ℕ). s.keys) in
    omega (arith, place, size)

pub loop-node-preserved : goal.loop-node-preserved
loop-node-preserved c =
    let node = c.requires.nodes c.loop-node.node-index c.loop-node-test.true in
    let size = sym (length-map c.in_ok-mentions.mentions.items (λ (v : Vec ℕ Global). v.items))
    ∙ ap length c.in_ok-mentions.ensures in
    let listed : c.as_slice.result.now
    ≡ get_or (links (map (λ (e : Entry). e.kind) c.args.entries.now) (map declared_tree c.args.declarations.now))
    (get_or c.args.order.now c.loop-node.node-index 0) [] =
    c.as_slice.ensures.value
    ∙ sym (get_or-map (λ (v : Vec ℕ Global). v.items) c.in_ok-mentions.mentions.items
    (get_or c.args.order.now c.loop-node.node-index 0) c.index.result.now [] (omega (arith, node, size))
    ∙ ap (λ (v : Vec ℕ Global). v.items) (sym c.index.ensures))
    ∙ ap (λ (ls : List (List ℕ)). get_or ls (get_or c.args.order.now c.loop-node.node-index 0) [])
    c.in_ok-mentions.ensures in
    let next = c.in_ok-fill.ensures in
    filled_after (map (λ (e : Entry). e.kind) c.args.entries.now) (map declared_tree c.args.declarations.now)
    c.args.order.now c.requires (keys_of_each c.loop-node.sets.items) (keys_of_each c.fill.new.sets.items)
    c.loop-node.node-index next.list c.as_slice.result.now c.loop-node-test.true c.loop-node.invariant listed next.leads
    next.becomes

pub returns-clause-size : goal.returns-clause-size
returns-clause-size c =
    sym (length-map c.loop-node.sets.items (λ (s : BTreeSet ℕ). s.keys)) ∙ c.loop-node.invariant.size
    ∙ length-map c.args.declarations.now declared_tree

pub returns-clause-each : goal.returns-clause-each
returns-clause-each c =
    filled_all (map (λ (e : Entry). e.kind) c.args.entries.now) (map declared_tree c.args.declarations.now)
    c.args.order.now c.requires (keys_of_each c.loop-node.sets.items) c.loop-node.node-index
    (omega (arith, c.loop-node-test.false)) c.loop-node.invariant
