use Rattle.std.proofs.Common.{◌≡◌, ◌∙◌, ◌++◌, ◌≤◌, ℕ, [], length, get_or, true, false, sym, ap, subst, arith, Vec}
use Rattle.std.proofs.Common.{Global}
use Rattle.std.specs.Option.{option_to_list}
use Rattle.std.specs.Prelude.{filter}
use Rattle.std.proofs.lemmas.List.{length-map, length-set, get_or_default}
use Rattle.std.proofs.lemmas.List.Elements.{same_from_all_zip}
use Rattle.depend_graph.specs.Shape.{Shape, times}
use Rattle.depend_graph.specs.Kept.{IsKept}
use Rattle.depend_graph.specs.Sets.{items_of_each}
use Rattle.std.proofs.Math.ListN.{set}
use Rattle.depend_graph.specs.Circles.{can_start, HasCome, InOrder}
use Rattle.depend_graph.proofs.Ordering.{ordered_begun, ordered_next}
use Rattle.depend_graph.proofs.Lists.{get_map}
use Rattle.depend_graph.proofs.Keeping.{written_back}
use Rattle.depend_graph.proofs.Peeling.{Lists, lists_more, begun, passed, top, marked_next, counts_down}
use Rattle.depend_graph.proofs.Peeling.{dependents_are_nodes, less_to_do}
use Rattle.depend_graph.proofs.graph.Graph.peeled.Goals as goal

pub loop-node-preserved : goal.loop-node-preserved
loop-node-preserved c =
    let more = c.in_ok-list_start.ensures in
    lists_more c.in_ok-done.done.items c.in_ok-unmet.unmet.items c.loop-node.ready.items c.list_start.new.ready.items
    c.loop-node.node (rw (c.deref.ensures.value, c.deref-in-loop-node.ensures.value) at more)
    c.loop-node.invariant

pub loop-node-2-init : goal.loop-node-2-init
loop-node-2-init c =
    let g = c.args.self.now in
    let done = same_from_all_zip _ c.self.inside.done.items c.in_ok-done.done.items c.in_ok-done.ensures.cases.0
    (λ x y e. e) ∙ ap (λ (s : Shape). s.done) c.self.view_is in
    let unmet = same_from_all_zip _ c.self.inside.unmet.items c.in_ok-unmet.unmet.items c.in_ok-unmet.ensures.cases.0
    (λ x y e. e) in
    let kept =
    subst (λ (s : Shape). IsKept s.needs (items_of_each c.self.inside.dependents.items) s.done
    c.self.inside.unmet.items) c.self.view_is c.self.invariant in
    let all : c.loop-node.node ≡ length g.needs =
    omega (
      arith,
      c.self.invariant.done_size,
      c.self.inside.done.ok.0,
      ap (λ (s : Shape). length s.needs) c.self.view_is,
    ) in
    let lists : Lists g.done c.self.inside.unmet.items c.loop-node.ready.items (length g.needs) =
    subst (λ n. Lists g.done c.self.inside.unmet.items c.loop-node.ready.items n) all
    (rw (← done, ← unmet) c.loop-node.invariant) in
    let start : HasCome g c.in_ok-done.done.items c.in_ok-unmet.unmet.items c.loop-node.ready.items =
    rw (done, unmet)
    (begun g (items_of_each c.self.inside.dependents.items) c.self.inside.unmet.items c.loop-node.ready.items kept
    lists) in
    record {
      has_come = start;
      in_order = ordered_begun g c.in_ok-done.done.items c.new-order.result.items done c.new-order.ensures.items;
    }

pub loop-node-2-preserved : goal.loop-node-2-preserved
loop-node-2-preserved c =
    let popped = c.pop.ensures.items ∙ ap (λ o. c.pop.new.self.items ++ option_to_list o) c.in-Some.is in
    let here = top c.args.self.now c.loop-node-2.done.items c.loop-node-2.unmet.items c.loop-node-2.ready.items
    c.pop.new.self.items c.in-Some.node c.loop-node-2.invariant.has_come popped in
    record {
      has_come =
          passed c.args.self.now c.loop-node-2.done.items c.loop-node-2.unmet.items c.loop-node-2.ready.items
          c.pop.new.self.items c.in-Some.node c.loop-node-2.invariant.has_come popped
          (get_or_default c.loop-node-2.done.items c.in-Some.node false c.index.result.now
          (omega (arith, c.loop-node-2.invariant.has_come.done_size, here.0)) ∙ sym c.index.ensures
          ∙ c.if-not-index.false);
      in_order = c.loop-node-2.invariant.in_order;
    }

pub index-requires : goal.index-requires
index-requires c =
    let popped = c.pop.ensures.items ∙ ap (λ o. c.pop.new.self.items ++ option_to_list o) c.in-Some.is in
    let here = top c.args.self.now c.loop-node-2.done.items c.loop-node-2.unmet.items c.loop-node-2.ready.items
    c.pop.new.self.items c.in-Some.node c.loop-node-2.invariant.has_come popped in
    omega (arith, here.0, c.loop-node-2.invariant.has_come.done_size, c.loop-node-2.done.ok.0)

pub index_mut-requires : goal.index_mut-requires
index_mut-requires c =
    let popped = c.pop.ensures.items ∙ ap (λ o. c.pop.new.self.items ++ option_to_list o) c.in-Some.is in
    let here = top c.args.self.now c.loop-node-2.done.items c.loop-node-2.unmet.items c.loop-node-2.ready.items
    c.pop.new.self.items c.in-Some.node c.loop-node-2.invariant.has_come popped in
    omega (arith, here.0, c.loop-node-2.invariant.has_come.done_size, c.loop-node-2.done.ok.0)

pub index-requires-then-not-index : goal.index-requires-then-not-index
index-requires-then-not-index c =
    let popped = c.pop.ensures.items ∙ ap (λ o. c.pop.new.self.items ++ option_to_list o) c.in-Some.is in
    let here = top c.args.self.now c.loop-node-2.done.items c.loop-node-2.unmet.items c.loop-node-2.ready.items
    c.pop.new.self.items c.in-Some.node c.loop-node-2.invariant.has_come popped in
    omega (
      arith,
      here.0,
      c.self.invariant.listed_size,
      c.self.inside.dependents.ok.0,
      ap (λ (s : Shape). length s.needs) c.self.view_is,
      length-map c.self.inside.dependents.items (λ (v : Vec ℕ Global). v.items),
    )

pub index-requires-then-not-index-2 : goal.index-requires-then-not-index-2
index-requires-then-not-index-2 c =
    let popped = c.pop.ensures.items ∙ ap (λ o. c.pop.new.self.items ++ option_to_list o) c.in-Some.is in
    let here = top c.args.self.now c.loop-node-2.done.items c.loop-node-2.unmet.items c.loop-node-2.ready.items
    c.pop.new.self.items c.in-Some.node c.loop-node-2.invariant.has_come popped in
    omega (
      arith,
      here.0,
      c.self.invariant.listed_size,
      c.self.inside.dependents.ok.0,
      ap (λ (s : Shape). length s.needs) c.self.view_is,
      length-map c.self.inside.dependents.items (λ (v : Vec ℕ Global). v.items),
    )

pub count_down-requires : goal.count_down-requires
count_down-requires c = λ u.
    let g = c.args.self.now in
    let dependents = items_of_each c.self.inside.dependents.items in
    let popped = c.pop.ensures.items ∙ ap (λ o. c.pop.new.self.items ++ option_to_list o) c.in-Some.is in
    let here = top g c.loop-node-2.done.items c.loop-node-2.unmet.items c.loop-node-2.ready.items c.pop.new.self.items
    c.in-Some.node c.loop-node-2.invariant.has_come popped in
    let kept = subst (λ (s : Shape). IsKept s.needs dependents s.done c.self.inside.unmet.items) c.self.view_is
    c.self.invariant in
    let free : get_or c.loop-node-2.done.items c.in-Some.node false ≡ false =
    get_or_default c.loop-node-2.done.items c.in-Some.node false c.index.result.now
    (omega (arith, c.loop-node-2.invariant.has_come.done_size, here.0)) ∙ sym c.index.ensures ∙ c.if-not-index.true in
    let listed = get_map (λ (v : Vec ℕ Global). v.items) c.self.inside.dependents.items c.in-Some.node
    c.index-then-not-index.result.now []
    (omega (
      arith,
      here.0,
      kept.listed_size,
      length-map c.self.inside.dependents.items (λ (v : Vec ℕ Global). v.items),
    )) c.index-then-not-index.ensures in
    rw (c.deref-then-not-index.ensures.value, ← listed, c.deref_mut.ensures.value)
    (counts_down g dependents c.self.inside.unmet.items c.loop-node-2.done.items c.loop-node-2.unmet.items
    c.loop-node-2.ready.items c.in-Some.node kept c.loop-node-2.invariant.has_come here.0 free u)

pub list_starts-requires-clause-done_in : goal.list_starts-requires-clause-done_in
list_starts-requires-clause-done_in c = λ u some.
    let g = c.args.self.now in
    let dependents = items_of_each c.self.inside.dependents.items in
    let popped = c.pop.ensures.items ∙ ap (λ o. c.pop.new.self.items ++ option_to_list o) c.in-Some.is in
    let here = top g c.loop-node-2.done.items c.loop-node-2.unmet.items c.loop-node-2.ready.items c.pop.new.self.items
    c.in-Some.node c.loop-node-2.invariant.has_come popped in
    let kept = subst (λ (s : Shape). IsKept s.needs dependents s.done c.self.inside.unmet.items) c.self.view_is
    c.self.invariant in
    let listed = get_map (λ (v : Vec ℕ Global). v.items) c.self.inside.dependents.items c.in-Some.node
    c.index-then-not-index-2.result.now []
    (omega (
      arith,
      here.0,
      kept.listed_size,
      length-map c.self.inside.dependents.items (λ (v : Vec ℕ Global). v.items),
    )) c.index-then-not-index-2.ensures
    in
    let is_node = dependents_are_nodes g dependents c.self.inside.unmet.items c.in-Some.node u kept
    (subst (λ ws. 1 ≤ times ws u) (c.deref-then-not-index-2.ensures.value ∙ sym listed) some) in
    let size = ap length c.deref-then-not-index-3.ensures.value in
    omega (
      arith,
      is_node,
      size,
      length-set c.loop-node-2.done.items c.in-Some.node true,
      c.loop-node-2.invariant.has_come.done_size,
    )

pub loop-node-2-smaller-in-Continue-branch-5 : goal.loop-node-2-smaller-in-Continue-branch-5
loop-node-2-smaller-in-Continue-branch-5 c =
    let g = c.args.self.now in
    let dependents = items_of_each c.self.inside.dependents.items in
    let done = c.loop-node-2.done.items in
    let node = c.in-Some.node in
    let popped = c.pop.ensures.items ∙ ap (λ o. c.pop.new.self.items ++ option_to_list o) c.in-Some.is in
    let here = top g done c.loop-node-2.unmet.items c.loop-node-2.ready.items c.pop.new.self.items node
    c.loop-node-2.invariant.has_come popped in
    let kept = subst (λ (s : Shape). IsKept s.needs dependents s.done c.self.inside.unmet.items) c.self.view_is
    c.self.invariant in
    let free : get_or done node false ≡ false =
    get_or_default done node false c.index.result.now (omega (arith, c.loop-node-2.invariant.has_come.done_size, here.0))
    ∙ sym c.index.ensures ∙ c.if-not-index.true in
    let listed =
    get_map (λ (v : Vec ℕ Global). v.items) c.self.inside.dependents.items node
    c.index-then-not-index-2.result.now []
    (omega (
      arith,
      here.0,
      kept.listed_size,
      length-map c.self.inside.dependents.items (λ (v : Vec ℕ Global). v.items),
    )) c.index-then-not-index-2.ensures
    in
    let p = can_start c.deref-then-not-index-3.result.now c.deref-then-not-index-4.result.now in
    less_to_do done dependents p c.loop-node-2.ready.items c.pop.new.self.items c.list_starts.new.ready.items node
    (omega (arith, c.loop-node-2.invariant.has_come.done_size, here.0)) (omega (arith, here.0, kept.listed_size)) free
    popped
    (c.in_ok-list_starts.ensures
    ∙ ap (λ ws. c.pop.new.self.items ++ filter p ws) (c.deref-then-not-index-2.ensures.value ∙ sym listed))

pub loop-node-2-preserved-in-Continue-branch-5 : goal.loop-node-2-preserved-in-Continue-branch-5
loop-node-2-preserved-in-Continue-branch-5 c =
    let g = c.args.self.now in
    let dependents = items_of_each c.self.inside.dependents.items in
    let done = c.loop-node-2.done.items in
    let unmet = c.loop-node-2.unmet.items in
    let fewer = c.count_down.new.unmet in
    let node = c.in-Some.node in
    let popped = c.pop.ensures.items ∙ ap (λ o. c.pop.new.self.items ++ option_to_list o) c.in-Some.is in
    let here = top g done unmet c.loop-node-2.ready.items c.pop.new.self.items node
    c.loop-node-2.invariant.has_come popped in
    let kept = subst (λ (s : Shape). IsKept s.needs dependents s.done c.self.inside.unmet.items) c.self.view_is
    c.self.invariant in
    let free : get_or done node false ≡ false =
    get_or_default done node false c.index.result.now (omega (arith, c.loop-node-2.invariant.has_come.done_size, here.0))
    ∙ sym c.index.ensures ∙ c.if-not-index.true in
    let listed =
    get_map (λ (v : Vec ℕ Global). v.items) c.self.inside.dependents.items node c.index-then-not-index.result.now
    []
    (omega (
      arith,
      here.0,
      kept.listed_size,
      length-map c.self.inside.dependents.items (λ (v : Vec ℕ Global). v.items),
    )) c.index-then-not-index.ensures in
    let listed_again =
    get_map (λ (v : Vec ℕ Global). v.items) c.self.inside.dependents.items node
    c.index-then-not-index-2.result.now []
    (omega (
      arith,
      here.0,
      kept.listed_size,
      length-map c.self.inside.dependents.items (λ (v : Vec ℕ Global). v.items),
    )) c.index-then-not-index-2.ensures
    in
    let size : length fewer ≡ length unmet = c.count_down.ensures.size ∙ ap length c.deref_mut.ensures.value in
    let back = written_back unmet fewer c.loop-node-2.unmet.len (size ∙ sym c.loop-node-2.unmet.ok.0)
    (sym c.loop-node-2.unmet.ok.0) in
    let nodes = c.deref-then-not-index-2.ensures.value ∙ sym listed_again in
    let unmet_now = c.deref-then-not-index-4.ensures.value ∙ back in
    let starts = c.in_ok-list_starts.ensures
    ∙ (λ i. c.pop.new.self.items ++ filter (can_start (c.deref-then-not-index-3.ensures.value i) (unmet_now i))
    (nodes i)) in
    record {
      has_come =
          rw back (marked_next g dependents c.self.inside.unmet.items done unmet fewer c.loop-node-2.ready.items
          c.pop.new.self.items c.list_starts.new.ready.items node kept c.loop-node-2.invariant.has_come popped free
          size (λ u. rw (listed, ← c.deref-then-not-index.ensures.value, ← c.deref_mut.ensures.value)
          (c.count_down.ensures.counted u)) starts);
      in_order =
          subst (InOrder g (set done node true)) (sym c.in_ok-push.ensures.items)
          (ordered_next g done unmet c.loop-node-2.ready.items c.loop-node-2.order.items node
          c.loop-node-2.invariant.has_come c.loop-node-2.invariant.in_order here.1 here.0 free);
    }
