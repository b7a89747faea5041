use Rattle.std.proofs.Common.{◌<◌, ◌∙◌, length}
use Rattle.std.proofs.lemmas.Iterator.Adapters.{YieldsList-from_vec}
use Rattle.std.proofs.lemmas.Iterator.Consumers.{YieldsList-turn, YieldsList-end}
use Rattle.scope_outputs.proofs.KeepLemmas.{keep_goes, keep_ends, each_item, left_here, left_gone}
use Rattle.scope_outputs.proofs.keeping.keep.Goals as goal

pub loop-noted-preserved : goal.loop-noted-preserved
loop-noted-preserved c =
    let gives = c.into_iter-noted-iterator.ensures.into_iter_gives in
    let ns = c.args.told.items in
    let ys = c.loop-noted.yielded in
    let at = YieldsList-turn (YieldsList-from_vec ns gives.0 (gives.1 ∙ c.args.told.ok.0)) ys
    c.loop-noted.noted-iterator c.loop-noted.yielded_by c.next.result c.next.new.self c.in-Some.noted c.in-Some.is
    c.next.ensures.steps in
    keep_goes c.args.later.now c.loop-noted.later c.keep_entry.new.later ns ys _ _ c.in-Some.noted
    (left_here ns ys c.in-Some.noted at.0 at.1)
    (each_item (λ n. n.at < length c.args.later.now.entries.items) ns (length ys) c.in-Some.noted at.0 at.1 c.requires)
    c.keep_entry.ensures c.loop-noted.invariant

pub returns-clause-kept : goal.returns-clause-kept
returns-clause-kept c =
    let gives = c.into_iter-noted-iterator.ensures.into_iter_gives in
    let ns = c.args.told.items in
    let ys = c.loop-noted.yielded in
    let whole = YieldsList-end (YieldsList-from_vec ns gives.0 (gives.1 ∙ c.args.told.ok.0)) ys
    c.loop-noted.noted-iterator c.loop-noted.yielded_by c.next.result c.next.new.self c.in-None.is
    c.next.ensures.steps in
    λ t f ready fit h.
    keep_ends c.args.later.now c.loop-noted.later ns ys _ (left_gone ns ys whole.0) c.loop-noted.invariant t f ready
    fit h
