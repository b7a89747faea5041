use Rattle.plan_table.proofs.MarkLemmas.{scope_joined}
use Rattle.plan_table.proofs.spots.spots_of_scope.Goals as goal

pub returns : goal.returns
returns c =
    scope_joined c.args.number c.args.frame.now c.new-spots.result.items c.push_own.new.spots.items
    c.push_offered.new.spots.items c.push_counts.new.spots.items c.push.new.self.items c.len.result
    c.as_slice.result.now c.new-spots.ensures.items c.in_ok-push_own.ensures c.len.ensures
    c.in_ok-push_offered.ensures c.as_slice.ensures.value c.in_ok-push_counts.ensures c.in_ok-push.ensures.items
