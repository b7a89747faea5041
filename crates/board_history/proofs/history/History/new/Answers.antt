use Rattle.std.proofs.Common.{List, [], None, sym, subst, map, vec_capacity}
use Rattle.provider_trait.specs.declared.event.Event as noted
use Rattle.board_history.specs.Past.{event_of}
use Rattle.board_history.specs.declared.stage.Stage.{Stage}
use Rattle.board_history.specs.Stages.{IsKept}
use Rattle.board_history.proofs.Keeping.{at_first}
use Rattle.board_history.proofs.history.History.new.Goals as goal

pub invariant_of-result : goal.invariant_of-result
invariant_of-result c =
    subst (λ (es : List noted.Event).
    IsKept (map event_of es) c.in_ok-stages.stages.items None 0 (vec_capacity c.new.result))
    (sym c.new.ensures.items)
    (subst (λ (ss : List Stage). IsKept (map event_of []) ss None 0 (vec_capacity c.new.result))
    (sym c.in_ok-stages.ensures)
    (at_first c.args.count (vec_capacity c.new.result) c.ranges.count.fits))
