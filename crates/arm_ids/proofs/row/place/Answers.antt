use Rattle.std.proofs.lemmas.Fn.{always_returns_same}
use Rattle.arm_ids.specs.Held.{id_cmp}
use Rattle.arm_ids.specs.Row.{order_of}
use Rattle.arm_ids.specs.declared.row.Row.{Row}
use Rattle.arm_ids.proofs.HeldLemmas.{searched}
use Rattle.arm_ids.proofs.row.place.Goals as goal

pub returns : goal.returns
returns c =
    searched order_of c.args.rows.now c.args.id.now c.binary_search_by.result c.requires
    c.binary_search_by.ensures.bound
    (c.binary_search_by.ensures.position (λ (row : Row). id_cmp row.order c.args.id.now)
    (always_returns_same _ _ _ (λ a v f' k. (k.met.1, λ j. record { 0 = k.met.0 j }))))
