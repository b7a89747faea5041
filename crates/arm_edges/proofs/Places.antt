-- The list of finished connections, one more and one less.
use Rattle.std.proofs.Common.{◌≡◌, List, [], ◌∷◌, ◌++◌, refl, ◌∙◌, Option, Some, None}
use Rattle.std.specs.declared.boxed.Box.{Box}
use Rattle.std.specs.declared.alloc.Global.{Global}
use Rattle.arm_edges.specs.declared.exchange.Exchange.{Exchange}
use Rattle.arm_edges.specs.declared.finished.Kept.{Kept}
use Rattle.arm_edges.specs.declared.finished.Kept.TheOpen.{Kept-F}
use Rattle.arm_edges.specs.declared.finished.Kept.TheViews.{out-Kept, roll-Kept}
use Rattle.arm_edges.specs.declared.finished.Kept.TheFolds.{map-Kept, fold-roll-Kept, fold_out-Kept}
use Rattle.arm_edges.specs.Finished.{with_earlier, up_to, in_order}

by_earlier : (exchange : Exchange) (earlier : Option (Box Kept Global))
    → with_earlier (map-Kept Kept (List Exchange) up_to (record { exchange = exchange; earlier = earlier }))
    ≡ in_order earlier ++ exchange ∷ []
by_earlier exchange None = refl
by_earlier exchange (Some kept) = refl

pub up_to-roll : (kept : Kept-F Kept) → up_to (roll-Kept kept) ≡ in_order kept.earlier ++ kept.exchange ∷ []
unfolding up_to
up_to-roll kept = fold-roll-Kept (List Exchange) with_earlier kept ∙ by_earlier kept.exchange kept.earlier

pub up_to-out : (kept : Kept) → up_to kept ≡ in_order (out-Kept kept).earlier ++ (out-Kept kept).exchange ∷ []
unfolding up_to
up_to-out kept = fold_out-Kept (List Exchange) with_earlier kept
    ∙ by_earlier (out-Kept kept).exchange (out-Kept kept).earlier
