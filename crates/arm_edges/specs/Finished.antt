-- The list of what the finished connections of a link in memory came to.
use Rattle.std.specs.Prelude.{List, [], ◌∷◌, ◌++◌, Option, Some, None}
use Rattle.std.specs.declared.boxed.Box.{Box}
use Rattle.std.specs.declared.alloc.Global.{Global}
use Rattle.arm_edges.specs.declared.exchange.Exchange.{Exchange}
use Rattle.arm_edges.specs.declared.finished.Kept.{Kept, fold-Kept}
use Rattle.arm_edges.specs.declared.finished.Kept.TheOpen.{Kept-F}

-- the list that is there, or an empty one
abbrev pub or_empty : Option (Box (List Exchange) Global) → List Exchange
or_empty None = []
or_empty (Some earlier) = earlier.value

-- one connection after those that were finished earlier
abbrev pub with_earlier : Kept-F (List Exchange) → List Exchange
with_earlier kept = or_empty kept.earlier ++ kept.exchange ∷ []

-- the finished connections up to this one, the first of them first
unfoldable pub up_to : Kept → List Exchange
up_to = fold-Kept (List Exchange) with_earlier

-- the finished connections up to the last one, the first of them first
abbrev pub in_order : Option (Box Kept Global) → List Exchange
in_order None = []
in_order (Some last) = up_to last.value
