use Rattle.std.proofs.Common.{◌≡◌, ◌++◌, map, drop}
use Rattle.bicep_declared.specs.View.{declared_tree}
use Rattle.bicep_circles.specs.Links.{links}
use Rattle.bicep_circles.proofs.LinkLemmas.{items_of}
use Rattle.bicep_circles.proofs.links.symbol_links.Given as goal

-- the rest goes on from what is listed
abbrev pub invariant-loop-entry : goal.invariant-loop-entry
invariant-loop-entry l =
    map items_of l.out.items ++ links (map (λ e. e.kind) (drop l.entry-index l.entries)) (map declared_tree l.rest)
    ≡ links (map (λ e. e.kind) l.entries) (map declared_tree l.declarations)
