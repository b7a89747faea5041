use Rattle.std.proofs.Common.{[], subst}
use Rattle.bicep_resolved.specs.View.{source_of}
use Rattle.measured_trees.specs.Extremes.{tree_extremes}
use Rattle.measured_trees.proofs.WithinLemmas.{tree_small}
use Rattle.tree_building.specs.Each.{AreSmall}
use Rattle.tree_building.specs.Sight as spec
use Rattle.tree_texts.proofs.building.built_tree.Goals as goal

pub tree-requires-clause-within : goal.tree-requires-clause-within
tree-requires-clause-within g c =
    let e = spec.tree (g.K.Sizes.sight c.args.declarations.now) (source_of c.args.e.now) [] in
    let b = c.in-Ok.ensures (tree_extremes e) (c.measured_tree.ensures [] tt) in
    subst (λ s. AreSmall (spec.tree s (source_of c.args.e.now) [])) c.requires.same (tree_small e b.0 b.1.1)
