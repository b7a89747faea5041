use Rattle.std.proofs.Common.{[], option_map, subst}
use Rattle.bicep_resolved.specs.View.{value_of}
use Rattle.measured_trees.specs.Extremes.{value_extremes}
use Rattle.measured_trees.proofs.WithinLemmas.{value_small}
use Rattle.tree_building.specs.Each.{ValueIsSmall}
use Rattle.tree_building.specs.Sight as spec
use Rattle.tree_texts.proofs.building.built_value.Goals as goal

pub written-requires-clause-within : goal.written-requires-clause-within
written-requires-clause-within g c =
    let v = spec.value (g.K.Sizes.sight c.args.declarations.now) (option_map (λ t. t.now) c.args.name)
    (value_of c.args.value.now) [] in
    let b = c.in-Ok.ensures (value_extremes v) (c.measured_written.ensures [] tt) in
    subst (λ s. ValueIsSmall (spec.value s (option_map (λ t. t.now) c.args.name) (value_of c.args.value.now) []))
    c.requires.same (value_small v b.0 b.1.1)
