use Rattle.std.proofs.Common.{◌∷◌, ◌++◌, [], option_map, ap, sym, subst, ◌∙◌}
use Rattle.foundation.proofs.Options.{if_ok}
use Rattle.tree_building.specs.Emitted.{element}
use Rattle.tree_building.specs.EmittedTrees.{copy_index}
use Rattle.measured_expressions.specs.Spans.{AreSpans}
use Rattle.measured_trees.proofs.spans.inside.Goals as goal

pub returns : goal.returns
returns c = λ xs fs h a.
    let f = element xs (copy_index (option_map (λ t. t.now) c.args.name)) in
    if_ok _ (λ ss. AreSpans (f ∷ fs) ss.items) c.with_all.result c.with_all.ensures
    (λ ss e.
    subst (AreSpans (f ∷ fs))
    (sym
    (e
    ∙ ap (λ l. l ++ c.args.spans.now)
    (c.in_ok-push.ensures.items ∙ ap (λ l. l ++ c.run_of.result ∷ []) c.new-all.ensures.items)))
    (c.run_of.ensures xs h, a))
