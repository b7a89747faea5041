use Rattle.std.proofs.Common.{List, ℕ, map, ap, ◌∙◌}
use Rattle.std.specs.BTreeSet.{BTreeSet}
use Rattle.depend_graph.specs.Sets.{keys_of_each}
use Rattle.bicep_declared.specs.View.{declared_tree}
use Rattle.bicep_dependencies.specs.Steps.{any_leads}
use Rattle.bicep_dependencies.proofs.filling.fill.Goals as goal

pub returns : goal.returns
returns c = record {
  list = c.in_ok-set.set.keys;
  becomes = c.put.ensures;
  leads = λ n. c.in_ok-set.ensures n
      ∙ ap (λ (ss : List (BTreeSet ℕ)). any_leads (map declared_tree c.args.declarations.now) (keys_of_each ss) n
      c.args.mentions.now) c.as_slice.ensures.value;
}
