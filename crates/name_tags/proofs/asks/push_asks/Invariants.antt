use Rattle.std.proofs.Common.{◌≡◌, ◌++◌, map, drop, Some}
use Rattle.arm_value.specs.View.{json}
use Rattle.template_tree.specs.Tree.{TemplateTree}
use Rattle.plan_cells.specs.Resources.{resources_in}
use Rattle.tag_needs.specs.Tags.{tags_of}
use Rattle.plan_codes.specs.NameCodes.{values_ask}
use Rattle.name_tags.specs.Loops.{loop_titles}
use Rattle.name_tags.proofs.asks.push_asks.Given as goal

abbrev pub invariant-loop-value : goal.invariant-loop-value
invariant-loop-value l = (u : TemplateTree) → l.loops ≡ loop_titles (resources_in u)
    → tags_of l.tags ++ values_ask l.scope l.form (Some u) (map json (drop l.value-index l.values))
    ≡ tags_of l.initial.tags ++ values_ask l.scope l.form (Some u) (map json l.values)
