use Rattle.std.proofs.Common.{map, option_map, ap, ◌∙◌}
use Rattle.arm_value.specs.Json.{pairs}
use Rattle.arm_value.specs.View.{json, member}
use Rattle.arm_eval.specs.Trees.{part_named, parts}
use Rattle.arm_eval.specs.Words.{tree_in}
use Rattle.arm_env.proofs.Words.{word_count, word_input}
use Rattle.arm_eval.proofs.TreeLemmas.{both_parts, no_count, no_input}
use Rattle.arm_eval.proofs.copying.with_name.Goals as goal

pub returns-in-Some-part_named-clause-copy : goal.returns-in-Some-part_named-clause-copy
returns-in-Some-part_named-clause-copy c =
    let ms = map member c.args.fields.now in
    both_parts c.args.name.now ms (json c.in-Some.count.now) (json c.in-Some-part_named.input.now)
    (c.in-Some.ensures.tree ∙ ap (λ n. option_map tree_in (part_named n (parts (pairs ms)))) word_count)
    (c.in-Some-part_named.ensures.tree
    ∙ ap (λ n. option_map tree_in (part_named n (parts (pairs ms)))) word_input)

pub returns-in-None-part_named-clause-copy : goal.returns-in-None-part_named-clause-copy
returns-in-None-part_named-clause-copy c =
    let ms = map member c.args.fields.now in
    no_input c.args.name.now _ _ (c.in-None-part_named.ensures.tree
    ∙ ap (λ n. option_map tree_in (part_named n (parts (pairs ms)))) word_input)

pub returns-in-None-clause-copy : goal.returns-in-None-clause-copy
returns-in-None-clause-copy c =
    let ms = map member c.args.fields.now in
    no_count c.args.name.now _ _ (c.in-None.ensures.tree
    ∙ ap (λ n. option_map tree_in (part_named n (parts (pairs ms)))) word_count)
