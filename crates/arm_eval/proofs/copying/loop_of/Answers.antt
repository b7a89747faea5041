use Rattle.std.proofs.Common.{codes, map, option_map, sym, ap, ◌∙◌}
use Rattle.std.specs.Prelude.{option_and_then}
use Rattle.arm_value.specs.Json.{pairs}
use Rattle.arm_value.specs.View.{json, member}
use Rattle.arm_eval.specs.Trees.{part_named, parts, with_name}
use Rattle.arm_eval.specs.Words.{tree_in}
use Rattle.arm_env.proofs.Words.{word_name}
use Rattle.arm_eval.proofs.TreeLemmas.{name_is, name_missing}
use Rattle.arm_eval.proofs.copying.loop_of.Goals as goal

pub returns-in-Some-text_of-clause-copy : goal.returns-in-Some-text_of-clause-copy
returns-in-Some-text_of-clause-copy c =
    let ms = map member c.args.fields.now in
    let ps = parts (pairs ms) in
    c.with_name.ensures.copy
    ∙ sym (ap
    (option_and_then (λ name. with_name name (part_named (codes "count") ps) (part_named (codes "input") ps)))
    (name_is ms (json c.in-Some.name.now) (c.in-Some.ensures.tree
    ∙ ap (λ n. option_map tree_in (part_named n ps)) word_name) ∙ sym c.in-Some-text_of.ensures))

pub returns-in-None-text_of-clause-copy : goal.returns-in-None-text_of-clause-copy
returns-in-None-text_of-clause-copy c =
    let ms = map member c.args.fields.now in
    let ps = parts (pairs ms) in
    sym (ap (option_and_then (λ name. with_name name (part_named (codes "count") ps) (part_named (codes "input") ps)))
    (name_is ms (json c.in-Some.name.now) (c.in-Some.ensures.tree
    ∙ ap (λ n. option_map tree_in (part_named n ps)) word_name) ∙ sym c.in-None-text_of.ensures))

pub returns-in-None-clause-copy : goal.returns-in-None-clause-copy
returns-in-None-clause-copy c =
    let ps = parts (pairs (map member c.args.fields.now)) in
    sym (ap (option_and_then (λ name. with_name name (part_named (codes "count") ps) (part_named (codes "input") ps)))
    (name_missing (part_named (codes "name") ps) (c.in-None.ensures.tree
    ∙ ap (λ n. option_map tree_in (part_named n ps)) word_name)))
