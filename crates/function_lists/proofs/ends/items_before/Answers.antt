use Rattle.std.proofs.Common.{◌∙◌, map, take, ap}
use Rattle.arm_value.specs.View.{json}
use Rattle.arm_value.proofs.JsonLemmas.{map-take}
use Rattle.function_lists.specs.Values.{array_of}
use Rattle.function_lists.proofs.ends.items_before.Goals as goal

pub returns : goal.returns
returns c =
    c.array_of.ensures
    ∙ ap array_of (c.in_ok-copies.ensures ∙ ap (map json) c.before-2.ensures
    ∙ map-take json c.as_slice.result.now c.args.count ∙ ap (take c.args.count) c.as_slice.ensures.items)
