use Rattle.std.proofs.Common.{◌∙◌, map, drop, ap, sym}
use Rattle.std.proofs.lemmas.List.{drop-map}
use Rattle.arm_value.specs.View.{json}
use Rattle.function_lists.specs.Values.{array_of}
use Rattle.function_lists.proofs.ends.items_after.Goals as goal

pub returns : goal.returns
returns c =
    c.array_of.ensures
    ∙ ap array_of (c.in_ok-copies.ensures ∙ ap (map json) c.after.ensures
    ∙ sym (drop-map json c.args.count c.as_slice.result.now) ∙ ap (drop c.args.count) c.as_slice.ensures.items)
