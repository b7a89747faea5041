use Rattle.std.proofs.Common.{◌∙◌, ap, map}
use Rattle.arm_value.specs.View.{json}
use Rattle.function_lists.proofs.ItemLemmas.{none_among}
use Rattle.function_lists.proofs.items.items_among.Goals as goal

pub returns-in_default : goal.returns-in_default
returns-in_default c = ap (map json) c.new.ensures.items
    ∙ none_among c.args.array.now (map json c.args.values.now) c.in_default.not-Array
