use Rattle.template_members.proofs.ItemLemmas.{some_items}
use Rattle.template_members.proofs.argument.are_some.Goals as goal

pub returns-in-len1-up : goal.returns-in-len1-up
returns-in-len1-up c =
    some_items c.as_slice.result.now c.args.items.now c.as_slice.ensures.items c.in-len1-up.len_at_least
