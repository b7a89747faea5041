use Rattle.std.proofs.Common.{map, sym, ◌∙◌, subst}
use Rattle.bicep_declared.specs.View.{declared_tree}
use Rattle.template_numbers.specs.Named.{Increase}
use Rattle.template_numbers.proofs.OrderLemmas.{listed_increase}
use Rattle.template_numbers.proofs.order.numbers.Goals as goal

pub by_name-requires : goal.by_name-requires
by_name-requires c =
    subst Increase (sym (c.as_slice-in-Two.ensures.value ∙ c.in_ok-all.ensures))
    (listed_increase c.args.form (map declared_tree c.as_slice.result.now))
