use Rattle.std.proofs.Common.{◌∙◌, ap, sym, map, max}
use Rattle.arm_value.specs.View.{member}
use Rattle.arm_value.specs.Place.{others_nesting}
use Rattle.arm_value.proofs.SetLemmas.{exchanged, members_nesting-others}
use Rattle.arm_value.proofs.set.exchange.Goals as goal

pub returns-clause-exchanged : goal.returns-clause-exchanged
returns-clause-exchanged c =
    rw c.in-Some.is (exchanged c.in-Some.fields.items c.args.place c.index_mut.result.now c.args.value
    (rw c.in-Some.is at c.requires) c.index_mut.ensures.value)

pub returns-clause-before : goal.returns-clause-before
returns-clause-before c =
    rw c.in-Some.is (members_nesting-others c.in-Some.fields.items c.args.place c.index.result.now
    (rw c.in-Some.is at c.requires) c.index.ensures
    ∙ ap (max (others_nesting (map member c.in-Some.fields.items) c.args.place))
    (sym c.nesting-before.ensures.value))
