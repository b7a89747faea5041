use Rattle.std.proofs.Common.{◌+◌, ◌++◌, ◌∙◌, length, ap, sym, subst}
use Rattle.tag_needs.specs.Tags.{tags_in}
use Rattle.plan_cells.specs.Plan.{AreNeeds}
use Rattle.plan_table.specs.Whole.{whole_of}
use Rattle.plan_tasks.specs.Start.{start_of}
use Rattle.plan_needs.specs.Needs.{all_tasks, AreInOrder, AreWithin}
use Rattle.plan_needs.specs.Lists.{values_in, tags_of_tasks, asks_of_tasks, tags_of_deletes, asks_of_deletes}
use Rattle.plan_needs.proofs.NeedLemmas.{as_listed, elements_length, listed_in_order, pairs_are_needs, pairs_within}
use Rattle.plan_needs.proofs.needs.needs_of_tasks.Goals as goal
use Rattle.std.proofs.lemmas.List.{length-map}

pub all_asks-requires-clause-values : goal.all_asks-requires-clause-values
all_asks-requires-clause-values c =
    sym (length-map c.args.values.now _)
    ∙ elements_length c.args.table.now c.args.tasks.now (values_in c.args.values.now) c.requires.values

pub returns-clause-needs : goal.returns-clause-needs
returns-clause-needs c =
    let t = c.args.table.now in
    let us = c.args.tasks.now in
    let vss = values_in c.args.values.now in
    let ks = c.args.deletes.now in
    subst (AreNeeds (whole_of t) (start_of t) (all_tasks t us ks))
    (sym (as_listed (asks_of_tasks t us vss ++ asks_of_deletes t ks) (tags_of_tasks t us ++ tags_of_deletes t ks)
    (tags_in c.as_slice.result.now) (tags_in c.as_slice-2.result.now) c.in_ok-needs.needs.items c.in_ok-needs.ensures
    (ap tags_in c.as_slice.ensures.value ∙ c.in_ok-asks.ensures)
    (ap tags_in c.as_slice-2.ensures.value ∙ c.in_ok-tags.ensures)))
    (pairs_are_needs t c.requires.table us vss ks c.requires.values c.requires.tasks)

pub returns-clause-order : goal.returns-clause-order
returns-clause-order c =
    subst AreInOrder (sym c.in_ok-needs.ensures)
    (listed_in_order 0 (tags_in c.as_slice.result.now) (tags_in c.as_slice-2.result.now))

pub returns-clause-within : goal.returns-clause-within
returns-clause-within c =
    let t = c.args.table.now in
    let us = c.args.tasks.now in
    let vss = values_in c.args.values.now in
    let ks = c.args.deletes.now in
    subst (AreWithin (length us + length ks))
    (sym (as_listed (asks_of_tasks t us vss ++ asks_of_deletes t ks) (tags_of_tasks t us ++ tags_of_deletes t ks)
    (tags_in c.as_slice.result.now) (tags_in c.as_slice-2.result.now) c.in_ok-needs.needs.items c.in_ok-needs.ensures
    (ap tags_in c.as_slice.ensures.value ∙ c.in_ok-asks.ensures)
    (ap tags_in c.as_slice-2.ensures.value ∙ c.in_ok-tags.ensures)))
    (pairs_within t c.requires.table us vss ks)
