use Rattle.std.proofs.Common.{refl, sym, true≢false, ◌∙◌}
use Rattle.plan_numbers.proofs.NumberLemmas.{numbers_are, listed_by}
use Rattle.plan_numbers.proofs.numbering.number_tasks.Goals as goal

pub returns-in-Ok-true : goal.returns-in-Ok-true
returns-in-Ok-true c =
    let listed = listed_by c.as_slice.result.now c.args.plan.now.tasks.items c.as_slice-2.result.now
    c.args.plan.now.keys.items c.in-Ok-Some.field-0 c.in-Ok-Some.numbers c.as_slice.ensures.value
    c.as_slice-2.ensures.value c.in-Ok-Some.field-0-is c.in-Ok-Some.ensures in
    numbers_are c.args.plan.now.start.register.table c.args.plan.now.tasks.items c.args.plan.now.keys.items
    c.in-Ok-Some.numbers listed
    ((c.in-Ok-true.ensures c.args.plan.now.tasks.items c.args.plan.now.keys.items listed refl).0
    c.in-Ok-true.field-0-test)

pub returns-in-Ok-false : goal.returns-in-Ok-false
returns-in-Ok-false c = λ o.
    let listed = listed_by c.as_slice.result.now c.args.plan.now.tasks.items c.as_slice-2.result.now
    c.args.plan.now.keys.items c.in-Ok-Some.field-0 c.in-Ok-Some.numbers c.as_slice.ensures.value
    c.as_slice-2.ensures.value c.in-Ok-Some.field-0-is c.in-Ok-Some.ensures in
    true≢false (sym ((c.in-Ok-false.ensures c.args.plan.now.tasks.items c.args.plan.now.keys.items listed refl).1 o)
    ∙ c.in-Ok-false.field-0-test)
