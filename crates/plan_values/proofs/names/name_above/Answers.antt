use Rattle.arm_value.specs.View.{json}
use Rattle.plan_sight.proofs.LookLemmas.{found_some, found_none}
use Rattle.plan_values.proofs.NameLemmas.{above_missing, above_has, above_none, above_copy, above_stops}
use Rattle.plan_values.proofs.names.name_above.Goals as goal

pub first_name-requires-clause-number : goal.first_name-requires-clause-number
first_name-requires-clause-number c =
    (found_some _ c.in-Ok-Some.field-0 c.in-Ok-Some.at c.in-Ok-Some.field-0-is c.in-Ok-Some.ensures.found).has

pub first_name-requires-clause-copy : goal.first_name-requires-clause-copy
first_name-requires-clause-copy c =
    above_copy c.args.table.now c.args.frame c.requires.ready c.requires.there c.args.parent c.in-Ok-Some.at
    (found_some _ c.in-Ok-Some.field-0 c.in-Ok-Some.at c.in-Ok-Some.field-0-is c.in-Ok-Some.ensures.found)
    c.in-Ok.count.now c.in-Ok.ensures c.has_instance.result c.has_instance.ensures c.if-has_instance.true

pub returns-then-has_instance : goal.returns-then-has_instance
returns-then-has_instance c =
    above_has c.args.table.now c.args.frame c.requires.ready c.requires.there c.args.parent c.in-Ok-Some.at
    (found_some _ c.in-Ok-Some.field-0 c.in-Ok-Some.at c.in-Ok-Some.field-0-is c.in-Ok-Some.ensures.found)
    c.in-Ok.count.now c.in-Ok.ensures (λ v. json v.now) c.first_name.result c.has_instance.result
    c.has_instance.ensures c.if-has_instance.true c.first_name.ensures

pub returns-else-has_instance : goal.returns-else-has_instance
returns-else-has_instance c =
    above_none c.args.table.now c.args.frame c.requires.ready c.requires.there c.args.parent c.in-Ok-Some.at
    (found_some _ c.in-Ok-Some.field-0 c.in-Ok-Some.at c.in-Ok-Some.field-0-is c.in-Ok-Some.ensures.found)
    c.in-Ok.count.now c.in-Ok.ensures c.has_instance.result c.has_instance.ensures c.if-has_instance.false

pub returns-in-Err-read_at : goal.returns-in-Err-read_at
returns-in-Err-read_at c =
    above_stops c.args.table.now c.args.frame c.requires.ready c.requires.there c.args.parent c.in-Ok-Some.at
    (found_some _ c.in-Ok-Some.field-0 c.in-Ok-Some.at c.in-Ok-Some.field-0-is c.in-Ok-Some.ensures.found)
    c.in-Err-read_at.lack c.in-Err-read_at.ensures

pub returns-in-Ok-None : goal.returns-in-Ok-None
returns-in-Ok-None c =
    above_missing c.args.table.now c.args.frame c.requires.ready c.requires.there c.args.parent
    (found_none _ c.in-Ok-None.field-0 c.in-Ok-None.field-0-is c.in-Ok-None.ensures.missing)
