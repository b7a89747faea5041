use Rattle.std.proofs.Common.{◌∙◌, ap, sym, map, option_map, arith}
use Rattle.std.proofs.lemmas.List.{length-take, length-drop}
use Rattle.arm_value.specs.View.{member}
use Rattle.arm_value.specs.declared.value.Value.{Value}
use Rattle.function_lists.proofs.MemberLemmas.{paired_more, paired_fails, paired_ends, paired_odd}
use Rattle.function_lists.proofs.members.paired.Goals as goal
use Rattle.foundation.proofs.Lists.{map-push}

pub loop-rest-preserved : goal.loop-rest-preserved
loop-rest-preserved c =
    paired_more (map member c.loop-rest.fields.items) (map member c.push.new.self.items) (member c.in-Some.field)
    c.loop-rest.rest.now c.name-item.result c.value-item.result _ c.in-len2-up.len_at_least c.name-item.is
    c.value-item.is
    (ap (option_map member) (sym c.in-Some.is) ∙ c.in_ok-field.ensures)
    (ap (map member) c.in_ok-push-in-Some.ensures.items
    ∙ map-push member c.loop-rest.fields.items c.in-Some.field) c.loop-rest.invariant

pub loop-rest-smaller : goal.loop-rest-smaller
loop-rest-smaller c = omega (arith, c.in-len2-up.len_at_least, length-take {A = Value}, length-drop {A = Value})

pub returns-in-None : goal.returns-in-None
returns-in-None c =
    paired_fails (map member c.loop-rest.fields.items) c.loop-rest.rest.now c.name-item.result c.value-item.result _
    c.in-len2-up.len_at_least c.name-item.is c.value-item.is (ap (option_map member) (sym c.in-None.is)
    ∙ c.in_ok-field.ensures) c.loop-rest.invariant

pub returns-then-is_empty : goal.returns-then-is_empty
returns-then-is_empty c = paired_ends (map member c.loop-rest.fields.items) c.loop-rest.rest.now _
    (sym c.is_empty.ensures ∙ c.if-is_empty.true) c.loop-rest.invariant

pub returns-else-is_empty : goal.returns-else-is_empty
returns-else-is_empty c =
    paired_odd (map member c.loop-rest.fields.items) c.loop-rest.rest.now _ c.in_default.len_below
    (sym c.is_empty.ensures ∙ c.if-is_empty.false) c.loop-rest.invariant
