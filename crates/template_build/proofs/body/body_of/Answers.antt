use Rattle.template_build.proofs.BodyLemmas.{member_within, next_last, next_ordered, body_next, body_all}
use Rattle.template_build.proofs.body.body_of.Goals as goal

pub with_field-requires-clause-nests : goal.with_field-requires-clause-nests
with_field-requires-clause-nests c =
    member_within c.as_slice-field-items.result.now c.args.fields.now c.loop-field.field-index c.field-item.result 119
    c.as_slice-field-items.ensures.members c.loop-field-test.true c.field-item.is
    c.as_slice-field-items.ensures.rules.2

pub with_field-requires-clause-last : goal.with_field-requires-clause-last
with_field-requires-clause-last c =
    next_last c.loop-field.body c.as_slice-field-items.result.now c.loop-field.field-index c.field-item.result
    c.loop-field.invariant.ordered c.loop-field-test.true c.field-item.is

pub loop-field-preserved : goal.loop-field-preserved
loop-field-preserved c = record {
  all = body_next c.args.symbol.now _ c.loop-field.body c.in_ok-body.body c.as_slice-field-items.result.now
      c.loop-field.field-index c.field-item.result c.loop-field.invariant.all c.loop-field-test.true c.field-item.is
      c.in_ok-body.ensures;
  ordered = next_ordered c.args.symbol.now c.loop-field.body c.in_ok-body.body c.as_slice-field-items.result.now
      c.loop-field.field-index c.field-item.result c.loop-field.invariant.ordered c.loop-field-test.true
      c.field-item.is c.in_ok-body.ensures;
}

pub returns : goal.returns
returns c =
    body_all c.args.symbol.now c.loop-field.body c.as_slice-field-items.result.now c.args.fields.now
    c.loop-field.field-index c.as_slice-field-items.ensures.members c.loop-field.invariant.all
    c.loop-field-test.false
