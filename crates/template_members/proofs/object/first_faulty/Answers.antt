use Rattle.template_members.proofs.SeenLemmas.{next_member}
use Rattle.template_members.proofs.object.first_faulty.Goals as goal

pub loop-field-preserved : goal.loop-field-preserved
loop-field-preserved g c =
    next_member (g.R.MemberRule.single c.args.rule.now) (g.R.MemberRule.fault c.args.rule.now c.args.here.now)
    (g.met.R.MemberRule.folds c.args.rule.now) _ c.loop-field.seen c.in_ok-seen-in-Ok-None.seen
    c.as_slice-field-items.result.now c.loop-field.field-index c.field-item.result c.in-Ok-None.field-0
    c.loop-field.invariant c.loop-field-test.true c.field-item.is c.in-Ok-None.ensures c.in-Ok-None.field-0-is
    c.in_ok-seen-in-Ok-None.ensures
