use Rattle.std.proofs.Common.{sym}
use Rattle.arm_value.specs.View.{json}
use Rattle.plan_deployments.proofs.ItemLemmas.{made, no_text, no_truth, text_is, truth_is}
use Rattle.plan_deployments.proofs.instance.item_by.Goals as goal

pub returns-in-Ok : goal.returns-in-Ok
returns-in-Ok c =
    made (json c.args.name.now) (json c.args.included.now) (json c.in-Ok.item) c.in-Some.name.now
    c.in-Some-truth_of.included (text_is (json c.args.name.now) c.in-Some.name.now (sym c.in-Some.ensures))
    (truth_is (json c.args.included.now) c.in-Some-truth_of.included (sym c.in-Some-truth_of.ensures)) c.in-Ok.ensures

pub returns-in-None-truth_of : goal.returns-in-None-truth_of
returns-in-None-truth_of c =
    no_truth (json c.args.name.now) (json c.args.included.now) (sym c.in-None-truth_of.ensures)

pub returns-in-None : goal.returns-in-None
returns-in-None c = no_text (json c.args.name.now) (json c.args.included.now) (sym c.in-None.ensures)
