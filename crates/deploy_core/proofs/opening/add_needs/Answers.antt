use Rattle.std.proofs.Common.{List, Bool, length, ap, sym, subst, ◌∙◌}
use Rattle.std.proofs.lemmas.List.{take_more}
use Rattle.plan_cells.specs.Plan.{Need}
use Rattle.deploy_core.specs.Opens.{HasNeeds}
use Rattle.deploy_core.proofs.opening.add_needs.Goals as goal

pub loop-need-preserved : goal.loop-need-preserved
loop-need-preserved c =
    let m = c.in_ok-add_need.ensures _ _ c.loop-need.invariant.needs in record {
      count = c.requires.count ∙ sym (ap (λ (l : List Bool). length l) m.kinds_are);
      needs = subst (λ (ns : List Need). HasNeeds c.add_need.new.agenda c.args.agenda.now.kinds.items ns)
          (sym (take_more c.args.needs.now c.loop-need.need-index _ c.loop-need-test.true)) m;
    }
