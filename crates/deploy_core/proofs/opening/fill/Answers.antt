use Rattle.deploy_core.proofs.OpenLemmas.{filled_on}
use Rattle.deploy_core.proofs.opening.fill.Goals as goal

pub returns : goal.returns
returns c =
    filled_on c.args.agenda.now.kinds.items c.args.needs.now c.add_needs.new.agenda c.wake_all.new.self
    c.wake_all.result c.in_ok-add_needs.ensures c.wake_all.ensures.keeps c.wake_all.ensures.all
