use Rattle.arm_value.specs.View.{json}
use Rattle.plan_names.specs.Named.{is_spelled}
use Rattle.plan_names.proofs.AroundLemmas.{here_named, here_lacks}
use Rattle.plan_names.proofs.around.named_here.Goals as goal
use Rattle.arm_ids.specs.Members.{deployment_type}

pub returns-in-Ok-key_listed : goal.returns-in-Ok-key_listed
returns-in-Ok-key_listed c =
    here_named c.args.table.now (is_spelled c.args.text.now deployment_type) c.args.place.now c.args.frame
    (json c.in-Ok.listing.now) c.in-Ok-key_listed.key c.in-Ok.ensures c.in-Ok-key_listed.ensures

pub returns-in-Err : goal.returns-in-Err
returns-in-Err c =
    here_lacks c.args.table.now (is_spelled c.args.text.now deployment_type) c.args.place.now c.args.frame
    c.in-Err.lack c.in-Err.ensures
