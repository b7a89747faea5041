use Rattle.std.proofs.Common.{◌<◌, ℕ, refl, sym, subst}
use Rattle.arm_ids.specs.Id.{folded_text}
use Rattle.arm_ids.specs.Held.{find}
use Rattle.point_states.specs.Task.TheVariants.{Enter, Put, Leave, Delete}
use Rattle.deploy_histories.specs.Legal.{IsAct}
use Rattle.deploy_histories.specs.Outcome.{delete_target}
use Rattle.task_aims.specs.Aims.{target_at}
use Rattle.planned_tasks.proofs.PutLemmas.{deletion_found}
use Rattle.task_aims.proofs.AimLemmas.{is_within, in_plan_here, here_in, same_here, aims_so}
use Rattle.task_aims.proofs.AimLemmas.{target_there, target_of_put}
use Rattle.point_states.specs.Planned.{planned_by}
use Rattle.task_aims.proofs.aims.aim_of.Goals as goal

pub index-requires : goal.index-requires
index-requires c =
    subst (λ (n : ℕ). c.args.task < n) (sym c.args.plan.now.tasks.ok.0)
    (is_within c.args.plan.now c.args.held.now c.args.task c.requires.act.0 c.requires.act.1.0)

pub put_aim-requires-clause-instance : goal.put_aim-requires-clause-instance
put_aim-requires-clause-instance c =
    let within = is_within c.args.plan.now c.args.held.now c.args.task c.requires.act.0 c.requires.act.1.0 in
    (here_in c.args.plan.now c.args.held.now c.args.task (Put c.in-Put.frame c.in-Put.resource c.in-Put.copy)
    c.index.result.now c.index.ensures c.in-Put.is within c.requires.planned.are_planned.of_table).0

pub put_aim-requires-clause-named : goal.put_aim-requires-clause-named
put_aim-requires-clause-named c =
    let within = is_within c.args.plan.now c.args.held.now c.args.task c.requires.act.0 c.requires.act.1.0 in
    target_there c.args.plan.now.start.register.table c.in-Put.frame c.in-Put.resource c.in-Put.copy
    c.requires.planned.table
    (here_in c.args.plan.now c.args.held.now c.args.task (Put c.in-Put.frame c.in-Put.resource c.in-Put.copy)
    c.index.result.now c.index.ensures c.in-Put.is within c.requires.planned.are_planned.of_table).0

pub deletion_aim-requires : goal.deletion_aim-requires
deletion_aim-requires c =
    let task = Delete c.in-Delete.key in
    let within = is_within c.args.plan.now c.args.held.now c.args.task c.requires.act.0 c.requires.act.1.0 in
    deletion_found (planned_by c.args.plan.now c.args.held.now) c.requires.histories c.args.task c.in-Delete.key
    (in_plan_here c.args.plan.now c.args.held.now c.args.task task c.index.result.now c.index.ensures c.in-Delete.is
    within)

pub unreachable-requires : goal.unreachable-requires
unreachable-requires c =
    let within = is_within c.args.plan.now c.args.held.now c.args.task c.requires.act.0 c.requires.act.1.0 in
    subst IsAct
    (sym (same_here c.args.plan.now c.args.held.now c.args.task (Enter c.in-Enter.field-0) c.index.result.now
    c.index.ensures c.in-Enter.is within c.requires.act.0 c.requires.act.1.0)) c.requires.act.1.1

pub unreachable-requires-in-Leave : goal.unreachable-requires-in-Leave
unreachable-requires-in-Leave c =
    let within = is_within c.args.plan.now c.args.held.now c.args.task c.requires.act.0 c.requires.act.1.0 in
    subst IsAct
    (sym (same_here c.args.plan.now c.args.held.now c.args.task (Leave c.in-Leave.field-0) c.index.result.now
    c.index.ensures c.in-Leave.is within c.requires.act.0 c.requires.act.1.0)) c.requires.act.1.1

pub returns-in-Put : goal.returns-in-Put
returns-in-Put c =
    let task = Put c.in-Put.frame c.in-Put.resource c.in-Put.copy in
    let within = is_within c.args.plan.now c.args.held.now c.args.task c.requires.act.0 c.requires.act.1.0 in
    aims_so c.args.plan.now c.args.held.now c.args.task task c.index.result.now c.index.ensures c.in-Put.is within
    (target_at c.args.plan.now.start.register.table c.in-Put.frame c.in-Put.resource c.in-Put.copy)
    (target_of_put c.args.plan.now c.args.held.now c.requires.planned c.in-Put.frame c.in-Put.resource c.in-Put.copy)
    c.put_aim.result c.put_aim.ensures

pub returns-in-Delete : goal.returns-in-Delete
returns-in-Delete c =
    let task = Delete c.in-Delete.key in
    let within = is_within c.args.plan.now c.args.held.now c.args.task c.requires.act.0 c.requires.act.1.0 in
    aims_so c.args.plan.now c.args.held.now c.args.task task c.index.result.now c.index.ensures c.in-Delete.is within
    (delete_target (find (folded_text c.in-Delete.key) c.args.held.now)) refl c.deletion_aim.result
    c.deletion_aim.ensures
