use Rattle.std.proofs.Common.{◌≡◌, List, length, ap, arith, rules}
use Rattle.arm_ids.specs.Held.{HeldResource}
use Rattle.plan_table.specs.Whole.{whole_of}
use Rattle.plan_assembly.specs.Plans.{ArePlanned}
use Rattle.plan_faults.specs.Faults.{IsFault}
use Rattle.plan_assembly.specs.declared.plan.Task.{Task}
use Rattle.arm_plan.proofs.AcceptedLemmas.{accepted}
use Rattle.arm_plan.proofs.TaskLemmas.{failed_by, too_many}
use Rattle.arm_plan.proofs.numbering.plan_with.Goals as goal

pub returns-then-tasks-gt-MAX_TASKS-clause-fault : goal.returns-then-tasks-gt-MAX_TASKS-clause-fault
returns-then-tasks-gt-MAX_TASKS-clause-fault c =
    let t = c.args.start.register.table in
    let n : c.len-tasks.result ≡ length c.args.parts.tasks.items = search rules in
    failed_by
    (λ f. (held : List HeldResource) → ArePlanned t c.args.mode held c.args.parts.tasks.items c.args.parts.keys.items
    c.args.parts.needs.items → IsFault (whole_of t) c.args.mode held f)
    c.failed.result _ c.failed.ensures (λ held a.
    too_many t c.requires.table c.args.mode held c.args.parts.tasks.items c.args.parts.keys.items
    c.args.parts.needs.items _ a n c.if-tasks-gt-MAX_TASKS.true)

pub returns-else-tasks-gt-MAX_TASKS-clause-accepted : goal.returns-else-tasks-gt-MAX_TASKS-clause-accepted
returns-else-tasks-gt-MAX_TASKS-clause-accepted c = λ held a.
    let n : c.len-tasks.result ≡ length c.args.parts.tasks.items = search rules in
    let h = c.if-tasks-gt-MAX_TASKS.false in
    let e = ap (λ (us : List Task). length us) c.assemble.ensures.tasks in
    accepted c.assemble.result held c.args.start.register.table (c.assemble.ensures.planned held a)
    c.assemble.ensures.table c.requires.settled c.requires.keys c.requires.none_extra c.requires.names
    (omega (arith, n, h, e))
