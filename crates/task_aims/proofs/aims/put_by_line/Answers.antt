use Rattle.std.proofs.Common.{◌≡◌, Some, sym, subst}
use Rattle.std.specs.Prelude.{IfOk}
use Rattle.arm_value.specs.View.{json}
use Rattle.plan_cells.specs.Desired.{kind_of}
use Rattle.plan_table.specs.declared.line.State.{State}
use Rattle.plan_table.specs.Listed.{listed_of}
use Rattle.task_aims.specs.Aims.{target_by, said_by}
use Rattle.task_aims.proofs.AimLemmas.{title_by}
use Rattle.task_aims.proofs.aims.put_by_line.Goals as goal

pub put_by_name-requires : goal.put_by_name-requires
put_by_name-requires c =
    title_by c.args.place.now (kind_of (listed_of c.args.listed.now)) (json c.in-Value.name) c.requires.0
    (subst (λ (s : State). said_by c.args.place.now c.args.listed.now s ≡ Some c.requires.0) c.in-Value.is c.requires.1)

pub returns : goal.returns
returns c =
    subst (λ (s : State). IfOk c.put_by_name.result (λ a. said_by c.args.place.now c.args.listed.now s
    ≡ Some (target_by a))) (sym c.in-Value.is) c.put_by_name.ensures
