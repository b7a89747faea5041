use Rattle.std.proofs.Common.{◌∙◌, arith, ap, length-set, refl, sym}
use Rattle.dealer_trait.specs.Steps.{given_back}
use Rattle.driver_fakes.specs.Stages.{stage_of}
use Rattle.driver_fakes.specs.declared.stage.Stage.TheVariants.{Waiting}
use Rattle.driver_fakes.proofs.StageLemmas.{ending, stages_after, back_sets, count_closed}
use Rattle.crew_times.specs.Marks.{steps_of}
use Rattle.crew_times.proofs.RowLemmas.{later_after, open_is_not_waiting}
use Rattle.crew_times.proofs.row.RowDealer.back.Goals as goal

pub add-requires : goal.add-requires
add-requires c =
    let d = c.args.self.now in
    let e = ending d.stages.items (steps_of d.marks.items) c.args.task c.requires.0 d.stages_are c.requires.1 in
    omega (arith, e.some, d.used, d.counted, d.within, d.room)

pub index_mut-requires : goal.index_mut-requires
index_mut-requires c =
    let d = c.args.self.now in
    let e = ending d.stages.items (steps_of d.marks.items) c.args.task c.requires.0 d.stages_are c.requires.1 in
    omega (arith, e.within)

pub overflow_sub-self : goal.overflow_sub-self
overflow_sub-self c =
    let d = c.args.self.now in
    let e = ending d.stages.items (steps_of d.marks.items) c.args.task c.requires.0 d.stages_are c.requires.1 in
    omega (arith, e.some, d.counted)

pub invariant_of-self-clause-stages_are : goal.invariant_of-self-clause-stages_are
invariant_of-self-clause-stages_are c =
    let d = c.args.self.now in
    let e = ending d.stages.items (steps_of d.marks.items) c.args.task c.requires.0 d.stages_are c.requires.1 in
    λ t. stages_after d.stages.items (steps_of d.marks.items) c.args.task Waiting (given_back c.args.task)
    (back_sets c.args.task) e.within d.stages_are t
    ∙ ap (stage_of t) (sym c.add.ensures.steps)

pub invariant_of-self-clause-counted : goal.invariant_of-self-clause-counted
invariant_of-self-clause-counted c =
    let d = c.args.self.now in
    let e = ending d.stages.items (steps_of d.marks.items) c.args.task c.requires.0 d.stages_are c.requires.1 in
    let closed = count_closed d.stages.items c.args.task Waiting e.within e.opens refl in
    omega (arith, closed, d.counted)

pub invariant_of-self-clause-later : goal.invariant_of-self-clause-later
invariant_of-self-clause-later c =
    let d = c.args.self.now in
    let e = ending d.stages.items (steps_of d.marks.items) c.args.task c.requires.0 d.stages_are c.requires.1 in
    later_after d.stages.items c.args.task d.next Waiting (open_is_not_waiting _ e.opens) d.later

pub invariant_of-self-clause-used : goal.invariant_of-self-clause-used
invariant_of-self-clause-used c =
    let d = c.args.self.now in
    let e = ending d.stages.items (steps_of d.marks.items) c.args.task c.requires.0 d.stages_are c.requires.1 in
    omega (arith, e.some, d.used, d.counted, c.add.ensures.len)

pub invariant_of-self-clause-room : goal.invariant_of-self-clause-room
invariant_of-self-clause-room c =
    let d = c.args.self.now in
    omega (arith, d.room, c.add.ensures.capacity, length-set d.stages.items c.args.task Waiting)

pub invariant_of-self-clause-few : goal.invariant_of-self-clause-few
invariant_of-self-clause-few c =
    let d = c.args.self.now in omega (arith, d.few, length-set d.stages.items c.args.task Waiting)

pub invariant_of-self-clause-within : goal.invariant_of-self-clause-within
invariant_of-self-clause-within c =
    let d = c.args.self.now in omega (arith, d.within, length-set d.stages.items c.args.task Waiting)
