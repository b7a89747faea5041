use Rattle.std.proofs.Common.{◌∙◌, ◌++◌, ◌∷◌, [], arith, ap, length-set, sym}
use Rattle.provider_trait.specs.Work.{Work}
use Rattle.dealer_trait.specs.Steps.{begin, begun}
use Rattle.driver_fakes.specs.Stages.{is_open, stage_of}
use Rattle.driver_fakes.specs.declared.stage.Stage.TheVariants.{Open}
use Rattle.driver_fakes.proofs.StageLemmas.{stages_after, begin_sets, count_begun, not_begun}
use Rattle.crew_times.specs.Marks.{steps_of}
use Rattle.crew_times.proofs.RowLemmas.{later_begun}
use Rattle.crew_times.proofs.row.Row.begin.Goals as goal

pub add-requires : goal.add-requires
add-requires c = let d = c.args.self.now in omega (arith, c.requires, d.used, d.room)

pub invariant_of-self-clause-stages_are : goal.invariant_of-self-clause-stages_are
invariant_of-self-clause-stages_are c =
    let d = c.args.self.now in
    let steps = c.add.ensures.steps
    ∙ ap (λ (j : Work). steps_of d.marks.items ++ begin j ∷ []) c.of.ensures in
    λ t. stages_after d.stages.items (steps_of d.marks.items) d.next Open (begin c.in-Ok.job)
    (begin_sets c.in-Ok.job d.next c.in-Ok.ensures.0) c.requires d.stages_are t
    ∙ ap (stage_of t) (sym steps)

pub invariant_of-self-clause-counted : goal.invariant_of-self-clause-counted
invariant_of-self-clause-counted c =
    let d = c.args.self.now in
    omega (arith, count_begun d.stages.items d.next c.requires (d.later d.next (omega arith)), d.counted)

pub invariant_of-self-clause-later : goal.invariant_of-self-clause-later
invariant_of-self-clause-later c =
    let d = c.args.self.now in later_begun d.stages.items d.next Open d.later

pub invariant_of-self-clause-used : goal.invariant_of-self-clause-used
invariant_of-self-clause-used c = let d = c.args.self.now in omega (arith, d.used, c.add.ensures.len)

pub invariant_of-self-clause-room : goal.invariant_of-self-clause-room
invariant_of-self-clause-room c =
    let d = c.args.self.now in
    omega (arith, d.room, c.add.ensures.capacity, length-set d.stages.items d.next Open)

pub invariant_of-self-clause-few : goal.invariant_of-self-clause-few
invariant_of-self-clause-few c =
    let d = c.args.self.now in omega (arith, d.few, length-set d.stages.items d.next Open)

pub invariant_of-self-clause-within : goal.invariant_of-self-clause-within
invariant_of-self-clause-within c =
    let d = c.args.self.now in omega (arith, c.requires, length-set d.stages.items d.next Open)

pub returns-in-Ok-clause-asked : goal.returns-in-Ok-clause-asked
returns-in-Ok-clause-asked c =
    let d = c.args.self.now in
    let old = steps_of d.marks.items in
    let waits = ap is_open (sym (d.stages_are d.next) ∙ d.later d.next (omega arith)) in (
      c.in-Ok.ensures.1,
      ap (λ n. begun n old) c.in-Ok.ensures.0 ∙ not_begun d.next old waits,
      c.add.ensures.steps ∙ ap (λ (j : Work). old ++ begin j ∷ []) c.of.ensures,
    )
