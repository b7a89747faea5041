use Rattle.std.proofs.Common.{◌<◌, ℕ, [], None, refl, sym, subst, ◌∙◌}
use Rattle.std.proofs.lemmas.Option.{none-some}
use Rattle.plan_table.specs.Found.{scope_at}
use Rattle.plan_table.specs.Whole.{whole_of}
use Rattle.plan_paths.specs.Texts.{a_position, scope_text}
use Rattle.point_states.specs.Task.TheVariants.{Enter, Put, Leave, Delete}
use Rattle.task_aims.proofs.AimLemmas.{placed_within, placed_here, places_so, here_in}
use Rattle.task_aims.proofs.places.place_of.Goals as goal

pub index-requires : goal.index-requires
index-requires c =
    subst (λ (n : ℕ). c.args.task < n) (sym c.args.plan.now.tasks.ok.0)
    (placed_within c.args.plan.now c.args.task c.requires.scope.0 c.requires.scope.1)

pub scope_position-requires-clause-there : goal.scope_position-requires-clause-there
scope_position-requires-clause-there c =
    here_in c.args.plan.now [] c.args.task (Enter c.in-Enter.frame) c.index.result.now c.index.ensures
    c.in-Enter.is (placed_within c.args.plan.now c.args.task c.requires.scope.0 c.requires.scope.1)
    c.requires.of_table

pub scope_position-requires-in-Leave-clause-there : goal.scope_position-requires-in-Leave-clause-there
scope_position-requires-in-Leave-clause-there c =
    here_in c.args.plan.now [] c.args.task (Leave c.in-Leave.frame) c.index.result.now c.index.ensures
    c.in-Leave.is (placed_within c.args.plan.now c.args.task c.requires.scope.0 c.requires.scope.1)
    c.requires.of_table

pub returns-in-Enter : goal.returns-in-Enter
returns-in-Enter c =
    let t = c.args.plan.now.start.register.table in
    places_so c.args.plan.now [] c.args.task (Enter c.in-Enter.frame) c.index.result.now c.index.ensures c.in-Enter.is
    (placed_within c.args.plan.now c.args.task c.requires.scope.0 c.requires.scope.1)
    (scope_text a_position (whole_of t).template (scope_at t c.in-Enter.frame).position) refl
    c.scope_position.result c.scope_position.ensures

pub returns-in-Leave : goal.returns-in-Leave
returns-in-Leave c =
    let t = c.args.plan.now.start.register.table in
    places_so c.args.plan.now [] c.args.task (Leave c.in-Leave.frame) c.index.result.now c.index.ensures c.in-Leave.is
    (placed_within c.args.plan.now c.args.task c.requires.scope.0 c.requires.scope.1)
    (scope_text a_position (whole_of t).template (scope_at t c.in-Leave.frame).position) refl
    c.scope_position-in-Leave.result c.scope_position-in-Leave.ensures

pub unreachable-requires : goal.unreachable-requires
unreachable-requires c =
    none-some c.requires.scope.0
    (sym (placed_here c.args.plan.now [] c.args.task
    (Put c.in-Put.field-0 c.in-Put.field-1 c.in-Put.field-2) c.index.result.now c.index.ensures c.in-Put.is
    (placed_within c.args.plan.now c.args.task c.requires.scope.0 c.requires.scope.1) None refl) ∙ c.requires.scope.1)

pub unreachable-requires-in-Delete : goal.unreachable-requires-in-Delete
unreachable-requires-in-Delete c =
    none-some c.requires.scope.0
    (sym (placed_here c.args.plan.now [] c.args.task (Delete c.in-Delete.field-0) c.index.result.now c.index.ensures
    c.in-Delete.is (placed_within c.args.plan.now c.args.task c.requires.scope.0 c.requires.scope.1) None refl)
    ∙ c.requires.scope.1)
