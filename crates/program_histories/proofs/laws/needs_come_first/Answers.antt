use Rattle.std.proofs.Common.{◌≡◌, ◌⊎◌, inl, inr, true, sym, ◌∙◌, subst}
use Rattle.std.proofs.lemmas.Option.{same_Some}
use Rattle.deploy_cells.specs.Cells.{World}
use Rattle.plan_cells.specs.Plan.{IsListed, IsPlan}
use Rattle.plan_cells.specs.Tasks.{Task}
use Rattle.cell_renaming.specs.Renaming.{renamed}
use Rattle.source_worlds.specs.Numbers.{numbering}
use Rattle.deploy_histories.specs.Planned.{Planned}
use Rattle.deploy_histories.specs.Readiness.{IsReadyWith}
use Rattle.deploy_histories.specs.Values.{needs_by_values}
use Rattle.emitted_programs.specs.Given.{deployed}
use Rattle.history_laws.proofs.Included.{start_so}
use Rattle.program_histories.specs.Starts.{planned}
use Rattle.program_histories.proofs.ReadLemmas.{reads_are_needs}
use Rattle.program_histories.proofs.StartLemmas.{started_by, done_first}
use Rattle.program_histories.proofs.laws.needs_come_first.Goals as goal

pub returns : goal.returns
returns c = λ z d u bound mode held k t ns dep symbols is_planned are p w sat so e i may starts j x y a b first second f
    g is_x is_y n.
    let plan : Planned = planned d u bound mode held k t in
    let rw : World = renamed (numbering z d.files) w in
    let listed : IsPlan (deployed d u bound) mode held k ns =
    record {
      table = t;
      is_start = is_planned.is_start;
      has_tasks = is_planned.has_tasks;
      has_needs = are;
    } in
    let world = (c.desired_states_are_the_same.ensures.forth z d u bound held dep w sat).1.is_world in
    let s = started_by plan p e i may starts in
    let known = s.may.known in
    let same : s.started ≡ a = same_Some s.started a (sym s.may.is_task ∙ first) in
    let ready : IsReadyWith plan known p i a s.body =
    subst (λ (q : Task). IsReadyWith plan known p i q s.body) same
    ((c.ready_tasks.ensures plan known p i s.started s.body).0 s.may.is_ready) in
    let needs : IsListed (i, j) ns ⊎ (needs_by_values plan known a b ≡ true) =
    elim (c.plans_list_needs.ensures.back z d u bound held dep symbols mode k ns listed w sat i j x y a b first second f
    g is_x is_y n) [
      | inl l ↦ inl l
      | inr r ↦
          inr (reads_are_needs plan is_planned rw world (start_so plan is_planned rw world) known
          (so known s.may.is_known) a b ready.has_values
          ((c.values_read_the_same.ensures z d u bound held dep w sat x y a b f g is_x is_y).0 r))
    ] in
    done_first plan ns are i j a b first second p s.started s.body s.may ready needs
