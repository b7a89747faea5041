use Rattle.std.proofs.Common.{◌≡◌, subst}
use Rattle.deploy_cells.specs.Cells.{World}
use Rattle.plan_cells.specs.Desired as template
use Rattle.cell_renaming.specs.Renaming.{renamed, unrenamed}
use Rattle.source_worlds.specs.Numbers.{numbering}
use Rattle.emitted_programs.specs.Given.{deployed}
use Rattle.program_laws.proofs.laws.desired_states_are_of_programs.Goals as goal

pub returns : goal.returns
returns c = record {
  forth =
      λ z d u bound held h v s.
      let r = numbering z d.files in
      let n = c.desired_states_are_the_same.ensures.no_others z d u bound held h v s in (
        unrenamed r v,
        record {
          satisfies = n.0;
          renamable = (c.desired_states_are_the_same.ensures.forth z d u bound held h (unrenamed r v) n.0).0;
          same = n.1;
        },
      );
  back =
      λ z d u bound held h v w k.
      let r = numbering z d.files in
      let same : renamed r w ≡ v = λ i e. k.same e i in
      subst (λ (x : World). template.Satisfies (deployed d u bound) held x) same
      (c.desired_states_are_the_same.ensures.forth z d u bound held h w k.satisfies).1;
}
