use Rattle.cell_renaming.proofs.WorldLemmas.{is_renaming}
use Rattle.cell_renaming.proofs.PutLemmas.{forth, back, no_others, desired_renamable}
use Rattle.cell_renaming.proofs.laws.desired_states_are_renamed.Goals as goal

pub returns : goal.returns
returns c = record {
  forth =
      λ r i s t h w d.
      (desired_renamable r i s t h w d, forth r i s t h w (desired_renamable r i s t h w d) d);
  back = λ r i s t h w n d. back r i s t h w n d;
  no_others = λ r i s t h v d. (no_others r i s t h v d, is_renaming r i s t h v d.is_world);
}
