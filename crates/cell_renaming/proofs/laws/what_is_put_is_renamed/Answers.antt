use Rattle.cell_renaming.proofs.PutLemmas.{stored_forth, stored_back, desired_renamable}
use Rattle.cell_renaming.proofs.laws.what_is_put_is_renamed.Goals as goal

pub returns : goal.returns
returns c = λ r i s t h w d x. (
  (λ g. stored_forth r i s t h w (desired_renamable r i s t h w d) d x g),
  λ g. stored_back r i s t h w (desired_renamable r i s t h w d) d x g,
)
