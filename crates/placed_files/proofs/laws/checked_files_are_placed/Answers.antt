use Rattle.placed_files.proofs.FileLemmas.{file_placed}
use Rattle.placed_files.proofs.laws.checked_files_are_placed.Goals as goal

pub returns : goal.returns
returns c = λ files rs h none k r is f same own. file_placed files rs h none k r is f same own
