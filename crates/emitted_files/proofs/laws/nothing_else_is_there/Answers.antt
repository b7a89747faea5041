use Rattle.emitted_files.proofs.AbsentLemmas.{absent}
use Rattle.emitted_files.proofs.laws.nothing_else_is_there.Goals as goal

pub returns : goal.returns
returns c = λ z d t h w x e a. absent z d.files t h w x e a
