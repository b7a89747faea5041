use Rattle.emitted_declarations.proofs.ChildLemmas.{made_child}
use Rattle.emitted_declarations.proofs.IdLemmas.{child_parts}
use Rattle.emitted_declarations.proofs.laws.names_of_children_make_ids.Goals as goal

pub returns : goal.returns
returns c = λ x around kind upper k ps up h own r i.
    child_parts x around kind upper ps own up r (made_child around.place kind upper k) h i
