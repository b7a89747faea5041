use Rattle.emitted_declarations.proofs.IdLemmas.{parts_are, parts_of_name, named_by_parts}
use Rattle.emitted_declarations.proofs.PartLemmas.{values_from}
use Rattle.emitted_declarations.specs.Declared.{segments_from}
use Rattle.emitted_declarations.proofs.laws.segments_make_ids.Goals as goal

pub returns : goal.returns
returns c = λ x around own r i kind n h.
    parts_of_name x around kind (segments_from own 0 n) r (values_from 0 n) (parts_are x around own r i n 0)
    (named_by_parts x around around.place kind n h)
