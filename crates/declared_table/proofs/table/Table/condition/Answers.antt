use Rattle.std.proofs.Common.{◌∷◌, []}
use Rattle.emitted_expressions.specs.Emitted.{no_value}
use Rattle.ordered_emissions.specs.Holes.{fill, holes, nearest}
use Rattle.emitted_expressions.specs.Built.{Is}
use Rattle.emitted_expressions.specs.Sight.{frames_of}
use Rattle.declared_table.specs.Seen.{whole_in, is_known}
use Rattle.declared_table.proofs.PartLemmas.{part_there, part_absent}
use Rattle.declared_table.proofs.table.Table.condition.Goals as goal

pub returns-in-Some : goal.returns-in-Some
returns-in-Some c =
    let s = c.args.self.now in
    let n = c.args.number in
    let own = (whole_in s).condition n (holes ∷ []) in
    part_there (λ t. Is t c.filled_in.result) (is_known s n) (fill (nearest (frames_of c.args.turns.now)) own) no_value
    c.in-Some.ensures.known (c.filled_in.ensures own c.in-Some.ensures.entry.condition)

pub returns-in-None : goal.returns-in-None
returns-in-None c =
    let s = c.args.self.now in
    let n = c.args.number in
    part_absent (λ t. Is t c.no_value.result) (is_known s n)
    (fill (nearest (frames_of c.args.turns.now)) ((whole_in s).condition n (holes ∷ []))) no_value
    c.in-None.ensures.known c.no_value.ensures
