use Rattle.std.proofs.Common.{◌∷◌, [], length}
use Rattle.emission_laws.specs.Holes.{fill, holes, nearest}
use Rattle.declared_table.proofs.HeadLemmas.{has_heads}
use Rattle.declared_table.specs.Seen.{file_in, files_in, whole_in, is_known}
use Rattle.declared_entries.proofs.KnownLemmas.{holes_known, holes_unknown}
use Rattle.declared_entries.proofs.heads.placed_condition.Goals as goal

pub returns-in-Some : goal.returns-in-Some
returns-in-Some c = λ h.
    let s = c.args.table.now in
    let n = c.args.number in
    let own = (whole_in s).condition n (holes ∷ []) in
    holes_known c.placed.result (is_known s n) (fill (nearest []) own) ((whole_in s).condition n [])
    c.in-Some.ensures.known
    ((has_heads (file_in s) (files_in s) c.requires.sound (length (file_in s).symbols) n).condition [] tt)
    (c.placed.ensures own (nearest []) c.in-Some.ensures.entry.condition h)

pub returns-in-None : goal.returns-in-None
returns-in-None c = λ h.
    holes_unknown c.kept_nothing.result (is_known c.args.table.now c.args.number)
    ((whole_in c.args.table.now).condition c.args.number []) c.in-None.ensures.known c.kept_nothing.ensures
