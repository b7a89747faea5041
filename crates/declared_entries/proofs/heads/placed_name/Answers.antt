use Rattle.std.proofs.Common.{◌∷◌, [], length}
use Rattle.emission_laws.specs.Holes.{fill, holes, nearest}
use Rattle.declared_table.proofs.HeadLemmas.{has_heads}
use Rattle.declared_table.specs.Seen.{file_in, files_in, whole_in, is_known}
use Rattle.declared_entries.proofs.KnownLemmas.{holes_known, holes_unknown}
use Rattle.declared_entries.proofs.heads.placed_name.Goals as goal

pub returns-in-Some : goal.returns-in-Some
returns-in-Some c = λ fs r h.
    let s = c.args.table.now in
    let n = c.args.number in
    let own = (whole_in s).full_name n (holes ∷ []) in
    holes_known c.placed.result (is_known s n) (fill (nearest fs) own) ((whole_in s).full_name n fs)
    c.in-Some.ensures.known
    ((has_heads (file_in s) (files_in s) c.requires.sound (length (file_in s).symbols) n).full_name fs r)
    (c.placed.ensures own (nearest fs) c.in-Some.ensures.entry.full_name h)

pub returns-in-None : goal.returns-in-None
returns-in-None c = λ fs r h.
    holes_unknown c.kept_nothing.result (is_known c.args.table.now c.args.number)
    ((whole_in c.args.table.now).full_name c.args.number fs) c.in-None.ensures.known c.kept_nothing.ensures
