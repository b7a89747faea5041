use Rattle.std.proofs.Common.{sym, subst}
use Rattle.std.specs.Prelude.{IfOk}
use Rattle.declared_table.specs.Seen.{file_in, files_in, emission_in}
use Rattle.declared_entries.specs.Made.{IsMade}
use Rattle.declared_entries.proofs.entries.entry_of.Goals as goal

pub returns-in-Ok : goal.returns-in-Ok
returns-in-Ok c =
    let s = c.args.table.now in
    subst (λ o. IfOk c.entry_named.result (IsMade (file_in s) (files_in s) (emission_in s) c.args.number o))
    (sym c.declared_at-declared.ensures) c.entry_named.ensures
