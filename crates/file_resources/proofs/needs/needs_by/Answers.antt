use Rattle.std.proofs.Common.{ap, ◌∙◌}
use Rattle.file_resources.specs.Built.{symbol_in}
use Rattle.file_resources.proofs.MadeLemmas.{needs_are}
use Rattle.file_resources.proofs.needs.needs_by.Goals as goal

pub returns-in-Ok : goal.returns-in-Ok
returns-in-Ok c =
    let n = c.args.number in
    let js = c.args.depends_on in
    let m = c.args.metadata in
    let x = symbol_in c.args.form c.args.symbol.now in
    needs_are c.args.form c.args.table.now n m js c.args.symbol.now _ c.requires.symbol
    (ap (λ o. record { symbol = o; depends_on = js; batches = c.batches.result; metadata = m }) c.in-Ok.ensures
    ∙ ap (λ b. record { symbol = x; depends_on = js; batches = b; metadata = m }) c.batches.ensures)
