use Rattle.emitted_expressions.specs.Emitted.{no_value}
use Rattle.emitted_expressions.specs.Built.{Is}
use Rattle.declared_table.specs.Seen.{whole_in, is_known}
use Rattle.declared_table.proofs.PartLemmas.{part_there, part_absent}
use Rattle.declared_table.proofs.declarations.TableDeclarations.items.Goals as goal

pub returns-in-Some : goal.returns-in-Some
returns-in-Some c =
    let s = c.args.self.now in
    let n = c.args.number in
    let own = (whole_in s).scope.items n in
    part_there (λ t. Is t c.copied.result) (is_known s n) own no_value c.in-Some.ensures.known
    (c.copied.ensures own c.in-Some.ensures.entry.items)

pub returns-in-None : goal.returns-in-None
returns-in-None c =
    let s = c.args.self.now in
    let n = c.args.number in
    part_absent (λ t. Is t c.no_value.result) (is_known s n) ((whole_in s).scope.items n) no_value
    c.in-None.ensures.known c.no_value.ensures
