use Rattle.std.proofs.Common.{subst}
use Rattle.std.specs.Prelude.{option_map}
use Rattle.bicep_declared.specs.View.{declared_tree}
use Rattle.filled_tables.specs.Seen.{file_in, files_in}
use Rattle.emitted_dependencies.specs.Elements.{IsPutAt, element_extremes}
use Rattle.emitted_dependencies.proofs.LoopLemmas.{takes, takes_nothing}
use Rattle.emitted_dependencies.proofs.measured.measured_put.Goals as goal

pub measured_element-requires-clause-declared : goal.measured_element-requires-clause-declared
measured_element-requires-clause-declared c =
    (subst (λ o. IsPutAt (file_in c.args.table.now) c.args.number (option_map (λ d. declared_tree d.now) o))
    c.in-Some.is c.put_declaration.ensures).0

pub returns-in-Some : goal.returns-in-Some
returns-in-Some c =
    let s = c.args.table.now in
    takes (files_in s) (file_in s) c.args.form c.enclosed.result c.args.number
    (subst (λ o. IsPutAt (file_in s) c.args.number (option_map (λ d. declared_tree d.now) o)) c.in-Some.is
    c.put_declaration.ensures).1
    (c.enclosed.ensures (element_extremes (files_in s) (file_in s) c.args.form c.args.number)
    c.measured_element.ensures)

pub returns-in-None : goal.returns-in-None
returns-in-None c =
    let s = c.args.table.now in
    takes_nothing (files_in s) (file_in s) c.args.form c.nothing.result c.args.number
    (subst (λ o. IsPutAt (file_in s) c.args.number (option_map (λ d. declared_tree d.now) o)) c.in-None.is
    c.put_declaration.ensures) c.nothing.ensures.nothing
