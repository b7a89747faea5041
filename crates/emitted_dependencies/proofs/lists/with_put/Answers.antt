use Rattle.std.proofs.Common.{subst}
use Rattle.std.specs.Prelude.{option_map}
use Rattle.bicep_declared.specs.View.{declared_tree}
use Rattle.filled_tables.specs.Seen.{file_in, files_in}
use Rattle.emitted_dependencies.specs.Elements.{IsPutAt}
use Rattle.emitted_dependencies.proofs.LoopLemmas.{left_out, put_last}
use Rattle.emitted_dependencies.proofs.lists.with_put.Goals as goal

pub with_element-requires-clause-declared : goal.with_element-requires-clause-declared
with_element-requires-clause-declared c =
    (subst (λ o. IsPutAt (file_in c.args.table.now) c.args.number (option_map (λ d. declared_tree d.now) o))
    c.in-Some.is c.put_declaration.ensures).0

pub returns-in-Some : goal.returns-in-Some
returns-in-Some c =
    let s = c.args.table.now in
    put_last (files_in s) (file_in s) c.args.form c.args.elements c.args.number
    (subst (λ o. IsPutAt (file_in s) c.args.number (option_map (λ d. declared_tree d.now) o)) c.in-Some.is
    c.put_declaration.ensures).1 c.with_element.result c.with_element.ensures

pub returns-in-None : goal.returns-in-None
returns-in-None c =
    let s = c.args.table.now in
    left_out (files_in s) (file_in s) c.args.form c.args.elements c.args.number
    (subst (λ o. IsPutAt (file_in s) c.args.number (option_map (λ d. declared_tree d.now) o)) c.in-None.is
    c.put_declaration.ensures)
