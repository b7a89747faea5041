use Rattle.emitted_expressions.specs.Emitted.{no_value}
use Rattle.emitted_sizes.specs.Extent.{IsOf}
use Rattle.declared_table.specs.Seen.{whole_in, is_known}
use Rattle.declared_table.proofs.PartLemmas.{part_there, part_absent}
use Rattle.declared_table.proofs.sizes.TableSizes.variable.Goals as goal

pub returns-in-Some : goal.returns-in-Some
returns-in-Some c =
    let s = c.args.self.now in
    let n = c.args.number in
    part_there (λ t. IsOf t c.in-Some.entry.now.variable.extent) (is_known s n) ((whole_in s).scope.variable n) no_value
    c.in-Some.ensures.known c.in-Some.ensures.entry.variable.extent

pub returns-in-None : goal.returns-in-None
returns-in-None c =
    let s = c.args.self.now in
    let n = c.args.number in
    part_absent (λ t. IsOf t c.no_value.result) (is_known s n) ((whole_in s).scope.variable n) no_value
    c.in-None.ensures.known c.no_value.ensures
