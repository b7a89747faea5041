use Rattle.std.proofs.Common.{◌≤◌, length, map, sym, subst, arith}
use Rattle.std.proofs.lemmas.List.{length-map}
use Rattle.bicep_declared.specs.View.{declared_tree}
use Rattle.bicep_symbols.specs.Entries.{symbol_of}
use Rattle.symbol_decorators.specs.View.{decorators_at}
use Rattle.parameter_rules.proofs.FileLemmas.{Goes, begins, goes_on, ends}
use Rattle.parameter_rules.proofs.files.of_symbols.Goals as goal

pub loop-number-init : goal.loop-number-init
loop-number-init c =
    let ss = map symbol_of c.args.entries.now in
    let ds = map declared_tree c.args.declarations.now in
    let xs = map decorators_at c.args.symbols.now in
    subst (Goes ss ds xs 0) (sym c.new-found.ensures.items) (begins ss ds xs)

pub loop-number-preserved : goal.loop-number-preserved
loop-number-preserved c =
    goes_on (map symbol_of c.args.entries.now) (map declared_tree c.args.declarations.now)
    (map decorators_at c.args.symbols.now) c.loop-number.number c.loop-number.found.items
    c.in_ok-found-in-Ok.found.items c.in-Ok.parameter c.in-Ok.ensures c.in_ok-found-in-Ok.ensures
    c.loop-number.invariant

pub returns : goal.returns
returns c =
    let size = length-map c.args.declarations.now declared_tree in
    let done = c.loop-number-test.false in
    let all : length (map declared_tree c.args.declarations.now) ≤ c.loop-number.number = omega (arith, size, done) in
    ends (map symbol_of c.args.entries.now) (map declared_tree c.args.declarations.now)
    (map decorators_at c.args.symbols.now) c.loop-number.number c.loop-number.found.items all c.loop-number.invariant
