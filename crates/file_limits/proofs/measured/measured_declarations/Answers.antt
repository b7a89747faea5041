use Rattle.std.proofs.Common.{length, arith}
use Rattle.bicep_declared.specs.View.{declared_tree}
use Rattle.emitted_templates.specs.Seen.{file_in}
use Rattle.emitted_templates.proofs.LimitLemmas.{item_is, same_size}
use Rattle.file_limits.specs.Extremes.{over, declaration_extremes}
use Rattle.file_limits.proofs.OverLemmas.{next_over, all_over}
use Rattle.file_limits.proofs.measured.measured_declarations.Goals as goal

pub loop-number-init : goal.loop-number-init
loop-number-init c = record { most = omega arith; so_far = λ x h. c.nothing-all.ensures.nothing }

pub measured_declaration-requires-clause-declared : goal.measured_declaration-requires-clause-declared
measured_declaration-requires-clause-declared c =
    item_is declared_tree c.args.declarations.now (file_in c.args.table.now).declared.declarations c.loop-number.number
    c.index-declarations-number.result c.requires.declared c.loop-number-test.true c.index-declarations-number.is

pub loop-number-preserved : goal.loop-number-preserved
loop-number-preserved c = record {
  most = omega (arith, c.loop-number-test.true);
  so_far = λ x h.
      let y = declaration_extremes c.args.form c.args.table.now c.args.rules.now c.args.metadata.now x in
      next_over y c.loop-number.number c.with-all.result
      (c.with-all.ensures.both (over y c.loop-number.number) (y c.loop-number.number)
      (c.loop-number.invariant.so_far x h) (c.in_ok-one.ensures x h));
}

pub returns : goal.returns
returns c = λ x h.
    let ds = (file_in c.args.table.now).declared.declarations in
    let a = same_size declared_tree c.args.declarations.now ds c.requires.declared in
    all_over (declaration_extremes c.args.form c.args.table.now c.args.rules.now c.args.metadata.now x)
    c.loop-number.number (length ds) c.loop-number.all
    (omega (arith, a, c.loop-number-test.false, c.loop-number.invariant.most))
    (c.loop-number.invariant.so_far x h)
