use Rattle.std.proofs.Common.{map, arith}
use Rattle.std.proofs.lemmas.Grind.{common_steps}
use Rattle.bicep_typing.specs.Names.{listed}
use Rattle.bicep_types.specs.Program.{IsSettledBy}
use Rattle.bicep_types.specs.Steps.{HasDeclarations, HasNoCircle}
use Rattle.bicep_types.proofs.FileLemmas.{holds_at, one_more}
use Rattle.bicep_types.proofs.files.all_symbol_types.Goals as goal

pub types_or_place-requires-clause-declared : goal.types_or_place-requires-clause-declared
types_or_place-requires-clause-declared c =
    holds_at HasDeclarations c.args.resolved.now c.loop-number.number c.index-resolved-number.result
    c.loop-number-test.true c.index-resolved-number.is c.requires.declared

pub types_or_place-requires-clause-free : goal.types_or_place-requires-clause-free
types_or_place-requires-clause-free c =
    holds_at HasNoCircle c.args.resolved.now c.loop-number.number c.index-resolved-number.result
    c.loop-number-test.true c.index-resolved-number.is c.requires.free

pub loop-number-preserved : goal.loop-number-preserved
loop-number-preserved c = record {
  types = grind (arith, common_steps);
  settled =
      λ rest. c.loop-number.invariant.settled
      (one_more (IsSettledBy (map listed c.args.outputs.now)) c.args.resolved.now c.loop-number.number
      c.index-resolved-number.result c.loop-number-test.true c.index-resolved-number.is c.in-Ok.ensures.settled
      rest);
  place = grind (arith, common_steps);
}
