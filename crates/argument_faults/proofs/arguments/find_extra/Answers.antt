use Rattle.std.proofs.Common.{sym, ◌∙◌}
use Rattle.argument_faults.proofs.ExtraLemmas.{has_item}
use Rattle.argument_faults.proofs.arguments.find_extra.Goals as goal

pub returns-in-loop-argument-clause-extra : goal.returns-in-loop-argument-clause-extra
returns-in-loop-argument-clause-extra c = (
  has_item c.args.arguments.now c.loop-argument.argument-index c.argument-item.result c.loop-argument-test.true
      c.argument-item.is,
  sym c.in_ok-has.ensures ∙ c.if-branch.false,
)
