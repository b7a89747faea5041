use Rattle.arm_value.specs.View.{json}
use Rattle.template_meaning.specs.Parts.{looped_variable}
use Rattle.template_reading.proofs.LoopLemmas.{looped_all}
use Rattle.template_reading.proofs.variable.with_looped.Goals as goal

pub returns : goal.returns
returns c =
    looped_all json looped_variable c.args.variables c.loop-value.all c.args.loops.now c.loop-value.value-index
    c.loop-value.invariant c.loop-value-test.false
