use Rattle.arm_value.specs.Reading.{reading}
use Rattle.function_prints.proofs.StatedLemmas.{stated_tree, stated_none}
use Rattle.function_prints.proofs.stated.stated.Goals as goal

pub returns-in-Ok-clause-value : goal.returns-in-Ok-clause-value
returns-in-Ok-clause-value c = stated_tree _ _ c.in-Ok.ensures.ok

pub returns-in-Err-NotWhole-clause-value : goal.returns-in-Err-NotWhole-clause-value
returns-in-Err-NotWhole-clause-value c =
    stated_none (reading c.args.bytes.now) c.in-Err-NotWhole.field-0-0
    (rw c.in-Err-NotWhole.field-0-is at c.in-Err-NotWhole.ensures.fault)
