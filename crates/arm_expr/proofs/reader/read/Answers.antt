use Rattle.std.proofs.Common.{arith, Some, None, Ok, Err}
use Rattle.std.specs.Str.{chars}
use Rattle.arm_expr.specs.declared.fault.ExprFault.TheVariants.{NotAnExpression, TooDeep}
use Rattle.arm_expr.specs.View.{tree_of}
use Rattle.arm_expr.proofs.Reading.{answered, unbracketed, read_as, spelled_has_names}
use Rattle.arm_expr.proofs.reader.read.Goals as goal

pub returns-in-None-clause-answer : goal.returns-in-None-clause-answer
returns-in-None-clause-answer c = (omega arith, unbracketed (chars c.args.text.now) c.in-None.ensures)

pub returns-in-None-clause-spelled : goal.returns-in-None-clause-spelled
returns-in-None-clause-spelled c = λ e s l d. read_as (chars c.args.text.now) (Err NotAnExpression) e 24576 64
    (returns-in-None-clause-answer c) s l d

pub returns-in-Ok-Some-clause-answer : goal.returns-in-Ok-Some-clause-answer
returns-in-Ok-Some-clause-answer c =
    let f = answered (chars c.args.text.now) (chars c.in-Some.inner.now) (Some (Some (tree_of c.in-Ok-Some.e)))
    c.in-Some.ensures (rw c.in-Ok-Some.field-0-is at c.in-Ok-Some.ensures) in
    (omega arith, f.0, f.1)

pub returns-in-Ok-Some-clause-spelled : goal.returns-in-Ok-Some-clause-spelled
returns-in-Ok-Some-clause-spelled c = λ e s l d. read_as (chars c.args.text.now) (Ok c.in-Ok-Some.e) e 24576 64
    (returns-in-Ok-Some-clause-answer c) s l d

pub returns-in-Ok-Some-clause-names : goal.returns-in-Ok-Some-clause-names
returns-in-Ok-Some-clause-names c =
    spelled_has_names (chars c.args.text.now) (tree_of c.in-Ok-Some.e) (returns-in-Ok-Some-clause-answer c).1

pub returns-in-Ok-None-clause-answer : goal.returns-in-Ok-None-clause-answer
returns-in-Ok-None-clause-answer c = (
  omega arith,
  answered (chars c.args.text.now) (chars c.in-Some.inner.now) (Some None) c.in-Some.ensures
      (rw c.in-Ok-None.field-0-is at c.in-Ok-None.ensures),
)

pub returns-in-Ok-None-clause-spelled : goal.returns-in-Ok-None-clause-spelled
returns-in-Ok-None-clause-spelled c =
    λ e s l d. read_as (chars c.args.text.now) (Err TooDeep) e 24576 64 (returns-in-Ok-None-clause-answer c) s l d

pub returns-in-Err-Refused-clause-answer : goal.returns-in-Err-Refused-clause-answer
returns-in-Err-Refused-clause-answer c = (
  omega arith,
  answered (chars c.args.text.now) (chars c.in-Some.inner.now) None c.in-Some.ensures
      (rw c.in-Err-Refused.field-0-is at c.in-Err-Refused.ensures),
)

pub returns-in-Err-Refused-clause-spelled : goal.returns-in-Err-Refused-clause-spelled
returns-in-Err-Refused-clause-spelled c =
    λ e s l d. read_as (chars c.args.text.now) (Err NotAnExpression) e 24576 64
    (returns-in-Err-Refused-clause-answer c) s l d
