use Rattle.std.proofs.Common.{w64}
use Rattle.std.proofs.lemmas.Str.{IsUtf8-had}
use Rattle.std.proofs.lemmas.Int.{to_z-of_z}
use Rattle.arm_expr.proofs.PrintLemmas.{int_put, whole_is}
use Rattle.arm_expr.proofs.printer.put_int.Goals as goal

pub returns-clause-written : goal.returns-clause-written
returns-clause-written c =
    int_put _ _ c.args.z _ (IsUtf8-had _ c.args.out.now.ok) c.ranges.z (to_z-of_z w64 c.args.z c.ranges.z)
    c.in_ok-write.ensures.bytes

pub returns-clause-whole : goal.returns-clause-whole
returns-clause-whole c = whole_is c.args.z c.ranges.z
