use Rattle.foundation.proofs.Options.{if_ok}
use Rattle.file_lists.specs.Lists.{AreGrown, IsNextVariable}
use Rattle.file_lists.proofs.variable_list.with_declared.Goals as goal

pub returns-in-Ok : goal.returns-in-Ok
returns-in-Ok c =
    if_ok (AreGrown c.in-Ok.variable c.args.plain c.args.loops)
    (IsNextVariable c.args.table.now c.args.number c.args.plain c.args.loops) c.with_optional.result
    c.with_optional.ensures (λ r g. (c.in-Ok.variable, (c.in-Ok.ensures, g)))
