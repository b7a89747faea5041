use Rattle.std.proofs.Common.{Some, subst}
use Rattle.std.specs.Prelude.{IfOk, option_map}
use Rattle.bicep_declared.specs.View.{output_tree}
use Rattle.file_lists.specs.Found.{IsPart}
use Rattle.file_lists.specs.Lists.{output_name, IsNoted}
use Rattle.file_lists.proofs.output_list.output_at.Goals as goal

pub returns-in-Ok : goal.returns-in-Ok
returns-in-Ok c =
    subst
    (λ m. IfOk c.output_of.result (IsPart output_name (IsNoted c.args.table.now)
    (option_map (λ t. t.now) c.args.name) (Some (output_tree c.args.declared.now, m))))
    c.in-Ok.ensures c.output_of.ensures
