use Rattle.std.proofs.Common.{Some}
use Rattle.std.specs.Prelude.{option_map}
use Rattle.bicep_declared.specs.View.{output_tree}
use Rattle.emitted_values.specs.Metadata.{metadata_at}
use Rattle.file_lists.specs.Lists.{output_name, IsNoted}
use Rattle.file_lists.proofs.PartLemmas.{next_part}
use Rattle.file_lists.proofs.output_list.with_declared.Goals as goal

pub returns-in-Ok : goal.returns-in-Ok
returns-in-Ok c =
    next_part output_name (IsNoted c.args.table.now) (option_map (λ t. t.now) c.args.name)
    (Some (output_tree c.args.declared.now, metadata_at c.args.metadata.now c.args.number)) c.in-Ok.output c.args.all
    c.in-Ok.ensures c.with_optional.result c.with_optional.ensures
