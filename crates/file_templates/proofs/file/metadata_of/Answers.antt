use Rattle.std.proofs.Common.{◌≤◌, List, sym, subst}
use Rattle.bicep_tree.specs.Nesting.{file_nesting}
use Rattle.bicep_tree.specs.View as view
use Rattle.bicep_tree.specs.declared.declaration.Statement.{Statement}
use Rattle.file_templates.proofs.TextLemmas.{metadata_are}
use Rattle.file_templates.proofs.file.metadata_of.Goals as goal

pub metadata_of_file-requires : goal.metadata_of_file-requires
metadata_of_file-requires c =
    subst (λ (l : List Statement). file_nesting (view.file_of l) ≤ 119) (sym c.as_slice.ensures.value) c.requires

pub returns : goal.returns
returns c =
    metadata_are c.args.source.now c.as_slice.result.now c.as_slice.ensures.value c.metadata_of_file.result
    c.metadata_of_file.ensures
