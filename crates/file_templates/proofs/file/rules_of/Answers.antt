use Rattle.std.proofs.Common.{◌≤◌, List, sym, subst}
use Rattle.bicep_tree.specs.Nesting.{file_nesting}
use Rattle.bicep_tree.specs.View as view
use Rattle.bicep_tree.specs.declared.declaration.Statement.{Statement}
use Rattle.file_templates.proofs.TextLemmas.{rules_are}
use Rattle.file_templates.proofs.file.rules_of.Goals as goal

pub parameters-requires : goal.parameters-requires
parameters-requires c =
    subst (λ (l : List Statement). file_nesting (view.file_of l) ≤ 119) (sym c.as_slice-3.ensures.value) c.requires

pub returns : goal.returns
returns c =
    rules_are c.args.source.now c.args.file.now c.as_slice.result.now c.as_slice-2.result.now c.as_slice-3.result.now
    c.as_slice.ensures.value c.as_slice-2.ensures.value c.as_slice-3.ensures.value c.parameters.result
    c.parameters.ensures
