use Rattle.std.proofs.Common.{[], Some, sym, subst, codes}
use Rattle.arm_expr.specs.Tree.{text, call}
use Rattle.arm_ids.specs.Members.{deployment_type}
use Rattle.bicep_declared.specs.View.{declared_tree}
use Rattle.bicep_emission.specs.Emitted.{two}
use Rattle.emitted_files.specs.Files.{id_by}
use Rattle.emitted_sizes.specs.Extent.{IsOf}
use Rattle.filled_tables.specs.Seen.{file_in, files_in}
use Rattle.filled_tables.proofs.FilledLemmas.{name_given, id_given}
use Rattle.emitted_dependencies.proofs.measured.extent.Goals as goal

pub returns-in-Resource : goal.returns-in-Resource
returns-in-Resource c =
    let s = c.args.table.now in
    let n = c.args.number in
    subst (λ x. IsOf (id_by (files_in s) (file_in s) n (Some (declared_tree x))) c.resource_extent.result) (sym c.in-Resource.is)
    (subst (λ t. IsOf t c.resource_extent.result) (id_given s c.requires.filled c.requires.sound n [] tt) c.resource_extent.ensures)

pub returns-in-Module : goal.returns-in-Module
returns-in-Module c =
    let s = c.args.table.now in
    let n = c.args.number in
    subst (λ x. IsOf (id_by (files_in s) (file_in s) n (Some (declared_tree x))) c.deployment_extent.result) (sym c.in-Module.is)
    (subst (λ t. IsOf (call (codes "resourceId") (two (text deployment_type) t)) c.deployment_extent.result)
    (name_given s c.requires.filled c.requires.sound n [] tt) c.deployment_extent.ensures)
