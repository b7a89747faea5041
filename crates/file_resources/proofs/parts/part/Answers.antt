use Rattle.std.proofs.Common.{Some, true, false, ap, ◌∙◌, sym, subst}
use Rattle.std.specs.Prelude.{IfOk, is_some, option_map}
use Rattle.template_tree.specs.View.{resource_tree, template_tree}
use Rattle.bicep_declared.specs.Declarations as d
use Rattle.bicep_declared.specs.View.{declared_tree, body_tree}
use Rattle.file_resources.specs.Built.{HasMetadata, IsBuiltFor}
use Rattle.file_resources.specs.Fits.{IsResourceBy}
use Rattle.file_resources.proofs.PartLemmas.{members_fit, arguments_fit, has_template, no_resource}
use Rattle.file_resources.proofs.parts.part.Goals as goal

pub existing_of-made-requires-clause-declared : goal.existing_of-made-requires-clause-declared
existing_of-made-requires-clause-declared c = ap is_some c.requires.declared

pub resource_of-made-requires-clause-declared : goal.resource_of-made-requires-clause-declared
resource_of-made-requires-clause-declared c = ap is_some c.requires.declared

pub resource_of-made-requires-clause-fits : goal.resource_of-made-requires-clause-fits
resource_of-made-requires-clause-fits c =
    let at = c.in-Resource.field-0 in
    let q = c.in-Resource.field-1 in
    let b = body_tree c.in-Resource.body in
    members_fit c.args.table.now c.args.number (is_some c.args.template) c.requires.built at q b
    (c.requires.declared ∙ ap (λ x. Some (declared_tree x)) c.in-Resource.is
    ∙ ap (λ e. Some (d.a_resource at q e b)) c.if-existing.false)

pub module_with-requires-clause-declared : goal.module_with-requires-clause-declared
module_with-requires-clause-declared c = ap is_some c.requires.declared

pub module_with-requires-clause-fits : goal.module_with-requires-clause-fits
module_with-requires-clause-fits c =
    arguments_fit c.args.table.now c.args.number (is_some c.args.template) c.requires.built c.in-Module.field-0
    (body_tree c.in-Module.body) (c.requires.declared ∙ ap (λ x. Some (declared_tree x)) c.in-Module.is)

pub module_with-requires-clause-there : goal.module_with-requires-clause-there
module_with-requires-clause-there c =
    has_template c.args.table.now c.args.number (is_some c.args.template) c.requires.built c.in-Module.field-0
    (body_tree c.in-Module.body) (c.requires.declared ∙ ap (λ x. Some (declared_tree x)) c.in-Module.is)

pub returns-then-existing-clause-built : goal.returns-then-existing-clause-built
returns-then-existing-clause-built c =
    let z = c.args.form in
    let s = c.args.table.now in
    let n = c.args.number in
    let at = c.in-Resource.field-0 in
    let q = c.in-Resource.field-1 in
    let b = body_tree c.in-Resource.body in
    let o = option_map template_tree c.args.template in
    subst (λ e. IfOk c.letting_go.result (λ r. IsBuiltFor z s n o e (resource_tree r)))
    (sym
    (c.requires.declared ∙ ap (λ x. Some (declared_tree x)) c.in-Resource.is
    ∙ ap (λ e. Some (d.a_resource at q e b)) c.if-existing.true))
    (subst (λ x. IfOk x (λ r. IsBuiltFor z s n o (Some (d.a_resource at q true b)) (resource_tree r)))
    (sym c.letting_go.ensures) c.existing_of-made.ensures.resource)

pub returns-then-existing-clause-metadata : goal.returns-then-existing-clause-metadata
returns-then-existing-clause-metadata c =
    subst (λ x. IfOk x (λ r. HasMetadata c.args.metadata.now c.args.number (resource_tree r)))
    (sym c.letting_go.ensures) c.existing_of-made.ensures.metadata

pub returns-else-existing-clause-built : goal.returns-else-existing-clause-built
returns-else-existing-clause-built c =
    let z = c.args.form in
    let s = c.args.table.now in
    let n = c.args.number in
    let at = c.in-Resource.field-0 in
    let q = c.in-Resource.field-1 in
    let b = body_tree c.in-Resource.body in
    let o = option_map template_tree c.args.template in
    subst (λ e. IfOk c.letting_go-else-existing.result (λ r. IsBuiltFor z s n o e (resource_tree r)))
    (sym
    (c.requires.declared ∙ ap (λ x. Some (declared_tree x)) c.in-Resource.is
    ∙ ap (λ e. Some (d.a_resource at q e b)) c.if-existing.false))
    (subst (λ x. IfOk x (λ r. IsBuiltFor z s n o (Some (d.a_resource at q false b)) (resource_tree r)))
    (sym c.letting_go-else-existing.ensures) c.resource_of-made.ensures.resource)

pub returns-else-existing-clause-metadata : goal.returns-else-existing-clause-metadata
returns-else-existing-clause-metadata c =
    subst (λ x. IfOk x (λ r. HasMetadata c.args.metadata.now c.args.number (resource_tree r)))
    (sym c.letting_go-else-existing.ensures) c.resource_of-made.ensures.metadata

pub returns-in-Module-clause-built : goal.returns-in-Module-clause-built
returns-in-Module-clause-built c =
    let z = c.args.form in
    let s = c.args.table.now in
    let n = c.args.number in
    subst (λ e. IfOk c.module_with.result (λ r. IsBuiltFor z s n (option_map template_tree c.args.template) e
    (resource_tree r)))
    (sym (c.requires.declared ∙ ap (λ x. Some (declared_tree x)) c.in-Module.is)) c.module_with.ensures.resource

pub unreachable-requires : goal.unreachable-requires
unreachable-requires c =
    no_resource c.args.declared.now (subst IsResourceBy c.requires.declared c.requires.resource) c.in-Parameter.is
