-- The resources of the template of a file.
use Rattle.std.specs.Prelude.{◌≡◌, ◌++◌, ℕ, true, false, List, [], ◌∷◌, Option, Some, None, map, option_map}
use Rattle.std.specs.Prelude.{slice_index_or}
use Rattle.arm_value.specs.Json.{Json}
use Rattle.arm_value.specs.declared.value.Value.{Value}
use Rattle.template_parts.specs.declared.declaration.Declaration.{Declaration}
use Rattle.template_parts.specs.declared.mode.Form.{Form}
use Rattle.template_parts.specs.declared.mode.Form.TheVariants.{One, Two}
use Rattle.template_tree.specs.Tree.{TemplateTree, ResourceTree, resource, Trees, no_resources}
use Rattle.template_tree.specs.Tree as template
use Rattle.template_tree.specs.View.{template_tree}
use Rattle.template_tree.specs.declared.resource.Template.{Template}
use Rattle.deploy_cells.specs.Puts.{Kind}
use Rattle.bicep_declared.specs.Declarations.{BodyTree, DeclaredTree}
use Rattle.bicep_declared.specs.Declarations as d
use Rattle.bicep_meaning.specs.Files.{declaration}
use Rattle.bicep_meaning.specs.Instances.{resource_kind, module_kind}
use Rattle.emitted_dependencies.specs.Dependencies.{dependencies}
use Rattle.source_worlds.specs.Numbers.{name_of}
use Rattle.emitted_modules.specs.Seen.{Shape, file_in, files_in, whole_in}
use Rattle.emitted_modules.specs.Limits.{members_at}
use Rattle.emitted_modules.specs.Metadata.{metadata_at}
use Rattle.emitted_modules.specs.Resources.{IsHead, HasMembers}
use Rattle.emitted_modules.specs.Modules.{Needed, IsDeployment}
use Rattle.existing_resources.specs.Existing.{IsExistingHead}
use Rattle.emitted_dependencies.specs.Elements.{elements}

-- the templates of the modules of a file, by the numbers of their symbols
abbrev pub Templates : Type 0
Templates = List (Option TemplateTree)

abbrev pub templates_of : List (Option Template) → Templates
templates_of us = map (option_map template_tree) us

abbrev pub template_of : Templates → ℕ → Option TemplateTree
template_of us n = slice_index_or us n None

-- what declares a resource, its body and its children
abbrev pub declared_by : ResourceTree → Declaration
declared_by (resource x b rs) = x

abbrev pub body_in : ResourceTree → template.BodyTree
body_in (resource x b rs) = b

abbrev pub children : ResourceTree → Trees
children (resource x b rs) = rs

-- one resource for each of these numbers, in their order
abbrev pub AreEach : (ℕ → ResourceTree → Type 0) → List ℕ → List ResourceTree → Type 0
AreEach R [] [] = Unit {0}
AreEach R [] (r ∷ rs) = ⊥
AreEach R (n ∷ ns) [] = ⊥
AreEach R (n ∷ ns) (r ∷ rs) = R n r × AreEach R ns rs

-- the resource of a number has the metadata that a list has for it
abbrev pub HasMetadata : List (Option Value) → ℕ → ResourceTree → Type 0
HasMetadata ms n r = (declared_by r).metadata ≡ metadata_at ms n

abbrev pub HaveMetadata : List (Option Value) → List ℕ → List ResourceTree → Type 0
HaveMetadata ms ns rs = AreEach (HasMetadata ms) ns rs

-- in the second form a resource has the name of its symbol
abbrev pub symbol_in : Form → List ℕ → Option (List ℕ)
symbol_in One x = None
symbol_in Two x = Some x

module _ (z : Form) (s : Shape) where
  -- what the declaration of a resource does not say, by its metadata and by the elements of `dependsOn`
  abbrev pub needs_with : ℕ → Option Value → List Json → Needed
  needs_with n m js = record {
    symbol = symbol_in z (name_of (file_in s) n);
    depends_on = js;
    batches = (file_in s).batches n;
    metadata = m;
  }

  abbrev pub needs_of : ℕ → Option Value → Needed
  needs_of n m = needs_with n m (elements (files_in s) (file_in s) z (dependencies (file_in s) n))

  -- what declares the resource or the module of a number, with any metadata
  abbrev pub IsDeclaredBy : ℕ → BodyTree → Kind → Declaration → Type 0
  IsDeclaredBy n b k x = IsHead (whole_in s) n b.each k (name_of (file_in s) n) (needs_of n x.metadata) x

  -- the resource of a number that has this body; nested resources are no children
  pub record IsResourceOf (n : ℕ) (b : BodyTree) (r : ResourceTree) : Type 0 where
    pub head : IsDeclaredBy n b (resource_kind (file_in s) n) (declared_by r)
    pub body : HasMembers (members_at s n b) (body_in r)
    pub childless : children r ≡ no_resources

  -- the existing resource of a number: it has no body, and depends on nothing
  pub record IsExistingOf (n : ℕ) (b : BodyTree) (r : ResourceTree) : Type 0 where
    pub head : IsExistingHead s n b (name_of (file_in s) n) (needs_with n (declared_by r).metadata []) (declared_by r)
    pub body : body_in r ≡ template.body_members []
    pub childless : children r ≡ no_resources

  -- the module of a number that has this body, with the template of its file
  pub record IsModuleOf (n : ℕ) (b : BodyTree) (u : TemplateTree) (r : ResourceTree) : Type 0 where
    pub head : IsDeclaredBy n b module_kind (declared_by r)
    pub body : IsDeployment s n b u (body_in r)
    pub childless : children r ≡ no_resources

  abbrev pub IsModuleWith : ℕ → BodyTree → Option TemplateTree → ResourceTree → Type 0
  IsModuleWith n b None r = ⊥
  IsModuleWith n b (Some u) r = IsModuleOf n b u r

  -- the resource of a number, by its declaration and by the template of its module
  abbrev pub IsBuiltFor : ℕ → Option TemplateTree → Option DeclaredTree → ResourceTree → Type 0
  IsBuiltFor n o (Some (d.a_resource at q false b)) r = IsResourceOf n b r
  IsBuiltFor n o (Some (d.a_resource at q true b)) r = IsExistingOf n b r
  IsBuiltFor n o (Some (d.a_module at b)) r = IsModuleWith n b o r
  IsBuiltFor n o e r = ⊥

  abbrev pub IsBuilt : ℕ → Option TemplateTree → ResourceTree → Type 0
  IsBuilt n o r = IsBuiltFor n o (declaration (file_in s) n) r

  -- one for each of these numbers, in their order
  abbrev pub AreBuilt : Templates → List ℕ → List ResourceTree → Type 0
  AreBuilt us ns rs = AreEach (λ n r. IsBuilt n (template_of us n) r) ns rs

  -- these resources, and then that of a number, with its metadata
  abbrev pub IsGrown : List (Option Value) → ℕ → Option TemplateTree → List ResourceTree → List ResourceTree → Type 0
  IsGrown ms n o rs more = (r : ResourceTree) × ((IsBuilt n o r × HasMetadata ms n r) × (more ≡ rs ++ r ∷ []))
