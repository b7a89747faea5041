-- What the template of a Bicep file has for each parameter, variable and output, and for each resource that is put and
-- each module (Microsoft Learn, "Understand the structure and syntax of ARM templates").
use Rattle.std.specs.Prelude.{◌≡◌, ℕ, Bool, true, false, List, [], ◌∷◌, Option, Some, None, bytes_eq, codes}
use Rattle.std.specs.Prelude.{map, is_none, option_and_then, slice_get}
use Rattle.arm_value.specs.Json.{Json, Member, object, pairs}
use Rattle.arm_value.specs.Look.{fold}
use Rattle.arm_value.specs.View.{json}
use Rattle.arm_expr.specs.Tree.{Tree, text, call}
use Rattle.arm_ids.specs.Members.{deployment_type}
use Rattle.template_parts.specs.declared.content.Argument.{Argument}
use Rattle.template_parts.specs.declared.looping.ResourceCopy.{ResourceCopy}
use Rattle.template_parts.specs.declared.mode.Form.{Form}
use Rattle.template_parts.specs.declared.mode.Form.TheVariants.{One, Two}
use Rattle.template_parts.specs.declared.mode.Scope.{Scope as Sight}
use Rattle.template_parts.specs.declared.mode.Scope.TheVariants.{Inner}
use Rattle.template_parts.specs.declared.output.Output.{Output}
use Rattle.template_parts.specs.declared.parameter.Parameter.{Parameter}
use Rattle.template_parts.specs.declared.variable.Variable.{Variable}
use Rattle.template_parameters.specs.Rule as rule
use Rattle.template_tree.specs.Tree.{TemplateTree, BodyTree, body_members, deployment}
use Rattle.deploy_cells.specs.Cells.{Position}
use Rattle.plan_cells.specs.Resources.{Listed, header_in, nested_numbers, resource_at, resources_in}
use Rattle.plan_cells.specs.Scopes.{template_at}
use Rattle.plan_cells.specs.Sites as template
use Rattle.bicep_tree.specs.declared.leaf.Literal.TheVariants as l
use Rattle.bicep_resolved.specs.Source.{SourceTree, ValueTree, LoopTree}
use Rattle.source_needs.specs.Declarations.{DeclaredTree, OutputTree}
use Rattle.source_needs.specs.Declarations as d
use Rattle.source_needs.specs.Files.{SourceFile, symbol_name, declaration}
use Rattle.source_needs.specs.Instances as source
use Rattle.source_needs.specs.Instances.{Put, put_of, body_fields, file_at}
use Rattle.emitted_trees.specs.Emitted.{Frame, element, two, no_value}
use Rattle.cell_renaming.specs.Renaming.{from_position}
use Rattle.source_needs.specs.Dependencies.{dependencies}
use Rattle.source_needs.specs.Needs.{is_looped}
use Rattle.source_needs.specs.Numbers.{name_of, number_of, symbol_of, numbering}
use Rattle.emitted_declarations.specs.Declared.{Emission, whole}
use Rattle.emitted_trees.specs.EmittedTrees.{tree_of, members_of, value_of, copy_index, count_of}
use Rattle.emitted_trees.specs.Templates as t
use Rattle.emitted_files.specs.Values.{AreBoth, IsTree, IsExpression, IsContent, IsCondition, plain_or_expression}

-- the id of a module by its name
abbrev pub module_id : Tree → Tree
module_id name = call (codes "resourceId") (two (text deployment_type) name)

-- the loop around a declaration: an item is that of the index of the loop of the resource
abbrev pub frames_around : Emission → ℕ → Option LoopTree → List Frame
frames_around e n None = []
frames_around e n (Some l) = element (e.scope.items n) (copy_index None) ∷ []

module _ (files : List SourceFile) (f : SourceFile) where
  abbrev pub emission : Emission
  emission = whole f files

  abbrev pub frames_of : Put → List Frame
  frames_of x = frames_around emission x.number x.body.each

  -- ---- parameters, variables and outputs

  abbrev pub default_at : ℕ → Option SourceTree
  default_at n = option_and_then source.default_of (declaration f n)

  -- the parameter of a symbol: its default, and which values it may have
  pub record IsParameter (n : ℕ) (q : Parameter) : Type 0 where
    pub default : AreBoth (λ e v. IsTree (tree_of f files emission.scope e []) (json v)) (default_at n) q.default_value
    pub rule : (j : Json) → is_none (rule.breach q j) ≡ f.accepts n j

  -- a loop has the name of its variable
  abbrev pub IsVariable : ValueTree → Variable → Type 0
  IsVariable v q = IsContent (value_of f files emission.scope (Some q.name) v []) q.content

  -- an output, which is always there
  pub record IsOutput (o : OutputTree) (q : Output) : Type 0 where
    pub content : IsContent (value_of f files emission.scope None o.value []) q.content
    pub type : (j : Json) → rule.is_of q.kind j ≡ source.is_of o.kind j
    pub condition : q.condition ≡ None

  -- ---- resources and modules

  -- the loop of a resource has the name of its symbol, and its batches
  pub record IsLoop (n : ℕ) (l : LoopTree) (c : ResourceCopy) : Type 0 where
    pub name : symbol_name f n ≡ Some c.name
    pub count : IsExpression (count_of (emission.scope.items n)) (json c.count)
    pub batches : c.batches ≡ f.batches n

  -- an argument of a module
  abbrev pub IsArgument : Put → ValueTree → Argument → Type 0
  IsArgument x v a = IsContent (value_of f files emission.scope (Some (codes "value")) v (frames_of x)) a.content

  abbrev pub argument_named : List ℕ → List Argument → Option Argument
  argument_named x xs = template.first_with (λ a. bytes_eq x (fold a.name)) xs

  -- the members of the body of a resource
  abbrev pub AreMembers : Put → List Member → Type 0
  AreMembers x ms =
      IsTree (t.object (members_of f files emission.scope (body_fields x.body.fields) (frames_of x)))
      (object (pairs ms))

  -- a nested deployment of the inner scope, with an argument for each that the module has
  pub record IsModule (x : Put) (s : Sight) (xs : List Argument) : Type 0 where
    pub is_deployment : x.kind.is_deployment ≡ true
    pub scope : s ≡ Inner
    pub arguments : (name : List ℕ)
        → AreBoth (IsArgument x) (source.argument_of name (declaration f x.number)) (argument_named name xs)

  abbrev pub IsBody : Put → BodyTree → Type 0
  IsBody x (body_members ms) = (x.kind.is_deployment ≡ false) × AreMembers x ms
  IsBody x (deployment s xs u) = IsModule x s xs

  -- the resource of a symbol. Nested resources are no children in a template: they have their whole names and types
  pub record IsResource (x : Put) (r : Listed) : Type 0 where
    pub type : r.type ≡ x.kind.type
    pub api : r.declaration.api_version ≡ x.kind.api
    pub is_no_child : r.above ≡ None
    pub name : IsTree (plain_or_expression (emission.full_name x.number (frames_of x))) (json r.declaration.name)
    pub condition : IsCondition (emission.condition x.number (frames_of x)) r.declaration.condition
    pub loop : AreBoth (IsLoop x.number) x.body.each r.declaration.copy
    pub content : IsBody x r.content

  -- ---- what a resource depends on

  -- the id of a resource or a module without a loop
  abbrev pub id_by : ℕ → Option DeclaredTree → Tree
  id_by n (Some (d.a_resource at q existing b)) = emission.scope.id n []
  id_by n (Some (d.a_module at b)) = module_id (emission.scope.name n [])
  id_by n o = no_value

  -- the name of a symbol, which is that of its loop, or its symbolic name
  abbrev pub name_element : ℕ → t.TemplateTree
  name_element n = t.literal (l.Text (name_of f n))

  -- the element of `dependsOn` for a resource or a module, by whether it has a loop
  abbrev pub element_by : Form → Bool → ℕ → t.TemplateTree
  element_by Two looped n = name_element n
  element_by One true n = name_element n
  element_by One false n = t.expression (id_by n (declaration f n))

  abbrev pub dependency : Form → ℕ → t.TemplateTree
  dependency z n = element_by z (is_looped f n) n

  -- one element for each
  abbrev pub AreElements : Form → List ℕ → List Json → Type 0
  AreElements z [] [] = Unit {0}
  AreElements z [] (j ∷ js) = ⊥
  AreElements z (n ∷ ns) [] = ⊥
  AreElements z (n ∷ ns) (j ∷ js) = IsTree (dependency z n) j × AreElements z ns js

  -- in the second form a resource has the name of its symbol, by which others depend on it
  abbrev pub HasSymbol : Form → ℕ → Option (List ℕ) → Type 0
  HasSymbol One n o = o ≡ None
  HasSymbol Two n o = o ≡ symbol_name f n

  pub record IsDependent (z : Form) (x : Put) (r : Listed) : Type 0 where
    pub symbol : HasSymbol z x.number r.declaration.symbol
    pub depends_on : AreElements z (dependencies f x.number) r.declaration.depends_on

  -- ---- the template, but for those of its modules

  -- the first form has no existing resources
  abbrev pub NoneExist : Form → TemplateTree → Type 0
  NoneExist One u = (m : ℕ) (r : Listed) → slice_get (resources_in u) m ≡ Some r → r.declaration.existing ≡ false
  NoneExist Two u = Unit {0}

  pub record IsFile (z : Form) (u : TemplateTree) : Type 0 where
    pub form : (header_in u).form ≡ z
    pub parameters : (x : List ℕ)
        → AreBoth IsParameter (source.parameter_named x f) (template.parameter_named x u)
    pub variables : (x : List ℕ)
        → AreBoth IsVariable (source.variable_named x f) (template.variable_named x u)
    pub outputs : (x : List ℕ) → AreBoth IsOutput (source.output_folded f x) (template.output_named x u)
    pub resources : (m : ℕ)
        → AreBoth IsResource (option_and_then (λ n. put_of n f) (symbol_of z f m)) (resource_at u m)
    pub dependents : (m : ℕ)
        → AreBoth (IsDependent z) (option_and_then (λ n. put_of n f) (symbol_of z f m)) (resource_at u m)
    pub none_exist : NoneExist z u
    -- the modules of the file are the nested deployments, in their order
    pub modules : map (number_of z f) f.modules ≡ map (λ m. Some m) (nested_numbers u)

-- the file of the scope at a position of the template
abbrev pub file_of_scope : Form → List SourceFile → Position → Option SourceFile
file_of_scope z files q = option_and_then (file_at files) (from_position (numbering z files) q)

-- A template of a program: the template of each scope is that of the file of the scope
abbrev pub IsEmitted : Form → List SourceFile → TemplateTree → Type 0
IsEmitted z files u = (q : Position)
    → AreBoth (λ f v. IsFile files f z v) (file_of_scope z files q) (template_at u q)
