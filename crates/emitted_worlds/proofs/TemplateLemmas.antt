-- What a template lacks that is of a program lacking it.
use Rattle.std.proofs.Common.{◌≡◌, ℕ, length, List, Option, Some, None, refl, sym, ap, ◌∙◌}
use Rattle.std.specs.Prelude.{option_and_then}
use Rattle.std.proofs.lemmas.List.{length-map}
use Rattle.template_parts.specs.declared.mode.Form.{Form}
use Rattle.template_tree.specs.Tree.{TemplateTree}
use Rattle.plan_cells.specs.Resources.{Listed, nested_numbers}
use Rattle.plan_cells.specs.Sites as template
use Rattle.bicep_meaning.specs.Files.{SourceFile}
use Rattle.bicep_meaning.specs.Instances as source
use Rattle.bicep_meaning.specs.Instances.{Put}
use Rattle.source_worlds.specs.Numbers.{number_of}
use Rattle.emitted_files.specs.Values.{AreBoth}
use Rattle.emitted_files.specs.Files.{IsResource, IsParameter, IsVariable, IsOutput}
use Rattle.emitted_files.proofs.AbsentLemmas.{Match}

neither : {A B : Type 0} (r : A → B → Type 0) (o : Option A) (u : Option B) → AreBoth r o u → o ≡ None → u ≡ None
neither r None None h e = refl
neither r None (Some b) h e = absurd h
neither r (Some a) u h e = absurd cc

module _ (z : Form) (files : List SourceFile) (x : List ℕ) where
  pub no_parameter : (o : Option SourceFile) (t : Option TemplateTree) → AreBoth (Match z files) o t
      → option_and_then (source.parameter_named x) o ≡ None → option_and_then (template.parameter_named x) t ≡ None
  no_parameter None None h e = refl
  no_parameter None (Some v) h e = absurd h
  no_parameter (Some f) None h e = refl
  no_parameter (Some f) (Some v) h e =
      neither (IsParameter files f) (source.parameter_named x f) (template.parameter_named x v) (h.parameters x) e

  pub no_variable : (o : Option SourceFile) (t : Option TemplateTree) → AreBoth (Match z files) o t
      → option_and_then (source.variable_named x) o ≡ None → option_and_then (template.variable_named x) t ≡ None
  no_variable None None h e = refl
  no_variable None (Some v) h e = absurd h
  no_variable (Some f) None h e = refl
  no_variable (Some f) (Some v) h e =
      neither (IsVariable files f) (source.variable_named x f) (template.variable_named x v) (h.variables x) e

  pub no_output : (o : Option SourceFile) (t : Option TemplateTree) → AreBoth (Match z files) o t
      → option_and_then (λ f. source.output_folded f x) o ≡ None
      → option_and_then (template.output_named x) t ≡ None
  no_output None None h e = refl
  no_output None (Some v) h e = absurd h
  no_output (Some f) None h e = refl
  no_output (Some f) (Some v) h e =
      neither (IsOutput files f) (source.output_folded f x) (template.output_named x v) (h.outputs x) e

module _ (z : Form) (files : List SourceFile) where
  pub as_many : (f : SourceFile) (v : TemplateTree) → Match z files f v
      → length (nested_numbers v) ≡ length f.modules
  as_many f v h =
      sym (length-map (nested_numbers v) (λ m. Some m)) ∙ sym (ap (λ os. length os) h.modules)
      ∙ length-map f.modules (number_of z f)

  -- the template of the scope of a file
  pub record HasTemplate (f : SourceFile) (t : Option TemplateTree) : Type 0 where
    pub template : TemplateTree
    pub is : t ≡ Some template
    pub matches : Match z files f template

  pub has_template : (f : SourceFile) (t : Option TemplateTree) → AreBoth (Match z files) (Some f) t
      → HasTemplate f t
  has_template f None h = absurd h
  has_template f (Some v) h = record { template = v; is = refl; matches = h }

  pub some_resource : (f : SourceFile) (y : Put) (o : Option Listed) → AreBoth (IsResource files f) (Some y) o
      → (x : Listed) × (o ≡ Some x)
  some_resource f y None h = absurd h
  some_resource f y (Some x) h = (x, refl)
