-- The parts of a template that is made for the file of a table are those of a file that is alike.
use Rattle.std.proofs.Common.{◌≡◌, ℕ, List, [], ◌∷◌, Option, Some, None, map, refl, sym, ap, ◌∙◌, subst}
use Rattle.std.specs.List.{filter}
use Rattle.std.specs.Prelude.{is_none, slice_get, if◌then◌else◌}
use Rattle.arm_value.specs.Json.{Json}
use Rattle.arm_value.specs.View.{json}
use Rattle.arm_value.specs.declared.value.Value.{Value}
use Rattle.template_parts.specs.declared.mode.Form.{Form}
use Rattle.template_parts.specs.declared.parameter.Parameter.{Parameter}
use Rattle.template_parameters.specs.Rule.{breach}
use Rattle.template_tree.specs.Tree.{TemplateTree}
use Rattle.plan_cells.specs.Sites as template
use Rattle.bicep_resolved.specs.Source.{SourceTree}
use Rattle.bicep_declared.specs.Declarations.{DeclaredTree}
use Rattle.bicep_declared.specs.Declarations as d
use Rattle.bicep_meaning.specs.Files.{SourceFile, declaration, type_of}
use Rattle.bicep_meaning.specs.Instances.{parameter_named, parameter_numbered, symbol_folded}
use Rattle.source_worlds.specs.Numbers.{in_template, number_of}
use Rattle.emitted_declarations.specs.Declared.{whole}
use Rattle.emitted_trees.specs.EmittedTrees.{tree_of}
use Rattle.program_templates.specs.Files.{IsParameter}
use Rattle.program_templates.specs.Values.{AreBoth, IsTree}
use Rattle.source_files.specs.Seen.{Shape, file_in, files_in}
use Rattle.alike_files.specs.Alike.{AreAlike}
use Rattle.alike_files.specs.Rest.{HasRest, HasParameters, HasModules}
use Rattle.alike_files.proofs.NumberLemmas.{with_rest, number_same}
use Rattle.source_files.specs.Sources as source
use Rattle.program_templates.specs.Lists.{IsCompleted, rule_at, default_of}
use Rattle.program_templates.specs.Modules as made
use Rattle.program_templates.specs.Modules.{is_module, modules_in}
use Rattle.program_templates.specs.Parts.{HasParts}

pub both : {A B : Type 0} (R S : A → B → Type 0) → ((a : A) (b : B) → R a b → S a b) → (o : Option A) (p : Option B)
    → AreBoth R o p → AreBoth S o p
both R S more None None h = tt
both R S more None (Some b) h = absurd h
both R S more (Some a) None h = absurd h
both R S more (Some a) (Some b) h = more a b h

-- a file that is alike is the second, once it has its values of parameters and its modules
pub is_second : (f g : SourceFile) → AreAlike f g → with_rest f g ≡ g
is_second f g a =
    let s = a.agree.symbols in
    let d = a.agree.declared in
    let o = a.outputs in
    λ i. record {
      symbols = s i;
      declared = d i;
      outputs = o i;
      modules = g.modules;
      has_entry = λ n. a.agree.has_entry n i;
      accepts = g.accepts;
      batches = λ n. a.batches n i;
    }

-- the modules of a file are those of its declarations
same_module : (o : Option DeclaredTree) → source.is_module_by o ≡ made.is_module_by o
same_module None = refl
same_module (Some (d.parameter at t)) = refl
same_module (Some (d.parameter_with at t e)) = refl
same_module (Some (d.variable at v)) = refl
same_module (Some (d.a_resource at q existing b)) = refl
same_module (Some (d.a_module at b)) = refl

modules_filtered : (f : SourceFile) (ns : List ℕ) → source.modules_among f ns ≡ filter (is_module f) ns
modules_filtered f [] = refl
modules_filtered f (n ∷ ns) =
    ap (λ b. if b then n ∷ source.modules_among f ns else source.modules_among f ns) (same_module (declaration f n))
    ∙ ap (λ ms. if is_module f n then n ∷ ms else ms) (modules_filtered f ns)

-- in a file with the same declarations, which have the same numbers in the template
pub modules_alike : (z : Form) (g f : SourceFile) → in_template z g ≡ in_template z f → g.declared ≡ f.declared
    → source.modules_of z g ≡ modules_in z f
modules_alike z g f numbers declared =
    modules_filtered g (in_template z g)
    ∙ (λ i. filter (λ n. made.is_module_by (slice_get (declared i).declarations n)) (numbers i))

module _ (z : Form) (s : Shape) (rs : List (Option Parameter)) (u : TemplateTree) (h : HasParts z s rs u) where
  abbrev f : SourceFile
  f = file_in s

  pub rest_of : HasRest (files_in s) f z u
  rest_of = record {
    form = h.form;
    variables = h.variables;
    outputs = h.outputs;
    resources = h.resources;
    dependents = h.dependents;
    none_exist = h.none_exist;
  }

  -- a file with the values of parameters and the list of modules of another
  module _ (from : SourceFile) (fs : List SourceFile) where
    abbrev k : SourceFile
    k = with_rest f from

    numbered_same : (o : Option ℕ) → parameter_numbered f o ≡ parameter_numbered k o
    numbered_same None = refl
    numbered_same (Some n) = refl

    named_same : (x : List ℕ) → parameter_named x f ≡ parameter_named x k
    named_same x = numbered_same (symbol_folded f x)

    module _ (trees : (e : SourceTree)
        → tree_of f (files_in s) (whole f (files_in s)).scope e [] ≡ tree_of k fs (whole k fs).scope e [])
        (rules : (n : ℕ) (p : Parameter) → rule_at s rs n ≡ Some p → (j : Json)
        → is_none (breach p j) ≡ from.accepts n j) where
      default_is : (e : SourceTree) (v : Value)
          → IsTree (tree_of f (files_in s) (whole f (files_in s)).scope e []) (json v)
          → IsTree (tree_of k fs (whole k fs).scope e []) (json v)
      default_is e v t = subst (λ x. IsTree x (json v)) (trees e) t

      completed_is : (n : ℕ) (q : Parameter) → IsCompleted s (rule_at s rs n) n q → IsParameter fs k n q
      completed_is n q x = record {
        default =
            both (λ e v. IsTree (tree_of f (files_in s) (whole f (files_in s)).scope e []) (json v))
            (λ e v. IsTree (tree_of k fs (whole k fs).scope e []) (json v)) default_is (default_of s n) q.default_value
            x.default;
        rule = λ j. ap (λ (p : Parameter). is_none (breach p j)) x.is.1.1 ∙ rules n x.is.0 x.is.1.0 j;
      }

      pub parameters_of : HasParameters fs k z u
      parameters_of x =
          subst (λ o. AreBoth (IsParameter fs k) o (template.parameter_named x u)) (named_same x)
          (both (λ n q. IsCompleted s (rule_at s rs n) n q) (IsParameter fs k) completed_is (parameter_named x f)
          (template.parameter_named x u) (h.parameters x))

    pub modules_of : ((n : ℕ) → type_of f n ≡ type_of k n) → from.modules ≡ modules_in z f
        → HasModules fs k z u
    modules_of types same =
        ap (map (number_of z k)) same ∙ (λ i. map (λ n. sym (number_same f from types z n) i) (modules_in z f))
        ∙ h.modules
