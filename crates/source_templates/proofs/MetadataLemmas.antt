-- The metadata of a template that is made for the file of a table is that of a file that is alike.
use Rattle.std.proofs.Common.{◌≡◌, ℕ, List, Option, Some, None, refl, ◌∙◌, subst}
use Rattle.std.specs.Prelude.{option_map, slice_get}
use Rattle.arm_value.specs.Json.{Json}
use Rattle.arm_value.specs.View.{json}
use Rattle.template_parts.specs.declared.mode.Form.{Form}
use Rattle.template_parts.specs.declared.parameter.Parameter.{Parameter}
use Rattle.template_tree.specs.Tree.{TemplateTree}
use Rattle.plan_cells.specs.Resources.{resources_in}
use Rattle.bicep_tree.specs.Tree.{DecoratorTrees, FileTree}
use Rattle.bicep_tree.specs.declared.leaf.TypeName.{TypeName}
use Rattle.bicep_meaning.specs.Files.{SourceFile, type_of}
use Rattle.bicep_meaning.specs.Instances.{parameter_numbered, symbol_folded}
use Rattle.alike_files.proofs.NumberLemmas.{with_rest, in_template_same}
use Rattle.symbol_decorators.specs.Decorators.{decorators_of}
use Rattle.file_metadata.specs.Files.{symbol_metadata}
use Rattle.parameter_rules.specs.Files.{IsTyped, IsParameterAt}
use Rattle.parameter_rules.specs.Metadata.{metadata_of}
use Rattle.parameter_rules.specs.Rules.{or_no}
use Rattle.parameter_rules.specs.Rules as rules
use Rattle.program_templates.specs.Lists.{symbol_text}
use Rattle.program_templates.specs.Metadata.{HasMetadata}
use Rattle.program_templates.specs.Values.{AreBoth}

-- a parameter has the metadata of its decorators
typed_has : (x : Option (List ℕ)) (t : Option TypeName) (ds : DecoratorTrees) (p : Parameter) → IsTyped x t ds (Some p)
    → option_map json p.metadata ≡ metadata_of ds
typed_has (Some x) (Some t) ds p h = h.metadata
typed_has None (Some t) ds p h = absurd h
typed_has (Some x) None ds p h = absurd h
typed_has None None ds p h = absurd h

pub parameter_has : (t : FileTree) (f : SourceFile) (n : ℕ) (o : Option Parameter) (p : Parameter)
    → IsParameterAt t f n o → o ≡ Some p → option_map json p.metadata ≡ symbol_metadata t n
parameter_has t f n o p h e =
    typed_has (option_map symbol_text (slice_get f.symbols n)) (rules.type_of (slice_get f.declared.declarations n))
    (or_no (slice_get (decorators_of t) n)) p (subst (λ o. IsParameterAt t f n o) e h)

-- a file with the values of parameters and the list of modules of another
module _ (f from : SourceFile) (types : (n : ℕ) → type_of f n ≡ type_of (with_rest f from) n) where
  numbered_same : (o : Option ℕ) → parameter_numbered f o ≡ parameter_numbered (with_rest f from) o
  numbered_same None = refl
  numbered_same (Some n) = refl

  pub metadata_same : (z : Form) (of_symbol of_output : ℕ → Option Json) (u : TemplateTree)
      → HasMetadata z f of_symbol of_output u → HasMetadata z (with_rest f from) of_symbol of_output u
  metadata_same z of_symbol of_output u h = record {
    parameters = λ x n q e. h.parameters x n q (numbered_same (symbol_folded f x) ∙ e);
    outputs = h.outputs;
    resources = λ m. subst
        (λ ns. AreBoth (λ n x. option_map json x.declaration.metadata ≡ of_symbol n) (slice_get ns m)
        (slice_get (resources_in u) m))
        (in_template_same f from types z) (h.resources m);
  }
