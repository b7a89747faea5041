-- Variables and outputs of their parts.
use Rattle.std.proofs.Common.{◌≡◌, ℕ, List, [], Some, None, Ok, Err, sym, ap, ◌∙◌, subst}
use Rattle.std.specs.Prelude.{Result, IfOk}
use Rattle.std.specs.declared.alloc.AllocError.{AllocError}
use Rattle.bicep_declared.specs.Declarations.{OutputTree}
use Rattle.bicep_meaning.specs.Files.{SourceFile}
use Rattle.bicep_resolved.specs.Source.{ValueTree}
use Rattle.declaration_laws.specs.Declared.{whole}
use Rattle.emitted_files.specs.Files.{IsVariable, IsOutput}
use Rattle.emitted_files.specs.Values.{IsContent}
use Rattle.tree_building.specs.EmittedTrees.{value_of}
use Rattle.template_parameters.specs.Rule as rule
use Rattle.template_parts.specs.declared.content.Content.{Content}
use Rattle.template_parts.specs.declared.output.Output.{Output}
use Rattle.template_parts.specs.declared.value_type.ValueType.{ValueType}
use Rattle.template_parts.specs.declared.variable.Variable.{Variable}
use Rattle.emitted_values.specs.Kinds.{kind_of}
use Rattle.emitted_values.proofs.KindLemmas.{same_values}

module _ (files : List SourceFile) (f : SourceFile) where
  pub is_variable : (name : List ℕ) (v : ValueTree) (x : Content) (r : Result Variable AllocError)
      → IfOk r (λ q. q.name ≡ name) → IfOk r (λ q. q.content ≡ x)
      → IsContent (value_of f files (whole f files).scope (Some name) v []) x → IfOk r (IsVariable files f v)
  is_variable name v x (Ok q) named content h =
      subst (λ k. IsContent (value_of f files (whole f files).scope (Some k) v []) q.content) (sym named)
      (subst (IsContent (value_of f files (whole f files).scope (Some name) v [])) (sym content) h)
  is_variable name v x (Err e) named content h = tt

  pub is_output : (o : OutputTree) (kind : ValueType) (x : Content) (r : Result Output AllocError)
      → IfOk r (λ q. q.kind ≡ kind) → IfOk r (λ q. q.content ≡ x) → IfOk r (λ q. q.condition ≡ None)
      → kind ≡ kind_of o.kind → IsContent (value_of f files (whole f files).scope None o.value []) x
      → IfOk r (IsOutput files f o)
  is_output o kind x (Ok q) of content condition same h = record {
    content = subst (IsContent (value_of f files (whole f files).scope None o.value [])) (sym content) h;
    type = λ j. ap (λ k. rule.is_of k j) (of ∙ same) ∙ same_values o.kind j;
    condition = condition;
  }
  is_output o kind x (Err e) of content condition same h = tt
