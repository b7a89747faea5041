-- The existing resources of a template that is made for the file of a table are those of a file that is alike.
use Rattle.std.proofs.Common.{◌≡◌, ℕ, List, Some, sym, ap, ◌∙◌, subst}
use Rattle.std.specs.Prelude.{slice_get}
use Rattle.arm_value.specs.View.{json}
use Rattle.template_parts.specs.declared.looping.ResourceCopy.{ResourceCopy}
use Rattle.template_parts.specs.declared.mode.Form.{Form}
use Rattle.template_tree.specs.Tree.{TemplateTree}
use Rattle.plan_cells.specs.Resources.{Listed}
use Rattle.bicep_resolved.specs.Source.{LoopTree}
use Rattle.bicep_declared.specs.Declarations.{BodyTree}
use Rattle.bicep_meaning.specs.Files.{SourceFile, Typed, type_of}
use Rattle.emitted_declarations.specs.Declared.{Emission, whole}
use Rattle.emitted_trees.specs.EmittedTrees.{count_of}
use Rattle.alike_files.proofs.NumberLemmas.{with_rest, in_template_same}
use Rattle.program_templates.specs.Existing.{HasExisting, IsExisting}
use Rattle.program_templates.specs.Files.{IsLoop, frames_around}
use Rattle.program_templates.specs.Values.{IsExpression, IsTree, plain_or_expression}
use Rattle.source_templates.proofs.PartLemmas.{both}

-- a file with the values of parameters and the list of modules of another, in which all declarations become the same
module _ (f from : SourceFile) (fs gs : List SourceFile) (become : whole f fs ≡ whole (with_rest f from) gs)
    (types : (n : ℕ) → type_of f n ≡ type_of (with_rest f from) n) where
  abbrev g : SourceFile
  g = with_rest f from

  loop_same : (n : ℕ) (l : LoopTree) (c : ResourceCopy) → IsLoop fs f n l c → IsLoop gs g n l c
  loop_same n l c h = record {
    name = h.name;
    count = subst (λ (e : Emission). IsExpression (count_of (e.scope.items n)) (json c.count)) become h.count;
    batches = h.batches;
  }

  resource_same : (n : ℕ) (b : BodyTree) (x : Listed) → IsExisting fs f n b x → IsExisting gs g n b x
  resource_same n b x h = record {
    existing = h.existing;
    symbol = h.symbol;
    type = h.type ∙ ap (λ (t : Typed). t.kind) (types n);
    api = h.api ∙ ap (λ (t : Typed). t.version) (types n);
    is_no_child = h.is_no_child;
    name = subst
        (λ (e : Emission).
        IsTree (plain_or_expression (e.full_name n (frames_around e n b.each))) (json x.declaration.name))
        become h.name;
    loop = both (IsLoop fs f n) (IsLoop gs g n) (loop_same n) b.each x.declaration.copy h.loop;
    depends_on = h.depends_on;
    content = h.content;
  }

  pub existing_same : (z : Form) (u : TemplateTree) → HasExisting z fs f u → HasExisting z gs g u
  existing_same z u h = λ m n at q b place is.
      let here = subst (λ (ns : List ℕ). slice_get ns m ≡ Some n) (sym (in_template_same f from types z)) place in
      let e = h m n at q b here is in
      (e.0, (e.1.0, resource_same n b e.0 e.1.1))
