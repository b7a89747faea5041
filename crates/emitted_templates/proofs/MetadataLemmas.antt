-- The metadata of the parts of a template that is made.
use Rattle.std.proofs.Common.{◌≡◌, ◌+◌, ℕ, zero, suc, List, [], ◌∷◌, Option, Some, None, Result, Ok, Err, ap, ◌∙◌, sym}
use Rattle.std.proofs.Common.{subst}
use Rattle.std.specs.Prelude.{IfOk, option_map, slice_get}
use Rattle.std.specs.declared.alloc.AllocError.{AllocError}
use Rattle.arm_value.specs.Json.{Json}
use Rattle.arm_value.specs.View.{json}
use Rattle.arm_value.specs.declared.value.Value.{Value}
use Rattle.template_parts.specs.declared.mode.Form.{Form}
use Rattle.template_parts.specs.declared.parameter.Parameter.{Parameter}
use Rattle.template_tree.specs.Tree.{ResourceTree, resource, no_resources, a_resource, trees}
use Rattle.template_tree.specs.View.{template_tree}
use Rattle.template_tree.specs.declared.resource.Template.{Template}
use Rattle.plan_cells.specs.Resources.{listed_trees}
use Rattle.plan_cells.specs.Sites as template
use Rattle.bicep_meaning.specs.Files.{declaration}
use Rattle.bicep_meaning.specs.Instances as source
use Rattle.source_worlds.specs.Numbers.{in_template}
use Rattle.file_lists.specs.Lists as lists
use Rattle.file_lists.specs.Lists.{IsCompleted, rule_at}
use Rattle.file_resources.specs.Built.{Templates, template_of, AreBuilt, HaveMetadata}
use Rattle.file_resources.specs.Seen.{Shape, file_in}
use Rattle.file_resources.specs.Values.{AreBoth}
use Rattle.file_resources.proofs.ListedLemmas.{childless_by}
use Rattle.emitted_templates.specs.Metadata.{HasMetadata, IsNoted, AreOf}
use Rattle.emitted_templates.specs.Templates.{IsMadeOf, IsTemplateOf}
use Rattle.emitted_templates.specs.declared.lists.Listed.{Listed}

-- the template of these lists and resources has their metadata
pub is_noted : (z : Form) (s : Shape) (ms os : List (Option Value)) (x : Listed) (resources : List ResourceTree)
    → lists.HaveMetadata s os x.outputs → HaveMetadata ms (in_template z (file_in s)) resources
    → (r : Result Template AllocError) → IfOk r (IsMadeOf z x resources) → IfOk r (IsNoted z s ms os)
is_noted z s ms os x resources l h (Ok u) m = record {
  outputs = subst (lists.HaveMetadata s os) (sym m.outputs) l;
  same_resources = subst (HaveMetadata ms (in_template z (file_in s))) (sym m.same_resources) h;
}
is_noted z s ms os x resources l h (Err e) m = tt

module _ (z : Form) (s : Shape) (rs : List (Option Parameter)) (us : Templates) (ms os : List (Option Value))
    (of_symbol of_output : ℕ → Option Json) (given : AreOf s rs ms os of_symbol of_output) where
  -- the resources one after another
  at_place : (ns : List ℕ) (ts : List ResourceTree) → AreBuilt z s us ns ts → HaveMetadata ms ns ts → (k m : ℕ)
      → AreBoth (λ n x. option_map json x.declaration.metadata ≡ of_symbol n) (slice_get ns m)
      (slice_get (listed_trees None k (trees ts)) m)
  at_place [] [] h g k m = tt
  at_place [] (r ∷ ts) h g k m = absurd h
  at_place (n ∷ ns) [] h g k m = absurd h
  at_place (n ∷ ns) (resource x b no_resources ∷ ts) h g k zero = ap (option_map json) g.0 ∙ given.symbols n
  at_place (n ∷ ns) (resource x b no_resources ∷ ts) h g k (suc m) = at_place ns ts h.1 g.1 (k + 1) m
  at_place (n ∷ ns) (resource x b (a_resource y ys) ∷ ts) h g k m =
      let e = childless_by z s n (template_of us n) (declaration (file_in s) n) (resource x b (a_resource y ys)) h.0 in
      absurd cc

  parameter_has : (n : ℕ) (q : Parameter) → IsCompleted s (rule_at s rs n) n q
      → option_map json q.metadata ≡ of_symbol n
  parameter_has n q c =
      ap (λ (p : Parameter). option_map json p.metadata) c.is.1.1 ∙ given.rules n c.is.0 c.is.1.0

  by_number : (o : Option ℕ) (p : Option Parameter) (n : ℕ) (q : Parameter)
      → AreBoth (λ n q. IsCompleted s (rule_at s rs n) n q) o p → o ≡ Some n → p ≡ Some q
      → option_map json q.metadata ≡ of_symbol n
  by_number o p n q h e f =
      parameter_has n q
      (subst (AreBoth (λ n q. IsCompleted s (rule_at s rs n) n q) (Some n)) f
      (subst (λ o. AreBoth (λ n q. IsCompleted s (rule_at s rs n) n q) o p) e h))

  pub has_metadata : (u : Template) → IsTemplateOf z s rs us u → IsNoted z s ms os u
      → HasMetadata z (file_in s) of_symbol of_output (template_tree u)
  has_metadata u t noted = record {
    parameters = λ x n q e f.
        by_number (source.parameter_named x (file_in s)) (template.parameter_named x (template_tree u)) n q
        (t.parameters x) e f;
    outputs = λ x n q e f. ap (option_map json) (noted.outputs x n q e f) ∙ given.outputs n;
    resources = λ m. at_place (in_template z (file_in s)) u.resources t.resources noted.same_resources 0 m;
  }
