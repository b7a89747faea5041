-- A module that is built is that of its declaration.
use Rattle.std.proofs.Common.{◌≡◌, ℕ, List, Some, None, codes, refl, sym, ap, ◌∙◌, subst}
use Rattle.template_parts.specs.declared.declaration.Declaration.{Declaration}
use Rattle.template_tree.specs.Tree as template
use Rattle.plan_cells.specs.Resources.{listed_at}
use Rattle.bicep_resolved.specs.Source.{field_named}
use Rattle.bicep_declared.specs.Declarations.{BodyTree, a_module}
use Rattle.bicep_meaning.specs.Files.{declaration, symbol_name}
use Rattle.bicep_meaning.specs.Instances as source
use Rattle.bicep_meaning.specs.Instances.{module_kind}
use Rattle.emitted_resources.specs.Files.{IsResource, IsBody, IsArgument, argument_named}
use Rattle.emitted_resources.specs.Values.{AreBoth}
use Rattle.emitted_resources.specs.Seen.{Shape, file_in, files_in, whole_in}
use Rattle.emitted_resources.specs.Heads.{whole_name, whole_condition}
use Rattle.emitted_resources.specs.Limits.{HeadIsWithin}
use Rattle.emitted_resources.specs.Resources.{IsHead}
use Rattle.emitted_resources.specs.declared.needs.Needs.{Needs}
use Rattle.emitted_resources.proofs.ResourceLemmas.{name_within, condition_is, loop_is}
use Rattle.emitted_modules.specs.Arguments.{arguments_in}
use Rattle.emitted_modules.specs.Modules.{IsDeployment, module_put}
use Rattle.emitted_modules.proofs.ArgumentLemmas.{argument_in_is}

module _ (s : Shape) (n at : ℕ) (b : BodyTree) (is : declaration (file_in s) n ≡ Some (a_module at b)) where
  argument_is : (x : List ℕ)
      → source.argument_of x (declaration (file_in s) n) ≡ source.argument_named x (arguments_in b.fields)
  argument_is x = ap (source.argument_of x) is ∙ argument_in_is x (field_named (codes "params") b.fields)

  body_is : (u : template.TemplateTree) (x : template.BodyTree) → IsDeployment s n b u x
      → IsBody (files_in s) (file_in s) (module_put n b) x
  body_is u (template.body_members ms) h = absurd h
  body_is u (template.deployment scope args v) h = record {
    is_deployment = refl;
    scope = h.0;
    arguments = λ x. subst
        (λ o. AreBoth (IsArgument (files_in s) (file_in s) (module_put n b)) o
        (argument_named (files_in s) (file_in s) x args))
        (sym (argument_is x))
        (h.1.0.values x);
  }

  pub module_is : (symbol : List ℕ) (needs : Needs) (u : template.TemplateTree) (d : Declaration)
      (x : template.BodyTree) → symbol_name (file_in s) n ≡ Some symbol → needs.batches ≡ (file_in s).batches n
      → IsHead (whole_in s) n b.each module_kind symbol needs d → IsDeployment s n b u x
      → HeadIsWithin (whole_in s) n b.each → IsResource (files_in s) (file_in s) (module_put n b) (listed_at None d x)
  module_is symbol needs u d x e q h m w =
      record {
        type = h.kind;
        api = h.api;
        is_no_child = refl;
        name = record { is = h.name; is_within = name_within (whole_name (whole_in s) n b.each) w.name };
        condition = condition_is (whole_condition (whole_in s) n b.each) d.condition h.condition w.condition;
        loop = loop_is s n symbol needs.batches b.each d.copy e q h.loop w.count;
        content = body_is u x m;
      }
