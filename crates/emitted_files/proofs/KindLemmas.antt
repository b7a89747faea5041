-- A resource of a template is of the kind of its symbol.
use Rattle.std.proofs.Common.{◌≡◌, ℕ, Bool, List, Option, Some, None, refl, ap, sym, ◌∙◌}
use Rattle.std.specs.Prelude.{is_some, option_map, option_and_then}
use Rattle.template_parts.specs.declared.mode.Form.{Form}
use Rattle.template_tree.specs.Tree.{TemplateTree, BodyTree, body_members, deployment}
use Rattle.deploy_cells.specs.Cells.{Position}
use Rattle.deploy_cells.specs.Puts.{Kind}
use Rattle.plan_cells.specs.Desired as template
use Rattle.plan_cells.specs.Desired.{kind_of}
use Rattle.plan_cells.specs.Meaning.{Deployment}
use Rattle.plan_cells.specs.Resources.{Listed, nested_in, resource_at}
use Rattle.plan_cells.specs.Scopes.{template_at}
use Rattle.source_needs.specs.Files.{SourceFile}
use Rattle.source_needs.specs.Instances as source
use Rattle.source_needs.specs.Instances.{SourceProgram, Put, put_of, file_at}
use Rattle.cell_renaming.specs.Renaming.{to_position}
use Rattle.cell_renaming.proofs.CellLemmas.{to-from_position}
use Rattle.cell_renaming.proofs.OptionLemmas.{none_some}
use Rattle.source_needs.specs.Numbers.{number_of, numbering}
use Rattle.source_needs.proofs.NumberLemmas.{there, one_to_one}
use Rattle.emitted_files.specs.Values.{AreBoth}
use Rattle.emitted_files.specs.Files.{IsBody, IsResource, IsEmitted}
use Rattle.emitted_files.proofs.AbsentLemmas.{Match, scope_matches, resource_matches}

abbrev kind : List ℕ → List ℕ → Bool → Kind
kind t a b = record { type = t; api = a; is_deployment = b }

module _ (files : List SourceFile) (f : SourceFile) where
  of_body : (x : Put) (b : BodyTree) → IsBody files f x b → is_some (nested_in b) ≡ x.kind.is_deployment
  of_body x (body_members ms) h = sym h.0
  of_body x (deployment s ps t) h = sym h.is_deployment

  of_resource : (x : Put) (r : Listed) → IsResource files f x r → kind_of r ≡ x.kind
  of_resource x r h =
      ap (λ t. kind t r.declaration.api_version (is_some (nested_in r.content))) h.type
      ∙ ap (λ a. kind x.kind.type a (is_some (nested_in r.content))) h.api
      ∙ ap (kind x.kind.type x.kind.api) (of_body x r.content h.content)

  of_both : (o : Option Put) (u : Option Listed) → AreBoth (IsResource files f) o u
      → option_map kind_of u ≡ option_map (λ x. x.kind) o
  of_both None None h = refl
  of_both None (Some r) h = absurd h
  of_both (Some x) None h = absurd h
  of_both (Some x) (Some r) h = ap (λ k. Some k) (of_resource x r h)

module _ (z : Form) (files : List SourceFile) where
  by_scope : (n m : ℕ) (o : Option SourceFile) (t : Option TemplateTree) → AreBoth (Match z files) o t
      → option_and_then (λ f. number_of z f n) o ≡ Some m
      → option_map kind_of (option_and_then (λ v. resource_at v m) t)
      ≡ option_map (λ x. x.kind) (option_and_then (put_of n) o)
  by_scope n m None t h e = none_some m e
  by_scope n m (Some f) None h e = absurd h
  by_scope n m (Some f) (Some v) h e =
      of_both files f (put_of n f) (resource_at v m) (resource_matches z files f v h m (Some n) (there z f n m e))

pub kinds_same : (z : Form) (d : SourceProgram) (t : Deployment) → IsEmitted z d.files t.template
    → (p q : Position) (n m : ℕ) → to_position (numbering z d.files) p ≡ Some q
    → (numbering z d.files).number p n ≡ Some m → template.kinds t q m ≡ source.kinds d p n
kinds_same z d t h p q n m e k =
    by_scope z d.files n m (file_at d.files p) (template_at t.template q)
    (scope_matches z d.files t.template h q p
    (to-from_position (numbering z d.files) (one_to_one z d.files) p q e)) k
