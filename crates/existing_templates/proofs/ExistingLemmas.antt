-- The existing resources of a template that is made.
use Rattle.std.proofs.Common.{◌≡◌, ℕ, true, false, true≢false, List, Option, Some, None, refl, sym, ap, ◌∙◌, subst}
use Rattle.std.proofs.Common.{length}
use Rattle.std.specs.Prelude.{is_some, slice_get}
use Rattle.arm_value.specs.View.{json}
use Rattle.template_parts.specs.declared.declaration.Declaration.{Declaration}
use Rattle.template_parts.specs.declared.mode.Form.{Form}
use Rattle.template_parts.specs.declared.mode.Form.TheVariants.{One, Two}
use Rattle.template_parts.specs.declared.parameter.Parameter.{Parameter}
use Rattle.template_tree.specs.Tree.{ResourceTree, trees}
use Rattle.template_tree.specs.View.{template_tree}
use Rattle.template_tree.specs.declared.resource.Template.{Template}
use Rattle.plan_cells.specs.Resources.{Listed, listed_at, listed_trees}
use Rattle.bicep_tree.specs.declared.leaf.Quoted.{Quoted}
use Rattle.bicep_declared.specs.Declarations.{BodyTree}
use Rattle.bicep_declared.specs.Declarations as d
use Rattle.bicep_meaning.specs.Files.{declaration}
use Rattle.bicep_meaning.specs.Instances.{put_by}
use Rattle.source_worlds.specs.Numbers.{in_template, is_put, name_of}
use Rattle.emitted_resources.specs.Heads.{whole_name}
use Rattle.emitted_resources.specs.Limits.{HeadIsWithin}
use Rattle.emitted_resources.proofs.ResourceLemmas.{name_within, loop_is}
use Rattle.file_limits.specs.Built.{Templates, template_of, declared_by, body_in, IsBuiltFor, IsExistingOf}
use Rattle.file_limits.specs.Files.{IsLoop}
use Rattle.file_limits.specs.Fits.{IsReady}
use Rattle.file_limits.specs.Seen.{Shape, file_in, files_in, whole_in}
use Rattle.file_limits.specs.Templates.{IsTemplateOf}
use Rattle.file_limits.specs.Values.{AreBoth}
use Rattle.file_limits.specs.Within.{IsWithinBy, IsWithin}
use Rattle.file_limits.proofs.EachLemmas.{each_at, passing_each}
use Rattle.file_limits.proofs.ListedLemmas.{IsAt, at_place}
use Rattle.file_limits.proofs.NameLemmas.{named}
use Rattle.existing_templates.specs.Existing.{IsExisting, HasExisting}

module _ (s : Shape) (ready : IsReady s) (n at : ℕ) (q : Quoted) (b : BodyTree)
    (is : declaration (file_in s) n ≡ Some (d.a_resource at q true b)) where
  existing_is : (r : ResourceTree) → IsExistingOf Two s n b r → HeadIsWithin (whole_in s) n b.each
      → IsExisting (files_in s) (file_in s) n b (listed_at None (declared_by r) (body_in r))
  existing_is r h w =
      let same = h.head.is in
      let head = h.head.head in
      let symbol = named (file_in s) ready.paired n (d.a_resource at q true b) is in
      record {
        existing = ap (λ (x : Declaration). x.existing) same;
        symbol = ap (λ (x : Declaration). x.symbol) same ∙ head.symbol ∙ sym symbol;
        type = ap (λ (x : Declaration). x.kind) same ∙ head.kind;
        api = ap (λ (x : Declaration). x.api_version) same ∙ head.api;
        is_no_child = refl;
        name = record {
          is = ap (λ (x : Declaration). json x.name) same ∙ head.name;
          is_within = name_within (whole_name (whole_in s) n b.each) w.name;
        };
        loop =
            subst (AreBoth (IsLoop (files_in s) (file_in s) n) b.each) (sym (ap (λ (x : Declaration). x.copy) same))
            (loop_is s n (name_of (file_in s) n) ((file_in s).batches n) b.each h.head.declaration.copy symbol refl
            head.loop w.count);
        depends_on = ap (λ (x : Declaration). x.depends_on) same ∙ head.depends_on;
        content = h.body;
      }

  -- the first form has no such resource
  not_first : (m : ℕ) → slice_get (in_template One (file_in s)) m ≡ Some n → ⊥
  not_first m e =
      let put = each_at (λ n. is_put (file_in s) n ≡ true) (in_template One (file_in s)) m n
      (passing_each (λ n. is_put (file_in s) n ≡ true) (is_put (file_in s)) (λ n e. e) 0
      (length (file_in s).declared.declarations)) e in
      true≢false (sym put ∙ ap (λ o. is_some (put_by (file_in s) n o)) is)

  module _ (us : Templates) (within : (n : ℕ) → IsWithin Two s n) where
    entry_is : (x : Listed) → IsAt Two s us n x → IsExisting (files_in s) (file_in s) n b x
    entry_is x a =
        subst (IsExisting (files_in s) (file_in s) n b) (sym a.1.1)
        (existing_is a.0 (subst (λ e. IsBuiltFor Two s n (template_of us n) e a.0) is a.1.0)
        (subst (IsWithinBy Two s n) is (within n)))

    of_place : (m : ℕ) (o : Option Listed) (p : Option ℕ) → p ≡ Some n → AreBoth (IsAt Two s us) p o
        → (x : Listed) × ((o ≡ Some x) × IsExisting (files_in s) (file_in s) n b x)
    of_place m None p e a = absurd (subst (λ p. AreBoth (IsAt Two s us) p None) e a)
    of_place m (Some x) p e a = (x, (refl, entry_is x (subst (λ p. AreBoth (IsAt Two s us) p (Some x)) e a)))

pub has_existing : (z : Form) (s : Shape) (rs : List (Option Parameter)) (us : Templates) (u : Template) → IsReady s
    → ((n : ℕ) → IsWithin z s n) → IsTemplateOf z s rs us u → HasExisting z (files_in s) (file_in s) (template_tree u)
has_existing One s rs us u ready within made = λ m n at q b e is. absurd (not_first s ready n at q b is m e)
has_existing Two s rs us u ready within made = λ m n at q b e is.
    of_place s ready n at q b is us within m (slice_get (listed_trees None 0 (trees u.resources)) m)
    (slice_get (in_template Two (file_in s)) m) e
    (at_place Two s us (in_template Two (file_in s)) u.resources made.resources 0 m)
