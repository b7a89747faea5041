-- The templates of nested deployments are those that were given for modules.
use Rattle.std.proofs.Common.{◌≡◌, ℕ, Bool, true, false, List, [], Option, Some, None, sym, ap, ◌∙◌, subst}
use Rattle.std.specs.Prelude.{option_and_then, slice_get, if◌then◌else◌}
use Rattle.foundation.proofs.Options.{same_some}
use Rattle.template_parts.specs.declared.mode.Form.{Form}
use Rattle.template_tree.specs.Tree.{TemplateTree, Header, template, ResourceTree, trees}
use Rattle.template_tree.specs.Tree as body
use Rattle.plan_cells.specs.Resources.{Listed, Nested, nested_at, nested_in, resource_at, resources_in, unless_existing}
use Rattle.bicep_declared.specs.Declarations.{DeclaredTree}
use Rattle.bicep_declared.specs.Declarations as d
use Rattle.bicep_meaning.specs.Files.{declaration}
use Rattle.source_worlds.specs.Numbers.{is_put, if_put, in_template, symbol_of}
use Rattle.kept_templates.specs.Seen.{Shape, file_in}
use Rattle.kept_templates.specs.Values.{AreBoth}
use Rattle.kept_templates.specs.Built.{Templates, template_of, AreBuilt, IsBuiltFor, body_in}
use Rattle.kept_templates.proofs.ListedLemmas.{IsAt, at_place}

module _ (z : Form) (s : Shape) where
  -- by the declaration of the number, and by what is given for it
  given_by : (n : ℕ) (o : Option TemplateTree) (e : Option DeclaredTree) (r : ResourceTree) (w : Nested)
      → IsBuiltFor z s n o e r → nested_in (body_in r) ≡ Some w → o ≡ Some w.template
  given_by n o None r w h is = absurd h
  given_by n o (Some (d.parameter at t)) r w h is = absurd h
  given_by n o (Some (d.parameter_with at t x)) r w h is = absurd h
  given_by n o (Some (d.variable at v)) r w h is = absurd h
  given_by n o (Some (d.a_resource at q existing b)) (body.resource x (body.body_members ms) rs) w h is = absurd cc
  given_by n o (Some (d.a_resource at q false b)) (body.resource x (body.deployment scope args v) rs) w h is =
      absurd h.body
  given_by n o (Some (d.a_resource at q true b)) (body.resource x (body.deployment scope args v) rs) w h is =
      let no : body.deployment scope args v ≡ body.body_members [] = h.body in
      absurd cc
  given_by n None (Some (d.a_module at b)) r w h is = absurd h
  given_by n (Some u) (Some (d.a_module at b)) (body.resource x (body.body_members ms) rs) w h is = absurd h.body
  given_by n (Some u) (Some (d.a_module at b)) (body.resource x (body.deployment scope args v) rs) w h is =
      ap (λ t. Some t) (sym h.body.1.1) ∙ ap (λ (y : Nested). Some y.template) (same_some is)

  module _ (us : Templates) where
    -- an entry of the list of resources that is a nested deployment
    at_entry : (n : ℕ) (x : Listed) (w : Nested) → IsAt z s us n x
        → option_and_then (λ (y : Listed). nested_in y.content) (unless_existing x) ≡ Some w
        → template_of us n ≡ Some w.template
    at_entry n x w a is =
        given_by n (template_of us n) (declaration (file_in s) n) a.0 w a.1.0
        (subst (λ (y : Listed). nested_in y.content ≡ Some w) a.1.1 (by_test x.declaration.existing is))
      where
        by_test : (b : Bool)
            → option_and_then (λ (y : Listed). nested_in y.content) (if b then None else Some x) ≡ Some w
            → nested_in x.content ≡ Some w
        by_test true e = absurd cc
        by_test false e = e

    -- the number that is put is that of the place
    same_number : (n k : ℕ) → if_put (file_in s) k ≡ Some n → k ≡ n
    same_number n k e = by_test (is_put (file_in s) k) e
      where
        by_test : (b : Bool) → (if b then Some k else None) ≡ Some n → k ≡ n
        by_test true e = same_some e
        by_test false e = absurd cc

    at_both : (n : ℕ) (o : Option ℕ) (q : Option Listed) (w : Nested) → AreBoth (IsAt z s us) o q
        → option_and_then (λ (y : Listed). nested_in y.content) (option_and_then unless_existing q) ≡ Some w
        → option_and_then (if_put (file_in s)) o ≡ Some n → template_of us n ≡ Some w.template
    at_both n None None w h is e = absurd cc
    at_both n None (Some x) w h is e = absurd h
    at_both n (Some k) None w h is e = absurd h
    at_both n (Some k) (Some x) w h is e =
        subst (λ j. template_of us j ≡ Some w.template) (same_number n k e) (at_entry k x w h is)

    pub nested_is_given : (h : Header) (rs : List ResourceTree) → AreBuilt z s us (in_template z (file_in s)) rs
        → (m n : ℕ) (w : Nested) → nested_at (template h (trees rs)) m ≡ Some w
        → symbol_of z (file_in s) m ≡ Some n → template_of us n ≡ Some w.template
    unfolding resource_at
    nested_is_given h rs built m n w is e =
        at_both n (slice_get (in_template z (file_in s)) m) (slice_get (resources_in (template h (trees rs))) m) w
        (at_place z s us (in_template z (file_in s)) rs built 0 m) is e
