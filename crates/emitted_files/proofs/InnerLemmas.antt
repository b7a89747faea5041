-- The nested deployments of a template of a program are of the inner scope, so each scope sees itself alone.
use Rattle.std.proofs.Common.{◌≡◌, ℕ, Bool, false, List, [], ◌∷◌, ◌++◌, Option, Some, None, refl, ap}
use Rattle.std.specs.Prelude.{option_and_then, if◌then◌else◌}
use Rattle.template_parts.specs.declared.mode.Form.{Form}
use Rattle.template_tree.specs.Tree.{TemplateTree, BodyTree, body_members, deployment}
use Rattle.deploy_cells.specs.Cells.{Step, Position}
use Rattle.plan_cells.specs.Resources.{Listed, nested_in, nested_at, resource_at}
use Rattle.plan_cells.specs.Scopes.{template_at, nested_of, resource_of, is_outer_scope, is_outer}
use Rattle.plan_cells.specs.Scopes.{owner, visible, loop_of, loops_around}
use Rattle.source_needs.specs.Files.{SourceFile}
use Rattle.source_needs.specs.Instances.{Put, put_of}
use Rattle.source_needs.specs.Numbers.{symbol_of}
use Rattle.emitted_files.specs.Values.{AreBoth}
use Rattle.emitted_files.specs.Files.{IsBody, IsResource, IsFile, IsEmitted, file_of_scope}
use Rattle.emitted_files.proofs.AbsentLemmas.{Match}

module _ (files : List SourceFile) (f : SourceFile) where
  body_inner : (x : Put) (b : BodyTree) → IsBody files f x b → is_outer (nested_in b) ≡ false
  body_inner x (body_members ms) h = refl
  body_inner x (deployment s ps t) h = ap is_outer_scope h.scope

  resource_inner : (o : Option Put) (u : Option Listed) → AreBoth (IsResource files f) o u
      → is_outer (option_and_then (λ r. nested_in r.content) u) ≡ false
  resource_inner o None h = refl
  resource_inner None (Some r) h = absurd h
  resource_inner (Some x) (Some r) h = body_inner x r.content h.content

module _ (z : Form) (files : List SourceFile) where
  scope_inner : (m : ℕ) (o : Option SourceFile) (t : Option TemplateTree) → AreBoth (Match z files) o t
      → is_outer (option_and_then (λ v. nested_at v m) t) ≡ false
  scope_inner m o None h = refl
  scope_inner m None (Some v) h = absurd h
  scope_inner m (Some f) (Some v) h =
      resource_inner files f (option_and_then (λ n. put_of n f) (symbol_of z f m)) (resource_at v m) (h.resources m)

module _ (z : Form) (files : List SourceFile) (u : TemplateTree) (h : IsEmitted z files u) where
  inner : (q : Position) (s : Step) → is_outer (nested_of u q s) ≡ false
  inner q s = scope_inner z files s.resource (file_of_scope z files q) (template_at u q) (h q)

  pub owner_is : (q : Position) → owner u q ≡ q
  unfolding owner
  owner_is [] = refl
  owner_is (s ∷ q) = ap (λ b. if b then owner u q else (s ∷ q)) (inner q s)

  pub visible_is : (q : Position) → visible u q ≡ q ∷ []
  unfolding visible
  visible_is [] = refl
  visible_is (s ∷ q) = ap (λ b. (s ∷ q) ∷ (if b then visible u q else [])) (inner q s)

  pub no_loops_around : (q : Position) → loops_around u q ≡ []
  unfolding loops_around
  no_loops_around [] = refl
  no_loops_around (s ∷ q) =
      ap (λ b. if b then loop_of (resource_of u q s.resource) s.copy ++ loops_around u q else []) (inner q s)
