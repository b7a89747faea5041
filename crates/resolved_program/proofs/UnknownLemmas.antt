-- A file stands for nothing exactly where a name in it means nothing.
use Rattle.std.proofs.Common.{ℕ, List, [], ◌∷◌, map}
use Rattle.bicep_tree.specs.declared.leaf.LoopNames.{LoopNames}
use Rattle.bicep_tree.specs.Tree.{ObjectTree, BodyTree, DeclarationTree, FileTree}
use Rattle.bicep_tree.specs.Tree as tree
use Rattle.bicep_found.specs.Found.{Found, all_found}
use Rattle.bicep_names.specs.Scope.{Scope}
use Rattle.bicep_names.specs.Unknown.{ObjectHasUnknown, Tells}
use Rattle.bicep_names.proofs.UnknownLemmas.{tells, tells_members, tells_value, tells-mapped, tells-both}
use Rattle.bicep_declared.specs.Declare.{fields_of, body_of, declared, part_declared, output_declared, part_output}
use Rattle.bicep_declared.specs.Declare.{declared_file}
use Rattle.bicep_declared.specs.Sites.{declarations_of}
use Rattle.resolved_program.specs.Unknown.{BodyHasUnknown, DeclarationHasUnknown, OutputHasUnknown, OfOne}
use Rattle.resolved_program.specs.Unknown.{FileHasUnknown}

-- one of a list
tells-all : {A : Type 0} (P : ℕ → DeclarationTree → Type 0) (part : DeclarationTree → Found (List A))
    → ((d : DeclarationTree) → Tells (λ at. P at d) (part d)) → (ds : List DeclarationTree)
    → Tells (λ at. OfOne (P at) ds) (all_found (map part ds))
unfolding all_found
tells-all P part h [] = λ at p. p
tells-all P part h (d ∷ ds) = tells-mapped _ _ _ (tells-both _ _ _ _ (h d) (tells-all P part h ds))

module _ (sc : Scope) where
  tells_fields : (o : ObjectTree) (ls : List LoopNames) → Tells (λ at. ObjectHasUnknown sc at o ls) (fields_of sc o ls)
  tells_fields (tree.braces at ms) ls = tells_members sc ms ls

  tells_body : (b : BodyTree) → Tells (λ at. BodyHasUnknown sc at b) (body_of sc b)
  tells_body (tree.body_plain o) = tells-mapped _ _ _ (tells_fields o [])
  tells_body (tree.body_if at c o) = tells-mapped _ _ _ (tells-both _ _ _ _ (tells sc c []) (tells_fields o []))
  tells_body (tree.body_each (tree.loop at names xs) o) =
      tells-mapped _ _ _ (tells-both _ _ _ _ (tells sc xs []) (tells_fields o (names ∷ [])))
  tells_body (tree.body_each_if (tree.loop at names xs) b c o) =
      tells-mapped _ _ _ (tells-both _ _ _ _ (tells sc xs [])
      (tells-both _ _ _ _ (tells sc c (names ∷ [])) (tells_fields o (names ∷ []))))

  tells_declared : (d : DeclarationTree) → Tells (λ at. DeclarationHasUnknown sc at d) (declared sc d)
  tells_declared (tree.metadata at n e) = λ b p. p
  tells_declared (tree.target_scope at e) = λ b p. p
  tells_declared (tree.param at n t) = λ b p. p
  tells_declared (tree.param_with at n t e) = tells-mapped _ _ _ (tells sc e [])
  tells_declared (tree.var at n v) = tells-mapped _ _ _ (tells_value sc v [])
  tells_declared (tree.output at n t v) = λ b p. p
  tells_declared (tree.a_resource (tree.resource at n q x b)) = tells-mapped _ _ _ (tells_body b)
  tells_declared (tree.a_module at n q b) = tells-mapped _ _ _ (tells_body b)

  tells_output : (d : DeclarationTree) → Tells (λ at. OutputHasUnknown sc at d) (output_declared sc d)
  tells_output (tree.metadata at n e) = λ b p. p
  tells_output (tree.target_scope at e) = λ b p. p
  tells_output (tree.param at n t) = λ b p. p
  tells_output (tree.param_with at n t e) = λ b p. p
  tells_output (tree.var at n v) = λ b p. p
  tells_output (tree.output at n t v) = tells-mapped _ _ _ (tells_value sc v [])
  tells_output (tree.a_resource r) = λ b p. p
  tells_output (tree.a_module at n q b) = λ b p. p

  pub tells_file : (f : FileTree) → Tells (λ at. FileHasUnknown sc at f) (declared_file sc f)
  unfolding declared_file
  tells_file f =
      tells-mapped _ _ _ (tells-both _ _ _ _
      (tells-all (DeclarationHasUnknown sc) (part_declared sc) (λ d. tells-mapped _ _ _ (tells_declared d))
      (declarations_of f))
      (tells-all (OutputHasUnknown sc) (part_output sc) (λ d. tells-mapped _ _ _ (tells_output d))
      (declarations_of f)))
