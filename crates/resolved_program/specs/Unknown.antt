-- Names of a file that mean nothing.
use Rattle.std.specs.Prelude.{ℕ, List, [], ◌∷◌, ◌⊎◌}
use Rattle.bicep_tree.specs.declared.leaf.LoopNames.{LoopNames}
use Rattle.bicep_tree.specs.Tree.{ObjectTree, BodyTree, ResourceTree, DeclarationTree, FileTree}
use Rattle.bicep_tree.specs.Tree as tree
use Rattle.bicep_names.specs.Scope.{Scope}
use Rattle.bicep_names.specs.Unknown.{HasUnknown, ObjectHasUnknown, ValueHasUnknown}
use Rattle.bicep_declared.specs.Sites.{declarations_of}

-- a name in the body of a resource or a module, at that offset, means nothing where it is; what a loop runs over is
-- outside it, the condition and the fields are inside it
abbrev pub BodyHasUnknown : Scope → ℕ → BodyTree → Type 0
BodyHasUnknown sc at (tree.body_plain o) = ObjectHasUnknown sc at o []
BodyHasUnknown sc at (tree.body_if b c o) = HasUnknown sc at c [] ⊎ ObjectHasUnknown sc at o []
BodyHasUnknown sc at (tree.body_each (tree.loop b names xs) o) =
    HasUnknown sc at xs [] ⊎ ObjectHasUnknown sc at o (names ∷ [])
BodyHasUnknown sc at (tree.body_each_if (tree.loop b names xs) d c o) =
    HasUnknown sc at xs [] ⊎ (HasUnknown sc at c (names ∷ []) ⊎ ObjectHasUnknown sc at o (names ∷ []))

abbrev pub ResourceHasUnknown : Scope → ℕ → ResourceTree → Type 0
ResourceHasUnknown sc at (tree.resource b n q x body) = BodyHasUnknown sc at body

-- the same of a declaration that has a symbol; a nested resource is a declaration of its own
abbrev pub DeclarationHasUnknown : Scope → ℕ → DeclarationTree → Type 0
DeclarationHasUnknown sc at (tree.metadata b n e) = ⊥
DeclarationHasUnknown sc at (tree.target_scope b e) = ⊥
DeclarationHasUnknown sc at (tree.param b n t) = ⊥
DeclarationHasUnknown sc at (tree.param_with b n t e) = HasUnknown sc at e []
DeclarationHasUnknown sc at (tree.var b n v) = ValueHasUnknown sc at v []
DeclarationHasUnknown sc at (tree.output b n t v) = ⊥
DeclarationHasUnknown sc at (tree.a_resource r) = ResourceHasUnknown sc at r
DeclarationHasUnknown sc at (tree.a_module b n q body) = BodyHasUnknown sc at body

-- the same of an output
abbrev pub OutputHasUnknown : Scope → ℕ → DeclarationTree → Type 0
OutputHasUnknown sc at (tree.output b n t v) = ValueHasUnknown sc at v []
OutputHasUnknown sc at d = ⊥

-- this holds of one of the declarations
abbrev pub OfOne : (DeclarationTree → Type 0) → List DeclarationTree → Type 0
OfOne P [] = ⊥
OfOne P (d ∷ ds) = P d ⊎ OfOne P ds

-- a name in a declaration or an output of a file, at that offset, means nothing where it is
abbrev pub FileHasUnknown : Scope → ℕ → FileTree → Type 0
FileHasUnknown sc at f =
    OfOne (DeclarationHasUnknown sc at) (declarations_of f) ⊎ OfOne (OutputHasUnknown sc at) (declarations_of f)
