-- The names that declarations give.
use Rattle.std.specs.Prelude.{ℕ, List, Option, Some, None}
use Rattle.bicep_tree.specs.declared.leaf.Label.{Label}
use Rattle.bicep_tree.specs.declared.leaf.Label.TheVariants as label
use Rattle.bicep_tree.specs.Tree.{ResourceTree, resource, DeclarationTree, metadata, target_scope, param, param_with}
use Rattle.bicep_tree.specs.Tree.{var, output, a_resource, a_module}

-- the characters of a member's name
abbrev pub label_text : Label → List ℕ
label_text (label.Name n) = n.text
label_text (label.Quoted q) = q.text

abbrev pub resource_symbol : ResourceTree → List ℕ
resource_symbol (resource at n p x b) = n.text

-- the characters of the name that a declaration gives; `targetScope` gives none
abbrev pub symbol : DeclarationTree → Option (List ℕ)
symbol (metadata at n e) = Some n.text
symbol (target_scope at e) = None
symbol (param at n ty) = Some n.text
symbol (param_with at n ty e) = Some n.text
symbol (var at n v) = Some n.text
symbol (output at n ty v) = Some n.text
symbol (a_resource r) = Some (resource_symbol r)
symbol (a_module at n p b) = Some n.text
