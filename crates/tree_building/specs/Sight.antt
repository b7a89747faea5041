-- What values become, by what surrounds them.
use Rattle.std.specs.Prelude.{ℕ, List, Option}
use Rattle.arm_expr.specs.Tree.{Tree}
use Rattle.bicep_resolved.specs.Source.{SourceTree, SourceTrees, PropertyTrees, ValueTree}
use Rattle.emitted_expressions.specs.Emitted.{Frame, emitted}
use Rattle.emitted_expressions.specs.Sight.{Sight}
use Rattle.emitted_trees.specs.EmittedTrees as e
use Rattle.emitted_trees.specs.Templates.{TemplateTree, TemplateItems, TemplateMembers, TemplateValue}

abbrev pub expression : Sight → SourceTree → List Frame → Tree
expression s x fs = emitted s.file s.files s.scope x fs

-- how often a loop over a value runs
abbrev pub count : Sight → SourceTree → List Frame → Tree
count s xs fs = e.count_of (expression s xs fs)

abbrev pub tree : Sight → SourceTree → List Frame → TemplateTree
tree s x fs = e.tree_of s.file s.files s.scope x fs

abbrev pub items : Sight → SourceTrees → List Frame → TemplateItems
items s xs fs = e.items_of s.file s.files s.scope xs fs

abbrev pub members : Sight → PropertyTrees → List Frame → TemplateMembers
members s ps fs = e.members_of s.file s.files s.scope ps fs

abbrev pub value : Sight → Option (List ℕ) → ValueTree → List Frame → TemplateValue
value s name v fs = e.value_of s.file s.files s.scope name v fs
