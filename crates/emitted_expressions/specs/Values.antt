-- What is emitted, by what surrounds an expression.
use Rattle.std.specs.Prelude.{ℕ, List}
use Rattle.arm_expr.specs.Tree.{Tree, Trees, text, more}
use Rattle.bicep_resolved.specs.declared.leaf.Meaning.{Meaning}
use Rattle.bicep_resolved.specs.declared.leaf.Field.{Field}
use Rattle.bicep_resolved.specs.declared.leaf.Target.{Target}
use Rattle.bicep_resolved.specs.Source.{SourceTree, SourceTrees, PieceTrees, PropertyTrees, ReachTree, ValueTree}
use Rattle.bicep_resolved.specs.Target.{number_of}
use Rattle.emitted_parts.specs.Emitted as e
use Rattle.emitted_parts.specs.Emitted.{Frame}
use Rattle.emitted_parts.specs.Texts.{format_text}
use Rattle.emitted_expressions.specs.Sight.{Sight}

abbrev pub expression : Sight → SourceTree → List Frame → Tree
expression s x fs = e.emitted s.file s.files s.scope x fs

abbrev pub all : Sight → SourceTrees → List Frame → Trees
all s xs fs = e.all_of s.file s.files s.scope xs fs

-- the text of `format`, and the values of its holes
abbrev pub format : Sight → List ℕ → PieceTrees → List Frame → Trees
format s first ps fs = more (text (format_text 0 first ps)) (e.holes_of s.file s.files s.scope ps fs)

abbrev pub members : Sight → PropertyTrees → List Frame → Trees
members s ps fs = e.members_of s.file s.files s.scope ps fs

abbrev pub value : Sight → ValueTree → List Frame → Tree
value s v fs = e.emitted_value s.file s.files s.scope v fs

abbrev pub reached : Sight → ReachTree → List Frame → List Frame
reached s r fs = e.frames_of s.file s.files s.scope r fs

abbrev pub named : Sight → Meaning → List Frame → Tree
named s x fs = e.named s.file s.files s.scope x fs

abbrev pub field : Sight → ℕ → Field → List Frame → Tree
field s n x fs = e.field_of s.file s.files s.scope n x fs

abbrev pub output : Sight → Target → ℕ → List Frame → Tree
output s x k fs = e.output_of (e.output_named s.file s.files s.scope x k) (s.scope.name (number_of x) fs)
