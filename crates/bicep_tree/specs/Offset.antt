-- Where the nodes of a tree begin: the offset of a node's first token in the source, in bytes.
use Rattle.std.specs.Prelude.{ℕ}
use Rattle.bicep_tree.specs.declared.leaf.Function.{Function}
use Rattle.bicep_tree.specs.declared.leaf.Function.TheVariants as f
use Rattle.bicep_tree.specs.declared.leaf.Label.{Label}
use Rattle.bicep_tree.specs.declared.leaf.Label.TheVariants as label
use Rattle.bicep_tree.specs.Tree.{Tree, name, literal, interpolated, object, array, parentheses, call, access, index}
use Rattle.bicep_tree.specs.Tree.{not_null, prefixed, binary, conditional, ObjectTree, braces, LoopTree, loop}
use Rattle.bicep_tree.specs.Tree.{ValueTree, plain, each, BodyTree, body_plain, body_if, body_each, body_each_if}
use Rattle.bicep_tree.specs.Tree.{ResourceTree, resource, DeclarationTree, metadata, target_scope, param, param_with}
use Rattle.bicep_tree.specs.Tree.{var, output, a_resource, a_module}

-- the name of a function
abbrev pub function_offset : Function → ℕ
function_offset (f.Plain n) = n.at
function_offset (f.Qualified at space n) = at

-- its `{`
abbrev pub object_offset : ObjectTree → ℕ
object_offset (braces at ms) = at

-- an expression
abbrev pub offset : Tree → ℕ
offset (name n) = n.at
offset (literal at v) = at
offset (interpolated at first hs) = at
offset (object o) = object_offset o
offset (array at es) = at
offset (parentheses at e) = at
offset (call f es) = function_offset f
offset (access e k n) = offset e
offset (index e k i) = offset e
offset (not_null e) = offset e
offset (prefixed at p e) = at
offset (binary o a b) = offset a
offset (conditional c a b) = offset c

-- the name of a member
abbrev pub label_offset : Label → ℕ
label_offset (label.Name n) = n.at
label_offset (label.Quoted q) = q.at

-- the `[` of a for-expression
abbrev pub loop_offset : LoopTree → ℕ
loop_offset (loop at ns e) = at

-- the value of a variable, an output or a property
abbrev pub value_offset : ValueTree → ℕ
value_offset (plain e) = offset e
value_offset (each l e) = loop_offset l

-- the part of a resource or a module after its `=`
abbrev pub body_offset : BodyTree → ℕ
body_offset (body_plain o) = object_offset o
body_offset (body_if at c o) = at
body_offset (body_each l o) = loop_offset l
body_offset (body_each_if l at c o) = loop_offset l

-- the word `resource`
abbrev pub resource_offset : ResourceTree → ℕ
resource_offset (resource at n p x b) = at

-- the first word of a declaration, after its decorators
abbrev pub declaration_offset : DeclarationTree → ℕ
declaration_offset (metadata at n e) = at
declaration_offset (target_scope at e) = at
declaration_offset (param at n ty) = at
declaration_offset (param_with at n ty e) = at
declaration_offset (var at n v) = at
declaration_offset (output at n ty v) = at
declaration_offset (a_resource r) = resource_offset r
declaration_offset (a_module at n p b) = at
