-- What an expression stands for, once its names are found.
use Rattle.std.specs.Prelude.{ℕ, List, ◌∷◌, Bool, true, false, Option, Some, None, bytes_eq, codes, if◌then◌else◌}
use Rattle.bicep_tree.specs.declared.leaf.Access.{Access}
use Rattle.bicep_tree.specs.declared.leaf.Access.TheVariants as access
use Rattle.bicep_tree.specs.declared.leaf.Function.{Function}
use Rattle.bicep_tree.specs.declared.leaf.Function.TheVariants as function
use Rattle.bicep_tree.specs.declared.leaf.Indexing.{Indexing}
use Rattle.bicep_tree.specs.declared.leaf.Indexing.TheVariants as indexing
use Rattle.bicep_tree.specs.declared.leaf.LoopNames.{LoopNames}
use Rattle.bicep_tree.specs.declared.leaf.Name.{Name}
use Rattle.bicep_tree.specs.Offset.{function_offset, label_offset}
use Rattle.bicep_tree.specs.Symbol.{label_text}
use Rattle.bicep_tree.specs.Tree.{Tree, Trees, Holes, ObjectTree, MemberTrees, ValueTree}
use Rattle.bicep_tree.specs.Tree as tree
use Rattle.bicep_resolved.specs.declared.leaf.Field.{Field}
use Rattle.bicep_resolved.specs.declared.leaf.Field.TheVariants as f
use Rattle.bicep_resolved.specs.declared.leaf.Selector.TheVariants as selector
use Rattle.bicep_resolved.specs.declared.leaf.Target.{Target}
use Rattle.bicep_resolved.specs.declared.leaf.Target.TheVariants as t
use Rattle.bicep_resolved.specs.Source.{SourceTree, SourceTrees, PieceTrees, ReachTree, PropertyTrees}
use Rattle.bicep_resolved.specs.Source as s
use Rattle.bicep_resolved.specs.Place.{reach_offset}
use Rattle.bicep_resolved.specs.Target.{number_of, target_of}
use Rattle.bicep_found.specs.Found.{Found, found, unknown, mapped, then_found, both}
use Rattle.bicep_names.specs.declared.kind.Named.{Named}
use Rattle.bicep_names.specs.declared.kind.Named.TheVariants as named
use Rattle.bicep_names.specs.Functions.{function_named}
use Rattle.bicep_names.specs.Scope.{Scope, Symbols, OutputNames, meaning_of, nested_named, output_named}

-- what a name at a place stands for
abbrev pub source_at : ℕ → Named → SourceTree
source_at at (named.Value x) = s.name at x
source_at at (named.Instance x) = s.instance (s.symbol at x)

abbrev pub name_at : ℕ → Option Named → Found SourceTree
name_at at (Some x) = found (source_at at x)
name_at at None = unknown at

-- ---- fields and outputs

-- the field of that name of a resource
unfoldable pub resource_field : List ℕ → Field
resource_field name = if bytes_eq name (codes "id") then f.Id else
    (if bytes_eq name (codes "name") then f.Name else
    (if bytes_eq name (codes "type") then f.Type else
    (if bytes_eq name (codes "apiVersion") then f.ApiVersion else
    (if bytes_eq name (codes "properties") then f.Properties else f.Other name))))

-- the field of that name of a module
unfoldable pub module_field : List ℕ → Field
module_field name = if bytes_eq name (codes "name") then f.Name else
    (if bytes_eq name (codes "outputs") then f.Outputs else f.Other name)

abbrev pub field_of : Target → List ℕ → Field
field_of (t.Resource n) name = resource_field name
field_of (t.ResourceLoop n) name = resource_field name
field_of (t.Module n file) name = module_field name
field_of (t.ModuleLoop n file) name = module_field name

abbrev pub is_outputs : Field → Bool
is_outputs f.Outputs = true
is_outputs x = false

-- the resource or module that an expression is
abbrev pub reach_in : SourceTree → Option ReachTree
reach_in (s.instance r) = Some r
reach_in e = None

-- the module whose outputs an expression is
abbrev pub outputs_in : SourceTree → Option ReachTree
outputs_in (s.field r at x) = if is_outputs x then Some r else None
outputs_in e = None

-- the outputs of the file of a module
abbrev pub output_of : List OutputNames → Target → List ℕ → Option ℕ
output_of os (t.Module n file) name = output_named os file name
output_of os (t.ModuleLoop n file) name = output_named os file name
output_of os x name = None

-- the output of that number, whose name is at a place
abbrev pub output_at : ReachTree → ℕ → Option ℕ → Found SourceTree
output_at r at (Some k) = found (s.output r at k)
output_at r at None = unknown at

abbrev pub member_by : List OutputNames → Option ReachTree → Option ReachTree → SourceTree → Name → Found SourceTree
member_by os (Some r) o e n = found (s.field r n.at (field_of (target_of r) n.text))
member_by os None (Some r) e n = output_at r n.at (output_of os (target_of r) n.text)
member_by os None None e n = found (s.member e selector.Plain n)

-- `x.n`: of a resource or a module a field, of the outputs of a module an output
unfoldable pub member_of : List OutputNames → SourceTree → Name → Found SourceTree
member_of os e n = member_by os (reach_in e) (outputs_in e) e n

-- the resource that begins at a place and whose name is at another
abbrev pub nested_at : ℕ → ℕ → Option Target → Found SourceTree
nested_at at name_at (Some x) = found (s.instance (s.symbol at x))
nested_at at name_at None = unknown name_at

abbrev pub nested_within : Symbols → Option ReachTree → Name → Found SourceTree
nested_within ss None n = unknown n.at
nested_within ss (Some r) n = nested_at (reach_offset r) n.at (nested_named ss (number_of (target_of r)) n.text)

-- `x::n`: a resource that is nested in x
unfoldable pub nested_of : Symbols → SourceTree → Name → Found SourceTree
nested_of ss e n = nested_within ss (reach_in e) n

-- a part of a value by its name
abbrev pub accessed : Scope → SourceTree → Access → Name → Found SourceTree
accessed sc e access.Member n = member_of sc.outputs e n
accessed sc e access.SafeMember n = found (s.member e selector.Safe n)
accessed sc e access.Nested n = nested_of sc.symbols e n

-- ---- elements

abbrev pub symbol_in : ReachTree → Option (ℕ × Target)
symbol_in (s.symbol at x) = Some (at, x)
symbol_in (s.element at x e) = None

-- the resource or module that an expression is by its symbol alone, and the place
abbrev pub whole_in : SourceTree → Option (ℕ × Target)
whole_in (s.instance r) = symbol_in r
whole_in e = None

abbrev pub element_by : Option (ℕ × Target) → SourceTree → SourceTree → SourceTree
element_by (Some p) e i = s.instance (s.element p.0 p.1 i)
element_by None e i = s.index e indexing.Plain i

-- `x[i]`: of a resource or a module an element of its loop
unfoldable pub element_of : SourceTree → SourceTree → SourceTree
element_of e i = element_by (whole_in e) e i

abbrev pub indexed : SourceTree → Indexing → SourceTree → SourceTree
indexed e indexing.Plain i = element_of e i
indexed e indexing.Safe i = s.index e indexing.Safe i

-- ---- calls

-- the name of a function, without `sys.` and `az.`
abbrev pub function_name : Function → Name
function_name (function.Plain n) = n
function_name (function.Qualified at space n) = n

abbrev pub called_by : ℕ → ℕ → Option (List ℕ) → Found SourceTrees → Found SourceTree
called_by at name_at None es = unknown name_at
called_by at name_at (Some name) es = mapped (λ xs. s.call at name xs) es

-- a call; the name of the function is looked at before the arguments
abbrev pub called : Function → Found SourceTrees → Found SourceTree
called g es = called_by (function_offset g) (function_name g).at (function_named (function_name g).text) es

-- ---- expressions

-- The expression that a tree stands for inside loops, of which the nearest is the first, or its first name that means
-- nothing. Parentheses and `!` after a value leave nothing, and nested resources are declarations of their own.
abbrev mutual
  pub resolved : Scope → Tree → List LoopNames → Found SourceTree
  resolved sc (tree.name n) ls = name_at n.at (meaning_of sc.symbols ls n.text)
  resolved sc (tree.literal at v) ls = found (s.literal at v)
  resolved sc (tree.interpolated at first hs) ls =
      mapped (λ ps. s.interpolated at first ps) (resolved_holes sc hs ls)
  resolved sc (tree.object o) ls = resolved_object sc o ls
  resolved sc (tree.array at es) ls = mapped (λ xs. s.array at xs) (resolved_all sc es ls)
  resolved sc (tree.parentheses at e) ls = resolved sc e ls
  resolved sc (tree.call g es) ls = called g (resolved_all sc es ls)
  resolved sc (tree.access e k n) ls = then_found (λ x. accessed sc x k n) (resolved sc e ls)
  resolved sc (tree.index e k i) ls =
      mapped (λ p. indexed p.0 k p.1) (both (resolved sc e ls) (resolved sc i ls))
  resolved sc (tree.not_null e) ls = resolved sc e ls
  resolved sc (tree.prefixed at p e) ls = mapped (λ x. s.prefixed at p x) (resolved sc e ls)
  resolved sc (tree.binary o a b) ls =
      mapped (λ p. s.binary o p.0 p.1) (both (resolved sc a ls) (resolved sc b ls))
  resolved sc (tree.conditional c a b) ls =
      mapped (λ p. s.conditional p.0 p.1.0 p.1.1)
      (both (resolved sc c ls) (both (resolved sc a ls) (resolved sc b ls)))

  pub resolved_all : Scope → Trees → List LoopNames → Found SourceTrees
  resolved_all sc tree.none ls = found s.none
  resolved_all sc (tree.more e es) ls =
      mapped (λ p. s.more p.0 p.1) (both (resolved sc e ls) (resolved_all sc es ls))

  pub resolved_holes : Scope → Holes → List LoopNames → Found PieceTrees
  resolved_holes sc tree.no_hole ls = found s.no_piece
  resolved_holes sc (tree.hole e after hs) ls =
      mapped (λ p. s.piece p.0 after p.1) (both (resolved sc e ls) (resolved_holes sc hs ls))

  pub resolved_object : Scope → ObjectTree → List LoopNames → Found SourceTree
  resolved_object sc (tree.braces at ms) ls = mapped (λ ps. s.object at ps) (resolved_members sc ms ls)

  pub resolved_members : Scope → MemberTrees → List LoopNames → Found PropertyTrees
  resolved_members sc tree.no_member ls = found s.no_property
  resolved_members sc (tree.and_member (tree.property l v) ms) ls =
      mapped (λ p. s.property (label_offset l) (label_text l) p.0 p.1)
      (both (resolved_value sc v ls) (resolved_members sc ms ls))
  resolved_members sc (tree.and_member (tree.child ds r) ms) ls = resolved_members sc ms ls

  pub resolved_value : Scope → ValueTree → List LoopNames → Found s.ValueTree
  resolved_value sc (tree.plain e) ls = mapped (λ x. s.plain x) (resolved sc e ls)
  resolved_value sc (tree.each (tree.loop at names xs) e) ls =
      mapped (λ p. s.each (s.loop at p.0) p.1) (both (resolved sc xs ls) (resolved sc e (names ∷ ls)))
