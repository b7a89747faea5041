-- The template expression that a Bicep expression becomes (Microsoft Learn, "Bicep operators", "Bicep functions",
-- "Template functions").
use Rattle.std.specs.Prelude.{ℕ, pos, List, [], ◌∷◌, Option, Some, None, codes, slice_get, option_and_then}
use Rattle.expression_values.specs.Tree.{Tree, Trees, text, int, call, member, index, more}
use Rattle.expression_values.specs.Tree as tree
use Rattle.bicep_resolved.specs.Indexing.{Indexing}
use Rattle.bicep_resolved.specs.Indexing.TheVariants as indexing
use Rattle.bicep_resolved.specs.Literal.{Literal}
use Rattle.bicep_resolved.specs.Literal.TheVariants as l
use Rattle.bicep_resolved.specs.Operator.{Operator}
use Rattle.bicep_resolved.specs.Operator.TheVariants as o
use Rattle.bicep_resolved.specs.Prefix.{Prefix}
use Rattle.bicep_resolved.specs.Prefix.TheVariants as prefix
use Rattle.bicep_resolved.specs.declared.leaf.Field.{Field}
use Rattle.bicep_resolved.specs.declared.leaf.Field.TheVariants as field
use Rattle.bicep_resolved.specs.declared.leaf.Meaning.{Meaning}
use Rattle.bicep_resolved.specs.declared.leaf.Meaning.TheVariants as m
use Rattle.bicep_resolved.specs.declared.leaf.Selector.{Selector}
use Rattle.bicep_resolved.specs.declared.leaf.Selector.TheVariants as selector
use Rattle.bicep_resolved.specs.declared.leaf.Target.{Target}
use Rattle.bicep_resolved.specs.Source.{SourceTree, SourceTrees, PieceTrees, PropertyTrees, ReachTree, ValueTree}
use Rattle.bicep_resolved.specs.Source as s
use Rattle.bicep_resolved.specs.Target.{number_of, target_of}
use Rattle.bicep_meaning.specs.Files.{SourceFile, symbol_name, type_of}
use Rattle.bicep_meaning.specs.Meaning.{file_of}
use Rattle.bicep_emission.specs.Spelled.{spelled}
use Rattle.bicep_emission.specs.Texts.{format_text}
use Rattle.arm_ids.specs.Members.{deployment_type}

-- ---- calls

abbrev pub one : Tree → Trees
one a = more a tree.none

abbrev pub two : Tree → Tree → Trees
two a b = more a (one b)

abbrev pub three : Tree → Tree → Tree → Trees
three a b c = more a (two b c)

abbrev pub not_of : Tree → Tree
not_of a = call (codes "not") (one a)

abbrev pub small : Tree → Tree
small a = call (codes "toLower") (one a)

-- an expression that has no value and reads nothing
abbrev pub no_value : Tree
no_value = call (codes "add") tree.none

-- ---- what surrounds an expression

-- the expressions for the item and the index of a loop
pub record Frame : Type 0 where
  pub item : Tree
  pub index : Tree

-- the run of a loop over a value at an index
abbrev pub element : Tree → Tree → Frame
element xs i = record { item = index xs i; index = i }

abbrev pub item_of : Option Frame → Tree
item_of None = no_value
item_of (Some f) = f.item

abbrev pub index_of : Option Frame → Tree
index_of None = no_value
index_of (Some f) = f.index

-- what the declarations of a file become where they are used, by the numbers of their symbols; a resource or a module
-- is used with the loop around its declaration, where there is one
pub record Scope : Type 0 where
  pub variable : ℕ → Tree
  -- what a loop of resources or modules runs over
  pub items : ℕ → Tree
  -- of a resource or a module its own name
  pub name : ℕ → List Frame → Tree
  -- the id of a resource
  pub id : ℕ → List Frame → Tree

-- a parameter by its name, which is that of its symbol
abbrev pub parameter_of : Option (List ℕ) → Tree
parameter_of None = no_value
parameter_of (Some x) = call (codes "parameters") (one (text x))

-- ---- operators

abbrev pub literal_of : Literal → Tree
literal_of (l.Number z) = int z
literal_of (l.Text t) = text t
literal_of l.True = call (codes "true") tree.none
literal_of l.False = call (codes "false") tree.none
literal_of l.Null = call (codes "null") tree.none

abbrev pub binary_of : Operator → Tree → Tree → Tree
binary_of o.Coalesce a b = call (codes "coalesce") (two a b)
binary_of o.Or a b = call (codes "or") (two a b)
binary_of o.And a b = call (codes "and") (two a b)
binary_of o.Equals a b = call (codes "equals") (two a b)
binary_of o.NotEquals a b = not_of (call (codes "equals") (two a b))
binary_of o.EqualsInsensitive a b = call (codes "equals") (two (small a) (small b))
binary_of o.NotEqualsInsensitive a b = not_of (call (codes "equals") (two (small a) (small b)))
binary_of o.Less a b = call (codes "less") (two a b)
binary_of o.LessOrEqual a b = call (codes "lessOrEquals") (two a b)
binary_of o.Greater a b = call (codes "greater") (two a b)
binary_of o.GreaterOrEqual a b = call (codes "greaterOrEquals") (two a b)
binary_of o.Add a b = call (codes "add") (two a b)
binary_of o.Subtract a b = call (codes "sub") (two a b)
binary_of o.Multiply a b = call (codes "mul") (two a b)
binary_of o.Divide a b = call (codes "div") (two a b)
binary_of o.Remainder a b = call (codes "mod") (two a b)

abbrev pub prefix_of : Prefix → Tree → Tree
prefix_of prefix.Not a = not_of a
prefix_of prefix.Negate a = call (codes "sub") (two (int (pos 0)) a)

abbrev pub try_get : Tree → Tree → Tree
try_get a i = call (codes "tryGet") (two a i)

abbrev pub member_of : Selector → Tree → List ℕ → Tree
member_of selector.Plain a name = member a name
member_of selector.Safe a name = try_get a (text name)

abbrev pub part_at : Indexing → Tree → Tree → Tree
part_at indexing.Plain a i = index a i
part_at indexing.Safe a i = try_get a i

-- ---- resources and modules

-- `reference` of a state: its properties, and a member of the whole
abbrev pub properties_of : Tree → List ℕ → Tree
properties_of id version = call (codes "reference") (two id (text version))

abbrev pub state_member_of : Tree → List ℕ → List ℕ → Tree
state_member_of id version name =
    member (call (codes "reference") (three id (text version) (text (codes "Full")))) name

-- the output of a name of the module of a name
abbrev pub output_of : Option (List ℕ) → Tree → Tree
output_of None name = no_value
output_of (Some x) name =
    member (member (member (call (codes "reference")
    (one (call (codes "resourceId") (two (text deployment_type) name)))) (codes "outputs")) x) (codes "value")

module _ (file : SourceFile) (files : List SourceFile) (sc : Scope) where
  abbrev pub named : Meaning → List Frame → Tree
  named (m.Parameter n) fs = parameter_of (symbol_name file n)
  named (m.Variable n) fs = sc.variable n
  named (m.Item n) fs = item_of (slice_get fs n)
  named (m.Index n) fs = index_of (slice_get fs n)

  -- a field of the resource or the module of that number
  abbrev pub field_of : ℕ → Field → List Frame → Tree
  field_of n field.Id fs = sc.id n fs
  field_of n field.Name fs = sc.name n fs
  field_of n field.Type fs = text (type_of file n).kind
  field_of n field.ApiVersion fs = text (type_of file n).version
  field_of n field.Properties fs = properties_of (sc.id n fs) (type_of file n).version
  field_of n field.Outputs fs = no_value
  field_of n (field.Other x) fs = state_member_of (sc.id n fs) (type_of file n).version x

  -- the name of the output of that number of a module
  abbrev pub output_named : Target → ℕ → Option (List ℕ)
  output_named x k = option_and_then (λ f. slice_get f.outputs k) (option_and_then (slice_get files) (file_of x))

  abbrev mutual
    pub emitted : SourceTree → List Frame → Tree
    emitted (s.name at x) fs = named x fs
    emitted (s.literal at v) fs = literal_of v
    emitted (s.interpolated at first ps) fs =
        call (codes "format") (more (text (format_text 0 first ps)) (holes_of ps fs))
    emitted (s.object at ps) fs = call (codes "createObject") (members_of ps fs)
    emitted (s.array at es) fs = call (codes "createArray") (all_of es fs)
    emitted (s.call at name es) fs = call (spelled name) (all_of es fs)
    emitted (s.instance r) fs = no_value
    emitted (s.field r at x) fs = field_of (number_of (target_of r)) x (frames_of r fs)
    emitted (s.output r at k) fs =
        output_of (output_named (target_of r) k) (sc.name (number_of (target_of r)) (frames_of r fs))
    emitted (s.member e k n) fs = member_of k (emitted e fs) n.text
    emitted (s.index e k i) fs = part_at k (emitted e fs) (emitted i fs)
    emitted (s.prefixed at p e) fs = prefix_of p (emitted e fs)
    emitted (s.binary o x y) fs = binary_of o (emitted x fs) (emitted y fs)
    emitted (s.conditional c x y) fs =
        call (codes "if") (three (emitted c fs) (emitted x fs) (emitted y fs))

    pub all_of : SourceTrees → List Frame → Trees
    all_of s.none fs = tree.none
    all_of (s.more e es) fs = more (emitted e fs) (all_of es fs)

    -- the values of the holes of a text
    pub holes_of : PieceTrees → List Frame → Trees
    holes_of s.no_piece fs = tree.none
    holes_of (s.piece e after ps) fs = more (emitted e fs) (holes_of ps fs)

    -- the names and the values of the members of an object, by turns
    pub members_of : PropertyTrees → List Frame → Trees
    members_of s.no_property fs = tree.none
    members_of (s.property at name v ps) fs = more (text name) (more (emitted_value v fs) (members_of ps fs))

    -- the value of a member; no loop is inside an expression
    pub emitted_value : ValueTree → List Frame → Tree
    emitted_value (s.plain e) fs = emitted e fs
    emitted_value (s.each l e) fs = no_value

    -- the loop around the declaration of a resource or a module, where one of its elements is used
    pub frames_of : ReachTree → List Frame → List Frame
    frames_of (s.symbol at x) fs = []
    frames_of (s.element at x e) fs = element (sc.items (number_of x)) (emitted e fs) ∷ []
