-- Words for expressions whose places do not matter.
use Rattle.std.specs.Prelude.{ℕ, ℤ, zero, suc, List, [], ◌∷◌}
use Rattle.bicep_tree.specs.declared.leaf.Indexing.TheVariants as indexing
use Rattle.bicep_tree.specs.declared.leaf.Literal.TheVariants as l
use Rattle.bicep_tree.specs.declared.leaf.Name.{Name}
use Rattle.bicep_tree.specs.declared.leaf.Prefix.TheVariants as prefix
use Rattle.bicep_resolved.specs.declared.leaf.Field.{Field}
use Rattle.bicep_resolved.specs.declared.leaf.Meaning.TheVariants as m
use Rattle.bicep_resolved.specs.declared.leaf.Selector.TheVariants as selector
use Rattle.bicep_resolved.specs.declared.leaf.Target.{Target}
use Rattle.bicep_resolved.specs.Source.{SourceTree, SourceTrees, PropertyTrees}
use Rattle.bicep_resolved.specs.Source as s

abbrev pub said : List ℕ → SourceTree
said t = s.literal 0 (l.Text t)

abbrev pub number : ℤ → SourceTree
number z = s.literal 0 (l.Number z)

abbrev pub yes : SourceTree
yes = s.literal 0 l.True

abbrev pub no : SourceTree
no = s.literal 0 l.False

abbrev pub nothing : SourceTree
nothing = s.literal 0 l.Null

abbrev pub parameter : ℕ → SourceTree
parameter n = s.name 0 (m.Parameter n)

abbrev pub variable : ℕ → SourceTree
variable n = s.name 0 (m.Variable n)

-- the item and the index of the nearest loop
abbrev pub item : SourceTree
item = s.name 0 (m.Item 0)

abbrev pub index : SourceTree
index = s.name 0 (m.Index 0)

abbrev pub all_of : List SourceTree → SourceTrees
all_of [] = s.none
all_of (e ∷ es) = s.more e (all_of es)

abbrev pub array : List SourceTree → SourceTree
array es = s.array 0 (all_of es)

abbrev pub call : List ℕ → List SourceTree → SourceTree
call f es = s.call 0 f (all_of es)

abbrev pub fields : List (List ℕ × SourceTree) → PropertyTrees
fields [] = s.no_property
fields (p ∷ ps) = s.property 0 p.0 (s.plain p.1) (fields ps)

abbrev pub object : List (List ℕ × SourceTree) → SourceTree
object ps = s.object 0 (fields ps)

abbrev pub name_of : List ℕ → Name
name_of t = record { at = 0; text = t }

abbrev pub member : SourceTree → List ℕ → SourceTree
member e n = s.member e selector.Plain (name_of n)

abbrev pub safe_member : SourceTree → List ℕ → SourceTree
safe_member e n = s.member e selector.Safe (name_of n)

abbrev pub at : SourceTree → SourceTree → SourceTree
at e i = s.index e indexing.Plain i

abbrev pub safe_at : SourceTree → SourceTree → SourceTree
safe_at e i = s.index e indexing.Safe i

abbrev pub minus : SourceTree → SourceTree
minus e = s.prefixed 0 prefix.Negate e

-- a field of a resource or a module, and of an element of a loop
abbrev pub field : Target → Field → SourceTree
field t f = s.field (s.symbol 0 t) 0 f

abbrev pub field_at : Target → SourceTree → Field → SourceTree
field_at t e f = s.field (s.element 0 t e) 0 f

-- an array that nests so deep
abbrev pub nested : ℕ → SourceTree
nested zero = array []
nested (suc n) = array (nested n ∷ [])
