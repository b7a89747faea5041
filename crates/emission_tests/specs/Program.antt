-- A file with variables, resources and modules, and what it becomes.
use Rattle.std.specs.Prelude.{ℕ, ℤ, pos, Bool, true, false, ◌==◌, List, [], ◌∷◌, Option, Some, None, codes}
use Rattle.arm_expr.specs.Print.{printed}
use Rattle.arm_expr.specs.Tree.{Tree}
use Rattle.bicep_tree.specs.declared.leaf.Literal.TheVariants as l
use Rattle.bicep_tree.specs.declared.leaf.Name.{Name}
use Rattle.bicep_tree.specs.declared.leaf.Operator.TheVariants as o
use Rattle.bicep_resolved.specs.declared.leaf.Selector.TheVariants as selector
use Rattle.bicep_tree.specs.declared.leaf.TypeName.TheVariants as type
use Rattle.bicep_names.specs.declared.kind.Kind.{Kind}
use Rattle.bicep_names.specs.declared.kind.Kind.TheVariants as k
use Rattle.bicep_resolved.specs.declared.leaf.Field.{Field}
use Rattle.bicep_resolved.specs.declared.leaf.Field.TheVariants as f
use Rattle.bicep_resolved.specs.declared.leaf.Meaning.TheVariants as m
use Rattle.bicep_resolved.specs.declared.leaf.Target.{Target}
use Rattle.bicep_resolved.specs.declared.leaf.Target.TheVariants as t
use Rattle.bicep_resolved.specs.Source.{SourceTree, PropertyTrees, ValueTree}
use Rattle.bicep_resolved.specs.Source as s
use Rattle.bicep_declared.specs.Declarations.{BodyTree, DeclaredTree}
use Rattle.bicep_declared.specs.Declarations as d
use Rattle.bicep_meaning.specs.Files.{SourceFile, at_once}
use Rattle.bicep_emission.specs.Emitted.{Frame, emitted}
use Rattle.emitted_declarations.specs.Declared.{Emission, whole}

-- ---- expressions whose places do not matter

abbrev pub said : List ℕ → SourceTree
said x = s.literal 0 (l.Text x)

abbrev pub number : ℤ → SourceTree
number z = s.literal 0 (l.Number z)

abbrev pub p : SourceTree
p = s.name 0 (m.Parameter 0)

abbrev pub xs : SourceTree
xs = s.name 0 (m.Parameter 1)

abbrev pub variable : ℕ → SourceTree
variable n = s.name 0 (m.Variable n)

abbrev pub name_of : List ℕ → Name
name_of x = record { at = 0; text = x }

abbrev pub field : Target → Field → SourceTree
field x f = s.field (s.symbol 0 x) 0 f

abbrev pub field_at : Target → SourceTree → Field → SourceTree
field_at x e f = s.field (s.element 0 x e) 0 f

abbrev pub member_of : Target → List ℕ → SourceTree
member_of x n = field x (f.Other n)

-- `x` and `i` of the loop around
abbrev pub item : SourceTree
item = s.name 0 (m.Item 0)

abbrev pub index : SourceTree
index = s.name 0 (m.Index 0)

-- '${x}-${i}'
abbrev pub item_and_index : SourceTree
item_and_index = s.interpolated 0 [] (s.piece item (codes "-") (s.piece index [] s.no_piece))

abbrev pub equals : SourceTree → SourceTree → SourceTree
equals a b = s.binary o.Equals a b

-- ---- declarations

abbrev pub fields : List (List ℕ × SourceTree) → PropertyTrees
fields [] = s.no_property
fields (x ∷ ps) = s.property 0 x.0 (s.plain x.1) (fields ps)

abbrev pub named : SourceTree → List (List ℕ × SourceTree)
named e = (codes "name", e) ∷ []

abbrev pub body : Option SourceTree → List (List ℕ × SourceTree) → BodyTree
body c ps = record { each = None; condition = c; at = 0; fields = fields ps }

abbrev pub body_each : SourceTree → List (List ℕ × SourceTree) → BodyTree
body_each over ps = record { each = Some (s.loop 0 over); condition = None; at = 0; fields = fields ps }

abbrev pub resource : List ℕ → BodyTree → DeclaredTree
resource q b = d.a_resource 0 (record { at = 0; text = q }) false b

-- param p string
-- param xs array
-- var v = 'v'                                              with an entry
-- var w = r.properties.x                                   without an entry
-- resource r 'T.N/a@1' = { name: p }
-- resource s 'T.N/a/b@2' = { name: p }
-- resource t 'T.N/a/b/c@3' = { name: v }
-- resource u 'T.N/a/b/c@3' = { name: 'x/y/z' }
-- resource o 'T.N/a@1' = if (p == v) { name: 'o'
--   resource c 'b@4' = if (v == 'v') { name: p }
--   resource d 'b@4' = { name: 'd' }
-- }
-- resource l 'T.N/a@5' = [for (x, i) in xs: { name: '${x}-${i}' }]
-- resource h 'T.N/a/b@6' = { parent: l[1], name: 'h' }
-- module m 'f' = {}
-- module n 'f' = [for (x, i) in xs: {}]
abbrev pub declarations : List DeclaredTree
declarations =
    d.parameter 0 type.String
    ∷ d.parameter 0 type.Array
    ∷ d.variable 0 (s.plain (said (codes "v")))
    ∷ d.variable 0 (s.plain (s.member (field (t.Resource 4) f.Properties) selector.Plain (name_of (codes "x"))))
    ∷ resource (codes "T.N/a@1") (body None (named p))
    ∷ resource (codes "T.N/a/b@2") (body None (named p))
    ∷ resource (codes "T.N/a/b/c@3") (body None (named (variable 2)))
    ∷ resource (codes "T.N/a/b/c@3") (body None (named (said (codes "x/y/z"))))
    ∷ resource (codes "T.N/a@1") (body (Some (equals p (variable 2))) (named (said (codes "o"))))
    ∷ resource (codes "b@4") (body (Some (equals (variable 2) (said (codes "v")))) (named p))
    ∷ resource (codes "b@4") (body None (named (said (codes "d"))))
    ∷ resource (codes "T.N/a@5") (body_each xs (named item_and_index))
    ∷ resource (codes "T.N/a/b@6") (body None
    ((codes "parent", s.instance (s.element 0 (t.ResourceLoop 11) (number (pos 1)))) ∷ named (said (codes "h"))))
    ∷ d.a_module 0 (body None [])
    ∷ d.a_module 0 (body_each xs []) ∷ []

abbrev pub symbol : List ℕ → Kind → ℕ × List ℕ × Kind
symbol x kind = (0, x, kind)

abbrev pub symbols : List (ℕ × List ℕ × Kind)
symbols =
    symbol (codes "p") k.Parameter
    ∷ symbol (codes "xs") k.Parameter
    ∷ symbol (codes "v") k.Variable
    ∷ symbol (codes "w") k.Variable
    ∷ symbol (codes "r") (k.Resource None)
    ∷ symbol (codes "s") (k.Resource None)
    ∷ symbol (codes "t") (k.Resource None)
    ∷ symbol (codes "u") (k.Resource None)
    ∷ symbol (codes "o") (k.Resource None)
    ∷ symbol (codes "c") (k.Resource (Some 8))
    ∷ symbol (codes "d") (k.Resource (Some 8))
    ∷ symbol (codes "l") (k.ResourceLoop None)
    ∷ symbol (codes "h") (k.Resource None)
    ∷ symbol (codes "m") (k.Module 1)
    ∷ symbol (codes "n") (k.ModuleLoop 1) ∷ []

abbrev pub main : SourceFile
main = record {
  symbols = symbols;
  declared = record { declarations = declarations; outputs = [] };
  outputs = [];
  modules = 13 ∷ 14 ∷ [];
  has_entry = λ n. n == 2;
  accepts = λ n j. true;
  batches = at_once;
}

-- the file of the modules, which has an output
abbrev pub other : SourceFile
other = record {
  symbols = [];
  declared = record { declarations = []; outputs = [] };
  outputs = codes "y" ∷ [];
  modules = [];
  has_entry = λ n. false;
  accepts = λ n j. true;
  batches = at_once;
}

abbrev pub files : List SourceFile
files = main ∷ other ∷ []

-- what its declarations become
abbrev pub all : Emission
all = whole main files

-- the text of what an expression becomes outside of loops
abbrev pub shown : SourceTree → List ℕ
shown e = printed (emitted main files all.scope e [])
