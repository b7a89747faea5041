-- A file with two parameters, two variables, resources and modules; a file of a module; and a world.
use Rattle.std.specs.Prelude.{ℕ, pos, ◌==◌, Bool, true, false, List, [], ◌∷◌, Option, Some, None, codes}
use Rattle.std.specs.Prelude.{if◌then◌else◌}
use Rattle.arm_value.specs.Json.{Json, int, text, array as an_array, object as an_object, row, pairs}
use Rattle.arm_ids.specs.declared.id.Place.{Place}
use Rattle.reading.specs.World.{value_in, reads_in}
use Rattle.deploy_cells.specs.Cells.{Cell, World, step}
use Rattle.deploy_cells.specs.Cells as cell
use Rattle.deploy_cells.specs.Listing.{Named, listing_json}
use Rattle.deploy_cells.specs.Puts.{key_at}
use Rattle.deploy_cells.specs.Same.{same}
use Rattle.bicep_tree.specs.declared.leaf.TypeName.TheVariants as type
use Rattle.bicep_names.specs.declared.kind.Kind.{Kind}
use Rattle.bicep_names.specs.declared.kind.Kind.TheVariants as k
use Rattle.bicep_resolved.specs.declared.leaf.Field.TheVariants as f
use Rattle.bicep_resolved.specs.declared.leaf.Target.TheVariants as t
use Rattle.bicep_resolved.specs.Source.{SourceTree, PropertyTrees}
use Rattle.bicep_resolved.specs.Source as s
use Rattle.bicep_declared.specs.Declarations.{BodyTree, DeclaredTree}
use Rattle.bicep_declared.specs.Declarations as d
use Rattle.bicep_meaning.specs.Files.{SourceFile, at_once}
use Rattle.bicep_meaning.specs.Around.{Here}
use Rattle.bicep_meaning.specs.Declared.{meaning}
use Rattle.bicep_meaning.specs.Instances.{SourceProgram}
use Rattle.meaning_tests.specs.Words.{said, number, parameter, item, index, fields, object, member, field}

abbrev pub place : Place
place = record { subscription = codes "s"; group = codes "g"; location = codes "w"; deployment = codes "d" }

abbrev pub body : List (List ℕ × SourceTree) → BodyTree
body ps = record { each = None; condition = None; at = 0; fields = fields ps }

abbrev pub body_each : SourceTree → List (List ℕ × SourceTree) → BodyTree
body_each xs ps = record { each = Some (s.loop 0 xs); condition = None; at = 0; fields = fields ps }

abbrev pub resource : List ℕ → BodyTree → DeclaredTree
resource q b = d.a_resource 0 (record { at = 0; text = q }) false b

abbrev pub symbol : List ℕ → Kind → ℕ × List ℕ × Kind
symbol x kind = (0, x, kind)

-- 'x-i' of an item and an index
abbrev pub item_and_index : SourceTree
item_and_index = s.interpolated 0 [] (s.piece item (codes "-") (s.piece index [] s.no_piece))

-- param p string
-- param list array
-- var v = ..                                               with an entry
-- var w = r.properties.x                                   without an entry
-- resource r 'T.N/a@1' = { name: 'r', size: p, resource c 'b' = { name: 'c' } }
-- resource l 'T.N/a@2' = [for (x, i) in list: { name: '${x}-${i}' }]
-- resource h 'T.N/a/b@3' = { parent: l[0], name: 'h' }
-- module m 'f' = { params: { Q: p } }
-- module n 'f' = [for x in list: {}]
abbrev pub declarations : List DeclaredTree
declarations =
    d.parameter 0 type.String
    ∷ d.parameter 0 type.Array
    ∷ d.variable 0 (s.plain (said (codes "v")))
    ∷ d.variable 0 (s.plain (member (field (t.Resource 4) f.Properties) (codes "x")))
    ∷ resource (codes "T.N/a@1") (body ((codes "name", said (codes "r")) ∷ (codes "size", parameter 0) ∷ []))
    ∷ resource (codes "b") (body ((codes "name", said (codes "c")) ∷ []))
    ∷ resource (codes "T.N/a@2") (body_each (parameter 1) ((codes "name", item_and_index) ∷ []))
    ∷ resource (codes "T.N/a/b@3") (body ((codes "parent", s.instance (s.element 0 (t.ResourceLoop 6) (number (pos 0))))
    ∷ (codes "name", said (codes "h")) ∷ []))
    ∷ d.a_module 0 (body ((codes "params", object ((codes "Q", parameter 0) ∷ [])) ∷ []))
    ∷ d.a_module 0 (body_each (parameter 1) []) ∷ []

abbrev pub symbols : List (ℕ × List ℕ × Kind)
symbols =
    symbol (codes "p") k.Parameter
    ∷ symbol (codes "List") k.Parameter
    ∷ symbol (codes "v") k.Variable
    ∷ symbol (codes "w") k.Variable
    ∷ symbol (codes "r") (k.Resource None)
    ∷ symbol (codes "c") (k.Resource (Some 4))
    ∷ symbol (codes "l") (k.ResourceLoop None)
    ∷ symbol (codes "h") (k.Resource None)
    ∷ symbol (codes "m") (k.Module 1)
    ∷ symbol (codes "n") (k.ModuleLoop 1) ∷ []

-- whether a value has the type of a parameter of the file
abbrev pub accepted : ℕ → Json → Bool
accepted n (text t) = n == 0
accepted n (an_array js) = n == 1
accepted n j = false

abbrev pub main : SourceFile
main = record {
  symbols = symbols;
  declared = record { declarations = declarations; outputs = [] };
  outputs = [];
  modules = 8 ∷ 9 ∷ [];
  has_entry = λ n. n == 2;
  accepts = accepted;
  batches = at_once;
}

-- param q string = 'default'
-- output O string = '${q}!'
abbrev pub inner : SourceFile
inner = record {
  symbols = symbol (codes "q") k.Parameter ∷ [];
  declared = record {
    declarations = d.parameter_with 0 type.String (said (codes "default")) ∷ [];
    outputs = record {
      at = 0;
      kind = type.String;
      value = s.plain (s.interpolated 0 [] (s.piece (parameter 0) (codes "!") s.no_piece));
    } ∷ [];
  };
  outputs = codes "O" ∷ [];
  modules = [];
  has_entry = λ n. false;
  accepts = accepted;
  batches = at_once;
}

abbrev pub here : Here
here = record { at = []; place = place; file = main; files = main ∷ inner ∷ [] }

abbrev pub program : SourceProgram
program = record { files = main ∷ inner ∷ []; given = (codes "P", text (codes "one")) ∷ []; place = place }

abbrev pub first_of : Cell → List (Cell × Json) → Option Json
first_of c [] = None
first_of c (e ∷ es) = if same c e.0 then Some e.1 else first_of c es

abbrev pub state_of_r : Json
state_of_r =
    an_object (pairs ((codes "location", text (codes "w"))
    ∷ (codes "properties", an_object (pairs ((codes "x", int (pos 7)) ∷ []))) ∷ []))

abbrev pub key_of_r : Cell
key_of_r = cell.state (key_at place (codes "T.N/a") (codes "r"))

abbrev pub named : List ℕ → Bool → Named
named x b = record { name = x; included = b }

-- the modules of the file by their names
abbrev pub listing : Json
listing =
    listing_json
    ((named (codes "M") true ∷ []) ∷ (named (codes "n-0") false ∷ named (codes "n-1") true ∷ []) ∷ [])

-- a world with some entries
abbrev pub world : World
world c =
    first_of c
    ((cell.parameter [] (codes "p"), text (codes "one"))
    ∷ (cell.parameter [] (codes "list"), an_array (row (text (codes "x") ∷ text (codes "y") ∷ [])))
    ∷ (cell.variable [] (codes "v"), text (codes "v"))
    ∷ (key_of_r, state_of_r)
    ∷ (cell.deployments [], listing)
    ∷ (cell.output (step 8 0 ∷ []) (codes "o"), text (codes "of m"))
    ∷ (cell.output (step 9 1 ∷ []) (codes "o"), text (codes "of n")) ∷ [])

-- the value of an expression of the file in this world, and what it reads
abbrev pub shown : SourceTree → Option Json
shown e = value_in world (meaning here e)

abbrev pub looks : SourceTree → List Cell
looks e = reads_in world (meaning here e)
