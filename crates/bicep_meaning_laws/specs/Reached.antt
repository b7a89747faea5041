-- The symbols to which an expression leads, and the cells of these.
use Rattle.std.specs.Prelude.{◌≡◌, ℕ, zero, suc, List, [], ◌∷◌}
use Rattle.std.specs.Prelude.{◌++◌, Option, Some, None, option_map, codes, if◌then◌else◌}
use Rattle.std.specs.List.{flat_map}
use Rattle.arm_value.specs.Json.{Json}
use Rattle.arm_value.specs.Look.{fold}
use Rattle.arm_ids.specs.Id.{folded}
use Rattle.arm_ids.specs.declared.id.ResourceId.{ResourceId}
use Rattle.reading.specs.World.{value_in, reads_in}
use Rattle.reading.specs.Knowledge.{Has}
use Rattle.deploy_cells.specs.Cells as cell
use Rattle.deploy_cells.specs.Cells.{Cell, World}
use Rattle.bicep_circles.specs.Source.{SourceTree, ValueTree, field_named}
use Rattle.bicep_meaning.specs.Declarations.{BodyTree, DeclaredTree}
use Rattle.bicep_meaning.specs.Declarations as d
use Rattle.bicep_circles.specs.Mentions.{mentions, reach_mentions, value_mentions, each_mentions}
use Rattle.bicep_meaning.specs.Files.{SourceFile, symbol_name, declaration, Parent, no_parent, inside, below, parent}
use Rattle.bicep_meaning.specs.Around.{Here, Frame}
use Rattle.bicep_meaning.specs.Meaning.{module_key, output_at}
use Rattle.bicep_meaning.specs.Declared.{around}

abbrev pub some_mentions : Option ValueTree → List ℕ
some_mentions None = []
some_mentions (Some v) = value_mentions v

-- what a resource or a module runs over, and its name
abbrev pub named_by : BodyTree → List ℕ
named_by b = each_mentions b.each ++ some_mentions (field_named (codes "name") b.fields)

-- what a use of a declaration mentions: of a variable without an entry its expression, of a resource or a module its
-- name
abbrev pub used_by : SourceFile → ℕ → Option DeclaredTree → List ℕ
used_by f n (Some (d.variable at v)) = if f.has_entry n then [] else value_mentions v
used_by f n (Some (d.a_resource at q existing b)) = named_by b
used_by f n (Some (d.a_module at b)) = named_by b
used_by f n o = []

abbrev pub parent_used : Parent → List ℕ
parent_used no_parent = []
parent_used (inside n) = n ∷ []
parent_used (below r) = reach_mentions r

-- and its parents
abbrev pub uses : SourceFile → ℕ → List ℕ
uses f n = used_by f n (declaration f n) ++ parent_used (parent f n)

-- a symbol, and those to which it leads through at most so many others
unfoldable pub led_to : SourceFile → ℕ → ℕ → List ℕ
led_to f zero n = n ∷ []
led_to f (suc k) n = n ∷ flat_map (λ m. led_to f k m) (uses f n)

-- those to which these lead
abbrev pub all_led_to : SourceFile → ℕ → List ℕ → List ℕ
all_led_to f k ns = flat_map (λ n. led_to f k n) ns

-- a resource that is among these symbols, and has an id with the key
pub record HasState (here : Here) (w : World) (M : ℕ → Type 0) (key : ResourceId) : Type 0 where
  pub symbol : ℕ
  pub is_among : M symbol
  pub limit : ℕ
  pub loops : List Frame
  pub id : ResourceId
  pub has_id : value_in w ((around here limit).id symbol loops) ≡ Some id
  pub has_key : folded id ≡ key

-- a module that is among these symbols, and the cell is read for an output of the module of its name
pub record HasOutput (here : Here) (w : World) (M : ℕ → Type 0) (c : Cell) : Type 0 where
  pub symbol : ℕ
  pub is_among : M symbol
  pub limit : ℕ
  pub loops : List Frame
  pub name : Json
  pub has_name : value_in w ((around here limit).name symbol loops) ≡ Some name
  pub key : ResourceId
  pub has_key : module_key here.place name ≡ Some key
  pub output : List ℕ
  pub is_read : Has c (reads_in w (output_at here output key))

-- a parameter or a variable that is among these symbols, by its folded name
abbrev pub HasEntry : Here → (ℕ → Type 0) → List ℕ → Type 0
HasEntry here M x = (n : ℕ) × (M n × (option_map fold (symbol_name here.file n) ≡ Some x))

-- the cell is of one of these symbols: an entry, the state of a resource, or what is read for an output of a module
abbrev pub IsOf : Here → World → (ℕ → Type 0) → Cell → Type 0
IsOf here w M (cell.parameter p x) = (p ≡ here.at) × HasEntry here M x
IsOf here w M (cell.variable p x) = (p ≡ here.at) × HasEntry here M x
IsOf here w M (cell.state key) = HasState here w M key
IsOf here w M c = HasOutput here w M c

-- the cell is of a symbol to which the expression leads
abbrev pub IsMentioned : Here → World → ℕ → SourceTree → Cell → Type 0
IsMentioned here w k e c = IsOf here w (λ n. Has n (all_led_to here.file k (mentions e))) c

-- the cell is of a symbol of the list
abbrev pub IsOfOne : Here → World → List ℕ → Cell → Type 0
IsOfOne here w ns c = IsOf here w (λ n. Has n ns) c
