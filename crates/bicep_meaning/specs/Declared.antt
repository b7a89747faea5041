-- What the declarations of a file mean where they are used, by the numbers of their symbols.
use Rattle.std.specs.Prelude.{ℕ, zero, suc, length, List, [], ◌∷◌, ◌++◌, Option, Some, None, codes, slice_get}
use Rattle.std.specs.Prelude.{true, option_and_then, if◌then◌else◌}
use Rattle.function_prints.specs.Json.{Json, bool, text}
use Rattle.function_prints.specs.Look.{fold}
use Rattle.deploy_cells.specs.Id.{is_whole}
use Rattle.deploy_cells.specs.Segments.{segments, has_slash}
use Rattle.deploy_cells.specs.Place.{Place}
use Rattle.deploy_cells.specs.ResourceId.{ResourceId}
use Rattle.function_prints.specs.Printed.{printed}
use Rattle.reading.specs.Reading.{done, pure, none, read, continued, both}
use Rattle.deploy_cells.specs.Cells.{variable}
use Rattle.deploy_cells.specs.Guarded.{Reads}
use Rattle.deploy_cells.specs.Puts.{id_at}
use Rattle.bicep_resolved.specs.Source.{SourceTree, ReachTree, ValueTree, LoopTree, field_named}
use Rattle.bicep_resolved.specs.Source as s
use Rattle.bicep_resolved.specs.Target.{number_of, target_of}
use Rattle.bicep_declared.specs.Declarations.{BodyTree, DeclaredTree}
use Rattle.bicep_declared.specs.Declarations as d
use Rattle.bicep_meaning.specs.Files.{SourceFile, symbol_name, declaration, Parent}
use Rattle.bicep_meaning.specs.Files.{no_parent, inside, below}
use Rattle.bicep_meaning.specs.Files.{parent, type_of}
use Rattle.bicep_meaning.specs.Rows.{and_value}
use Rattle.bicep_meaning.specs.Around.{Here, Frame, index_of, Around}
use Rattle.bicep_meaning.specs.Meaning.{value, value_of, frames}

-- the body of a resource or a module
abbrev pub body_of : DeclaredTree → Option BodyTree
body_of (d.a_resource at q existing b) = Some b
body_of (d.a_module at b) = Some b
body_of x = None

abbrev pub body_at : SourceFile → ℕ → Option BodyTree
body_at f n = option_and_then body_of (declaration f n)

-- ---- names

-- the name of a module without a field `name`: its symbol, in a loop with `-` (45) and the index after it
abbrev pub symbol_in_loop : List ℕ → Option LoopTree → List Frame → Reads Json
symbol_in_loop x None fs = pure (text x)
symbol_in_loop x (Some l) fs = continued (index_of (slice_get fs 0)) (λ i. pure (text (x ++ 45 ∷ printed i)))

abbrev pub named_by_symbol : Option (List ℕ) → Option LoopTree → List Frame → Reads Json
named_by_symbol None l fs = none
named_by_symbol (Some x) l fs = symbol_in_loop x l fs

-- a name after that of the parent
abbrev pub name_after : Json → Json → Json
name_after up j = text (printed up ++ 47 ∷ printed j)

-- ---- ids

-- the id of a type and a name, where there is one
abbrev pub if_whole : ResourceId → Option ResourceId
if_whole i = if is_whole i then Some i else None

abbrev pub id_named : Place → List ℕ → Json → Option ResourceId
id_named place kind (text n) = if_whole (id_at place kind n)
id_named place kind j = None

-- the id of a child of this type: that of its parent, and one segment more
abbrev pub id_with : ResourceId → List ℕ → List ℕ → ResourceId
id_with up kind n = record up { types = segments kind; names = up.names ++ n ∷ [] }

abbrev pub id_after : List ℕ → ResourceId → Json → Option ResourceId
id_after kind up (text n) = if has_slash n then None else if_whole (id_with up kind n)
id_after kind up j = None

-- ---- declarations

module _ (here : Here) (a : Around) where
  abbrev pub value_or_none : Option ValueTree → List Frame → Reads Json
  value_or_none None fs = none
  value_or_none (Some v) fs = value_of here a v fs

  -- of a variable its entry, or else its expression
  abbrev pub variable_value : ℕ → Option DeclaredTree → Reads Json
  variable_value n (Some (d.variable at v)) =
      if here.file.has_entry n
      then continued (done (symbol_name here.file n)) (λ x. read (variable here.at (fold x)))
      else value_of here a v []
  variable_value n o = none

  abbrev pub over : Option LoopTree → Reads Json
  over None = none
  over (Some (s.loop at xs)) = value here a xs []

  -- what a loop of resources or modules runs over
  abbrev pub items_value : ℕ → Reads Json
  items_value n = over (option_and_then (λ b. b.each) (body_at here.file n))

  abbrev pub module_name : ℕ → BodyTree → Option ValueTree → List Frame → Reads Json
  module_name n b (Some v) fs = value_of here a v fs
  module_name n b None fs = named_by_symbol (symbol_name here.file n) b.each fs

  abbrev pub name_by : ℕ → Option DeclaredTree → List Frame → Reads Json
  name_by n (Some (d.a_resource at q existing b)) fs = value_or_none (field_named (codes "name") b.fields) fs
  name_by n (Some (d.a_module at b)) fs = module_name n b (field_named (codes "name") b.fields) fs
  name_by n o fs = none

  -- its own name
  abbrev pub name_value : ℕ → List Frame → Reads Json
  name_value n fs = name_by n (declaration here.file n) fs

  abbrev pub full_name_by : Parent → Reads Json → List Frame → Reads Json
  full_name_by no_parent own fs = own
  full_name_by (inside n) own fs = continued (both (a.full_name n []) own) (λ p. pure (name_after p.0 p.1))
  full_name_by (below r) own fs =
      continued (both (a.full_name (number_of (target_of r)) (frames here a r fs)) own)
      (λ p. pure (name_after p.0 p.1))

  -- its name after those of its parents
  abbrev pub full_name_value : ℕ → List Frame → Reads Json
  full_name_value n fs = full_name_by (parent here.file n) (name_value n fs) fs

  abbrev pub id_by : Parent → List ℕ → Reads Json → List Frame → Reads ResourceId
  id_by no_parent kind own fs = continued own (λ j. done (id_named here.place kind j))
  id_by (inside n) kind own fs = continued (both (a.id n []) own) (λ p. done (id_after kind p.0 p.1))
  id_by (below r) kind own fs =
      continued (both (a.id (number_of (target_of r)) (frames here a r fs)) own)
      (λ p. done (id_after kind p.0 p.1))

  -- the id of a resource
  abbrev pub id_of : ℕ → Option DeclaredTree → List Frame → Reads ResourceId
  id_of n (Some (d.a_resource at q existing b)) fs =
      id_by (parent here.file n) (type_of here.file n).kind (name_value n fs) fs
  id_of n o fs = none

  -- the condition of a resource that is nested in another comes after that one's, joined as by `&&`
  abbrev pub condition_by : Parent → Option SourceTree → List Frame → Reads Json
  condition_by (inside n) (Some c) fs = and_value (a.condition n []) (value here a c fs)
  condition_by (inside n) None fs = a.condition n []
  condition_by p (Some c) fs = value here a c fs
  condition_by p None fs = pure (bool true)

  abbrev pub condition_of : ℕ → Option BodyTree → List Frame → Reads Json
  condition_of n None fs = none
  condition_of n (Some b) fs = condition_by (parent here.file n) b.condition fs

  -- what each declaration means, where the others mean this
  unfoldable pub declared : Around
  declared = record {
    variable = λ n. variable_value n (declaration here.file n);
    items = items_value;
    name = name_value;
    full_name = full_name_value;
    condition = λ n fs. condition_of n (body_at here.file n) fs;
    id = λ n fs. id_of n (declaration here.file n) fs;
  }

-- nothing has a value
abbrev pub blank : Around
blank = record {
  variable = λ n. none;
  items = λ n. none;
  name = λ n fs. none;
  full_name = λ n fs. none;
  condition = λ n fs. none;
  id = λ n fs. none;
}

-- what the declarations mean through fewer than so many others
unfoldable pub around : Here → ℕ → Around
around here zero = blank
around here (suc k) = declared here (around here k)

-- what the declarations of the file mean
abbrev pub whole : Here → Around
whole here = around here (length here.file.symbols)

-- the value of an expression of the file, outside all loops
abbrev pub meaning : Here → SourceTree → Reads Json
meaning here e = value here (whole here) e []
