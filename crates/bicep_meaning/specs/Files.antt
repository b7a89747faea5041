-- The files of a program, once their names are found, and what belongs to a symbol of a file by its number.
use Rattle.std.specs.Prelude.{ℕ, zero, suc, List, [], ◌++◌, ◌∷◌, length, Bool, Option, Some, None, option_map}
use Rattle.std.specs.Prelude.{option_and_then, slice_get, codes}
use Rattle.function_prints.specs.Json.{Json}
use Rattle.template_parts.specs.declared.looping.Batches.{Batches}
use Rattle.template_parts.specs.declared.looping.Batches.TheVariants.{Parallel}
use Rattle.bicep_misplaced.specs.Types.{divided}
use Rattle.bicep_declared.specs.Kind.{Kind}
use Rattle.bicep_declared.specs.Kind.TheVariants as k
use Rattle.bicep_resolved.specs.Source.{ReachTree, ValueTree, field_named}
use Rattle.bicep_resolved.specs.Source as s
use Rattle.bicep_declared.specs.Declarations.{DeclaredTree, DeclaredFileTree}
use Rattle.bicep_declared.specs.Declarations as d

-- a file
pub record SourceFile : Type 0 where
  -- its symbols in source order: the offset of the name, the name, and the kind
  pub symbols : List (ℕ × List ℕ × Kind)
  -- its declarations by the numbers of their symbols, and its outputs
  pub declared : DeclaredFileTree
  -- the names of its outputs
  pub outputs : List (List ℕ)
  -- the numbers of its modules, in the order in which the nested deployments of the file are listed
  pub modules : List ℕ
  -- whether a variable has an entry, by its number; one without is its expression wherever it is used
  pub has_entry : ℕ → Bool
  -- whether a parameter may have a value, by its number: the value is of its type, and its decorators allow it
  pub accepts : ℕ → Json → Bool
  -- the batches of a loop of resources or modules, by its number: its decorator `@batchSize` says how large they are
  pub batches : ℕ → Batches

-- without the decorator all instances of a loop may begin at once
abbrev pub at_once : ℕ → Batches
at_once n = Parallel

abbrev pub symbol_name : SourceFile → ℕ → Option (List ℕ)
symbol_name f n = option_map (λ x. x.1) (slice_get f.symbols n)

abbrev pub symbol_kind : SourceFile → ℕ → Option Kind
symbol_kind f n = option_map (λ x. x.2) (slice_get f.symbols n)

abbrev pub declaration : SourceFile → ℕ → Option DeclaredTree
declaration f n = slice_get f.declared.declarations n

-- ---- parents

-- what a resource is a child of: of nothing, of the resource around it, or of the one that its field `parent` names
pub data Parent : Type 0 where
  no_parent : Parent
  inside : ℕ → Parent
  below : ReachTree → Parent

abbrev pub below_value : Option ValueTree → Parent
below_value (Some (s.plain (s.instance r))) = below r
below_value v = no_parent

abbrev pub fields_parent : Option DeclaredTree → Parent
fields_parent (Some (d.a_resource at q existing b)) = below_value (field_named (codes "parent") b.fields)
fields_parent o = no_parent

abbrev pub inside_or : Option ℕ → Parent → Parent
inside_or None p = p
inside_or (Some n) p = inside n

-- the resource around one of this kind
abbrev pub around_kind : Kind → Option ℕ
around_kind (k.Resource o) = o
around_kind (k.ResourceLoop o) = o
around_kind x = None

abbrev pub parent : SourceFile → ℕ → Parent
parent f n = inside_or (option_and_then around_kind (symbol_kind f n)) (fields_parent (declaration f n))

-- ---- types

-- a type and a version
pub record Typed : Type 0 where
  pub kind : List ℕ
  pub version : List ℕ

abbrev pub typed : List ℕ → List ℕ → Typed
typed t v = record { kind = t; version = v }

-- a type text: what is before its first `@` (64), and what is after it, or else another version
abbrev pub divided_or : List ℕ → List ℕ → Option (List ℕ × List ℕ) → Typed
divided_or text v None = typed text v
divided_or text v (Some q) = typed q.0 q.1

abbrev pub read_type : List ℕ → List ℕ → Typed
read_type text v = divided_or text v (divided 64 text)

-- a nested resource: after the type of the resource around it, and with that one's version where it has none
abbrev pub nested_type : Typed → List ℕ → Typed
nested_type up text =
    typed (up.kind ++ 47 ∷ (read_type text up.version).kind) (read_type text up.version).version

abbrev pub type_text : Option DeclaredTree → List ℕ
type_text (Some (d.a_resource at q existing b)) = q.text
type_text o = []

abbrev pub type_by : (ℕ → Typed) → Option ℕ → List ℕ → Typed
type_by up None text = read_type text ([])
type_by up (Some n) text = nested_type (up n) text

-- the type and the version of a resource that is nested in fewer than so many others
unfoldable pub type_within : SourceFile → ℕ → ℕ → Typed
type_within f zero n = typed ([]) ([])
type_within f (suc k) n =
    type_by (λ m. type_within f k m) (option_and_then around_kind (symbol_kind f n)) (type_text (declaration f n))

-- the whole type of a resource, and its version
abbrev pub type_of : SourceFile → ℕ → Typed
type_of f n = type_within f (length f.symbols) n
