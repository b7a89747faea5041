-- The parameters, the variables and the outputs of the template of a file.
use Rattle.std.specs.Prelude.{◌≡◌, ◌++◌, ℕ, Bool, true, false, List, [], ◌∷◌, Option, Some, None, is_some, slice_get}
use Rattle.std.specs.Prelude.{length, option_map, slice_index_or, if◌then◌else◌}
use Rattle.arm_value.specs.Json.{Json}
use Rattle.arm_value.specs.View.{json}
use Rattle.arm_value.specs.declared.value.Value.{Value}
use Rattle.template_parts.specs.declared.content.Content.{Content}
use Rattle.template_parts.specs.declared.content.Content.TheVariants as content
use Rattle.template_parts.specs.declared.output.Output.{Output}
use Rattle.template_parts.specs.declared.parameter.Parameter.{Parameter}
use Rattle.template_parts.specs.declared.variable.Variable.{Variable}
use Rattle.named_parts.specs.Found.{found}
use Rattle.named_parts.specs.Order.{AreInOrder, inserted}
use Rattle.bicep_names.specs.declared.kind.Kind.{Kind}
use Rattle.bicep_resolved.specs.Source.{SourceTree, ValueTree}
use Rattle.bicep_declared.specs.Declarations.{OutputTree}
use Rattle.bicep_meaning.specs.Files.{declaration, symbol_name, symbol_kind}
use Rattle.bicep_meaning.specs.Instances.{is_parameter, parameter_named, variable_by, variable_named, output_folded}
use Rattle.emitted_values.specs.Values.{AreBoth, IsTree}
use Rattle.emitted_values.specs.Files.{IsVariable, IsOutput, default_at}
use Rattle.emitted_values.specs.Buildable.{MayBeBuilt, TreeMayBeBuilt}
use Rattle.emitted_values.specs.Metadata.{metadata_at}
use Rattle.emitted_values.specs.Seen.{Shape, file_in, files_in}
use Rattle.emitted_values.specs.Filled.{emission_sight}
use Rattle.emitted_values.specs.Sight.{tree, value}
use Rattle.file_lists.specs.Found.{Differ, IsPart, sought, declared_before}

-- ---- names

abbrev pub symbol_text : ℕ × List ℕ × Kind → List ℕ
symbol_text e = e.1

abbrev pub output_text : List ℕ → List ℕ
output_text o = o

abbrev pub parameter_name : Parameter → List ℕ
parameter_name p = p.name

abbrev pub variable_name : Variable → List ℕ
variable_name v = v.name

abbrev pub output_name : Output → List ℕ
output_name o = o.name

-- ---- variables

-- whether a loop gives the value
abbrev pub is_loop : Content → Bool
is_loop (content.Value v) = false
is_loop (content.Copy count input) = true

-- whether loops give the values of all of these
abbrev pub AllLoop : Bool → List Variable → Type 0
AllLoop b [] = Unit {0}
AllLoop b (v ∷ vs) = (is_loop v.content ≡ b) × AllLoop b vs

-- variables whose values no loop gives, in the order of their names, and then those that loops give
pub record AreDivided (vs : List Variable) : Type 0 where
  pub plain : List Variable
  pub loops : List Variable
  pub whole : vs ≡ plain ++ loops
  pub order : AreInOrder variable_name plain
  pub no_loop : AllLoop false plain
  pub all_loop : AllLoop true loops

-- both lists with one variable more
abbrev pub IsDivided : Bool → Variable → List Variable → List Variable → List Variable × List Variable → Type 0
IsDivided false v ps ls r = (r.0 ≡ inserted variable_name v ps) × (r.1 ≡ ls)
IsDivided true v ps ls r = (r.0 ≡ ps) × (r.1 ≡ ls ++ v ∷ [])

abbrev pub AreGrown : Option Variable → List Variable → List Variable → List Variable × List Variable → Type 0
AreGrown None ps ls r = (r.0 ≡ ps) × (r.1 ≡ ls)
AreGrown (Some v) ps ls r = IsDivided (is_loop v.content) v ps ls r

module _ (s : Shape) where
  -- the variable of a number, where it has an entry
  abbrev pub entry_at : ℕ → Option ValueTree
  entry_at n = variable_by (file_in s) n (declaration (file_in s) n)

  -- both lists, and then the variable of a number
  abbrev pub IsNextVariable : ℕ → List Variable → List Variable → List Variable × List Variable → Type 0
  IsNextVariable n ps ls r =
      (o : Option Variable)
      × (IsPart variable_name (IsVariable (files_in s) (file_in s)) (symbol_name (file_in s) n) (entry_at n) o
      × AreGrown o ps ls r)

  abbrev pub AreVariables : List Variable → Type 0
  AreVariables vs =
      (x : List ℕ) → AreBoth (IsVariable (files_in s) (file_in s)) (variable_named x (file_in s))
      (found variable_name x vs)

  -- how many symbols of the file are variables that have an entry
  abbrev pub variable_count : ℕ
  variable_count = declared_before entry_at (length (file_in s).declared.declarations)

  abbrev pub VariablesFit : Type 0
  VariablesFit =
      (n : ℕ) (x : List ℕ) (v : ValueTree) → entry_at n ≡ Some v → symbol_name (file_in s) n ≡ Some x
      → MayBeBuilt (value (emission_sight s) (Some x) v [])

  -- ---- outputs

  abbrev pub output_at : ℕ → Option OutputTree
  output_at n = slice_get (file_in s).declared.outputs n

  abbrev pub AreOutputs : List Output → Type 0
  AreOutputs os =
      (x : List ℕ) → AreBoth (IsOutput (files_in s) (file_in s)) (output_folded (file_in s) x) (found output_name x os)

  -- the declaration of the output of a number, and its metadata
  abbrev pub noted_at : List (Option Value) → ℕ → Option (OutputTree × Option Value)
  noted_at ms n = option_map (λ o. (o, metadata_at ms n)) (output_at n)

  -- an output of a declaration, with this metadata
  pub record IsNoted (p : OutputTree × Option Value) (q : Output) : Type 0 where
    pub output : IsOutput (files_in s) (file_in s) p.0 q
    pub metadata : q.metadata ≡ p.1

  -- the output that has a name of the file after folding has the metadata of the number of this name
  abbrev pub HaveMetadata : List (Option Value) → List Output → Type 0
  HaveMetadata ms os =
      (x : List ℕ) (n : ℕ) (q : Output) → sought output_text (file_in s).outputs x ≡ Some n
      → found output_name x os ≡ Some q → q.metadata ≡ metadata_at ms n

  abbrev pub output_count : ℕ
  output_count = length (file_in s).declared.outputs

  abbrev pub OutputsFit : Type 0
  OutputsFit = (n : ℕ) (o : OutputTree) → output_at n ≡ Some o → MayBeBuilt (value (emission_sight s) None o.value [])

  -- ---- parameters

  abbrev pub parameter_at : ℕ → Option ℕ
  parameter_at n = if is_parameter (symbol_kind (file_in s) n) then Some n else None

  -- how many symbols of the file are parameters
  abbrev pub parameter_count : ℕ
  parameter_count = declared_before parameter_at (length (file_in s).symbols)

  abbrev pub default_of : ℕ → Option SourceTree
  default_of n = default_at (files_in s) (file_in s) n

  abbrev pub IsDefault : SourceTree → Json → Type 0
  IsDefault e j = IsTree (tree (emission_sight s) e []) j

  abbrev pub DefaultsFit : Type 0
  DefaultsFit = (n : ℕ) (e : SourceTree) → default_of n ≡ Some e → TreeMayBeBuilt (tree (emission_sight s) e [])

  -- the parameter that a list has at the number of a symbol, with the default of its declaration
  pub record IsCompleted (rule : Option Parameter) (n : ℕ) (q : Parameter) : Type 0 where
    pub default : AreBoth (λ e v. IsDefault e (json v)) (default_of n) q.default_value
    pub is : (p : Parameter) × ((rule ≡ Some p) × (q ≡ record p { default_value = q.default_value }))

  abbrev pub rule_at : List (Option Parameter) → ℕ → Option Parameter
  rule_at rs n = slice_index_or rs n None

  abbrev pub AreParameters : List (Option Parameter) → List Parameter → Type 0
  AreParameters rs ps =
      (x : List ℕ) → AreBoth (λ n q. IsCompleted (rule_at rs n) n q) (parameter_named x (file_in s))
      (found parameter_name x ps)

  -- the list has a parameter for each symbol that is one, with its name
  pub record AreRules (rs : List (Option Parameter)) : Type 0 where
    pub there : (n : ℕ) → is_some (rule_at rs n) ≡ is_parameter (symbol_kind (file_in s) n)
    pub names : (n : ℕ) (p : Parameter) → rule_at rs n ≡ Some p → symbol_name (file_in s) n ≡ Some p.name

  -- ---- names that differ

  abbrev pub SymbolsDiffer : Type 0
  SymbolsDiffer = Differ symbol_text (file_in s).symbols

  abbrev pub OutputsDiffer : Type 0
  OutputsDiffer = Differ output_text (file_in s).outputs
