-- What an expression of a Bicep file means: one reading of the cells of a desired state, with a value or none
-- (Microsoft Learn, "Bicep expressions").
use Rattle.std.specs.Prelude.{ℕ, Bool, List, [], ◌∷◌, ◌++◌, Option, Some, None, codes, slice_get, option_and_then}
use Rattle.std.specs.List.{flat_map}
use Rattle.function_prints.specs.Json.{Json, text, Member}
use Rattle.function_prints.specs.Look.{fold, look}
use Rattle.deploy_cells.specs.Id.{folded, text_of}
use Rattle.deploy_cells.specs.Place.{Place}
use Rattle.deploy_cells.specs.ResourceId.{ResourceId}
use Rattle.arm_env.specs.Object.{object_of}
use Rattle.function_prints.specs.Printed.{printed}
use Rattle.reading.specs.Reading.{done, pure, none, read, continued}
use Rattle.deploy_cells.specs.Cells.{step, parameter, output, deployments, state}
use Rattle.deploy_cells.specs.Guarded.{Reads}
use Rattle.deploy_cells.specs.Listing.{Sought, found, left_away, not_here, sought}
use Rattle.deploy_cells.specs.Puts.{key_at, key_formed}
use Rattle.deploy_cells.specs.Same.{same_id}
use Rattle.bicep_resolved.specs.declared.leaf.Field.{Field}
use Rattle.bicep_resolved.specs.declared.leaf.Field.TheVariants as field
use Rattle.bicep_resolved.specs.declared.leaf.Meaning.{Meaning}
use Rattle.bicep_resolved.specs.declared.leaf.Meaning.TheVariants as m
use Rattle.bicep_resolved.specs.declared.leaf.Target.{Target}
use Rattle.bicep_resolved.specs.declared.leaf.Target.TheVariants as t
use Rattle.bicep_resolved.specs.Source.{SourceTree, SourceTrees, PieceTrees, ReachTree, PropertyTrees, ValueTree}
use Rattle.bicep_resolved.specs.Source as s
use Rattle.bicep_resolved.specs.Target.{number_of, target_of}
use Rattle.bicep_meaning.specs.Files.{SourceFile, symbol_name, type_of}
use Rattle.bicep_meaning.specs.Rows.{capped, all, literal_value, operated, conditional_value}
use Rattle.bicep_meaning.specs.Rows.{prefix_value, member_value}
use Rattle.bicep_meaning.specs.Rows.{index_value, called, array_of, by_both}
use Rattle.bicep_meaning.specs.Around.{Here, Frame, element, item_of, index_of, looped, Around}
use Rattle.deploy_cells.specs.Members.{deployment_type}

-- ---- names

-- the entry of the parameter of that number
unfoldable pub parameter_entry : Here → ℕ → Reads Json
parameter_entry here n = continued (done (symbol_name here.file n)) (λ x. read (parameter here.at (fold x)))

abbrev pub named : Here → Around → Meaning → List Frame → Reads Json
named here a (m.Parameter n) fs = parameter_entry here n
named here a (m.Variable n) fs = a.variable n
named here a (m.Item n) fs = item_of (slice_get fs n)
named here a (m.Index n) fs = index_of (slice_get fs n)

-- ---- fields of resources

abbrev pub id_text : Reads ResourceId → Reads Json
id_text r = continued r (λ i. pure (text (text_of i)))

-- a member of the state at the key of an id
unfoldable pub state_member : List ℕ → Reads ResourceId → Reads Json
state_member name r = continued r (λ i. continued (read (state (folded i))) (λ j. done (look name j)))

-- a field of the resource or the module of that number. A module has its name alone
abbrev pub field_value : Here → Around → ℕ → Field → List Frame → Reads Json
field_value here a n field.Id fs = id_text (a.id n fs)
field_value here a n field.Name fs = a.name n fs
field_value here a n field.Type fs = pure (text (type_of here.file n).kind)
field_value here a n field.ApiVersion fs = pure (text (type_of here.file n).version)
field_value here a n field.Properties fs = state_member (codes "properties") (a.id n fs)
field_value here a n field.Outputs fs = none
field_value here a n (field.Other x) fs = state_member x (a.id n fs)

-- ---- outputs of modules

-- the key of a module, by its name
abbrev pub module_key : Place → Json → Option ResourceId
module_key place (text n) = key_formed place deployment_type n
module_key place j = None

-- the file of a module
abbrev pub file_of : Target → Option ℕ
file_of (t.Resource n) = None
file_of (t.ResourceLoop n) = None
file_of (t.Module n file) = Some file
file_of (t.ModuleLoop n file) = Some file

abbrev pub program_file : Here → Option ℕ → Option SourceFile
program_file here o = option_and_then (slice_get here.files) o

-- the name of the output of that number of a module
abbrev pub output_name : Here → Target → ℕ → Option (List ℕ)
output_name here x k = option_and_then (λ f. slice_get f.outputs k) (program_file here (file_of x))

-- the output of a name of an instance of a module of the file
abbrev pub instance_output : Here → List ℕ → Option ℕ → ℕ → Reads Json
instance_output here x None i = none
instance_output here x (Some n) i = read (output (step n i ∷ here.at) x)

-- of the instance that was found
abbrev pub found_output : Here → List ℕ → Sought → Reads Json
found_output here x (found k i) = instance_output here x (slice_get here.file.modules k) i
found_output here x left_away = none
found_output here x not_here = none

-- whether a module of that name has the key
abbrev pub has_key : Place → ResourceId → List ℕ → Bool
has_key place key n = same_id key (key_at place deployment_type n)

-- the output of a name of the included module of the file that has the key
unfoldable pub output_at : Here → List ℕ → ResourceId → Reads Json
output_at here x key =
    continued (read (deployments here.at)) (λ j. found_output here (fold x) (sought (has_key here.place key) j))

-- the output of a name of the included module of the file that has the name
unfoldable pub output_value : Here → Option (List ℕ) → Reads Json → Reads Json
output_value here x name =
    continued (done x) (λ o. continued name (λ j. continued (done (module_key here.place j)) (output_at here o)))

-- ---- expressions

-- a value printed, and the characters after it
abbrev pub printed_before : List ℕ → Reads Json → Reads (List ℕ)
printed_before after r = continued r (λ j. pure (printed j ++ after))

abbrev pub joined : List (List ℕ) → List ℕ
joined ts = flat_map (λ t. t) ts

-- a member of an object
abbrev pub member_of : List ℕ → Reads Json → Reads Member
member_of name r = continued r (λ j. pure (name, j))

module _ (here : Here) (a : Around) where
  abbrev mutual
    -- the value of an expression, also where it nests too deep; `fs` are the loops around, the nearest first
    pub bare : SourceTree → List Frame → Reads Json
    bare (s.name at x) fs = named here a x fs
    bare (s.literal at v) fs = pure (literal_value v)
    bare (s.interpolated at first ps) fs =
        continued (all (texts ps fs)) (λ ts. pure (text (first ++ joined ts)))
    bare (s.object at ps) fs = continued (all (members ps fs)) (λ ms. pure (object_of ms))
    bare (s.array at es) fs = continued (all (values es fs)) (λ vs. pure (array_of vs))
    bare (s.call at name es) fs = called here.place name (values es fs)
    bare (s.instance r) fs = none
    bare (s.field r at x) fs = field_value here a (number_of (target_of r)) x (frames r fs)
    bare (s.output r at k) fs =
        output_value here (output_name here (target_of r) k) (a.name (number_of (target_of r)) (frames r fs))
    bare (s.member e k n) fs = continued (capped (bare e fs)) (λ j. done (member_value k j (text n.text)))
    bare (s.index e k i) fs = by_both (index_value k) (capped (bare e fs)) (capped (bare i fs))
    bare (s.prefixed at p e) fs = continued (capped (bare e fs)) (λ j. done (prefix_value p j))
    bare (s.binary o x y) fs = operated o (capped (bare x fs)) (capped (bare y fs))
    bare (s.conditional c x y) fs =
        conditional_value (capped (bare c fs)) (capped (bare x fs)) (capped (bare y fs))

    pub values : SourceTrees → List Frame → List (Reads Json)
    values s.none fs = []
    values (s.more e es) fs = capped (bare e fs) ∷ values es fs

    -- the values of the holes of a text, printed, each with the characters after it
    pub texts : PieceTrees → List Frame → List (Reads (List ℕ))
    texts s.no_piece fs = []
    texts (s.piece e after ps) fs = printed_before after (capped (bare e fs)) ∷ texts ps fs

    -- the members of an object
    pub members : PropertyTrees → List Frame → List (Reads Member)
    members s.no_property fs = []
    members (s.property at name v ps) fs = member_of name (capped (bare_value v fs)) ∷ members ps fs

    -- an expression, or the array of the values of the body of a loop
    pub bare_value : ValueTree → List Frame → Reads Json
    bare_value (s.plain e) fs = bare e fs
    bare_value (s.each (s.loop at xs) e) fs = looped (capped (bare xs fs)) (λ f. capped (bare e (f ∷ fs)))

    -- the loop around the declaration of a resource or a module, where one of its elements is used
    pub frames : ReachTree → List Frame → List Frame
    frames (s.symbol at x) fs = []
    frames (s.element at x e) fs = element (a.items (number_of x)) (capped (bare e fs)) ∷ []

  -- the value of an expression
  abbrev pub value : SourceTree → List Frame → Reads Json
  value e fs = capped (bare e fs)

  -- the value of a variable, an output or a property
  abbrev pub value_of : ValueTree → List Frame → Reads Json
  value_of v fs = capped (bare_value v fs)
