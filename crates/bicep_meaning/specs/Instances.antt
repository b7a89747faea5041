-- The desired states of a program: what each cell of its files, resources and modules is, by others.
use Rattle.std.specs.Prelude.{ℕ, pos, nat_le, Bool, true, false, List, [], ◌∷◌, Option, Some, None, bytes_eq}
use Rattle.std.specs.Prelude.{codes, position}
use Rattle.std.specs.Prelude.{slice_get, is_some, option_map, option_and_then, if◌then◌else◌}
use Rattle.function_prints.specs.Json.{Json, bool, int, text, array, object, Member}
use Rattle.function_prints.specs.Look.{fold}
use Rattle.deploy_cells.specs.Place.{Place}
use Rattle.deploy_cells.specs.ResourceId.{ResourceId}
use Rattle.function_prints.specs.Sizes.{size}
use Rattle.reading.specs.Reading.{done, pure, read, continued}
use Rattle.deploy_cells.specs.Cells.{Step, Position, World, Cell, parameter, variable, offered, output, count, included, name, deployments, state}
use Rattle.deploy_cells.specs.Guarded.{Reads, Meaning, there_if, itself, guarded}
use Rattle.deploy_cells.specs.Listing.{listing_value}
use Rattle.deploy_cells.specs.Puts.{Kind, Kinds, Bodies, key_formed, Desired, IsDesired}
use Rattle.bicep_declared.specs.Kind as symbols
use Rattle.bicep_declared.specs.Kind.TheVariants as k
use Rattle.bicep_resolved.specs.TypeName.{TypeName}
use Rattle.bicep_resolved.specs.TypeName.TheVariants as type
use Rattle.bicep_resolved.specs.Source.{SourceTree, PropertyTrees, ValueTree, LoopTree, field_named}
use Rattle.bicep_resolved.specs.Source as s
use Rattle.bicep_declared.specs.Declarations.{BodyTree, DeclaredTree, OutputTree}
use Rattle.bicep_declared.specs.Declarations as d
use Rattle.bicep_meaning.specs.Files.{SourceFile, symbol_kind, declaration, type_of}
use Rattle.bicep_meaning.specs.Around.{Here, Frame, run_at}
use Rattle.bicep_meaning.specs.Meaning.{value, value_of}
use Rattle.bicep_meaning.specs.Declared.{whole}
use Rattle.foundation.specs.Options.{or_else}
use Rattle.deploy_cells.specs.Members.{deployment_type}

-- a program: its files, the main file first; the values that are given for parameters; and where it is deployed
pub record SourceProgram : Type 0 where
  pub files : List SourceFile
  pub given : List Member
  pub place : Place

-- ---- files

abbrev pub module_of : symbols.Kind → Option ℕ
module_of (k.Module file) = Some file
module_of (k.ModuleLoop file) = Some file
module_of x = None

-- the file of the module of a number
abbrev pub module_file : List SourceFile → ℕ → SourceFile → Option SourceFile
module_file fs n f = option_and_then (slice_get fs) (option_and_then module_of (symbol_kind f n))

-- the file of the instance at a position
unfoldable pub file_at : List SourceFile → Position → Option SourceFile
file_at fs [] = slice_get fs 0
file_at fs (s ∷ p) = option_and_then (module_file fs s.resource) (file_at fs p)

abbrev pub with_deployment : Place → Json → Option Place
with_deployment place (text n) = Some (record place { deployment = n })
with_deployment place j = None

-- the place of an instance of a file: that of the program, with the name of the module
abbrev pub place_at : Place → Position → Reads Place
place_at place [] = pure place
place_at place (s ∷ p) = continued (read (name p s)) (λ j. done (with_deployment place j))

-- ---- what is found by a name

-- the first of these of which it is true
abbrev pub first_of : {A : Type 0} → (A → Bool) → List A → Option A
first_of test [] = None
first_of test (x ∷ xs) = if test x then Some x else first_of test xs

-- the number of the symbol of that folded name
abbrev pub symbol_folded : SourceFile → List ℕ → Option ℕ
symbol_folded f x = position (λ e. bytes_eq x (fold e.1)) f.symbols

abbrev pub is_parameter : Option symbols.Kind → Bool
is_parameter (Some k.Parameter) = true
is_parameter o = false

-- the number of the parameter of that folded name
abbrev pub parameter_numbered : SourceFile → Option ℕ → Option ℕ
parameter_numbered f None = None
parameter_numbered f (Some n) = if is_parameter (symbol_kind f n) then Some n else None

abbrev pub parameter_named : List ℕ → SourceFile → Option ℕ
parameter_named x f = parameter_numbered f (symbol_folded f x)

abbrev pub variable_by : SourceFile → ℕ → Option DeclaredTree → Option ValueTree
variable_by f n (Some (d.variable at v)) = if f.has_entry n then Some v else None
variable_by f n o = None

-- what the variable of that folded name is, where it has an entry
abbrev pub variable_named : List ℕ → SourceFile → Option ValueTree
variable_named x f = option_and_then (λ n. variable_by f n (declaration f n)) (symbol_folded f x)

-- the value that is given for a parameter
abbrev pub given_for : List Member → List ℕ → Option Json
given_for ms x = option_map (λ m. m.1) (first_of (λ m. bytes_eq x (fold m.0)) ms)

-- the argument of that folded name in `params`
abbrev pub argument_named : List ℕ → PropertyTrees → Option ValueTree
argument_named x s.no_property = None
argument_named x (s.property at n v ps) = if bytes_eq x (fold n) then Some v else argument_named x ps

abbrev pub argument_in : List ℕ → Option ValueTree → Option ValueTree
argument_in x (Some (s.plain (s.object at ps))) = argument_named x ps
argument_in x o = None

-- the argument that a module has for a parameter
abbrev pub argument_of : List ℕ → Option DeclaredTree → Option ValueTree
argument_of x (Some (d.a_module at b)) = argument_in x (field_named (codes "params") b.fields)
argument_of x o = None

-- the output of that folded name
abbrev pub output_folded : SourceFile → List ℕ → Option OutputTree
output_folded f x = option_and_then (slice_get f.declared.outputs) (position (λ o. bytes_eq x (fold o)) f.outputs)

-- ---- resources and modules

-- a resource that is put, or a module: its number and its body
pub record Put : Type 0 where
  pub number : ℕ
  pub body : BodyTree
  pub kind : Kind

abbrev pub resource_kind : SourceFile → ℕ → Kind
resource_kind f n = record { type = (type_of f n).kind; api = (type_of f n).version; is_deployment = false }

-- a module is a nested deployment, whose version is always this one
abbrev pub module_kind : Kind
module_kind = record { type = deployment_type; api = codes "2022-09-01"; is_deployment = true }

abbrev pub unless_existing : Bool → Put → Option Put
unless_existing true x = None
unless_existing false x = Some x

abbrev pub put_by : SourceFile → ℕ → Option DeclaredTree → Option Put
put_by f n (Some (d.a_resource at q existing b)) =
    unless_existing existing (record { number = n; body = b; kind = resource_kind f n })
put_by f n (Some (d.a_module at b)) = Some (record { number = n; body = b; kind = module_kind })
put_by f n o = None

-- the resource that is put, or the module, of a number
abbrev pub put_of : ℕ → SourceFile → Option Put
put_of n f = put_by f n (declaration f n)

-- a module that has an argument for a parameter, and the argument
abbrev pub argument_at : List ℕ → ℕ → SourceFile → Option (Put × ValueTree)
argument_at x n f = option_and_then (λ y. option_map (λ v. (y, v)) (argument_of x (declaration f n))) (put_of n f)

-- how many instances there are: one, or as many as what the loop runs over has items
abbrev pub count_by : Option LoopTree → Reads Json → Reads Json
count_by None xs = pure (int (pos 1))
count_by (Some l) xs = continued xs (λ j. done (size (j ∷ [])))

-- the loop around the declaration of a resource or a module, at an index
abbrev pub frames_by : Reads Json → Option LoopTree → ℕ → List Frame
frames_by xs None i = []
frames_by xs (Some l) i = run_at xs i ∷ []

abbrev pub frames_of : Here → Put → ℕ → List Frame
frames_of here x i = frames_by ((whole here).items x.number) x.body.each i

-- the fields of a resource that are not `name`, `parent` or `dependsOn`
abbrev pub is_own : List ℕ → Bool
is_own x = if bytes_eq x (codes "name") then true
    else if bytes_eq x (codes "parent") then true else bytes_eq x (codes "dependsOn")

abbrev pub body_fields : PropertyTrees → PropertyTrees
body_fields s.no_property = s.no_property
body_fields (s.property at x v ps) = if is_own x then body_fields ps else s.property at x v (body_fields ps)

-- ---- rules of values

abbrev pub is_bool : Json → Bool
is_bool (bool b) = true
is_bool j = false

-- whether a value is of a type
abbrev pub is_of : TypeName → Json → Bool
is_of type.String (text t) = true
is_of type.Int (int z) = true
is_of type.Bool (bool b) = true
is_of type.Object (object ms) = true
is_of type.Array (array js) = true
is_of t j = false

abbrev pub is_typed : Json → Option OutputTree → Bool
is_typed j None = false
is_typed j (Some o) = is_of o.kind j

abbrev pub accepts_numbered : SourceFile → Json → Option ℕ → Bool
accepts_numbered f j None = false
accepts_numbered f j (Some n) = f.accepts n j

abbrev pub accepts_named : List ℕ → Json → Option SourceFile → Bool
accepts_named x j None = false
accepts_named x j (Some f) = accepts_numbered f j (parameter_named x f)

abbrev pub is_count : Json → Bool
is_count (int (pos n)) = nat_le n 800
is_count j = false

-- a text of which a key can be formed with the type
abbrev pub is_name : Place → Json → Option Kind → Bool
is_name place (text n) (Some x) = is_some (key_formed place x.type n)
is_name place j o = false

-- the value, where it meets the rule
abbrev pub if_meets : Bool → Json → Option Json
if_meets true j = Some j
if_meets false j = None

abbrev pub ruled : (Json → Bool) → Reads Json → Reads Json
ruled f r = continued r (λ j. done (if_meets (f j) j))

-- ---- cells

-- the value of an expression outside all loops, or of a loop
abbrev pub value_here : ValueTree → Here → Reads Json
value_here v here = value_of here (whole here) v []

-- the default of the parameter of that folded name
abbrev pub default_of : DeclaredTree → Option SourceTree
default_of (d.parameter_with at t e) = Some e
default_of x = None

abbrev pub default_named : List ℕ → SourceFile → Option SourceTree
default_named x f = option_and_then default_of (option_and_then (declaration f) (symbol_folded f x))

module _ (d : SourceProgram) where
  abbrev pub here_in : Position → SourceFile → Place → Here
  here_in p f place = record { at = p; place = place; file = f; files = d.files }

  -- what reads in an instance of a file
  abbrev pub in_file : Position → SourceFile → (Here → Reads Json) → Reads Json
  in_file p f r = continued (place_at d.place p) (λ place. r (here_in p f place))

  -- what reads in an instance of a file, where it has what is read
  abbrev pub of_file : {A : Type 0} → Position → (SourceFile → Option A) → (A → Here → Reads Json)
      → Option (Reads Json)
  of_file p find r = option_and_then (λ f. option_map (λ x. in_file p f (r x)) (find f)) (file_at d.files p)

  -- ---- parameters, variables and outputs

  abbrev pub default_value : Position → List ℕ → Option (Reads Json)
  default_value p x = of_file p (default_named x) (λ e here. value here (whole here) e [])

  abbrev pub argument_value : Position → Step → List ℕ → Option (Reads Json)
  argument_value p s x =
      of_file p (argument_at x s.resource) (λ a here. value_of here (whole here) a.1 (frames_of here a.0 s.copy))

  -- what is given for a parameter: to the main file from outside, to the file of a module by its argument
  abbrev pub given_value : Position → List ℕ → Option (Reads Json)
  given_value [] x = option_map (λ j. pure j) (given_for d.given x)
  given_value (s ∷ p) x = argument_value p s x

  -- a parameter: what is given, or else its default
  abbrev pub parameter_value : Position → List ℕ → Option (Reads Json)
  parameter_value p x =
      option_and_then (λ n. or_else (given_value p x) (default_value p x))
      (option_and_then (parameter_named x) (file_at d.files p))

  -- a variable that has an entry
  abbrev pub variable_value : Position → List ℕ → Option (Reads Json)
  variable_value p x = of_file p (variable_named x) value_here

  abbrev pub output_value : Position → List ℕ → Option (Reads Json)
  output_value p x = of_file p (λ f. output_folded f x) (λ o here. value_here o.value here)

  -- ---- resources and modules

  abbrev pub count_value : Position → ℕ → Option (Reads Json)
  count_value p n = of_file p (put_of n) (λ x here. count_by x.body.each ((whole here).items n))

  abbrev pub included_value : Position → Step → Option (Reads Json)
  included_value p s =
      of_file p (put_of s.resource) (λ x here. (whole here).condition x.number (frames_of here x s.copy))

  abbrev pub name_value : Position → Step → Option (Reads Json)
  name_value p s =
      of_file p (put_of s.resource) (λ x here. (whole here).full_name x.number (frames_of here x s.copy))

  -- the object of the fields of a resource
  abbrev pub body_value : Position → Step → Option (Reads Json)
  body_value p instance =
      of_file p (put_of instance.resource)
      (λ x here. value here (whole here) (s.object x.body.at (body_fields x.body.fields))
      (frames_of here x instance.copy))

  abbrev pub kinds : Kinds
  kinds p n = option_map (λ x. x.kind) (option_and_then (put_of n) (file_at d.files p))

  abbrev pub bodies : Bodies
  bodies p s = body_value p s

  -- what a cell is, before its rule is asked; none where there is no such cell
  unfoldable pub raw : Cell → Option (Reads Json)
  raw (parameter p x) = parameter_value p x
  raw (variable p x) = variable_value p x
  raw (offered p x) = of_file p (λ f. output_folded f x) (λ o here. pure (bool true))
  raw (output p x) = output_value p x
  raw (count p n) = count_value p n
  raw (included p s) = included_value p s
  raw (name p s) = name_value p s
  raw (deployments p) = option_map (λ f. listing_value p f.modules) (file_at d.files p)
  raw (state key) = None

  -- whether the cell may have the value: a parameter's type and decorators, an output's type, a condition that is true
  -- or false, a count from 0 to 800, and a name of which a key can be formed
  abbrev pub rule : Cell → Json → Bool
  rule (parameter p x) j = accepts_named x j (file_at d.files p)
  rule (variable p x) j = true
  rule (offered p x) j = is_bool j
  rule (output p x) j = is_typed j (option_and_then (λ f. output_folded f x) (file_at d.files p))
  rule (count p n) j = is_count j
  rule (included p s) j = is_bool j
  rule (name p s) j = is_name d.place j (kinds p s.resource)
  rule (deployments p) j = true
  rule (state key) j = true

  -- what a cell is where it is there
  unfoldable pub plain : Cell → Reads (Option Json)
  plain (state key) = itself (state key)
  plain c = there_if (option_map (ruled (rule c)) (raw c))

  -- what a cell is. A state is what it is
  unfoldable pub meaning : Meaning
  meaning c = guarded c (plain c)

  -- what a program says of a desired state, where the states at keys are those that are held
  abbrev pub desired : (ResourceId → Option Json) → Desired
  desired held = record {
    meaning = meaning;
    kinds = kinds;
    bodies = bodies;
    place = d.place;
    held = held;
  }

-- the world is a desired state of the program, but for what providers may answer
abbrev pub Satisfies : SourceProgram → (ResourceId → Option Json) → World → Type 0
Satisfies d held w = IsDesired (desired d held) w
