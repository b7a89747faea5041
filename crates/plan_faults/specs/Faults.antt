-- Why a deployment has no plan.
use Rattle.std.specs.Prelude.{◌≡◌, ◌⊎◌, ◌<◌, ℕ, pos, true, List, [], ◌∷◌, map, length, Some, None}
use Rattle.std.specs.Prelude.{option_and_then, codes}
use Rattle.arm_value.specs.Json.{Json, int, text}
use Rattle.arm_value.specs.Look.{fold}
use Rattle.arm_ids.specs.Held.{HeldResource}
use Rattle.arm_ids.specs.declared.id.ResourceId.{ResourceId}
use Rattle.reading.specs.Knowledge.{value, no_value, waits, told, blanked}
use Rattle.template_parts.specs.declared.content.Argument.{Argument}
use Rattle.template_parts.specs.declared.fault.BindFault.{BindFault}
use Rattle.template_parts.specs.declared.fault.BindFault.TheVariants.{MissingParameter, ExtraParameter}
use Rattle.template_parts.specs.declared.limit.Which.{Which}
use Rattle.template_parts.specs.declared.limit.Which.TheVariants.{Count, Instances}
use Rattle.template_parts.specs.declared.mode.Mode.{Mode}
use Rattle.template_parts.specs.declared.parameter.Parameter.{Parameter}
use Rattle.template_tree.specs.Tree.{TemplateTree}
use Rattle.deploy_cells.specs.Cells.{Step, Position, Cell, parameter, count, name, deployments, is_admitted}
use Rattle.deploy_cells.specs.Guarded.{Reads}
use Rattle.deploy_cells.specs.Puts.{key_formed}
use Rattle.plan_cells.specs.Resources.{Nested}
use Rattle.plan_cells.specs.Scopes.{template_at, resource_of, nested_of}
use Rattle.plan_cells.specs.Sites.{parameter_named}
use Rattle.plan_cells.specs.Known.{Table}
use Rattle.plan_cells.specs.Meaning.{Deployment, meaning, is_own, parameter_value}
use Rattle.plan_cells.specs.Children.{Has}
use Rattle.plan_cells.specs.Start.{IsStart, start_world}
use Rattle.plan_cells.specs.Tasks.{Work, work}
use Rattle.plan_filling.specs.Limits.{IsOverrun}
use Rattle.plan_refusals.specs.Refusals.{is_needed, AreTitled}
use Rattle.plan_refusals.specs.Keys.{ShareKey, ShareNestedKey}
use Rattle.plan_paths.specs.Texts.{a_position, instance_text}
use Rattle.plan_paths.specs.Resources.{below}
use Rattle.plan_paths.specs.CellPaths.{cell_path, member_path}
use Rattle.plan_faults.specs.Rules.{broken}
use Rattle.plan_faults.specs.Known.{AreKnown, WaitsForState, IsCellAt, IsAskedAt, IsNeededAt}
use Rattle.plan_faults.specs.Dependencies.{IsUnknown, IsAmbiguous}
use Rattle.plan_faults.specs.declared.fault.PlanFault.{PlanFault}
use Rattle.plan_faults.specs.declared.fault.PlanFault.TheVariants as fault

-- the path of what a nested deployment gives for a name
abbrev pub argument_path : TemplateTree → Position → Step → List ℕ → List ℕ
argument_path t p s x = below (below (member_path t p s (codes "properties")) (codes "parameters")) x

module _ (d : Deployment) (q : Table) where
  -- the count, the condition, the name or the element of `dependsOn` at a path reads the state at a key
  pub record IsNotStartKnown (path : List ℕ) (k : ResourceId) : Type 0 where
    pub reading : Reads Json
    pub is_asked : IsAskedAt d q path reading
    pub reads : WaitsForState d q (told q reading) k

  -- one of these, a parameter or a variable has no value
  pub record IsWithoutValue (path : List ℕ) : Type 0 where
    pub reading : Reads Json
    pub is_needed : IsNeededAt d q path reading
    pub has_none : told q reading ≡ no_value

  -- the name at a path is a text of which no key can be formed
  pub record IsWithoutKey (path : List ℕ) : Type 0 where
    pub position : Position
    pub instance : Step
    pub kind : List ℕ
    pub title : List ℕ
    pub reading : Reads Json
    pub is_name : IsCellAt d q path (name position instance) reading
    pub has : told q reading ≡ value (text title)
    pub of_kind : option_and_then (λ x. Some x.type) (resource_of d.template position instance.resource) ≡ Some kind
    pub has_none : key_formed d.place kind title ≡ None

  -- each cell waits for the next, and the last for the end
  abbrev pub AreWaiting : Cell → List Cell → Cell → Type 0
  AreWaiting c [] end = told q (meaning d c) ≡ waits end
  AreWaiting c (e ∷ es) end = (told q (meaning d c) ≡ waits e) × AreWaiting e es end

  -- these cells wait for one another: each for the next, and the last for the first
  abbrev pub IsCircleOf : Cell → List Cell → Type 0
  IsCircleOf c cs = AreWaiting c cs c

  -- the cell whose text is at a path is one of a circle
  pub record IsInCircle (path : List ℕ) : Type 0 where
    pub first : Cell
    pub others : List Cell
    pub is_circle : IsCircleOf first others
    pub cell : Cell
    pub is_one : Has cell (first ∷ others)
    pub is_needed : is_needed cell ≡ true
    pub has_path : cell_path d.template cell ≡ path

  abbrev pub IsValueless : List ℕ → Type 0
  IsValueless path = IsWithoutValue path ⊎ (IsWithoutKey path ⊎ IsInCircle path)

  -- parameters, variables and outputs at these paths wait for one another
  pub record IsTitledCircle (paths : List (List ℕ)) : Type 0 where
    pub first : Cell
    pub others : List Cell
    pub is_circle : IsCircleOf first others
    pub are_titled : AreTitled (first ∷ others)
    pub have_paths : map (cell_path d.template) (first ∷ others) ≡ paths

  -- the value at a path breaks the rule of its cell
  pub record IsBroken (path : List ℕ) (f : BindFault) : Type 0 where
    pub cell : Cell
    pub reading : Reads Json
    pub is_cell : IsCellAt d q path cell reading
    pub given : Json
    pub has : told q reading ≡ value given
    pub is_fault : broken d cell given ≡ Some f

  -- nothing is given for a parameter of an inner scope, and it has no default
  pub record IsUngiven (path : List ℕ) (f : BindFault) : Type 0 where
    pub position : Position
    pub title : List ℕ
    pub declared : Parameter
    pub is_own : is_own d position ≡ true
    pub is_there : is_admitted (blanked q) (parameter position title) ≡ true
    pub is_declared : option_and_then (parameter_named title) (template_at d.template position) ≡ Some declared
    pub has_none : parameter_value d position title declared ≡ None
    pub is_fault : f ≡ MissingParameter declared.name
    pub has_path : cell_path d.template (parameter position title) ≡ path

  -- a nested deployment gives something for a parameter that its template has not
  pub record IsExtra (path : List ℕ) (f : BindFault) : Type 0 where
    pub position : Position
    pub instance : Step
    pub is_own : is_own d (instance ∷ position) ≡ true
    pub is_there : is_admitted (blanked q) (deployments (instance ∷ position)) ≡ true
    pub nested : Nested
    pub is_nested : nested_of d.template position instance ≡ Some nested
    pub given : Argument
    pub is_given : Has given nested.arguments
    pub has_none : parameter_named (fold given.name) nested.template ≡ None
    pub is_fault : f ≡ ExtraParameter given.name
    pub has_path : argument_path d.template position instance given.name ≡ path

  abbrev pub IsBindFault : List ℕ → BindFault → Type 0
  IsBindFault path f = IsBroken path f ⊎ (IsUngiven path f ⊎ IsExtra path f)

  -- a count is above 800
  pub record IsCountAbove (w : Which) (n : ℕ) : Type 0 where
    pub position : Position
    pub resource : ℕ
    pub path : List ℕ
    pub reading : Reads Json
    pub is_count : IsCellAt d q path (count position resource) reading
    pub has : told q reading ≡ value (int (pos n))
    pub is_above : 800 < n
    pub is_which : w ≡ Count

  -- two instances that are put have one key, or two nested deployments of one scope
  pub record IsSameKey (first second : List ℕ) : Type 0 where
    pub first_at : Position
    pub first_instance : Step
    pub second_at : Position
    pub second_instance : Step
    pub share : ShareKey d (start_world q) first_at first_instance second_at second_instance
    pub is_first : instance_text a_position d.template first_at first_instance ≡ first
    pub is_second : instance_text a_position d.template second_at second_instance ≡ second

  pub record IsSameNestedKey (first second : List ℕ) : Type 0 where
    pub around : Position
    pub first_instance : Step
    pub second_instance : Step
    pub share : ShareNestedKey d (start_world q) around first_instance second_instance
    pub is_first : instance_text a_position d.template around first_instance ≡ first
    pub is_second : instance_text a_position d.template around second_instance ≡ second

-- there are more tasks than can be numbered
pub record AreTooMany (d : Deployment) (mode : Mode) (held : List HeldResource) (w : Which) (n : ℕ) : Type 0 where
  pub table : Table
  pub is_start : IsStart d table
  pub planned : Work
  pub has_tasks : told table (work d mode held) ≡ value planned
  pub is_number : n ≡ length planned.tasks
  pub is_above : 4294967295 < n
  pub is_which : w ≡ Instances

-- by a table of what is known at the start
abbrev pub BySome : Deployment → (Table → Type 0) → Type 0
BySome d F = (q : Table) × (AreKnown d q × F q)

-- why a deployment has no plan
abbrev pub IsFault : Deployment → Mode → List HeldResource → PlanFault → Type 0
IsFault d mode held (fault.NotStartKnown path k) = BySome d (λ q. IsNotStartKnown d q path k)
IsFault d mode held (fault.NoValue path) = BySome d (λ q. IsValueless d q path)
IsFault d mode held (fault.SameKey first second) =
    BySome d (λ q. IsStart d q × (IsSameKey d q first second ⊎ IsSameNestedKey d q first second))
IsFault d mode held (fault.Limit w n) =
    IsOverrun d w n ⊎ (BySome d (λ q. IsCountAbove d q w n) ⊎ AreTooMany d mode held w n)
IsFault d mode held (fault.UnknownDependency path) = BySome d (λ q. IsStart d q × IsUnknown d q path)
IsFault d mode held (fault.AmbiguousDependency path) = BySome d (λ q. IsStart d q × IsAmbiguous d q path)
IsFault d mode held (fault.Circle paths) = BySome d (λ q. IsTitledCircle d q paths)
IsFault d mode held (fault.Bind path f) = BySome d (λ q. IsBindFault d q path f)
IsFault d mode held fault.OutOfMemory = Unit {0}
