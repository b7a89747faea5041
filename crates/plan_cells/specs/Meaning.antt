-- What the value of each cell of a template is, by the cells that are read for it.
use Rattle.std.specs.Prelude.{ℕ, pos, not, Bool, true, false, List, [], ◌∷◌, ◌++◌, Option, Some, None, bytes_eq, codes}
use Rattle.std.specs.Prelude.{nat_lt, is_some, is_none, option_map, option_and_then, if◌then◌else◌}
use Rattle.template_parameters.specs.Json.{Json, bool, int, text, object, pairs}
use Rattle.template_parameters.specs.Look.{fold}
use Rattle.template_parameters.specs.View.{json}
use Rattle.deploy_cells.specs.Place.{Place}
use Rattle.arm_eval.specs.Look.{Looking, Surroundings}
use Rattle.arm_eval.specs.Trees.{tree_value, copied, count_of}
use Rattle.arm_eval.specs.Outputs as outputs
use Rattle.reading.specs.Reading.{done, ask, pure, read, continued}
use Rattle.template_parameters.specs.Argument.{Argument}
use Rattle.template_parameters.specs.Content.{Content}
use Rattle.template_parameters.specs.Content.TheVariants.{Value, Copy}
use Rattle.template_parameters.specs.ResourceCopy.{ResourceCopy}
use Rattle.template_parameters.specs.Output.{Output}
use Rattle.template_parameters.specs.Parameter.{Parameter}
use Rattle.template_parameters.specs.Variable.{Variable}
use Rattle.template_parameters.specs.Binding.{BoundMeaning, is_known, is_default}
use Rattle.template_parameters.specs.Rule.{breach, is_of, is_bool}
use Rattle.template_parameters.specs.Tree.{TemplateTree}
use Rattle.deploy_cells.specs.Cells.{Step, step, Position, Cell, parameter, variable, offered, output, count, included, name, deployments, state, copies}
use Rattle.deploy_cells.specs.Guarded.{Reads, Meaning, there_if, itself, guarded}
use Rattle.deploy_cells.specs.Listing.{listing_value}
use Rattle.deploy_cells.specs.Puts.{Bodies, key_formed}
use Rattle.plan_cells.specs.Resources.{Listed, Above, Nested, members_in, nested_numbers}
use Rattle.plan_cells.specs.Scopes.{template_at, resource_of, nested_of, is_outer}
use Rattle.plan_cells.specs.Sites.{Site, reading_at, first_with, parameter_named, variable_named, output_named}
use Rattle.plan_cells.specs.Sites.{scope_site, count_site, body_site, condition_site, name_site}

-- what is deployed: a template, what its parameters are bound to, and where
pub record Deployment : Type 0 where
  pub template : TemplateTree
  pub bound : List (List ℕ × BoundMeaning)
  pub place : Place

-- the array of a loop of this name
abbrev pub looped : List ℕ → Json → Json → Surroundings → Looking Json
looped x n input here =
    continued (copied here (Some (record { name = x; count = tree_value n; input = tree_value input })))
    (λ m. pure m.1)

-- a value, or the array of a loop of this name
abbrev pub content_value : List ℕ → Content → Surroundings → Looking Json
content_value x (Value v) = tree_value (json v)
content_value x (Copy n input) = looped x (json n) (json input)

-- the value of an output, or the array of its loop, which has no name
abbrev pub output_content : Content → Surroundings → Looking Json
output_content (Value v) = tree_value (json v)
output_content (Copy n input) =
    outputs.content_value (outputs.a_copy (record { count = json n; input = json input }))

module _ (d : Deployment) where
  abbrev at_site : Site → (Surroundings → Looking Json) → Reads Json
  at_site e f = reading_at d.template d.place e f

  abbrev pub bound_value : BoundMeaning → Reads Json
  bound_value (is_known j) = pure j
  bound_value (is_default j) = at_site (scope_site d.template []) (tree_value j)

  -- what a parameter of the root is bound to
  abbrev pub bound_to : List ℕ → Option BoundMeaning
  bound_to x = option_map (λ b. b.1) (first_with (λ b. bytes_eq x (fold b.0)) d.bound)

  abbrev pub default_value : Position → Parameter → Option (Reads Json)
  default_value p x = option_map (λ v. at_site (scope_site d.template p) (tree_value (json v))) x.default_value

  abbrev pub given_or_default : Position → Step → Parameter → Option Argument → Option (Reads Json)
  given_or_default p s x (Some a) = Some (at_site (body_site d.template p s) (content_value (codes "value") a.content))
  given_or_default p s x None = default_value (s ∷ p) x

  abbrev pub argument_named : List ℕ → Option Nested → Option Argument
  argument_named x None = None
  argument_named x (Some n) = first_with (λ a. bytes_eq x (fold a.name)) n.arguments

  -- the value of a parameter: of the root what it is bound to, of a scope inside what its nested deployment gives for
  -- it, else its default
  abbrev pub parameter_value : Position → List ℕ → Parameter → Option (Reads Json)
  parameter_value [] x q = option_map bound_value (bound_to x)
  parameter_value (s ∷ p) x q = given_or_default p s q (argument_named x (nested_of d.template p s))

  abbrev pub variable_value : Position → Variable → Reads Json
  variable_value p v = at_site (scope_site d.template p) (content_value v.name v.content)

  abbrev pub condition_value : Site → Option Json → Reads Json
  condition_value e None = pure (bool true)
  condition_value e (Some j) = at_site e (tree_value j)

  abbrev pub offered_value : Position → Output → Reads Json
  offered_value p o = condition_value (scope_site d.template p) (option_map json o.condition)

  abbrev pub output_value : Position → Output → Reads Json
  output_value p o = at_site (scope_site d.template p) (output_content o.content)

  abbrev pub count_by : Position → Option ResourceCopy → Reads Json
  count_by p None = pure (int (pos 1))
  count_by p (Some c) = at_site (count_site d.template p) (tree_value (json c.count))

  abbrev pub count_value : Position → Listed → Reads Json
  count_value p r = count_by p r.declaration.copy

  abbrev pub included_value : Position → Step → Listed → Reads Json
  included_value p s r = condition_value (condition_site d.template p s) (option_map json r.declaration.condition)

  -- a name of a child: that of its parent, a slash, and its own
  abbrev pub name_under : Json → Json → Json
  name_under (text up) (text n) = text (up ++ 47 ∷ n)
  name_under _ j = j

  -- the name of a child, where its parent has an instance
  abbrev pub under_instance : Bool → Position → ℕ → Reads Json → Reads Json
  under_instance false p n r = done None
  under_instance true p n r =
      continued (read (name p (step n 0))) (λ up. continued r (λ j. pure (name_under up j)))

  abbrev pub under_parent : Position → Option Above → Reads Json → Reads Json
  under_parent p None r = r
  under_parent p (Some a) r =
      if is_some (resource_of d.template p a.number)
      then ask (count p a.number) (λ v. under_instance (nat_lt 0 (copies v)) p a.number r) else done None

  abbrev pub name_value : Position → Step → Listed → Reads Json
  name_value p s r =
      under_parent p r.above (at_site (name_site d.template p s) (tree_value (json r.declaration.name)))

  -- the body of a resource: the value of its members
  abbrev pub body_value : Position → Step → Listed → Option (Reads Json)
  body_value p s r =
      option_map (λ ms. at_site (body_site d.template p s) (tree_value (object (pairs ms)))) (members_in r.content)

  abbrev pub bodies : Bodies
  bodies p s = option_and_then (body_value p s) (resource_of d.template p s.resource)

  -- of what the scope declares
  abbrev pub of_scope : {A : Type 0} → Position → (TemplateTree → Option A) → (A → Option (Reads Json))
      → Option (Reads Json)
  of_scope p f g = option_and_then g (option_and_then f (template_at d.template p))

  -- a scope that is not outer, which alone has parameters and variables
  abbrev pub is_own : Position → Bool
  is_own [] = true
  is_own (s ∷ p) = not (is_outer (nested_of d.template p s))

  abbrev pub of_own_scope : {A : Type 0} → Position → (TemplateTree → Option A) → (A → Option (Reads Json))
      → Option (Reads Json)
  of_own_scope p f g = if is_own p then of_scope p f g else None

  -- the value of a cell of the template, before its rule is asked; none where there is no such cell
  unfoldable pub raw : Cell → Option (Reads Json)
  raw (parameter p x) = of_own_scope p (parameter_named x) (parameter_value p x)
  raw (variable p x) = of_own_scope p (variable_named x) (λ v. Some (variable_value p v))
  raw (offered p x) = of_scope p (output_named x) (λ o. Some (offered_value p o))
  raw (output p x) = of_scope p (output_named x) (λ o. Some (output_value p o))
  raw (count p r) = option_map (count_value p) (resource_of d.template p r)
  raw (included p s) = option_map (included_value p s) (resource_of d.template p s.resource)
  raw (name p s) = option_map (name_value p s) (resource_of d.template p s.resource)
  raw (deployments p) = option_map (λ t. listing_value p (nested_numbers t)) (template_at d.template p)
  raw (state k) = None

  abbrev pub meets_rule : Json → Option Parameter → Bool
  meets_rule j None = false
  meets_rule j (Some p) = is_none (breach p j)

  abbrev pub is_typed : Json → Option Output → Bool
  is_typed j None = false
  is_typed j (Some o) = is_of o.kind j

  -- a text of which a key can be formed with the type
  abbrev pub is_name : Json → Option Listed → Bool
  is_name (text n) (Some r) = is_some (key_formed d.place r.type n)
  is_name _ _ = false

  -- whether the cell may have the value: a parameter's rule, an output's type, a condition that is true or false, a
  -- count from 0 to 800, and a name of which a key can be formed
  abbrev pub rule : Cell → Json → Bool
  rule (parameter p x) j = meets_rule j (option_and_then (parameter_named x) (template_at d.template p))
  rule (variable p x) j = true
  rule (offered p x) j = is_bool j
  rule (output p x) j = is_typed j (option_and_then (output_named x) (template_at d.template p))
  rule (count p r) j = is_some (count_of j)
  rule (included p s) j = is_bool j
  rule (name p s) j = is_name j (resource_of d.template p s.resource)
  rule (deployments p) j = true
  rule (state k) j = true

  abbrev pub if_meets : Bool → Json → Option Json
  if_meets true j = Some j
  if_meets false j = None

  -- the value, where it meets the rule
  abbrev pub ruled : (Json → Bool) → Reads Json → Reads Json
  ruled f r = continued r (λ j. done (if_meets (f j) j))

  -- what a cell is where it is there
  unfoldable pub plain : Cell → Reads (Option Json)
  plain (state k) = itself (state k)
  plain c = there_if (option_map (ruled (rule c)) (raw c))

  -- what a cell is. A state is what it is
  unfoldable pub meaning : Meaning
  meaning c = guarded c (plain c)
