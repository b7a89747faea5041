-- What the parameters of the template of a program are bound to, where values are given for those of the program.
use Rattle.std.specs.Prelude.{◌≡◌, ◌≤◌, ℕ, List, map, Option, Some, None}
use Rattle.arm_value.specs.Json.{Json, Member, IsOrderly, nesting}
use Rattle.arm_value.specs.View.{json}
use Rattle.arm_value.specs.declared.value.Value.{Value}
use Rattle.foundation.specs.declared.limits.TheConstants.{MAX_VALUE_NESTING}
use Rattle.template_parts.specs.declared.given.GivenValue.{GivenValue}
use Rattle.template_parts.specs.declared.parameter.Parameter.{Parameter}
use Rattle.template_parameters.specs.Binding as binding
use Rattle.template_parameters.specs.Binding.{BoundMeaning, is_known, by_literal, bind_fault}
use Rattle.template_parameters.specs.Literal.{literal}
use Rattle.template_tree.specs.Tree.{TemplateTree}
use Rattle.arm_ids.specs.Held.{HeldResource}
use Rattle.template_parts.specs.declared.mode.Form.{Form}
use Rattle.plan_cells.specs.Desired.{held_state}
use Rattle.plan_cells.specs.Meaning.{Deployment, bound_to}
use Rattle.plan_cells.specs.Resources.{header_in}
use Rattle.plan_cells.specs.Sites.{parameter_named}
use Rattle.bicep_meaning.specs.Instances.{SourceProgram, given_for}
use Rattle.emitted_sites.specs.Files.{IsEmitted}
use Rattle.emitted_sites.specs.Facts.{HoldsResources}
use Rattle.emitted_programs.specs.Sound.{IsSoundProgram}

-- a default is bound as it is, or where it reads nothing by its value, which nests at most 100 deep
pub record IsDefault (v : Value) (b : Option BoundMeaning) : Type 0 where
  pub is : b ≡ Some (by_literal (json v) (literal (json v)))
  pub is_orderly : IsOrderly (json v)
  pub is_flat : (k : Json) → literal (json v) ≡ Some k → nesting (json v) ≤ MAX_VALUE_NESTING

-- the value that is given, or else the default, which there is
abbrev pub IsBoundTo : Option Json → Option Value → Option BoundMeaning → Type 0
IsBoundTo (Some j) v b = b ≡ Some (is_known j)
IsBoundTo None None b = ⊥
IsBoundTo None (Some v) b = IsDefault v b

-- the template is deployed where the program is
abbrev pub deployed : SourceProgram → TemplateTree → List (List ℕ × BoundMeaning) → Deployment
deployed d u bound = record { template = u; bound = bound; place = d.place }

-- each parameter of a template is bound so
abbrev pub IsBound : SourceProgram → TemplateTree → List (List ℕ × BoundMeaning) → Type 0
IsBound d u bound = (x : List ℕ) (q : Parameter) → parameter_named x u ≡ Some q
    → IsBoundTo (given_for d.given x) q.default_value (bound_to (deployed d u bound) x)

abbrev pub given_member : GivenValue → Member
given_member g = (g.name, json g.value)

-- the parameters of a template are bound to values that are not refused, which are those that are given to the program
pub record IsBinding (d : SourceProgram) (u : TemplateTree) (bound : List (List ℕ × BoundMeaning)) : Type 0 where
  pub values : List GivenValue
  pub given : d.given ≡ map given_member values
  pub is : bound ≡ binding.bound values (header_in u).parameters
  pub accepted : bind_fault values (header_in u).parameters ≡ None
  pub defaults : (x : List ℕ) (q : Parameter) (v : Value) → parameter_named x u ≡ Some q → q.default_value ≡ Some v
      → IsOrderly (json v)

-- a template of a program without faults, with the program's parameters, and held states that are none of nested
-- deployments
pub record IsDeployed (z : Form) (d : SourceProgram) (u : TemplateTree) (bound : List (List ℕ × BoundMeaning))
    (held : List HeldResource) : Type 0 where
  pub emitted : IsEmitted z d.files u
  pub sound : IsSoundProgram d
  pub binding : IsBinding d u bound
  pub holds : HoldsResources (held_state held)
