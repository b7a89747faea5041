-- How a value that is known at the start breaks the rule of its cell.
use Rattle.std.specs.Prelude.{ℕ, pos, negsuc, Bool, true, false, List, Option, Some, None, codes, option_map}
use Rattle.std.specs.Prelude.{option_and_then}
use Rattle.arm_value.specs.Json.{Json, int}
use Rattle.template_parts.specs.declared.fault.BindFault.{BindFault}
use Rattle.template_parts.specs.declared.fault.BindFault.TheVariants.{WrongType, NotAllowed, OutOfBounds}
use Rattle.template_parts.specs.declared.parameter.Parameter.{Parameter}
use Rattle.template_parameters.specs.Rule.{breach, is_bool, is_text}
use Rattle.template_parameters.specs.declared.rule.Breach.{Breach}
use Rattle.template_parameters.specs.declared.rule.Breach.TheVariants as breaks
use Rattle.deploy_cells.specs.Cells.{Cell, parameter, count, included, name}
use Rattle.plan_cells.specs.Scopes.{template_at}
use Rattle.plan_cells.specs.Sites.{parameter_named}
use Rattle.plan_cells.specs.Meaning.{Deployment}

-- a breach of the rule of the parameter of this name
abbrev pub fault_of : List ℕ → Breach → BindFault
fault_of x breaks.WrongType = WrongType x
fault_of x breaks.NotAllowed = NotAllowed x
fault_of x breaks.OutOfBounds = OutOfBounds x

-- a value of the wrong type, unless the test is true
abbrev pub wrong_unless : Bool → List ℕ → Option BindFault
wrong_unless true x = None
wrong_unless false x = Some (WrongType x)

-- a count that is no number, or a negative one
abbrev pub count_fault : Json → Option BindFault
count_fault (int (pos n)) = None
count_fault (int (negsuc n)) = Some (OutOfBounds (codes "count"))
count_fault _ = Some (WrongType (codes "count"))

abbrev pub parameter_fault : Json → Option Parameter → Option BindFault
parameter_fault v o = option_and_then (λ y. option_map (fault_of y.name) (breach y v)) o

-- how a value breaks the rule of a parameter, a condition, a count or a name
abbrev pub broken : Deployment → Cell → Json → Option BindFault
broken d (parameter p x) v = parameter_fault v (option_and_then (parameter_named x) (template_at d.template p))
broken d (included p s) v = wrong_unless (is_bool v) (codes "condition")
broken d (count p r) v = count_fault v
broken d (name p s) v = wrong_unless (is_text v) (codes "name")
broken d _ v = None
