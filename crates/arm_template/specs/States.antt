-- Which template a value states (Microsoft Learn, "Understand the structure and syntax of ARM templates"): the one that
-- it describes, member by member, where it has no fault.
use Rattle.std.specs.Prelude.{◌≡◌, Some, None}
use Rattle.arm_value.specs.Json.{Json, IsValue}
use Rattle.template_faults.specs.Faults.{template_fault}
use Rattle.template_meaning.specs.Describes.{Describes}
use Rattle.template_parts.specs.declared.fault.TemplateFault.{TemplateFault}
use Rattle.template_parts.specs.declared.fault.TemplateFault.TheVariants as fault
use Rattle.template_tree.specs.Tree.{TemplateTree}

-- the value states the template
pub record States (v : Json) (t : TemplateTree) : Type 0 where
  pub faultless : template_fault v ≡ None
  pub described : Describes v t

-- a value of the code states the template
pub record IsStated (t : TemplateTree) : Type 0 where
  pub by : Json
  pub value : IsValue by
  pub states : States by t

-- the fault is that of the value, or memory was refused
abbrev pub IsFaultOf : Json → TemplateFault → Type 0
IsFaultOf v fault.OutOfMemory = Unit {0}
IsFaultOf v f = template_fault v ≡ Some f
