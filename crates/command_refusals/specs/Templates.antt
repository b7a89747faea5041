-- Why a template, the values for its parameters, or its plan is refused: reasons, and paths or names.
use Rattle.std.specs.Prelude.{ℕ, List, [], ◌++◌, codes, decimal, encode_utf8_all}
use Rattle.template_parts.specs.Words.{word_of}
use Rattle.template_parts.specs.declared.fault.TemplateFault.{TemplateFault}
use Rattle.template_parts.specs.declared.fault.TemplateFault.TheVariants as template
use Rattle.template_parts.specs.declared.fault.BindFault.{BindFault}
use Rattle.template_parts.specs.declared.fault.BindFault.TheVariants as bind
use Rattle.template_parts.specs.declared.limit.Which.{Which}
use Rattle.plan_faults.specs.declared.fault.PlanFault.{PlanFault}
use Rattle.plan_faults.specs.declared.fault.PlanFault.TheVariants as plan
use Rattle.lock_rules.specs.Spaced.{after_spaces}
use Rattle.command_reports.specs.declared.report.Report.{Report}
use Rattle.command_reports.specs.declared.faults.Fault.TheVariants.{Memory}
use Rattle.command_reports.specs.Faults.{fault_report, refusal_report}

-- the template is refused for a reason, with what comes after it
abbrev pub invalid : List ℕ → List ℕ → Report
invalid reason rest = refusal_report (codes "InvalidTemplate") (reason ++ rest)

-- a reason, and a path
abbrev pub invalid_at : List ℕ → List ℕ → Report
invalid_at reason path = invalid reason (codes " " ++ encode_utf8_all path)

-- a quantity, and the number that is beyond its limit
abbrev pub beyond : Which → ℕ → Report
beyond which n = invalid (codes "Limit") (codes " " ++ (word_of which ++ (codes " " ++ decimal n)))

abbrev pub template_report : TemplateFault → Report
template_report (template.Missing path) = invalid_at (codes "Missing") path
template_report (template.WrongForm path) = invalid_at (codes "WrongForm") path
template_report (template.Limit which n) = beyond which n
template_report (template.BadExpression path) = invalid_at (codes "BadExpression") path
template_report (template.ReferenceInVariable path) = invalid_at (codes "ReferenceInVariable") path
template_report template.OutOfMemory = fault_report Memory

-- a refusal with a reason and the name of a parameter, after another text
abbrev pub unsuited : List ℕ → List ℕ → BindFault → Report
unsuited code before (bind.ExtraParameter name) =
    refusal_report code (before ++ (codes "ExtraParameter " ++ encode_utf8_all name))
unsuited code before (bind.MissingParameter name) =
    refusal_report code (before ++ (codes "MissingParameter " ++ encode_utf8_all name))
unsuited code before (bind.WrongType name) =
    refusal_report code (before ++ (codes "WrongType " ++ encode_utf8_all name))
unsuited code before (bind.NotAllowed name) =
    refusal_report code (before ++ (codes "NotAllowed " ++ encode_utf8_all name))
unsuited code before (bind.OutOfBounds name) =
    refusal_report code (before ++ (codes "OutOfBounds " ++ encode_utf8_all name))
unsuited code before bind.OutOfMemory = fault_report Memory

-- the values for the parameters do not suit them
abbrev pub bind_report : BindFault → Report
bind_report fault = unsuited (codes "InvalidParameter") [] fault

-- a deployment has no plan
abbrev pub plan_report : PlanFault → Report
plan_report (plan.NotStartKnown path key) = invalid_at (codes "NotStartKnown") path
plan_report (plan.NoValue path) = invalid_at (codes "NoValue") path
plan_report (plan.SameKey first second) =
    invalid (codes "SameKey") (codes " " ++ (encode_utf8_all first ++ (codes " " ++ encode_utf8_all second)))
plan_report (plan.Limit which n) = beyond which n
plan_report (plan.UnknownDependency path) = invalid_at (codes "UnknownDependency") path
plan_report (plan.AmbiguousDependency path) = invalid_at (codes "AmbiguousDependency") path
plan_report (plan.Circle paths) = invalid (codes "Circle") (encode_utf8_all (after_spaces paths))
plan_report (plan.Bind path fault) =
    unsuited (codes "InvalidTemplate") (codes "Bind " ++ (encode_utf8_all path ++ codes " ")) fault
plan_report plan.OutOfMemory = fault_report Memory
