-- Why the properties of a nested deployment are refused, but for its template (Microsoft Learn, "Use linked and nested
-- templates").
use Rattle.std.specs.Prelude.{ℕ, ◌||◌, bytes_eq, Bool, List, [], ◌∷◌, Option, Some, None, codes, if◌then◌else◌}
use Rattle.arm_value.specs.Json.{Json, text, Pairs}
use Rattle.arm_value.specs.Look.{is_same_folded, look, look_in}
use Rattle.template_members.specs.Arguments.{arguments_fault}
use Rattle.template_members.specs.Objects.{every, object_fault}
use Rattle.template_parts.specs.declared.fault.TemplateFault.{TemplateFault}
use Rattle.template_parts.specs.declared.fault.TemplateFault.TheVariants.{WrongForm}
use Rattle.template_parts.specs.declared.mode.Scope.{Scope}
use Rattle.template_parts.specs.declared.mode.Scope.TheVariants.{Outer, Inner}
use Rattle.template_texts.specs.declared.sight.Place.{Place}
use Rattle.template_texts.specs.declared.sight.Place.TheVariants.{Variable, Unread}
use Rattle.template_texts.specs.declared.sight.Sight.{Sight}

-- the members that the properties must have
abbrev pub property_members : List (List ℕ)
property_members = codes "template" ∷ []

-- why a mode is refused: it is the word `Incremental`, in letters of any case
abbrev pub mode_fault : Json → Option TemplateFault
mode_fault (text t) = if is_same_folded (codes "Incremental") t then None else Some (WrongForm [])
mode_fault _ = Some (WrongForm [])

-- whether the word is `outer` or `inner`
abbrev pub is_scope : List ℕ → Bool
is_scope t = bytes_eq (codes "outer") t || bytes_eq (codes "inner") t

abbrev pub scope_fault : Json → Option TemplateFault
scope_fault (text t) = if is_scope t then None else Some (WrongForm [])
scope_fault _ = Some (WrongForm [])

-- why a member of the options of evaluation is refused
abbrev pub option_member : List ℕ → Json → Option TemplateFault
option_member k j = if is_same_folded (codes "scope") k then scope_fault j else Some (WrongForm [])

abbrev pub options_fault : Json → Option TemplateFault
options_fault j = object_fault [] every option_member j

-- why a member of the properties is refused; the template is looked at elsewhere
abbrev pub property_member : Sight → List ℕ → Json → Option TemplateFault
property_member here k j =
    if is_same_folded (codes "template") k then None
    else (if is_same_folded (codes "parameters") k then arguments_fault here j
    else (if is_same_folded (codes "mode") k then mode_fault j
    else (if is_same_folded (codes "expressionEvaluationOptions") k then options_fault j else Some (WrongForm []))))

-- the scope of a word; that of another word is the usual one
abbrev pub scope_named : Option Json → Scope
scope_named (Some (text t)) = if bytes_eq (codes "inner") t then Inner else Outer
scope_named _ = Outer

-- the scope that the options of evaluation give
abbrev pub scope_given : Option Json → Scope
scope_given None = Outer
scope_given (Some j) = scope_named (look (codes "scope") j)

abbrev pub scope_of : Pairs → Scope
scope_of ms = scope_given (look_in (codes "expressionEvaluationOptions") ms)

-- where the defaults and the variables of a nested template are
abbrev pub place_in : Scope → Place
place_in Outer = Unread
place_in Inner = Variable
