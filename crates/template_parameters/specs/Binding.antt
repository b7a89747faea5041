-- What the parameters of a template are bound to, and why values that are given for them are refused.
use Rattle.std.specs.Prelude.{◌≡◌, ℕ, ◌==◌, ◌&&◌, Bool, true, false, List, [], ◌∷◌, map, Option, Some, None, is_none}
use Rattle.std.specs.Prelude.{option_map, option_and_then, if◌then◌else◌}
use Rattle.std.specs.List.{list_any}
use Rattle.arm_value.specs.Json.{Json, null}
use Rattle.arm_value.specs.Look.{is_same_folded, or_else}
use Rattle.arm_value.specs.View.{json}
use Rattle.arm_value.specs.declared.value.Value.{Value}
use Rattle.template_parts.specs.declared.fault.BindFault.{BindFault}
use Rattle.template_parts.specs.declared.fault.BindFault.TheVariants as fault
use Rattle.template_parts.specs.declared.given.BoundParameter.{BoundParameter}
use Rattle.template_parts.specs.declared.given.BoundValue.{BoundValue}
use Rattle.template_parts.specs.declared.given.BoundValue.TheVariants as value
use Rattle.template_parts.specs.declared.given.GivenValue.{GivenValue}
use Rattle.template_parts.specs.declared.parameter.Parameter.{Parameter}
use Rattle.template_parameters.specs.Literal.{literal}
use Rattle.template_parameters.specs.Rule.{breach}
use Rattle.template_parameters.specs.declared.rule.Breach.{Breach}
use Rattle.template_parameters.specs.declared.rule.Breach.TheVariants as breaks

-- the value that is given for the name, in letters of any case
abbrev pub given_for : List ℕ → List GivenValue → Option Json
given_for name [] = None
given_for name (g ∷ gs) = if is_same_folded name g.name then Some (json g.value) else given_for name gs

-- whether a parameter has the name, in letters of any case
abbrev pub is_declared : List Parameter → List ℕ → Bool
is_declared ps name = list_any (λ p. is_same_folded name p.name) ps

-- the first name that is given and that no parameter has
abbrev pub extra : List Parameter → List GivenValue → Option (List ℕ)
extra ps [] = None
extra ps (g ∷ gs) = if is_declared ps g.name then extra ps gs else Some g.name

-- whether the parameter has no default and no value is given for it
abbrev pub lacks_value : List GivenValue → Parameter → Bool
lacks_value gs p = is_none p.default_value && is_none (given_for p.name gs)

-- the name of the first parameter without a default and without a value
abbrev pub missing : List GivenValue → List Parameter → Option (List ℕ)
missing gs [] = None
missing gs (p ∷ ps) = if lacks_value gs p then Some p.name else missing gs ps

-- the value of a parameter that is known without evaluating: the one that is given, else that of a literal default
abbrev pub known : List GivenValue → Parameter → Option Json
known gs p = or_else (given_for p.name gs) (option_and_then (λ v. literal (json v)) p.default_value)

-- what that value breaks of the parameter's rule
abbrev pub breach_of : List GivenValue → Parameter → Option Breach
breach_of gs p = option_and_then (breach p) (known gs p)

-- whether it is this breach
abbrev pub is_breach : Breach → Option Breach → Bool
is_breach breaks.WrongType (Some breaks.WrongType) = true
is_breach breaks.NotAllowed (Some breaks.NotAllowed) = true
is_breach breaks.OutOfBounds (Some breaks.OutOfBounds) = true
is_breach _ _ = false

-- the name of the first parameter whose value breaks its rule so
abbrev pub broken : Breach → List GivenValue → List Parameter → Option (List ℕ)
broken b gs [] = None
broken b gs (p ∷ ps) = if is_breach b (breach_of gs p) then Some p.name else broken b gs ps

-- the first of two faults
abbrev pub first : Option BindFault → Option BindFault → Option BindFault
first None o = o
first (Some f) o = Some f

-- the first parameter whose value breaks its rule: of those of a wrong type, then of those that are not allowed, then
-- of those out of bounds
abbrev pub rule_fault : List GivenValue → List Parameter → Option BindFault
rule_fault gs ps =
    first (option_map (λ n. fault.WrongType n) (broken breaks.WrongType gs ps))
    (first (option_map (λ n. fault.NotAllowed n) (broken breaks.NotAllowed gs ps))
    (option_map (λ n. fault.OutOfBounds n) (broken breaks.OutOfBounds gs ps)))

-- why the values are refused: an extra name, then a missing value, then a value that breaks its rule
abbrev pub bind_fault : List GivenValue → List Parameter → Option BindFault
bind_fault gs ps =
    first (option_map (λ n. fault.ExtraParameter n) (extra ps gs))
    (first (option_map (λ n. fault.MissingParameter n) (missing gs ps)) (rule_fault gs ps))

-- the fault is this one, or memory was refused
abbrev pub IsFaultOf : Option BindFault → BindFault → Type 0
IsFaultOf o fault.OutOfMemory = Unit {0}
IsFaultOf o f = o ≡ Some f

-- what a parameter is bound to: a value, or the value of a default that has expressions or loops in it
pub data BoundMeaning : Type 0 where
  is_known : Json → BoundMeaning
  is_default : Json → BoundMeaning

abbrev pub value_view : BoundValue → BoundMeaning
value_view (value.Known v) = is_known (json v)
value_view (value.Default v) = is_default (json v)

abbrev pub bound_view : BoundParameter → List ℕ × BoundMeaning
bound_view b = (b.name, value_view b.value)

-- a default, by its value where it reads nothing
abbrev pub by_literal : Json → Option Json → BoundMeaning
by_literal j None = is_default j
by_literal j (Some v) = is_known v

-- a parameter for which no value is given; one without a default is refused before
abbrev pub default_meaning : Option Value → BoundMeaning
default_meaning None = is_known null
default_meaning (Some v) = by_literal (json v) (literal (json v))

-- a parameter for which this is given
abbrev pub meaning_by : Option Json → Option Value → BoundMeaning
meaning_by (Some j) o = is_known j
meaning_by None o = default_meaning o

abbrev pub meaning_of : List GivenValue → Parameter → BoundMeaning
meaning_of gs p = meaning_by (given_for p.name gs) p.default_value

-- what each parameter is bound to, in the order of the template
abbrev pub bound : List GivenValue → List Parameter → List (List ℕ × BoundMeaning)
bound gs ps = map (λ p. (p.name, meaning_of gs p)) ps
