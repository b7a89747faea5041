-- Why a text of a template is refused.
use Rattle.std.specs.Prelude.{◌≡◌, ℕ, nat_lt, ◌&&◌, Bool, List, [], length, Option, Some, None, Result, Ok, Err}
use Rattle.std.specs.Prelude.{if◌then◌else◌, true, false}
use Rattle.arm_expr.specs.Brackets.{Meaning, an_expression, plain, meaning, inside}
use Rattle.arm_expr.specs.Stack.{kept_reading}
use Rattle.arm_expr.specs.Tree.{Tree}
use Rattle.arm_expr.specs.View.{tree_of}
use Rattle.arm_expr.specs.declared.expr.Expr.{Expr}
use Rattle.arm_expr.specs.declared.fault.ExprFault.{ExprFault}
use Rattle.arm_expr.specs.declared.fault.ExprFault.TheVariants.{TooLong, NotAnExpression, TooDeep, OutOfMemory}
use Rattle.template_parts.specs.declared.fault.TemplateFault.{TemplateFault}
use Rattle.template_parts.specs.declared.fault.TemplateFault.TheVariants as fault
use Rattle.template_parts.specs.declared.limit.Which.TheVariants as which
use Rattle.template_texts.specs.Sound.{is_sound, has_reference}
use Rattle.template_texts.specs.declared.sight.Place.{Place}
use Rattle.template_texts.specs.declared.sight.Place.TheVariants.{Variable, Unread, Elsewhere}
use Rattle.template_texts.specs.declared.sight.Sight.{Sight}

-- what a text in brackets spells: the expression, or why it spells none within the limits
pub data Spelling : Type 0 where
  too_long : Spelling
  no_expression : Spelling
  too_deep : Spelling
  spelled : Tree → Spelling

-- of what was read between the brackets: nothing where nothing is spelled, and no tree where it nests above 64
abbrev pub spelling_of : Option (Option Tree) → Spelling
spelling_of None = no_expression
spelling_of (Some None) = too_deep
spelling_of (Some (Some e)) = spelled e

-- of a text in brackets; `specs` of `arm_expr` says what is read between brackets
abbrev pub spelling : List ℕ → Spelling
spelling t = if nat_lt 24576 (length t) then too_long else spelling_of (kept_reading (inside t))

-- whether a text there may not read the state of a resource
abbrev pub reads_no_state : Place → Bool
reads_no_state Variable = true
reads_no_state Unread = false
reads_no_state Elsewhere = false

-- whether texts there are read
abbrev pub is_read : Place → Bool
is_read Variable = true
is_read Unread = false
is_read Elsewhere = true

-- why an expression is refused there
abbrev pub tree_fault : Sight → Place → Tree → Option TemplateFault
tree_fault here place e =
    if is_sound here e then
    (if reads_no_state place && has_reference e then Some (fault.ReferenceInVariable []) else None)
    else Some (fault.BadExpression [])

-- why a text in brackets is refused, by what it spells. A nesting above 64 counts as 65
abbrev pub spelling_fault : Sight → Place → List ℕ → Spelling → Option TemplateFault
spelling_fault here place t too_long = Some (fault.Limit which.Expression (length t))
spelling_fault here place t no_expression = Some (fault.BadExpression [])
spelling_fault here place t too_deep = Some (fault.Limit which.Nesting 65)
spelling_fault here place t (spelled e) = tree_fault here place e

-- why a text is refused, by what it means: a plain text never is
abbrev pub meaning_fault : Sight → Place → List ℕ → Meaning → Option TemplateFault
meaning_fault here place t (plain s) = None
meaning_fault here place t an_expression = spelling_fault here place t (spelling t)

-- why a text of a template is refused, with the path of the text itself
abbrev pub text_fault : Sight → Place → List ℕ → Option TemplateFault
text_fault here place t = if is_read place then meaning_fault here place t (meaning t) else None

-- what was read of a text is what it spells, or memory was refused
abbrev pub IsSpelling : Spelling → Result Expr ExprFault → Type 0
IsSpelling s (Ok e) = s ≡ spelled (tree_of e)
IsSpelling s (Err TooLong) = s ≡ too_long
IsSpelling s (Err NotAnExpression) = s ≡ no_expression
IsSpelling s (Err TooDeep) = s ≡ too_deep
IsSpelling s (Err OutOfMemory) = Unit {0}
