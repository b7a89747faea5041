use Rattle.std.proofs.Common.{◌≡◌, ap, sym, subst, ◌∙◌}
use Rattle.std.proofs.lemmas.Str.{chars-nil}
use Rattle.std.specs.Prelude.{option_map}
use Rattle.arm_expr.specs.Brackets.{escaped}
use Rattle.arm_value.specs.Json.{text}
use Rattle.source_worlds.specs.Numbers.{or_empty}
use Rattle.emitted_dependencies.proofs.elements.name.Goals as goal

pub returns-in_ok-of-in-None : goal.returns-in_ok-of-in-None
returns-in_ok-of-in-None c =
    subst (λ o. text c.in_ok-of-in-None.field-0 ≡ text (escaped (or_empty (option_map (λ t. t.now) o))))
    (sym c.in-None.is) (ap text (c.in_ok-of-in-None.ensures ∙ chars-nil))
