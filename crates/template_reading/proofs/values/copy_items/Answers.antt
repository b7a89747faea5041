use Rattle.std.proofs.Common.{◌≡◌, List, IfOk, option_map, sym, ap, subst}
use Rattle.arm_value.specs.Json.{Json}
use Rattle.arm_value.specs.View.{json}
use Rattle.template_reading.proofs.CopyLemmas.{items_at}
use Rattle.template_reading.proofs.values.copy_items.Goals as goal

pub returns-in-Array : goal.returns-in-Array
returns-in-Array c =
    subst (λ (x : List Json). IfOk c.copy.result (λ js. js ≡ x))
    (sym (items_at _ c.in-Some.value.now c.in-Array.items (ap (option_map (λ v. json v.now)) c.in-Some.is)
    c.in-Array.is)) c.copy.ensures
