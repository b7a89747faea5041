use Rattle.std.proofs.Common.{ap, sym, ◌∙◌, encode_utf8_all}
use Rattle.std.specs.Prelude.{option_map}
use Rattle.source_worlds.specs.Numbers.{or_empty}
use Rattle.template_numbers.proofs.order.name_of.Goals as goal

pub returns-in-None : goal.returns-in-None
returns-in-None c =
    ap (λ o. encode_utf8_all (or_empty o))
    (sym (ap (option_map (λ t. t.now)) c.in-None.is) ∙ c.name_of.ensures)
