use Rattle.std.proofs.Common.{◌∙◌, ap, sym, not, codes, refl}
use Rattle.arm_value.specs.View.{json}
use Rattle.arm_value.specs.Look.{look}
use Rattle.provider_trait.specs.Catalog.{is_text, needs_location}
use Rattle.foundation.proofs.AsciiWords.{word}
use Rattle.provider_trait.proofs.PlainLemmas.{asks}
use Rattle.provider_trait.proofs.catalog.lacks_location.Goals as goal

pub returns-then-needs_location : goal.returns-then-needs_location
returns-then-needs_location c =
    asks (needs_location c.args.named.now.kind) _ _ (sym c.needs_location.ensures ∙ c.if-needs_location.true)
    (ap not (c.is_text.ensures
    ∙ ap is_text (c.look.ensures ∙ ap (λ n. look n (json c.args.body.now)) (word (codes "location") refl))))
