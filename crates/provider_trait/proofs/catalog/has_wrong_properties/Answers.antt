use Rattle.std.proofs.Common.{◌∙◌, ap, not, codes, refl}
use Rattle.arm_value.specs.View.{json}
use Rattle.arm_value.specs.Look.{look}
use Rattle.provider_trait.specs.Catalog.{is_object_or_none}
use Rattle.foundation.proofs.AsciiWords.{word}
use Rattle.provider_trait.proofs.catalog.has_wrong_properties.Goals as goal

pub returns : goal.returns
returns c =
    ap not (c.is_object_or_none.ensures
    ∙ ap is_object_or_none (c.look.ensures
    ∙ ap (λ n. look n (json c.args.body.now)) (word (codes "properties") refl)))
