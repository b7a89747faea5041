use Rattle.std.proofs.Common.{◌∙◌, ap, sym, codes, refl}
use Rattle.arm_value.specs.View.{json}
use Rattle.arm_value.specs.Look.{look}
use Rattle.foundation.proofs.AsciiWords.{word}
use Rattle.provider_trait.proofs.PlainLemmas.{look_twice, look_none}
use Rattle.provider_trait.proofs.catalog.sku_name.Goals as goal

pub returns-in-Some : goal.returns-in-Some
returns-in-Some c =
    c.look-in-Some.ensures ∙ ap (λ n. look n (json c.in-Some.sku.now)) (word (codes "name") refl)
    ∙ sym (look_twice (json c.args.body.now) (codes "sku") (codes "name") (json c.in-Some.sku.now)
    (c.in-Some.ensures ∙ ap (λ n. look n (json c.args.body.now)) (word (codes "sku") refl)))

pub returns-in-None : goal.returns-in-None
returns-in-None c =
    sym (look_none (json c.args.body.now) (codes "sku") (codes "name") (c.in-None.ensures
    ∙ ap (λ n. look n (json c.args.body.now)) (word (codes "sku") refl)))
