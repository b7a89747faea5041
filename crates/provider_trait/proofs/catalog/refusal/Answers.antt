use Rattle.std.proofs.Common.{◌∙◌, ap, sym, codes, refl, Some}
use Rattle.arm_value.specs.View.{json}
use Rattle.foundation.proofs.AsciiWords.{word}
use Rattle.provider_trait.proofs.PlainLemmas.{first_code, second_code, third_code, fourth_code, no_code}
use Rattle.provider_trait.proofs.catalog.refusal.Goals as goal

pub returns-then-has_wrong_properties : goal.returns-then-has_wrong_properties
returns-then-has_wrong_properties c =
    ap Some (word (codes "InvalidProperties") refl)
    ∙ sym (first_code c.args.named.now.kind c.args.named.now.name (json c.args.body.now)
    (sym c.has_wrong_properties.ensures ∙ c.if-has_wrong_properties.true))

pub returns-then-lacks_location : goal.returns-then-lacks_location
returns-then-lacks_location c =
    ap Some (word (codes "LocationRequired") refl)
    ∙ sym (second_code c.args.named.now.kind c.args.named.now.name (json c.args.body.now)
    (sym c.has_wrong_properties.ensures ∙ c.if-has_wrong_properties.false) (sym c.lacks_location.ensures
    ∙ c.if-lacks_location.true))

pub returns-then-lacks_sku : goal.returns-then-lacks_sku
returns-then-lacks_sku c =
    ap Some (word (codes "SkuRequired") refl)
    ∙ sym (third_code c.args.named.now.kind c.args.named.now.name (json c.args.body.now)
    (sym c.has_wrong_properties.ensures ∙ c.if-has_wrong_properties.false) (sym c.lacks_location.ensures
    ∙ c.if-lacks_location.false) (sym c.lacks_sku.ensures ∙ c.if-lacks_sku.true))

pub returns-then-has_wrong_name : goal.returns-then-has_wrong_name
returns-then-has_wrong_name c =
    ap Some (word (codes "AccountNameInvalid") refl)
    ∙ sym (fourth_code c.args.named.now.kind c.args.named.now.name (json c.args.body.now)
    (sym c.has_wrong_properties.ensures ∙ c.if-has_wrong_properties.false) (sym c.lacks_location.ensures
    ∙ c.if-lacks_location.false) (sym c.lacks_sku.ensures ∙ c.if-lacks_sku.false) (sym c.has_wrong_name.ensures
    ∙ c.if-has_wrong_name.true))

pub returns : goal.returns
returns c =
    sym (no_code c.args.named.now.kind c.args.named.now.name (json c.args.body.now)
    (sym c.has_wrong_properties.ensures ∙ c.if-has_wrong_properties.false) (sym c.lacks_location.ensures
    ∙ c.if-lacks_location.false) (sym c.lacks_sku.ensures ∙ c.if-lacks_sku.false) (sym c.has_wrong_name.ensures
    ∙ c.if-has_wrong_name.false))
