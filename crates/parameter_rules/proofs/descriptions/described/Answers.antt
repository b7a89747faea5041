use Rattle.std.proofs.Common.{◌≡◌, codes, refl, sym, ap, ◌∙◌, Some}
use Rattle.std.specs.Prelude.{option_map}
use Rattle.std.specs.Str.{chars}
use Rattle.arm_value.specs.Json.{text, object, pairs, put}
use Rattle.parameter_rules.specs.Metadata.{metadata_by, or_none}
use Rattle.parameter_rules.proofs.descriptions.described.Goals as goal

word : chars (codes "description") ≡ codes "description"
unfolding chars
word = refl

pub returns-in_ok-with_copy-in-Some : goal.returns-in_ok-with_copy-in-Some
returns-in_ok-with_copy-in-Some c =
    let members : c.in_ok-with_copy-in-Some.field-0
    ≡ put (codes "description") (text c.in-Some.text.now) (or_none c.args.members) =
    c.in_ok-with_copy-in-Some.ensures
    ∙ (λ i. put (word i) (text c.in-Some.text.now) (c.or_none.ensures i)) in
    ap (λ ms. Some (object (pairs ms))) members
    ∙ ap (λ o. metadata_by (option_map (λ t. t.now) o) c.args.members) (sym c.in-Some.is)
