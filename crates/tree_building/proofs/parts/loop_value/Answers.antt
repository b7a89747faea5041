use Rattle.std.proofs.Common.{◌≡◌, [], ◌∙◌, ap, codes, refl}
use Rattle.foundation.proofs.AsciiWords.{word}
use Rattle.arm_value.specs.Json.{text, object, pairs, put}
use Rattle.arm_expr.specs.Print.{printed}
use Rattle.tree_building.proofs.parts.loop_value.Goals as goal

pub returns-clause-value : goal.returns-clause-value
returns-clause-value c = λ x e h.
    let named : c.in-Ok.named ≡ put (codes "name") (text c.args.name.now) [] =
    c.in-Ok.ensures ∙ (λ i. put (word (codes "name") refl i) (text c.args.name.now) (c.new.ensures i)) in
    let counted : c.in-Ok-with_value.counted
    ≡ put (codes "count") (text (printed x)) (put (codes "name") (text c.args.name.now) []) =
    c.in-Ok-with_value.ensures ∙ (λ i. put (word (codes "count") refl i) (text (h.0 i)) (named i)) in
    ap (λ ms. object (pairs ms))
    (c.in_ok-whole.ensures ∙ (λ i. put (word (codes "input") refl i) (h.1 i) (counted i)))
