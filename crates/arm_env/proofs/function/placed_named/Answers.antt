use Rattle.std.proofs.Common.{◌≡◌, codes, true, false, refl, sym, ap, ◌∙◌}
use Rattle.arm_value.specs.Look.{is_same_folded}
use Rattle.arm_env.specs.Names.{placed_named}
use Rattle.arm_env.proofs.Words.{word_resourceId, word_subscriptionResourceId, word_resourceGroup}
use Rattle.arm_env.proofs.Words.{word_subscription, word_deployment}
use Rattle.arm_env.proofs.function.placed_named.Goals as goal

pub returns-then-equals_ignore_case-2 : goal.returns-then-equals_ignore_case-2
unfolding placed_named
returns-then-equals_ignore_case-2 c =
    let n = c.args.name.now in
    let one : is_same_folded (codes "resourceId") n ≡ false =
    ap (λ w. is_same_folded w n) (sym word_resourceId) ∙ sym c.equals_ignore_case.ensures
    ∙ c.if-equals_ignore_case.false in
    let two : is_same_folded (codes "subscriptionResourceId") n ≡ true =
    ap (λ w. is_same_folded w n) (sym word_subscriptionResourceId)
    ∙ sym c.equals_ignore_case-else-equals_ignore_case.ensures
    ∙ c.if-equals_ignore_case-2.true in
    rw (one, two) refl

pub returns-then-equals_ignore_case-4 : goal.returns-then-equals_ignore_case-4
unfolding placed_named
returns-then-equals_ignore_case-4 c =
    let n = c.args.name.now in
    let one : is_same_folded (codes "resourceId") n ≡ false =
    ap (λ w. is_same_folded w n) (sym word_resourceId) ∙ sym c.equals_ignore_case.ensures
    ∙ c.if-equals_ignore_case.false in
    let two : is_same_folded (codes "subscriptionResourceId") n ≡ false =
    ap (λ w. is_same_folded w n) (sym word_subscriptionResourceId)
    ∙ sym c.equals_ignore_case-else-equals_ignore_case.ensures
    ∙ c.if-equals_ignore_case-2.false in
    let three : is_same_folded (codes "resourceGroup") n ≡ false =
    ap (λ w. is_same_folded w n) (sym word_resourceGroup) ∙ sym c.equals_ignore_case-else-equals_ignore_case-2.ensures
    ∙ c.if-equals_ignore_case-3.false in
    let four : is_same_folded (codes "subscription") n ≡ true =
    ap (λ w. is_same_folded w n) (sym word_subscription) ∙ sym c.equals_ignore_case-else-equals_ignore_case-3.ensures
    ∙ c.if-equals_ignore_case-4.true in
    rw (one, two, three, four) refl

pub returns-then-equals_ignore_case-5 : goal.returns-then-equals_ignore_case-5
unfolding placed_named
returns-then-equals_ignore_case-5 c =
    let n = c.args.name.now in
    let one : is_same_folded (codes "resourceId") n ≡ false =
    ap (λ w. is_same_folded w n) (sym word_resourceId) ∙ sym c.equals_ignore_case.ensures
    ∙ c.if-equals_ignore_case.false in
    let two : is_same_folded (codes "subscriptionResourceId") n ≡ false =
    ap (λ w. is_same_folded w n) (sym word_subscriptionResourceId)
    ∙ sym c.equals_ignore_case-else-equals_ignore_case.ensures
    ∙ c.if-equals_ignore_case-2.false in
    let three : is_same_folded (codes "resourceGroup") n ≡ false =
    ap (λ w. is_same_folded w n) (sym word_resourceGroup) ∙ sym c.equals_ignore_case-else-equals_ignore_case-2.ensures
    ∙ c.if-equals_ignore_case-3.false in
    let four : is_same_folded (codes "subscription") n ≡ false =
    ap (λ w. is_same_folded w n) (sym word_subscription) ∙ sym c.equals_ignore_case-else-equals_ignore_case-3.ensures
    ∙ c.if-equals_ignore_case-4.false in
    let five : is_same_folded (codes "deployment") n ≡ true =
    ap (λ w. is_same_folded w n) (sym word_deployment) ∙ sym c.equals_ignore_case-else-equals_ignore_case-4.ensures
    ∙ c.if-equals_ignore_case-5.true in
    rw (one, two, three, four, five) refl

pub returns-else-equals_ignore_case-5 : goal.returns-else-equals_ignore_case-5
unfolding placed_named
returns-else-equals_ignore_case-5 c =
    let n = c.args.name.now in
    let one : is_same_folded (codes "resourceId") n ≡ false =
    ap (λ w. is_same_folded w n) (sym word_resourceId) ∙ sym c.equals_ignore_case.ensures
    ∙ c.if-equals_ignore_case.false in
    let two : is_same_folded (codes "subscriptionResourceId") n ≡ false =
    ap (λ w. is_same_folded w n) (sym word_subscriptionResourceId)
    ∙ sym c.equals_ignore_case-else-equals_ignore_case.ensures
    ∙ c.if-equals_ignore_case-2.false in
    let three : is_same_folded (codes "resourceGroup") n ≡ false =
    ap (λ w. is_same_folded w n) (sym word_resourceGroup) ∙ sym c.equals_ignore_case-else-equals_ignore_case-2.ensures
    ∙ c.if-equals_ignore_case-3.false in
    let four : is_same_folded (codes "subscription") n ≡ false =
    ap (λ w. is_same_folded w n) (sym word_subscription) ∙ sym c.equals_ignore_case-else-equals_ignore_case-3.ensures
    ∙ c.if-equals_ignore_case-4.false in
    let five : is_same_folded (codes "deployment") n ≡ false =
    ap (λ w. is_same_folded w n) (sym word_deployment) ∙ sym c.equals_ignore_case-else-equals_ignore_case-4.ensures
    ∙ c.if-equals_ignore_case-5.false in
    rw (one, two, three, four, five) refl
