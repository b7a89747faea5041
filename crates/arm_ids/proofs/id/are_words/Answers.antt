use Rattle.std.proofs.Common.{◌≡◌, ℕ, List, Bool, chars, codes, sym, ap, ◌∙◌}
use Rattle.arm_value.specs.Look.{is_same_folded}
use Rattle.arm_ids.proofs.WordLemmas.{chars_subscriptions, chars_groups, chars_providers}
use Rattle.arm_ids.proofs.id.are_words.Goals as goal
use Rattle.foundation.proofs.TruthValues.{first_fails, second_fails, third_decides}

-- the test of a segment against a fixed word
test : (word segment : List ℕ) (r b : Bool) → r ≡ is_same_folded (chars word) segment → chars word ≡ word → r ≡ b
    → is_same_folded word segment ≡ b
test word segment r b e own known = ap (λ w. is_same_folded w segment) (sym own) ∙ sym e ∙ known

pub returns-then-not-equals_ignore_case : goal.returns-then-not-equals_ignore_case
returns-then-not-equals_ignore_case c =
    first_fails (is_same_folded (codes "subscriptions") c.args.subscriptions.now)
    (is_same_folded (codes "resourceGroups") c.args.groups.now)
    (is_same_folded (codes "providers") c.args.providers.now)
    (test _ _ _ _ c.equals_ignore_case.ensures chars_subscriptions c.if-not-equals_ignore_case.true)

pub returns-then-not-equals_ignore_case-2 : goal.returns-then-not-equals_ignore_case-2
returns-then-not-equals_ignore_case-2 c =
    second_fails (is_same_folded (codes "subscriptions") c.args.subscriptions.now)
    (is_same_folded (codes "resourceGroups") c.args.groups.now)
    (is_same_folded (codes "providers") c.args.providers.now)
    (test _ _ _ _ c.equals_ignore_case.ensures chars_subscriptions c.if-not-equals_ignore_case.false)
    (test _ _ _ _ c.equals_ignore_case-2.ensures chars_groups c.if-not-equals_ignore_case-2.true)

pub returns : goal.returns
returns c =
    third_decides (is_same_folded (codes "subscriptions") c.args.subscriptions.now)
    (is_same_folded (codes "resourceGroups") c.args.groups.now)
    (is_same_folded (codes "providers") c.args.providers.now) c.equals_ignore_case-3.result
    (test _ _ _ _ c.equals_ignore_case.ensures chars_subscriptions c.if-not-equals_ignore_case.false)
    (test _ _ _ _ c.equals_ignore_case-2.ensures chars_groups c.if-not-equals_ignore_case-2.false)
    (c.equals_ignore_case-3.ensures ∙ ap (λ w. is_same_folded w c.args.providers.now) chars_providers)
