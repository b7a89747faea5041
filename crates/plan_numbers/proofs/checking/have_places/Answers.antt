use Rattle.std.proofs.Common.{ℕ, ◌<◌, not, ap, ◌∙◌}
use Rattle.plan_numbers.specs.Numbers.{HasPlace}
use Rattle.plan_numbers.proofs.CheckLemmas.{decides_no}
use Rattle.plan_numbers.proofs.NumberLemmas.{place_more, not_placed}
use Rattle.plan_numbers.proofs.checking.have_places.Goals as goal

pub scopes-preserved : goal.scopes-preserved
scopes-preserved c = λ os a.
    place_more os c.scopes.frame c.in_ok-tag.tag.items c.first_place.result c.in_ok-tag.ensures
    (c.first_place.ensures os a) (c.is_none.ensures ∙ ap not c.if-is_none.false) (c.scopes.invariant os a)

pub returns-then-is_none : goal.returns-then-is_none
returns-then-is_none c = λ os a.
    decides_no ((f : ℕ) → f < c.args.count → HasPlace os f) (λ all.
    not_placed os c.scopes.frame c.in_ok-tag.tag.items c.first_place.result c.in_ok-tag.ensures
    (c.first_place.ensures os a) (c.is_none.ensures ∙ ap not c.if-is_none.true)
    (all c.scopes.frame c.scopes-test.true))
