use Rattle.std.proofs.Common.{codes, refl, ap, ◌∙◌}
use Rattle.matchit.proofs.OnLiterals.{matchit_on_literals}
use Rattle.http_routes.specs.Patterns.{patterns, with_pattern}
use Rattle.http_routes.specs.declared.pattern.Pattern.TheVariants.{Groups, Group, Resources, InGroup, InSubscription}
use Rattle.http_routes.proofs.pattern.patterns.Goals as goal

pub with_pattern-requires : goal.with_pattern-requires
unfolding matchit_on_literals
with_pattern-requires c = rw c.new.ensures (_, refl, refl)

pub with_pattern-requires-2 : goal.with_pattern-requires-2
unfolding matchit_on_literals
with_pattern-requires-2 c = rw (c.in_ok-router.ensures, c.new.ensures) (_, refl, refl)

pub with_pattern-requires-3 : goal.with_pattern-requires-3
unfolding matchit_on_literals
with_pattern-requires-3 c = rw (c.in_ok-router-2.ensures, c.in_ok-router.ensures, c.new.ensures) (_, refl, refl)

pub with_pattern-requires-4 : goal.with_pattern-requires-4
unfolding matchit_on_literals
with_pattern-requires-4 c =
    rw (c.in_ok-router-3.ensures, c.in_ok-router-2.ensures, c.in_ok-router.ensures, c.new.ensures) (_, refl, refl)

pub with_pattern-requires-5 : goal.with_pattern-requires-5
unfolding matchit_on_literals
with_pattern-requires-5 c =
    rw (
      c.in_ok-router-4.ensures,
      c.in_ok-router-3.ensures,
      c.in_ok-router-2.ensures,
      c.in_ok-router.ensures,
      c.new.ensures,
    ) (_, refl, refl)

pub returns : goal.returns
unfolding patterns
returns c =
    c.in_ok-router-5.ensures
    ∙ ap (with_pattern (codes "/subscriptions/{s}/providers/{*rest}") InSubscription) (c.in_ok-router-4.ensures
    ∙ ap (with_pattern (codes "/subscriptions/{s}/resourcegroups/{g}/providers/{*rest}") InGroup)
    (c.in_ok-router-3.ensures
    ∙ ap (with_pattern (codes "/subscriptions/{s}/resourcegroups/{g}/resources") Resources) (c.in_ok-router-2.ensures
    ∙ ap (with_pattern (codes "/subscriptions/{s}/resourcegroups/{g}") Group) (c.in_ok-router.ensures
    ∙ ap (with_pattern (codes "/subscriptions/{s}/resourcegroups") Groups) c.new.ensures))))
