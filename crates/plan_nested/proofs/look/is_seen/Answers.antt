use Rattle.std.proofs.Common.{ap, subst, ◌∙◌}
use Rattle.reading.specs.Reading.{pure}
use Rattle.plan_sight.specs.Sites.{truth_of_found}
use Rattle.plan_sight.specs.Ready.{told_in}
use Rattle.plan_nested.specs.Sighted.{IsThere, found_of}
use Rattle.plan_nested.proofs.OutputLemmas.{seen_inside}
use Rattle.plan_nested.proofs.look.is_seen.Goals as goal
use Rattle.plan_sight.proofs.ToldLemmas.{told_pure}

pub returns-in-Scope : goal.returns-in-Scope
returns-in-Scope c =
    λ t there.
    ap (λ s. told_in t (pure (truth_of_found (found_of t s)))) c.in-Scope.is
    ∙ seen_inside t c.in-Scope.field-0 (subst (IsThere t) c.in-Scope.is there)

pub returns-in-LeftAway : goal.returns-in-LeftAway
returns-in-LeftAway c =
    λ t there.
    ap (λ s. told_in t (pure (truth_of_found (found_of t s)))) c.in-LeftAway.is ∙ told_pure t _

pub returns-in-Nowhere : goal.returns-in-Nowhere
returns-in-Nowhere c =
    λ t there.
    ap (λ s. told_in t (pure (truth_of_found (found_of t s)))) c.in-Nowhere.is ∙ told_pure t _
