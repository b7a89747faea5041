use Rattle.std.proofs.Common.{sym, subst}
use Rattle.plan_sight.specs.Scopes.{visible}
use Rattle.plan_sight.specs.Sites as sites
use Rattle.plan_table.specs.Whole.{whole_of}
use Rattle.plan_table.specs.Found.{scope_at}
use Rattle.plan_sight.specs.Ready.{told_in}
use Rattle.plan_sight.specs.Seen.{Yields}
use Rattle.plan_listing.specs.Hits.{is_at, is_wanted}
use Rattle.plan_listing.proofs.KeyLemmas.{one_test}
use Rattle.plan_nested.specs.Sighted.{found_of}
use Rattle.plan_nested.proofs.seeking.seek.Goals as goal

pub returns-in-Ok-clause-told : goal.returns-in-Ok-clause-told
returns-in-Ok-clause-told c =
    let t = c.args.table.now in
    subst (λ test. Yields (found_of t) t c.seek_wanted.result (told_in t (sites.seek (whole_of t).template test
    (visible (whole_of t).template (scope_at t c.args.frame).position))))
    (sym (one_test (is_at c.args.key.now c.args.place.now) (is_wanted c.in-Ok.wanted) c.in-Ok.ensures))
    c.seek_wanted.ensures.told
