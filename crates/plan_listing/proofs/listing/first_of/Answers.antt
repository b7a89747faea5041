use Rattle.std.proofs.Common.{sym, subst, map}
use Rattle.arm_value.specs.View.{json}
use Rattle.deploy_cells.specs.Listing.{named_of}
use Rattle.plan_listing.specs.Hits.{is_wanted}
use Rattle.plan_listing.proofs.HitLemmas.{IsSeeking, seeking_begins, hit_here, hit_later}
use Rattle.plan_listing.proofs.listing.first_of.Goals as goal

pub loop-index-init : goal.loop-index-init
loop-index-init c = seeking_begins (is_wanted c.args.wanted.now) (map named_of (map json c.args.instances.now))

pub returns-then-is_both : goal.returns-then-is_both
returns-then-is_both c =
    hit_here (is_wanted c.args.wanted.now) c.args.instances.now c.loop-index.index c.loop-index.left
    c.index-instances-index.result c.entry_of-entry.result c.is_wanted-named.result c.is_both.result
    c.loop-index-test.true c.index-instances-index.is c.entry_of-entry.ensures c.is_wanted-named.ensures
    c.is_both.ensures c.loop-index.invariant c.if-is_both.true

pub loop-index-preserved : goal.loop-index-preserved
loop-index-preserved c =
    subst (IsSeeking (is_wanted c.args.wanted.now) (map named_of (map json c.args.instances.now)) _)
    (sym c.is_either-left.ensures)
    (hit_later (is_wanted c.args.wanted.now) c.args.instances.now c.loop-index.index c.loop-index.left
    c.index-instances-index.result c.entry_of-entry.result c.is_wanted-named.result c.is_both.result
    c.loop-index-test.true c.index-instances-index.is c.entry_of-entry.ensures c.is_wanted-named.ensures
    c.is_both.ensures c.loop-index.invariant c.if-is_both.false)
