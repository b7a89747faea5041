use Rattle.std.proofs.Common.{◌≡◌, ◌<◌, length}
use Rattle.plan_sight.specs.Scopes.{visible}
use Rattle.plan_sight.specs.Sites as sites
use Rattle.plan_table.specs.Whole.{whole_of}
use Rattle.plan_table.specs.Found.{scope_at}
use Rattle.plan_sight.specs.Ready.{told_in}
use Rattle.plan_listing.specs.Hits.{is_wanted}
use Rattle.plan_nested.proofs.seeking.seek_wanted.Given as goal

abbrev pub invariant-scopes : goal.invariant-scopes
invariant-scopes l = record {
  there : l.at < length l.table.frames.items;
  told : told_in l.table (sites.seek (whole_of l.table).template (is_wanted l.wanted)
      (visible (whole_of l.table).template (scope_at l.table l.at).position))
      ≡ told_in l.table (sites.seek (whole_of l.table).template (is_wanted l.wanted)
      (visible (whole_of l.table).template (scope_at l.table l.frame).position));
}

abbrev pub decreases-scopes : goal.decreases-scopes
decreases-scopes l = l.at
