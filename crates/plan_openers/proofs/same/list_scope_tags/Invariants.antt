use Rattle.std.proofs.Common.{◌≡◌, ◌++◌, map, drop}
use Rattle.tag_needs.specs.Tags.{tags_in}
use Rattle.plan_table.specs.Whole.{whole_of, scopes_of}
use Rattle.plan_refusals.specs.Start.{start_of}
use Rattle.plan_openers.specs.SameNested.{scope_tags}
use Rattle.plan_openers.proofs.same.list_scope_tags.Given as goal

abbrev pub invariant-frames : goal.invariant-frames
invariant-frames l = tags_in l.all.items
    ++ map (scope_tags (whole_of l.table) (start_of l.table)) (drop l.frame (scopes_of l.table))
    ≡ map (scope_tags (whole_of l.table) (start_of l.table)) (scopes_of l.table)
