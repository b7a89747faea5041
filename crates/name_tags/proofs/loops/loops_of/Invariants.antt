use Rattle.std.proofs.Common.{◌≡◌, ◌++◌, map, drop}
use Rattle.plan_table.specs.Listed.{listed_of}
use Rattle.name_tags.specs.Loops.{loop_titles}
use Rattle.name_tags.proofs.loops.loops_of.Given as goal

abbrev pub invariant-loop-resource : goal.invariant-loop-resource
invariant-loop-resource l = l.names ++ loop_titles (map listed_of (drop l.resource-index l.resources))
    ≡ loop_titles (map listed_of l.resources)
