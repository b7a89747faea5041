use Rattle.std.proofs.Common.{◌≡◌, ◌++◌, map, drop}
use Rattle.plan_table.specs.Opened.{opened_of}
use Rattle.dependency_titles.specs.Titles.{scope_titles}
use Rattle.dependency_titles.proofs.titles.titles_of_scopes.Given as goal

abbrev pub invariant-loop-frame : goal.invariant-loop-frame
invariant-loop-frame l = l.all.items ++ map scope_titles (map opened_of (drop l.frame-index l.frames))
    ≡ map scope_titles (map opened_of l.frames)
