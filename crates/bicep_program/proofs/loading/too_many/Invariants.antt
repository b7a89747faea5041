use Rattle.std.proofs.Common.{◌≡◌, drop}
use Rattle.std.specs.List.{AllByRecursion}
use Rattle.module_links.specs.Links.{entry_names}
use Rattle.bicep_program.specs.Sources.{Has, folder_of}
use Rattle.bicep_program.proofs.loading.too_many.Given as goal

abbrev pub invariant-loop-entry : goal.invariant-loop-entry
invariant-loop-entry g l = record {
  file : g.T.Tree.file l.tree ≡ g.T.Tree.file l.initial.tree;
  faults : g.T.Tree.faults l.tree ≡ g.T.Tree.faults l.initial.tree;
  there : AllByRecursion (Has (folder_of g.T.Tree.tells_files (g.T.Tree.file l.initial.tree)))
      (entry_names (drop l.entry-index l.last))
      → AllByRecursion (Has (folder_of g.T.Tree.tells_files (g.T.Tree.file l.initial.tree))) (entry_names l.last);
}
