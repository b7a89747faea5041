use Rattle.std.proofs.Common.{◌≡◌, ◌≤◌, ◌-◌, length, map, chars}
use Rattle.bicep_program.specs.Sources.{folder_of}
use Rattle.bicep_program.specs.Program.{program_file}
use Rattle.bicep_program.specs.Loading.{HasCome}
use Rattle.bicep_program.proofs.program.load.Given as goal

abbrev pub invariant-loop-tree : goal.invariant-loop-tree
invariant-loop-tree g l = record {
  come : HasCome (folder_of g.T.Tree.tells_files (g.T.Tree.file l.initial.tree)) (chars l.main) l.entries.items
      (map program_file l.files.items);
  few : length l.entries.items ≤ 65;
  within : length l.files.items ≤ length l.entries.items;
  file : g.T.Tree.file l.tree ≡ g.T.Tree.file l.initial.tree;
  faults : g.T.Tree.faults l.tree ≡ g.T.Tree.faults l.initial.tree;
}

abbrev pub decreases-loop-tree : goal.decreases-loop-tree
decreases-loop-tree g l = 65 - length l.files.items
