use Rattle.std.proofs.Common.{◌≡◌, drop}
use Rattle.arm_edges.specs.Files.{file_in}
use Rattle.arm_edges.proofs.mem_tree.MemTree.find.Given as goal

abbrev pub invariant-loop-file : goal.invariant-loop-file
invariant-loop-file l = file_in l.self.files.items l.name ≡ file_in (drop l.file-index l.self.files.items) l.name
