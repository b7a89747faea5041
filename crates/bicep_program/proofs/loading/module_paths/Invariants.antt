use Rattle.std.proofs.Common.{◌≡◌, ◌++◌, map, drop, Bor, List, ℕ}
use Rattle.bicep_tree.specs.View.{file_of}
use Rattle.bicep_program.specs.Program.{module_paths}
use Rattle.bicep_program.proofs.loading.module_paths.Given as goal

abbrev pub invariant-loop-statement : goal.invariant-loop-statement
invariant-loop-statement l =
    map (λ (p : Bor (List ℕ)). p.now) l.paths.items ++ module_paths (file_of (drop l.statement-index l.statements))
    ≡ module_paths (file_of l.statements)
