-- The files of a program that is read and checked stand for its resolved files.
use Rattle.std.proofs.Common.{◌≡◌, List, [], ◌∷◌, length, arith}
use Rattle.template_parts.specs.declared.mode.Form.{Form}
use Rattle.bicep_tree.specs.Tree.{FileTree}
use Rattle.resolved_program.specs.Programs.{ResolvedFileTree}
use Rattle.sound_files.specs.Files.{IsFileOf}
use Rattle.source_files.specs.Sources.{source_file, source_files}
use Rattle.sound_programs.specs.Files.{AreFilesOf}

pub files_are : (z : Form) → ((t : FileTree) (r : ResolvedFileTree) → IsFileOf r (source_file z t r))
    → (ts : List FileTree) (rs : List ResolvedFileTree) → length ts ≡ length rs
    → AreFilesOf rs (source_files z ts rs)
files_are z law [] [] e = tt
files_are z law [] (r ∷ rs) e = absurd (omega (arith, e))
files_are z law (t ∷ ts) [] e = absurd (omega (arith, e))
files_are z law (t ∷ ts) (r ∷ rs) e = (law t r, files_are z law ts rs (omega (arith, e)))
