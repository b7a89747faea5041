-- Programs that are read and checked are sound.
use Rattle.std.proofs.Common.{◌≡◌, ℕ, zero, suc, List, [], ◌∷◌, Option, Some, None, refl, subst, sym}
use Rattle.std.proofs.lemmas.Option.{none-some, same_Some}
use Rattle.std.specs.Prelude.{slice_get, option_and_then}
use Rattle.std.specs.List.{AllByRecursion}
use Rattle.deploy_cells.specs.Cells.{Position}
use Rattle.bicep_declared.specs.Declarations.{DeclaredFileTree}
use Rattle.bicep_program.specs.Program.{ProgramFile}
use Rattle.bicep_program.specs.Sources.{Folder, IsReadAs}
use Rattle.resolved_program.specs.Programs.{ResolvedFileTree, IsResolved}
use Rattle.bicep_types.specs.Faults.{HasFault}
use Rattle.bicep_types.specs.declared.fault.CheckFault.{CheckFault}
use Rattle.bicep_meaning.specs.Files.{SourceFile, symbol_kind}
use Rattle.bicep_meaning.specs.Instances.{SourceProgram, module_of, module_file, file_at}
use Rattle.bicep_emission.specs.Answered.{IsPlainPlace}
use Rattle.sound_declarations.specs.Values.{AreValuesSound}
use Rattle.sound_files.specs.Files.{IsFileOf}
use Rattle.sound_files.proofs.FileLemmas.{sound_file, sound_values}
use Rattle.file_words.proofs.FileLemmas.{few_holes}
use Rattle.emitted_needs.specs.Sound.{IsSoundFile, IsSoundProgram}
use Rattle.sound_programs.specs.Files.{AreFilesOf}
use Rattle.sound_programs.proofs.ValueLemmas.{file_sound}

-- ---- the file at a position is one of the program

pub record IsOne (fs : List SourceFile) (f : SourceFile) : Type 0 where
  pub number : ℕ
  pub is : slice_get fs number ≡ Some f

by_number : (fs : List SourceFile) (f : SourceFile) (o : Option ℕ) → option_and_then (slice_get fs) o ≡ Some f
    → IsOne fs f
by_number fs f None e = absurd (none-some f e)
by_number fs f (Some n) e = record { number = n; is = e }

by_file : (fs : List SourceFile) (n : ℕ) (f : SourceFile) (o : Option SourceFile)
    → option_and_then (module_file fs n) o ≡ Some f → IsOne fs f
by_file fs n f None e = absurd (none-some f e)
by_file fs n f (Some g) e = by_number fs f (option_and_then module_of (symbol_kind g n)) e

pub one_of : (fs : List SourceFile) (p : Position) (f : SourceFile) → file_at fs p ≡ Some f → IsOne fs f
unfolding file_at
one_of fs [] f e = record { number = 0; is = e }
one_of fs (s ∷ p) f e = by_file fs s.resource f (file_at fs p) e

-- ---- the resolved file of a file

pub record IsFrom (rs : List ResolvedFileTree) (k : ℕ) (f : SourceFile) : Type 0 where
  pub resolved : ResolvedFileTree
  pub is : slice_get rs k ≡ Some resolved
  pub file : IsFileOf resolved f

pub from : (rs : List ResolvedFileTree) (fs : List SourceFile) (k : ℕ) (f : SourceFile) → AreFilesOf rs fs
    → slice_get fs k ≡ Some f → IsFrom rs k f
from [] [] k f h e = absurd (none-some f e)
from [] (g ∷ fs) k f h e = absurd h
from (r ∷ rs) [] k f h e = absurd h
from (r ∷ rs) (g ∷ fs) zero f h e =
    record { resolved = r; is = refl; file = subst (IsFileOf r) (same_Some g f e) h.0 }
from (r ∷ rs) (g ∷ fs) (suc k) f h e =
    let a = from rs fs k f h.1 e in record { resolved = a.resolved; is = a.is; file = a.file }

-- ---- programs

module _ (folder : Folder) (ps : List ProgramFile) (read : AllByRecursion (λ p. IsReadAs folder p.name p.tree) ps)
    (rs : List ResolvedFileTree) (res : IsResolved ps rs) (none : (x : CheckFault) → ¬ HasFault ps x) where
  numbered : (k : ℕ) (f : SourceFile) → IsFrom rs k f → IsSoundFile f
  numbered k f a =
      let few = few_holes folder ps read rs res k a.resolved a.is in
      file_sound f (sound_file ps rs res none k a.resolved a.is few f a.file)
      (subst (λ (x : DeclaredFileTree). AreValuesSound x) (sym a.file.declared)
      (sound_values ps rs res none k a.resolved a.is few))

  pub program_sound : (x : SourceProgram) → AreFilesOf rs x.files → IsPlainPlace x.place → IsSoundProgram x
  program_sound x own plain = record {
    place = plain;
    files = λ p f e.
        let a = one_of x.files p f e in numbered a.number f (from rs x.files a.number f own a.is);
  }
