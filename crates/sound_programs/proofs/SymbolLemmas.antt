-- The symbols of programs that are read and checked have names of template expressions, which differ.
use Rattle.std.proofs.Common.{◌≡◌, inl, inr, ℕ, ◌<◌, true, true≢false, List, length, Option, Some, None, refl, sym, ap}
use Rattle.std.proofs.Common.{◌∙◌, arith}
use Rattle.std.proofs.lemmas.Option.{slice_get_cases, slice_get_within}
use Rattle.std.specs.Prelude.{is_some, option_map}
use Rattle.std.specs.List.{AllByRecursion}
use Rattle.bicep_symbols.specs.Entries.{Symbol}
use Rattle.bicep_symbols.specs.Repeated.{repeated_symbol}
use Rattle.bicep_declared.specs.Declarations.{DeclaredTree}
use Rattle.bicep_program.specs.Program.{ProgramFile}
use Rattle.bicep_program.specs.Sources.{Folder, IsReadAs}
use Rattle.resolved_program.specs.Programs.{ResolvedFileTree, IsResolved}
use Rattle.bicep_types.specs.Faults.{HasFault}
use Rattle.bicep_types.specs.declared.fault.CheckFault.{CheckFault}
use Rattle.bicep_meaning.specs.Files.{SourceFile, symbol_name, declaration}
use Rattle.bicep_meaning.specs.Instances.{SourceProgram, put_by}
use Rattle.sound_files.proofs.FileLemmas.{paired_file, no_name_twice}
use Rattle.file_words.proofs.FileLemmas.{symbols_are_names}
use Rattle.symbol_names.proofs.NameLemmas.{symbols_apart}
use Rattle.emitted_needs.specs.Symbols.{HasSymbols, HaveSymbols}
use Rattle.sound_programs.specs.Files.{AreFilesOf}
use Rattle.sound_programs.proofs.ProgramLemmas.{IsFrom, one_of, from}

-- ---- what is put has a name

put_within : (f : SourceFile) (n : ℕ) (o : Option DeclaredTree) → declaration f n ≡ o
    → is_some (put_by f n o) ≡ true → n < length f.declared.declarations
put_within f n None e g = absurd (true≢false (sym g))
put_within f n (Some x) e g = slice_get_within f.declared.declarations n x e

symbol_there : (f : SourceFile) → length f.symbols ≡ length f.declared.declarations → (n : ℕ)
    → n < length f.declared.declarations → (x : List ℕ) × (symbol_name f n ≡ Some x)
symbol_there f p n w =
    elim (slice_get_cases f.symbols n).1 [
      | inl h ↦ (h.0.1, ap (option_map (λ (s : Symbol). s.1)) h.2)
      | inr h ↦ let le = h.0 in absurd (omega (arith, le, w, p))
    ]

-- ---- programs

module _ (folder : Folder) (ps : List ProgramFile) (read : AllByRecursion (λ p. IsReadAs folder p.name p.tree) ps)
    (rs : List ResolvedFileTree) (res : IsResolved ps rs) (none : (x : CheckFault) → ¬ HasFault ps x) where
  numbered : (k : ℕ) (f : SourceFile) → IsFrom rs k f → HasSymbols f
  numbered k f a = record {
    named = λ n e. symbol_there f (paired_file ps rs res none k a.resolved a.is f a.file) n
        (put_within f n (declaration f n) refl e);
    names = symbols_are_names folder ps read rs res k a.resolved a.is f a.file;
    differ = symbols_apart f
        (ap repeated_symbol a.file.symbols ∙ no_name_twice ps rs res none k a.resolved a.is);
  }

  pub program_symbols : (x : SourceProgram) → AreFilesOf rs x.files → HaveSymbols x
  program_symbols x own p f e =
      let a = one_of x.files p f e in numbered a.number f (from rs x.files a.number f own a.is)
