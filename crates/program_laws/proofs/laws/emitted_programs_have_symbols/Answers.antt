use Rattle.std.proofs.Common.{List, sym, subst}
use Rattle.bicep_program.specs.Program.{files_of}
use Rattle.resolved_program.specs.View.{files_view}
use Rattle.bicep_meaning.specs.Files.{SourceFile}
use Rattle.sound_programs.specs.Files.{AreFilesOf}
use Rattle.bicep_emit.specs.Programs.{trees_of}
use Rattle.bicep_emit.proofs.FileLemmas.{sizes_same}
use Rattle.program_laws.proofs.ProgramLemmas.{files_are}
use Rattle.program_laws.proofs.laws.emitted_programs_have_symbols.Goals as goal

pub returns : goal.returns
returns c = λ z p k d h.
    let ps = files_of p in
    let rs = files_view k.resolved in
    c.symbols_of_checked_programs_differ.ensures h.loaded.0 ps h.loaded.1.1.read rs h.checked.resolved h.none d
    (subst (λ (fs : List SourceFile). AreFilesOf rs fs) (sym h.files)
    (files_are z (c.source_files_are_of_texts.ensures.file z) (trees_of ps) rs
    (sizes_same ps rs h.checked.resolved)))
