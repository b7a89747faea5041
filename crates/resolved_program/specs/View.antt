-- The trees that values of the code represent.
use Rattle.std.specs.Prelude.{List, map}
use Rattle.bicep_symbols.specs.Entries.{symbol_of}
use Rattle.bicep_declared.specs.View.{file_tree}
use Rattle.bicep_program.specs.Program.{program_file}
use Rattle.resolved_program.specs.declared.named.Named.{Named}
use Rattle.resolved_program.specs.declared.resolved.ResolvedFile.{ResolvedFile}
use Rattle.resolved_program.specs.declared.resolved.ResolvedProgram.{ResolvedProgram}
use Rattle.resolved_program.specs.Programs.{ResolvedFileTree, with_names, NamedTree, named_by}

abbrev pub file_view : ResolvedFile → ResolvedFileTree
file_view r = with_names (map symbol_of r.entries.items) r.outputs.items (file_tree r.declared)

abbrev pub files_view : ResolvedProgram → List ResolvedFileTree
files_view p = map file_view p.files.items

abbrev pub named_view : Named → NamedTree
named_view n = named_by (program_file n.file.now) (map symbol_of n.entries.items) n.symbols
