-- What a table states: the file, and what those of its declarations become that are in the table.
use Rattle.std.specs.Prelude.{ℕ, Bool, false, List, [], map, slice_index_or}
use Rattle.template_parts.specs.declared.looping.Batches.TheVariants.{Parallel}
use Rattle.bicep_symbols.specs.Entries.{symbol_of}
use Rattle.declared_types.specs.View.{file_tree}
use Rattle.emitted_expressions.specs.Files.{SourceFile}
use Rattle.arm_expr.specs.Tree.{Tree}
use Rattle.emitted_expressions.specs.Emitted.{Frame}
use Rattle.resolved_program.specs.declared.resolved.ResolvedFile.{ResolvedFile}
use Rattle.kept_parts.specs.Declared.{Emission, whole}
use Rattle.ordered_emissions.specs.Holes.{refilled}
use Rattle.emitted_expressions.specs.Sight.{Sight}
use Rattle.ordered_emissions.specs.Known.{known, known_full_name, known_condition}
use Rattle.declared_table.specs.declared.mark.Mark.{Mark}

-- a symbol without a mark is no variable that has an entry, and all instances of its loop may begin at once
abbrev pub unmarked : Mark
unmarked = record { has_entry = false; batches = Parallel }

abbrev pub mark_of : List Mark → ℕ → Mark
mark_of marks n = slice_index_or marks n unmarked

-- a file of a program, as far as emission looks at it: its list of modules and the values of its parameters are left
-- out; the variables that have an entry, and the batches of loops, are marked by their numbers
abbrev pub file_of : ResolvedFile → List Mark → SourceFile
file_of r marks = record {
  symbols = map symbol_of r.entries.items;
  declared = file_tree r.declared;
  outputs = r.outputs.items;
  modules = [];
  has_entry = λ n. (mark_of marks n).has_entry;
  accepts = λ n j. false;
  batches = λ n. (mark_of marks n).batches;
}

-- a file of the program as another file looks at it
abbrev pub file_outside : ResolvedFile → SourceFile
file_outside r = file_of r []

-- the files of a program
abbrev pub files_of : List ResolvedFile → List SourceFile
files_of rs = map file_outside rs

-- the file and all files; the marks of the symbols, and which of them are in the table, by their numbers
abbrev pub Shape : Type 0
Shape = (ResolvedFile × List ResolvedFile) × (List Mark × List Bool)

abbrev pub file_in : Shape → SourceFile
file_in s = file_of s.0.0 s.1.0

abbrev pub files_in : Shape → List SourceFile
files_in s = files_of s.0.1

-- whether a symbol is in the table
abbrev pub is_known : Shape → ℕ → Bool
is_known s n = slice_index_or s.1.1 n false

-- what all declarations of the file become
abbrev pub whole_in : Shape → Emission
whole_in s = whole (file_in s) (files_in s)

-- what the declarations become, as far as they are in the table
abbrev pub emission_in : Shape → Emission
emission_in s = known (is_known s) (whole_in s)

abbrev pub sight : Shape → Sight
sight s = record { file = file_in s; files = files_in s; scope = (emission_in s).scope }

-- the whole name and the condition of a declaration, as far as they are in the table
abbrev pub full_name_in : Shape → ℕ → List Frame → Tree
full_name_in s n fs = known_full_name (is_known s) (whole_in s) n fs

abbrev pub condition_in : Shape → ℕ → List Frame → Tree
condition_in s n fs = known_condition (is_known s) (whole_in s) n fs

-- a table of all declarations: names and ids are made of those with holes
abbrev pub whole_sight : SourceFile → List SourceFile → Sight
whole_sight file files = record { file = file; files = files; scope = refilled (whole file files).scope }
