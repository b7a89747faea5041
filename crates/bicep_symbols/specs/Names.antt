-- The names of a file, and those that are given twice.
use Rattle.std.specs.Prelude.{ℕ, List, Option}
use Rattle.bicep_tree.specs.Tree.{FileTree}
use Rattle.bicep_members.specs.Files.{repeated_member}
use Rattle.bicep_symbols.specs.Entries.{symbols_of}
use Rattle.bicep_symbols.specs.Outputs.{outputs_of}
use Rattle.bicep_symbols.specs.Repeated.{repeated_symbol, repeated_output}
use Rattle.foundation.specs.Options.{or_else}

-- the first name that is given twice in a file whose modules have the files of these numbers: a symbol, else an
-- output, else a name in an object or a loop
abbrev pub repeated_name : List ℕ → FileTree → Option ℕ
repeated_name ms f =
    or_else (repeated_symbol (symbols_of ms f)) (or_else (repeated_output (outputs_of f)) (repeated_member f))
