-- The file of a program that its text and its resolved names stand for.
use Rattle.std.specs.Prelude.{ℕ, Bool, true, false, List, [], ◌∷◌, Option, Some, slice_get, if◌then◌else◌}
use Rattle.template_parts.specs.declared.mode.Form.{Form}
use Rattle.bicep_tree.specs.Tree.{FileTree}
use Rattle.bicep_declared.specs.Declarations.{DeclaredTree}
use Rattle.bicep_declared.specs.Declarations as d
use Rattle.resolved_program.specs.Programs.{ResolvedFileTree}
use Rattle.bicep_mentions.specs.Entries.{has_entry}
use Rattle.sound_files.specs.Faults.{kinds_of}
use Rattle.bicep_meaning.specs.Files.{SourceFile, declaration}
use Rattle.source_worlds.specs.Numbers.{in_template}
use Rattle.symbol_decorators.specs.Batches.{batches_of}
use Rattle.symbol_decorators.specs.Decorators.{decorators_of}
use Rattle.parameter_rules.specs.Rules.{accepts_by, type_of, or_no}

abbrev pub is_module_by : Option DeclaredTree → Bool
is_module_by (Some (d.a_module at b)) = true
is_module_by o = false

-- the modules among these numbers
abbrev pub modules_among : SourceFile → List ℕ → List ℕ
modules_among f [] = []
modules_among f (n ∷ ns) =
    if is_module_by (declaration f n) then n ∷ modules_among f ns else modules_among f ns

-- the modules of a file, in the order of its template
abbrev pub modules_of : Form → SourceFile → List ℕ
modules_of z f = modules_among f (in_template z f)

-- the file without the list of its modules: its declarations by their names, and by their decorators the batches of
-- loops and the values that parameters may have; a variable that reads no state has an entry
abbrev pub without_modules : FileTree → ResolvedFileTree → SourceFile
without_modules t r = record {
  symbols = r.symbols;
  declared = r.declared;
  outputs = r.outputs;
  modules = [];
  has_entry = λ n. has_entry (kinds_of r) r.declared.declarations n;
  accepts = λ n j. accepts_by (type_of (slice_get r.declared.declarations n)) (or_no (slice_get (decorators_of t) n)) j;
  batches = λ n. batches_of t n;
}

abbrev pub with_modules : SourceFile → List ℕ → SourceFile
with_modules f ms = record f { modules = ms }

-- the file of a text and of what its names are, for the form of its template
abbrev pub source_file : Form → FileTree → ResolvedFileTree → SourceFile
source_file z t r = with_modules (without_modules t r) (modules_of z (without_modules t r))

-- the files of a program
abbrev pub source_files : Form → List FileTree → List ResolvedFileTree → List SourceFile
source_files z [] rs = []
source_files z (t ∷ ts) [] = []
source_files z (t ∷ ts) (r ∷ rs) = source_file z t r ∷ source_files z ts rs
