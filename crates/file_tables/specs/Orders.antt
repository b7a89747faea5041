-- What is known of a file before its table is filled.
use Rattle.std.specs.Prelude.{◌≡◌, ℕ, Bool, false, List, map, slice_index_or, Result, IfOk}
use Rattle.std.specs.declared.alloc.AllocError.{AllocError}
use Rattle.std.specs.declared.alloc.Global.{Global}
use Rattle.std.specs.declared.vec.Vec.{Vec}
use Rattle.template_parts.specs.declared.looping.Batches.{Batches}
use Rattle.template_parts.specs.declared.looping.Batches.TheVariants.{Parallel}
use Rattle.depend_graph.specs.declared.order.Sorted.TheVariants as sorted
use Rattle.bicep_names.specs.declared.kind.Kind.{Kind}
use Rattle.bicep_declared.specs.View.{declared_tree}
use Rattle.bicep_declared.specs.declared.declared.Declared.{Declared}
use Rattle.resolved_program.specs.Programs.{ResolvedFileTree}
use Rattle.resolved_program.specs.declared.resolved.ResolvedFile.{ResolvedFile}
use Rattle.resolved_program.specs.View.{file_view}
use Rattle.bicep_circles.specs.Orders.{IsLinkOrder, AreSorted}
use Rattle.bicep_mentions.specs.Agreement.{IsKnown}
use Rattle.bicep_mentions.specs.Entries.{has_entry, state_reads}
use Rattle.bicep_states.specs.View.{known}
use Rattle.bicep_states.specs.declared.table.StateTable.{StateTable}
use Rattle.bicep_checks.specs.Faults.{links_of, kinds_of}
use Rattle.sound_files.specs.Files.{IsFileOf}
use Rattle.declared_table.specs.Seen.{file_of, mark_of}
use Rattle.declared_table.specs.declared.mark.Mark.{Mark}
use Rattle.file_tables.specs.Checked.{IsCheckedFile}
use Rattle.file_tables.specs.declared.order.FileOrder.{FileOrder}

-- no symbols mention each other in a circle
abbrev pub HasNoCircle : ResolvedFile → Type 0
HasNoCircle r = (circle : Vec ℕ Global) → ¬ AreSorted (links_of (file_view r)) (sorted.Circle circle)

-- each symbol comes after those that its declaration mentions
abbrev pub HasOrder : ResolvedFile → List ℕ → Type 0
HasOrder r order = IsLinkOrder (links_of (file_view r)) order

abbrev pub IsOrder : ResolvedFile → Vec ℕ Global → Type 0
IsOrder r order = HasOrder r order.items

-- the variables that read no state have an entry, and no other symbols do
abbrev pub HasEntries : ResolvedFileTree → List Bool → Type 0
HasEntries r bs = (n : ℕ) → slice_index_or bs n false ≡ has_entry (kinds_of r) r.declared.declarations n

abbrev pub HaveEntries : ResolvedFile → Vec Bool Global → Type 0
HaveEntries r bs = HasEntries (file_view r) bs.items

-- the same of declarations whose reads of states are known, by the kinds of their symbols
abbrev pub AreEntries : StateTable → List Declared → Result (Vec Bool Global) AllocError → Type 0
AreEntries t ds result =
    (kinds : List Kind) → IsKnown (known t) (state_reads kinds (map declared_tree ds))
    → IfOk result (λ v. (n : ℕ) → slice_index_or v.items n false ≡ has_entry kinds (map declared_tree ds) n)

-- the mark of a number
abbrev pub mark_at : List Bool → List Batches → ℕ → Mark
mark_at bs xs n = record { has_entry = slice_index_or bs n false; batches = slice_index_or xs n Parallel }

-- the order has each symbol after those that its declaration mentions, and the variables that read no state are marked
pub record IsOrderFor (r : ResolvedFile) (x : FileOrder) : Type 0 where
  pub order : IsLinkOrder (links_of (file_view r)) x.order.items
  pub entries : IsFileOf (file_view r) (file_of r x.marks.items)

-- the marks of these numbers
abbrev pub AreJoined : List Bool → List Batches → Vec Mark Global → Type 0
AreJoined bs xs marks = (n : ℕ) → mark_of marks.items n ≡ mark_at bs xs n

-- the file with these marks has the declarations and the entries of the resolved one
abbrev pub MakeFile : ResolvedFile → Vec Mark Global → Type 0
MakeFile r marks = IsFileOf (file_view r) (file_of r marks.items)

-- the marks have these batches
abbrev pub HaveBatches : List Batches → Vec Mark Global → Type 0
HaveBatches xs marks = (n : ℕ) → (mark_of marks.items n).batches ≡ slice_index_or xs n Parallel

-- and so has the file
abbrev pub HasBatches : ResolvedFile → List Batches → FileOrder → Type 0
HasBatches r xs x = (n : ℕ) → (file_of r x.marks.items).batches n ≡ slice_index_or xs n Parallel

-- the file is one of a program that is read and checked
abbrev pub IsOfChecked : ResolvedFile → Type 0
IsOfChecked r = (rs : List ResolvedFileTree) × IsCheckedFile rs (file_view r)
