-- How many bytes the templates of modules have together, before they are in the template of their file.
use Rattle.std.specs.Prelude.{◌≡◌, ◌++◌, ◌≤◌, ◌<◌, ◌⊎◌, ℕ, List, [], ◌∷◌, Option, Result, Ok, Err}
use Rattle.std.specs.declared.alloc.AllocError.{AllocError}
use Rattle.std.specs.declared.alloc.Global.{Global}
use Rattle.std.specs.declared.vec.Vec.{Vec}
use Rattle.foundation.specs.declared.limits.TheConstants.{MAX_TEMPLATE_BYTES}
use Rattle.template_lengths.specs.Lengths.{total_bytes}
use Rattle.template_parts.specs.declared.limit.Which.TheVariants as which
use Rattle.template_tree.specs.declared.resource.Template.{Template}
use Rattle.bicep_names.specs.declared.kind.Kind.{Kind}
use Rattle.bicep_symbols.specs.declared.entry.Entry.{Entry}
use Rattle.program_parts.specs.EmitFault.{EmitFault}
use Rattle.program_parts.specs.EmitFault.TheVariants as fault
use Rattle.program_parts.specs.FileParts.{FileParts}
use Rattle.program_parts.specs.Faults.{IsMemoryFault}
use Rattle.program_parts.specs.Measures.{entries_in}
use Rattle.program_parts.specs.Programs.{IsAt}
use Rattle.bicep_emit.specs.Modules.{AreModules, CanBeModule, IsModuleFor}
use Rattle.bicep_emit.specs.declared.programs.Inner.{Inner}

-- ---- faults

-- the templates have together at least so many bytes, which are more than a template may have
abbrev pub AreTooLong : List (Option Template) → EmitFault → Type 0
AreTooLong us x =
    (n : ℕ) × ((x ≡ fault.Limit which.Bytes n) × ((MAX_TEMPLATE_BYTES < n) × (n ≤ total_bytes us)))

-- those of the modules among the first of these symbols have
pub record HasLongModules (ps : List FileParts) (es : List Entry) (x : EmitFault) : Type 0 where
  pub first : List Entry
  pub others : List Entry
  pub all : es ≡ first ++ others
  pub templates : List (Option Template)
  pub are : AreModules ps first templates
  pub long : AreTooLong templates x

-- those of the modules of a file of the program have
abbrev pub HasLongFile : List FileParts → EmitFault → Type 0
HasLongFile ps x = (k : ℕ) × ((p : FileParts) × (IsAt ps k p × HasLongModules ps (entries_in p) x))

abbrev pub IsInnerFault : List FileParts → EmitFault → Type 0
IsInnerFault ps x = IsMemoryFault x ⊎ HasLongFile ps x

abbrev pub IsModulesFault : List FileParts → List Entry → EmitFault → Type 0
IsModulesFault ps es x = IsInnerFault ps x ⊎ HasLongModules ps es x

-- ---- one more

-- they have no fewer bytes than were counted
abbrev pub IsLeast : Inner → Type 0
IsLeast v = v.bytes ≤ total_bytes v.templates.items

abbrev pub HasLastItem : List (Option Template) → Option Template → Vec (Option Template) Global → Type 0
HasLastItem us u v = v.items ≡ us ++ u ∷ []

abbrev pub HasLast : List (Option Template) → Option Template → ℕ → Inner → Type 0
HasLast us u bytes v = (v.templates.items ≡ us ++ u ∷ []) × (v.bytes ≡ bytes)

abbrev pub HasOneMore : Inner → Option Template → Inner → Type 0
HasOneMore old u v = (v.templates.items ≡ old.templates.items ++ u ∷ []) × IsLeast v

-- so many are too many
abbrev pub IsTooMany : ℕ → EmitFault → Type 0
IsTooMany bytes x = IsMemoryFault x ⊎ ((x ≡ fault.Limit which.Bytes bytes) × (MAX_TEMPLATE_BYTES < bytes))

-- with this template they are too long
abbrev pub IsOneTooMany : Inner → Option Template → EmitFault → Type 0
IsOneTooMany old u x = IsMemoryFault x ⊎ AreTooLong (old.templates.items ++ u ∷ []) x

abbrev pub AreModulesIn : List FileParts → List Entry → Inner → Type 0
AreModulesIn ps es v = AreModules ps es v.templates.items

-- the template of a symbol of that kind can be made after those
abbrev pub CanBeNext : List FileParts → Kind → ℕ → Inner → Type 0
CanBeNext ps kind depth old = CanBeModule ps kind depth × IsLeast old

-- the last is the template of a symbol of that kind
abbrev pub HasModule : List FileParts → Kind → Inner → Inner → Type 0
HasModule ps kind old v = (u : Option Template) × (IsModuleFor ps kind u × HasOneMore old u v)

abbrev pub IsModuleFault : List FileParts → Kind → Inner → EmitFault → Type 0
IsModuleFault ps kind old x =
    IsInnerFault ps x ⊎ ((u : Option Template) × (IsModuleFor ps kind u × AreTooLong (old.templates.items ++ u ∷ []) x))

-- ---- memory

-- the templates, where there was memory for them
abbrev pub IsInnerOf : Result (Vec (Option Template) Global) AllocError → ℕ → Result Inner EmitFault → Type 0
IsInnerOf (Ok v) bytes r = r ≡ Ok (record { templates = v; bytes = bytes })
IsInnerOf (Err e) bytes r = r ≡ Err fault.OutOfMemory

-- the template, where there was memory for it
abbrev pub IsOrFault : Result Template AllocError → Result Template EmitFault → Type 0
IsOrFault (Ok t) r = r ≡ Ok t
IsOrFault (Err e) r = r ≡ Err fault.OutOfMemory
