-- Why a program has no template.
use Rattle.std.specs.Prelude.{◌≡◌, ◌≤◌, ◌<◌, ◌⊎◌, List, Result, Err}
use Rattle.arm_value.specs.Json.{nesting}
use Rattle.template_parts.specs.declared.mode.Form.{Form}
use Rattle.template_parts.specs.declared.limit.Which.TheVariants as which
use Rattle.template_nestings.specs.Nestings.{template_nesting}
use Rattle.template_tree.specs.View.{template_tree}
use Rattle.template_tree.specs.declared.resource.Template.{Template}
use Rattle.template_written.specs.Written.{written}
use Rattle.bicep_program.specs.declared.file.Program.{Program}
use Rattle.bicep_program.specs.declared.file.SourceFile.{SourceFile as Text}
use Rattle.bicep_types.specs.declared.checked.Checked.{Checked}
use Rattle.resolved_program.specs.declared.resolved.ResolvedFile.{ResolvedFile}
use Rattle.program_parts.specs.EmitFault.{EmitFault}
use Rattle.program_parts.specs.EmitFault.TheVariants as fault
use Rattle.program_parts.specs.FileParts.{FileParts}
use Rattle.program_parts.specs.Faults.{IsLimitFault, IsMemoryFault, IsOfFile}
use Rattle.program_parts.specs.Measures.{program_extremes}
use Rattle.program_parts.specs.Parts.{ArePartsOfAll}
use Rattle.bicep_emit.specs.Inner.{HasLongFile}
use Rattle.bicep_emit.specs.Modules.{IsWholeFile, IsWholeIn}

abbrev pub IsRefused : {R : Type 0} → EmitFault → Result R EmitFault → Type 0
IsRefused x result = result ≡ Err x

-- ---- the nesting of the whole

-- the same template, which nests not too deep
abbrev pub IsWithin : Template → Template → Type 0
IsWithin t u = (u ≡ t) × (nesting (written (template_tree u)) ≤ 120)

-- the template nests too deep: so deep
abbrev pub IsNestingFault : Template → EmitFault → Type 0
IsNestingFault t x =
    (x ≡ fault.Limit which.Nesting (template_nesting (template_tree t))) × (120 < template_nesting (template_tree t))

-- the template of the program does, by the parts of its files
abbrev pub IsTooDeep : List FileParts → EmitFault → Type 0
IsTooDeep ps x = (t : Template) × (IsWholeIn ps 0 t × IsNestingFault t x)

-- the template is that of the main file, and nests not too deep
abbrev pub IsWholeAndWithin : List FileParts → Template → Type 0
IsWholeAndWithin ps t = IsWholeIn ps 0 t × (nesting (written (template_tree t)) ≤ 120)

abbrev pub IsWholeProgram : Form → List Text → List ResolvedFile → Template → Type 0
IsWholeProgram z ss rs t = IsWholeFile z ss rs 0 t × (nesting (written (template_tree t)) ≤ 120)

-- ---- faults

-- the templates of the modules of a file are too long, or the template of the program nests too deep
abbrev pub IsTooLarge : List FileParts → EmitFault → Type 0
IsTooLarge ps x = HasLongFile ps x ⊎ IsTooDeep ps x

abbrev pub IsBuiltFault : List FileParts → EmitFault → Type 0
IsBuiltFault ps x = IsMemoryFault x ⊎ IsTooLarge ps x

-- the template of the program is beyond a limit, by the parts of its files
abbrev pub IsPartsFault : List FileParts → EmitFault → Type 0
IsPartsFault ps x = IsMemoryFault x ⊎ (IsLimitFault (program_extremes ps) x ⊎ IsTooLarge ps x)

-- the template of the program is beyond a limit, and no file has batches or lists that are too large
pub record IsOfWhole (z : Form) (ss : List Text) (rs : List ResolvedFile) (x : EmitFault) : Type 0 where
  pub parts : List FileParts
  pub are : ArePartsOfAll z ss rs parts
  pub fault : IsLimitFault (program_extremes parts) x ⊎ IsTooLarge parts x

abbrev pub IsEmissionFault : Form → List Text → List ResolvedFile → EmitFault → Type 0
IsEmissionFault z ss rs x = IsMemoryFault x ⊎ (IsOfFile ss rs x ⊎ IsOfWhole z ss rs x)

abbrev pub IsEmitFault : Form → Program → Checked → EmitFault → Type 0
IsEmitFault z p c x = IsEmissionFault z p.files.items c.resolved.files.items x
