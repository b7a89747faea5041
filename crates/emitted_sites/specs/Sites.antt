-- What an expression at a site of a template looks at, beside what its program reads.
use Rattle.std.specs.Prelude.{◌≡◌, ◌||◌, Bool, true, false, Option, Some, None}
use Rattle.arm_value.specs.Json.{Json}
use Rattle.arm_ids.specs.declared.id.Place.{Place}
use Rattle.arm_env.specs.Look.{Look, Fact, Looking, Surroundings}
use Rattle.arm_env.specs.Look as look
use Rattle.reading.specs.World.{value_in}
use Rattle.template_parts.specs.declared.mode.Form.{Form}
use Rattle.template_tree.specs.Tree.{TemplateTree}
use Rattle.deploy_cells.specs.Cells.{Position, Cell, World, deployments, is_admitted}
use Rattle.deploy_cells.specs.Guarded.{Reads}
use Rattle.plan_cells.specs.Sites.{Site, looked_up}
use Rattle.bicep_meaning.specs.Around.{Here}
use Rattle.bicep_meaning.specs.Files.{SourceFile}
use Rattle.bicep_meaning.specs.Instances.{SourceProgram, file_at, place_at, here_in}
use Rattle.bicep_emission.specs.Alike.{seen_in}
use Rattle.bicep_emission.specs.Answered.{Sides}
use Rattle.bicep_emission.specs.Stands.{Like}
use Rattle.cell_renaming.specs.Renaming.{to_position, renamed}
use Rattle.source_worlds.specs.Numbers.{numbering}
use Rattle.emitted_sites.specs.Marks.{Marks, IsMarked}

-- what no expression looks at that is emitted: what a text names that is no id, and all outputs of a nested deployment
abbrev pub is_left : Look → Bool
is_left (look.named t) = true
is_left (look.outputs k) = true
is_left _ = false

abbrev pub flat : Option (Option Fact) → Option Fact
flat None = None
flat (Some o) = o

-- what a world that is renamed has for what is looked at
abbrev pub seen_there : World → TemplateTree → Place → Site → Look → Option Fact
seen_there v u place e l = flat (value_in v (looked_up u place e l))

-- whether a marked cell is read for what is looked at
abbrev pub is_marked_there : World → (Cell → Bool) → TemplateTree → Place → Site → Look → Bool
is_marked_there v n u place e l = is_left l || (seen_in v n (looked_up u place e l)).1

-- what is looked at in the renamed world, and the world, with marks
abbrev pub sides : Form → SourceProgram → TemplateTree → World → Marks → Place → Site → Sides
sides z d u w x place e = record {
  template = seen_there (renamed (numbering z d.files) w) u place e;
  template_marks = is_marked_there (renamed (numbering z d.files) w) x.template u place e;
  source = w;
  source_marks = x.source;
}

-- an instance of a file, which is there in the world, and its scope in the template
pub record IsInstance (z : Form) (d : SourceProgram) (w : World) (p q : Position) (f : SourceFile) : Type 0 where
  pub position : to_position (numbering z d.files) p ≡ Some q
  pub file : file_at d.files p ≡ Some f
  pub is_there : is_admitted w (deployments p) ≡ true

-- what reads at a site of the template has the value of what reads in the instance, in each place that this may have,
-- and both or neither read a marked cell, whatever is marked
abbrev pub AreLike : Form → SourceProgram → TemplateTree → World → Position → SourceFile → Site
    → (Surroundings → Looking Json) → (Here → Reads Json) → Type 0
AreLike z d u w p f e r s = (x : IsMarked z d w) (place : Place) → value_in w (place_at d.place p) ≡ Some place
    → Like (sides z d u w x.marks place e) (r (record { loops = e.loops; place = place })) (s (here_in d p f place))
