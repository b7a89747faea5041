-- When a template says of desired states what its program says, cell by cell.
use Rattle.std.specs.Prelude.{◌≡◌, ℕ, true, false, Option, Some}
use Rattle.arm_value.specs.Json.{Json, bool}
use Rattle.arm_ids.specs.declared.id.ResourceId.{ResourceId}
use Rattle.reading.specs.World.{value_in}
use Rattle.template_parts.specs.declared.mode.Form.{Form}
use Rattle.deploy_cells.specs.Cells.{step, Position, Cell, World, included}
use Rattle.deploy_cells.specs.Puts.{Kind, Desired, body_in}
use Rattle.bicep_meaning.specs.Instances.{SourceProgram, meaning, kinds, bodies, desired}
use Rattle.cell_renaming.specs.Renaming.{to_position, to_cell, from_cell, renamed, IsRenamable}
use Rattle.cell_renaming.specs.Renamed.{AreUndeclared, IsEither}
use Rattle.source_worlds.specs.Numbers.{numbering}

pub record IsTemplateOf (z : Form) (d : SourceProgram) (opening : ResourceId → Option Json) (t : Desired) : Type 0 where
  pub place : t.place ≡ d.place
  pub held : (key : ResourceId) → t.held key ≡ opening key
  -- each cell of the program has the same value, or none, as its cell of the template, and so has the body of each
  -- instance that is put, in each world that is desired of one of the two
  pub means : (w : World) → IsRenamable (numbering z d.files) w
      → IsEither (numbering z d.files) (desired d opening) t w → (c e : Cell)
      → to_cell (numbering z d.files) c ≡ Some e
      → value_in (renamed (numbering z d.files) w) (t.meaning e) ≡ value_in w (meaning d c)
  pub bodies : (w : World) → IsRenamable (numbering z d.files) w
      → IsEither (numbering z d.files) (desired d opening) t w → (p q : Position) (n m i : ℕ) (k : Kind)
      → to_position (numbering z d.files) p ≡ Some q → (numbering z d.files).number p n ≡ Some m
      → kinds d p n ≡ Some k → k.is_deployment ≡ false → w (included p (step n i)) ≡ Some (bool true)
      → body_in (renamed (numbering z d.files) w) (t.bodies q (step m i)) ≡ body_in w (bodies d p (step n i))
  -- each resource is of the same kind
  pub kinds : (p q : Position) (n m : ℕ) → to_position (numbering z d.files) p ≡ Some q
      → (numbering z d.files).number p n ≡ Some m → t.kinds q m ≡ kinds d p n
  -- the template has no other cells
  pub undeclared : AreUndeclared (from_cell (numbering z d.files)) t.meaning
