-- Runs of loops that are kept.
use Rattle.emitted_parts.specs.Emitted.{Frame}
use Rattle.emission_laws.specs.Holes.{fill}
use Rattle.kept_expressions.specs.Kept.{IsKeptHoles}
use Rattle.kept_parts.specs.declared.frames.KeptFrame.{KeptFrame}

-- the item and the index of a run, each with holes for those of the loop around it
pub record IsKeptFrame (f : Frame) (k : KeptFrame) : Type 0 where
  pub item : IsKeptHoles f.item k.item
  pub index : IsKeptHoles f.index k.index

-- a run with a run of the loop around it in its holes
abbrev pub fill_frame : Frame → Frame → Frame
fill_frame f g = record { item = fill f g.item; index = fill f g.index }
