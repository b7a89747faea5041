-- What surrounds an expression that is emitted.
use Rattle.std.specs.Prelude.{◌≡◌, List, map, Result, IfOk}
use Rattle.std.specs.declared.vec.Vec.{Vec}
use Rattle.std.specs.declared.alloc.Global.{Global}
use Rattle.std.specs.declared.alloc.AllocError.{AllocError}
use Rattle.arm_expr.specs.Tree.{Tree}
use Rattle.arm_expr.specs.View.{tree_of}
use Rattle.bicep_meaning.specs.Files.{SourceFile}
use Rattle.emitted_parts.specs.Emitted.{Frame, Scope}
use Rattle.emitted_expressions.specs.declared.turns.Turn.{Turn}

-- the file, all files of the program, and what the declarations of the file become
pub record Sight : Type 0 where
  pub file : SourceFile
  pub files : List SourceFile
  pub scope : Scope

-- a run of a loop of this item and this index
abbrev pub framed : Tree → Tree → Frame
framed a i = record { item = a; index = i }

-- a run of a loop
abbrev pub frame_of : Turn → Frame
frame_of t = framed (tree_of t.item) (tree_of t.index)

-- the runs of the loops around, the nearest first
abbrev pub frames_of : List Turn → List Frame
frames_of ts = map frame_of ts

-- a run that is built, or no memory
abbrev pub IsFrame : Frame → Result Turn AllocError → Type 0
IsFrame f r = IfOk r (λ t. frame_of t ≡ f)

-- runs that are built, or no memory
abbrev pub AreFrames : List Frame → Result (Vec Turn Global) AllocError → Type 0
AreFrames fs r = IfOk r (λ ts. frames_of ts.items ≡ fs)
