-- What tasks need.
use Rattle.std.specs.Prelude.{ℕ, List, [], map, slice_index_or}
use Rattle.std.specs.declared.vec.Vec.{Vec}
use Rattle.std.specs.declared.alloc.Global.{Global}

-- the tasks that the task of this number needs; one that is not listed needs none
abbrev pub needs_at : List (Vec ℕ Global) → ℕ → List ℕ
needs_at needs task = slice_index_or (map (λ v. v.items) needs) task []
