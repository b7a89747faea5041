-- What is desired of worlds, and the same of worlds whose cells are renamed.
use Rattle.std.specs.Prelude.{◌≡◌, ℕ, true, false, List, Option, Some, None}
use Rattle.arm_value.specs.Json.{Json, bool}
use Rattle.arm_ids.specs.declared.id.ResourceId.{ResourceId}
use Rattle.reading.specs.World.{value_in}
use Rattle.deploy_cells.specs.Cells.{Step, step, Position, Cell, World, parent, included, state}
use Rattle.deploy_cells.specs.Guarded.{Meaning}
use Rattle.deploy_cells.specs.Puts.{Kind, Desired, IsDesired, IsPut, body_in, id_at, key_at}
use Rattle.cell_renaming.specs.Renaming.{Renaming, to_position, to_cell, from_cell, renamed, IsRenamable}

-- a cell without a counterpart is not there, where its parent is not there in case that has none either
abbrev pub AreUndeclared : (Cell → Option Cell) → Meaning → Type 0
AreUndeclared counterpart m = (w : World) (c : Cell) → counterpart c ≡ None
    → ((d : Cell) → parent c ≡ Some d → counterpart d ≡ None → w d ≡ None) → value_in w (m c) ≡ Some None

-- a world that is desired, or whose renaming is
pub data IsEither (r : Renaming) (s t : Desired) (w : World) : Type 0 where
  as_it_is : IsDesired s w → IsEither r s t w
  as_renamed : IsDesired t (renamed r w) → IsEither r s t w

-- what is desired of renamed worlds is what is desired of worlds, renamed
pub record IsRenamed (r : Renaming) (s t : Desired) : Type 0 where
  pub place : t.place ≡ s.place
  pub held : (key : ResourceId) → t.held key ≡ s.held key
  -- each cell has the same value or none, and so has the body of each instance that is put
  pub means : (w : World) → IsRenamable r w → IsEither r s t w → (c d : Cell) → to_cell r c ≡ Some d
      → value_in (renamed r w) (t.meaning d) ≡ value_in w (s.meaning c)
  pub bodies : (w : World) → IsRenamable r w → IsEither r s t w → (p q : Position) (n m i : ℕ)
      (k : Kind) → to_position r p ≡ Some q → r.number p n ≡ Some m → s.kinds p n ≡ Some k
      → k.is_deployment ≡ false → w (included p (step n i)) ≡ Some (bool true)
      → body_in (renamed r w) (t.bodies q (step m i)) ≡ body_in w (s.bodies p (step n i))
  -- and each resource is of the same kind
  pub kinds : (p q : Position) (n m : ℕ) → to_position r p ≡ Some q → r.number p n ≡ Some m
      → t.kinds q m ≡ s.kinds p n
  -- nothing else is there
  pub undeclared : AreUndeclared (to_cell r) s.meaning
  pub undeclared_renamed : AreUndeclared (from_cell r) t.meaning

-- what a provider is asked and answers: an id, its version and a body, and the state at its key
pub record Stored : Type 0 where
  pub id : ResourceId
  pub api : List ℕ
  pub body : Option Json
  pub state : Option Json

abbrev pub stored_by : Desired → World → Kind → List ℕ → Option Json → Stored
stored_by d w k n b = record {
  id = id_at d.place k.type n;
  api = k.api;
  body = b;
  state = w (state (key_at d.place k.type n));
}

-- an instance is put so
pub record IsStored (d : Desired) (w : World) (x : Stored) : Type 0 where
  pub at : Position
  pub instance : Step
  pub kind : Kind
  pub title : List ℕ
  pub is_put : IsPut d.kinds w at instance kind title
  pub is_so : stored_by d w kind title (body_in w (d.bodies at instance)) ≡ x
