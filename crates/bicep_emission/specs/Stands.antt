-- When a template expression stands for what an expression of a program reads.
use Rattle.std.specs.Prelude.{◌≡◌, ℕ, List, [], ◌∷◌, Some}
use Rattle.arm_value.specs.Json.{Json}
use Rattle.arm_ids.specs.Id.{text_of, folded}
use Rattle.arm_ids.specs.declared.id.ResourceId.{ResourceId}
use Rattle.expression_values.specs.Looping.{Looping}
use Rattle.expression_values.specs.Find.{id_key}
use Rattle.expression_values.specs.Held.{held_value}
use Rattle.expression_values.specs.Look.{Looking, Surroundings}
use Rattle.expression_values.specs.Tree.{Tree}
use Rattle.bicep_meaning.specs.Guarded.{Reads}
use Rattle.expression_values.specs.Meaning.{held, value}
use Rattle.reading.specs.World.{value_in}
use Rattle.bicep_meaning.specs.Around as source
use Rattle.bicep_meaning.specs.Meaning.{id_text}
use Rattle.bicep_meaning.specs.Rows.{capped}
use Rattle.bicep_emission.specs.Alike.{Alike}
use Rattle.bicep_emission.specs.Answered.{Sides, deployment_types}
use Rattle.bicep_emission.specs.Emitted.{Frame, Scope}

-- the surroundings of an expression in a template instance of a file
abbrev pub surroundings : source.Here → List Looping → Surroundings
surroundings here loops = record { loops = loops; place = here.place }

module _ (x : Sides) where
  -- what is looked at in the template has the same value as what is read in the program, and both or neither read a
  -- marked cell
  abbrev pub Like : {A : Type 0} → Looking A → Reads A → Type 0
  Like r s = Alike x.template x.template_marks x.source x.source_marks r s

  -- what an expression gives to an access is its value: no whole state and no nested deployment
  abbrev pub HoldsValue : Surroundings → Tree → Type 0
  HoldsValue around e =
      Alike x.template x.template_marks x.template x.template_marks (held around e) (held_value (value around e))

  -- the cap changes nothing
  abbrev pub IsCapped : Reads Json → Type 0
  IsCapped r = Alike x.source x.source_marks x.source x.source_marks (capped r) r

  -- the expression has the value of the reading
  pub record Stands (around : Surroundings) (e : Tree) (r : Reads Json) : Type 0 where
    pub alike : Like (value around e) (capped r)
    pub holds_value : HoldsValue around e

  pub record FrameStands (around : Surroundings) (f : Frame) (g : source.Frame) : Type 0 where
    pub item : Stands around f.item g.item
    pub index : Stands around f.index g.index
    pub index_capped : IsCapped g.index

  abbrev pub FramesStand : Surroundings → List Frame → List source.Frame → Type 0
  FramesStand around [] [] = Unit {0}
  FramesStand around [] (g ∷ gs) = ⊥
  FramesStand around (f ∷ fs) [] = ⊥
  FramesStand around (f ∷ fs) (g ∷ gs) = FrameStands around f g × FramesStand around fs gs

  -- an id that is read again from its text, and that is not of the type of nested deployments
  pub record IsOfResource (i : ResourceId) : Type 0 where
    pub is_read : id_key (text_of i) ≡ Some (folded i)
    pub is_resource : (folded i).types ≡ deployment_types → ⊥

  -- the expression has the text of the id as its value
  pub record IdStands (around : Surroundings) (e : Tree) (r : Reads ResourceId) : Type 0 where
    pub alike : Like (value around e) (id_text r)
    pub holds_value : HoldsValue around e
    pub is_of_resource : (i : ResourceId) → value_in x.source r ≡ Some i → IsOfResource i

  -- what the declarations become stands for what they mean
  pub record ScopeStands (around : Surroundings) (sc : Scope) (a : source.Around) : Type 0 where
    pub variable : (n : ℕ) → Stands around (sc.variable n) (a.variable n)
    pub items : (n : ℕ) → Stands around (sc.items n) (a.items n)
    pub items_capped : (n : ℕ) → IsCapped (a.items n)
    pub name : (n : ℕ) (fs : List Frame) (gs : List source.Frame) → FramesStand around fs gs
        → Stands around (sc.name n fs) (a.name n gs)
    pub names_capped : (n : ℕ) (gs : List source.Frame) → IsCapped (a.name n gs)
    pub id : (n : ℕ) (fs : List Frame) (gs : List source.Frame) → FramesStand around fs gs
        → IdStands around (sc.id n fs) (a.id n gs)
