-- Runs of loops and the frames that they are seen as.
use Rattle.std.proofs.Common.{◌≡◌, ℕ, zero, suc, List, [], ◌∷◌, Some, None, refl, sym, subst}
use Rattle.std.specs.Prelude.{Result, slice_get}
use Rattle.arm_value.specs.Json.{Json}
use Rattle.arm_value.specs.View.{json}
use Rattle.arm_value.specs.declared.value.Value.{Value}
use Rattle.arm_env.specs.Part.{part_of}
use Rattle.reading.specs.Reading.{done, read, continued}
use Rattle.reading.specs.Knowledge.{Told, value, no_value, waits, told, finished, and_then}
use Rattle.arm_value.specs.Look.{look}
use Rattle.arm_ids.specs.Id.{folded}
use Rattle.arm_ids.specs.declared.id.ResourceId.{ResourceId}
use Rattle.deploy_cells.specs.Cells.{Cell, state}
use Rattle.deploy_cells.specs.Guarded.{Reads}
use Rattle.bicep_meaning.specs.Meaning.{state_member}
use Rattle.bicep_meaning.specs.Around.{Frame, element, item_of, index_of}
use Rattle.bicep_outcomes.specs.declared.loops.Turn.{Turn}
use Rattle.bicep_outcomes.specs.declared.stop.Stop.{Stop}
use Rattle.bicep_outcomes.specs.declared.stop.Stop.TheVariants as stop
use Rattle.bicep_outcomes.specs.Outcomes.{Stops, Gives, Then, IsItem, IsIndex, IsElement, paired, AreCopies, IsInner}
use Rattle.bicep_outcomes.proofs.OutcomeLemmas.{told-done, told-continued, goes, stays, same_gives}
use Rattle.bicep_outcomes.proofs.OutcomeLemmas.{stop_gives, then_gives}
use Rattle.bicep_surroundings.specs.Sight.{Sight, IsSeen, AreSeen}
use Rattle.bicep_surroundings.proofs.ReadLemmas.{of_equal, both_reads, then_reads}

module _ (s : Sight) where
  -- the item and the index of a run that is so many loops outwards
  pub item_seen : (ts : List Turn) (fs : List Frame) (n : ℕ) (r : Result Value Stop) → AreSeen s ts fs
      → IsItem (slice_get ts n) r → Gives s.cell json r (told s.known (item_of (slice_get fs n)))
  item_seen [] [] n r h i = stop_gives s.cell json stop.NoValue r _ i (told-done s.known None)
  item_seen [] (f ∷ fs) n r h i = absurd h
  item_seen (t ∷ ts) [] n r h i = absurd h
  item_seen (t ∷ ts) (f ∷ fs) zero r h i = same_gives s.cell t.item r (told s.known f.item) h.0.0 i
  item_seen (t ∷ ts) (f ∷ fs) (suc n) r h i = item_seen ts fs n r h.1 i

  pub index_seen : (ts : List Turn) (fs : List Frame) (n : ℕ) (r : Result Value Stop) → AreSeen s ts fs
      → IsIndex (slice_get ts n) r → Gives s.cell json r (told s.known (index_of (slice_get fs n)))
  index_seen [] [] n r h i = stop_gives s.cell json stop.NoValue r _ i (told-done s.known None)
  index_seen [] (f ∷ fs) n r h i = absurd h
  index_seen (t ∷ ts) [] n r h i = absurd h
  index_seen (t ∷ ts) (f ∷ fs) zero r h i = same_gives s.cell t.index r (told s.known f.index) h.0.1 i
  index_seen (t ∷ ts) (f ∷ fs) (suc n) r h i = index_seen ts fs n r h.1 i

  -- the run of an element
  pub element_seen : (items index : Result Value Stop) (t : Turn) (xs i : Reads Json)
      → Gives s.cell json items (told s.known xs) → Gives s.cell json index (told s.known i) → IsElement items index t
      → IsSeen s t (element xs i)
  unfolding element
  element_seen items index t xs i g h e = (
    both_reads s.known s.cell part_of items e.copy t.item (paired items e.copy) xs i g
        (same_gives s.cell index e.copy (told s.known i) h e.is_copy) refl e.has_item,
    subst (λ (r : Result Value Stop). Gives s.cell json r (told s.known i)) (sym e.has_index) h,
  )

  -- copies are seen as what they are copies of
  copies_seen : (ts cs : List Turn) (fs : List Frame) → AreCopies ts cs → AreSeen s ts fs → AreSeen s cs fs
  copies_seen [] [] fs h g = g
  copies_seen [] (c ∷ cs) fs h g = absurd h
  copies_seen (t ∷ ts) [] fs h g = absurd h
  copies_seen (t ∷ ts) (c ∷ cs) [] h g = absurd g
  copies_seen (t ∷ ts) (c ∷ cs) (f ∷ fs) h g = (
    (
      same_gives s.cell t.item c.item (told s.known f.item) g.0.0 h.0.0,
      same_gives s.cell t.index c.index (told s.known f.index) g.0.1 h.0.1,
    ),
    copies_seen ts cs fs h.1 g.1,
  )

  pub inner_seen : (t : Turn) (ts cs : List Turn) (fs : List Frame) → IsInner t ts cs → AreSeen s (t ∷ ts) fs
      → AreSeen s cs fs
  inner_seen t ts [] fs h g = absurd h
  inner_seen t ts (c ∷ cs) [] h g = absurd g
  inner_seen t ts (c ∷ cs) (f ∷ fs) h g =
      (subst (λ (u : Turn). IsSeen s u f) (sym h.0) g.0, copies_seen ts cs fs h.1 g.1)

  itself : {A : Type 0} (t : Told Cell A) → and_then t (λ x. finished (Some x)) ≡ t
  itself (value x) = refl
  itself no_value = refl
  itself (waits c) = refl

  -- a copy of what was looked up
  pub copied_gives : {X : Type 0} (view : X → Json) (given : Result X Stop) (r : Result Value Stop) (t : Told Cell Json)
      → Gives s.cell view given t → Then view json (λ j. Some j) given r → Gives s.cell json r t
  copied_gives view given r t g h =
      of_equal s.known s.cell json r t (and_then t (λ x. finished (Some x))) (sym (itself t))
      (then_gives s.cell view json (λ j. Some j) given r t g h)

  -- a member of the state at the key of an id
  pub state_found : {X : Type 0} (view : X → Json) (name : List ℕ) (q : Reads ResourceId) (i : ResourceId)
      (given : Result X Stop) (r : Result Value Stop) → told s.known q ≡ value i
      → Gives s.cell view given (told s.known (read (state (folded i)))) → Then view json (look name) given r
      → Gives s.cell json r (told s.known (state_member name q))
  unfolding state_member
  state_found view name q i given r e g h =
      of_equal s.known s.cell json r _ (told s.known (continued (read (state (folded i))) (λ j. done (look name j))))
      (goes s.known q (λ k. continued (read (state (folded k))) (λ j. done (look name j))) i e)
      (then_reads s.known s.cell view json (look name) given r (read (state (folded i))) g h)

  pub state_stops : (name : List ℕ) (q : Reads ResourceId) (e : Stop) → Stops s.cell e (told s.known q)
      → Stops s.cell e (told s.known (state_member name q))
  unfolding state_member
  state_stops name q e h =
      subst (λ (t : Told Cell Json). Stops s.cell e t)
      (sym (told-continued s.known q (λ k. continued (read (state (folded k))) (λ j. done (look name j)))))
      (stays s.cell e (told s.known q)
      (λ k. told s.known (continued (read (state (folded k))) (λ j. done (look name j)))) h)
