-- What is known has holes for the run of the loop around, and no others.
use Rattle.std.proofs.Common.{◌≡◌, ℕ, List, [], ◌∷◌, Bool, true, false, refl, ap, sym, ◌∙◌}
use Rattle.std.specs.Prelude.{if◌then◌else◌}
use Rattle.arm_expr.specs.Tree.{Tree}
use Rattle.bicep_resolved.specs.Source.{SourceTree, ValueTree}
use Rattle.bicep_emission.specs.Files.{SourceFile}
use Rattle.bicep_emission.specs.Emittable.{IsEmittable, IsValue}
use Rattle.bicep_emission.specs.Emitted.{Frame, no_value, emitted, emitted_value}
use Rattle.emission_laws.specs.Sound.{IsSound}
use Rattle.emission_laws.specs.Declared.{through}
use Rattle.emission_laws.specs.Holes.{fill, holes, nearest}
use Rattle.emission_laws.proofs.FillLemmas.{Becomes, one_becomes, holes_become, ScopeFills, filled, value_filled}
use Rattle.emission_laws.proofs.FilledLemmas.{fills}
use Rattle.ordered_emissions.specs.Known.{known_scope}

-- the nearest of runs that become others becomes the nearest of those
nearest_become : (f : Frame) (gs hs : List Frame) → Becomes f gs hs → Becomes f (nearest gs ∷ []) (nearest hs ∷ [])
nearest_become f [] [] b = one_becomes f (nearest []) (nearest []) (b.item 0) (b.index 0)
nearest_become f [] (h ∷ hs) b = one_becomes f (nearest []) h (b.item 0) (b.index 0)
nearest_become f (g ∷ gs) [] b = one_becomes f g (nearest []) (b.item 0) (b.index 0)
nearest_become f (g ∷ gs) (h ∷ hs) b = one_becomes f g h (b.item 0) (b.index 0)

-- what has no hole has none where it is known
known_filled : (f : Frame) (b : Bool) (t : Tree) → fill f t ≡ t
    → fill f (if b then t else no_value) ≡ (if b then t else no_value)
known_filled f true t e = e
known_filled f false t e = refl

known_turned : (f : Frame) (b : Bool) (t u : Tree) → fill f t ≡ u
    → fill f (if b then t else no_value) ≡ (if b then u else no_value)
known_turned f true t u e = e
known_turned f false t u e = refl

module _ (file : SourceFile) (files : List SourceFile) (sound : IsSound file) where
  -- of what has these holes: the runs may come one after the other
  refilled_turned : (f : Frame) (part : List Frame → Tree)
      → ((g : Frame) (gs hs : List Frame) → Becomes g gs hs → fill g (part gs) ≡ part hs)
      → (gs hs : List Frame) → Becomes f gs hs
      → fill f (fill (nearest gs) (part (holes ∷ []))) ≡ fill (nearest hs) (part (holes ∷ []))
  refilled_turned f part e gs hs b =
      ap (fill f) (e (nearest gs) (holes ∷ []) (nearest gs ∷ []) (holes_become (nearest gs ∷ []) tt))
      ∙ e f (nearest gs ∷ []) (nearest hs ∷ []) (nearest_become f gs hs b)
      ∙ sym (e (nearest hs) (holes ∷ []) (nearest hs ∷ []) (holes_become (nearest hs ∷ []) tt))

  pub known_fills : (f : Frame) (k : ℕ) (p : ℕ → Bool) → ScopeFills f (known_scope p (through file files k).scope)
  known_fills f k p =
      let sc = (through file files k).scope in
      record {
        variable = λ n. known_filled f (p n) (sc.variable n) ((fills file files sound f k).scope.variable n);
        items = λ n. known_filled f (p n) (sc.items n) ((fills file files sound f k).scope.items n);
        name = λ n gs hs b. known_turned f (p n) (fill (nearest gs) (sc.name n (holes ∷ [])))
            (fill (nearest hs) (sc.name n (holes ∷ [])))
            (refilled_turned f (sc.name n) (λ g. (fills file files sound g k).scope.name n) gs hs b);
        id = λ n gs hs b. known_turned f (p n) (fill (nearest gs) (sc.id n (holes ∷ [])))
            (fill (nearest hs) (sc.id n (holes ∷ [])))
            (refilled_turned f (sc.id n) (λ g. (fills file files sound g k).scope.id n) gs hs b);
      }

  pub known_expressions : (k : ℕ) (p : ℕ → Bool) (e : SourceTree) → IsEmittable e → (f : Frame)
      → emitted file files (known_scope p (through file files k).scope) e (f ∷ [])
      ≡ fill f (emitted file files (known_scope p (through file files k).scope) e (holes ∷ []))
  known_expressions k p e g f =
      sym (filled file files f (known_scope p (through file files k).scope) (known_fills f k p) e (holes ∷ [])
      (f ∷ []) g (holes_become (f ∷ []) tt))

  pub known_values : (k : ℕ) (p : ℕ → Bool) (v : ValueTree) → IsValue v → (f : Frame)
      → emitted_value file files (known_scope p (through file files k).scope) v (f ∷ [])
      ≡ fill f (emitted_value file files (known_scope p (through file files k).scope) v (holes ∷ []))
  known_values k p v g f =
      sym (value_filled file files f (known_scope p (through file files k).scope) (known_fills f k p) v (holes ∷ [])
      (f ∷ []) g (holes_become (f ∷ []) tt))
