-- Where the symbols that a declaration mentions are known, its expressions become what it becomes.
use Rattle.std.proofs.Common.{◌≡◌, ◌⊎◌, inl, inr, ℕ, List, [], ◌∷◌, length, Bool, true, false, refl, ap}
use Rattle.std.proofs.Common.{sym, ◌∙◌, map}
use Rattle.std.specs.Prelude.{if◌then◌else◌}
use Rattle.foundation.proofs.Choices.{if_true}
use Rattle.reading.specs.World.{Each}
use Rattle.bicep_emission.specs.Files.{SourceFile}
use Rattle.emission_laws.specs.Ranked.{mentions_at}
use Rattle.bicep_emission.specs.Emitted.{no_value}
use Rattle.emission_laws.specs.Sound.{IsSound}
use Rattle.emission_laws.specs.Declared.{Emission, next, blank, through, whole}
use Rattle.emission_laws.specs.Holes.{fill, holes, nearest, refilled}
use Rattle.emission_laws.specs.Same.{SameEmission}
use Rattle.emission_laws.proofs.FillLemmas.{holes_become}
use Rattle.emission_laws.proofs.FilledLemmas.{fills}
use Rattle.emission_laws.proofs.SettledLemmas.{same_next}
use Rattle.ordered_emissions.specs.Known.{known, known_scope}
use Rattle.ordered_emissions.specs.Orders.{IsPaired, IsOrderOf, IsNoSymbol}
use Rattle.ordered_emissions.proofs.NothingLemmas.{nothing, same_then, same_turned}
use Rattle.ordered_emissions.proofs.OrderLemmas.{settled}

-- and where it does not, the second
other : {A : Type 0} (b : Bool) (x y : A) → b ≡ false → y ≡ (if b then x else y)
other b x y e = ap (λ c. if c then x else y) (sym e)

module _ (file : SourceFile) (files : List SourceFile) where
  known_same : IsSound file → (k : ℕ) (p : ℕ → Bool) (n : ℕ) → p n ≡ true
      → SameEmission (known p (through file files k)) (through file files k) n
  known_same sound k p n e =
      let b = through file files k in
      record {
        scope = record {
          variable = if_true (p n) (b.scope.variable n) no_value e;
          items = if_true (p n) (b.scope.items n) no_value e;
          name = λ fs r. if_true (p n) (fill (nearest fs) (b.scope.name n (holes ∷ []))) no_value e
              ∙ (fills file files sound (nearest fs) k).scope.name n (holes ∷ []) fs (holes_become fs r);
          id = λ fs r. if_true (p n) (fill (nearest fs) (b.scope.id n (holes ∷ []))) no_value e
              ∙ (fills file files sound (nearest fs) k).scope.id n (holes ∷ []) fs (holes_become fs r);
        };
        full_name = λ fs r. if_true (p n) (b.full_name n fs) no_value e;
        condition = λ fs r. if_true (p n) (b.condition n fs) no_value e;
        parts = λ fs r. if_true (p n) (map (fill (nearest fs)) (b.parts n (holes ∷ []))) [] e
            ∙ (fills file files sound (nearest fs) k).parts n (holes ∷ []) fs (holes_become fs r);
      }

  -- of what is not known, nothing
  unknown_same : (b : Emission) (p : ℕ → Bool) (n : ℕ) → p n ≡ false → SameEmission blank (known p b) n
  unknown_same b p n e = record {
    scope = record {
      variable = other (p n) (b.scope.variable n) no_value e;
      items = other (p n) (b.scope.items n) no_value e;
      name = λ fs r. other (p n) (fill (nearest fs) (b.scope.name n (holes ∷ []))) no_value e;
      id = λ fs r. other (p n) (fill (nearest fs) (b.scope.id n (holes ∷ []))) no_value e;
    };
    full_name = λ fs r. other (p n) (b.full_name n fs) no_value e;
    condition = λ fs r. other (p n) (b.condition n fs) no_value e;
    parts = λ fs r. other (p n) (map (fill (nearest fs)) (b.parts n (holes ∷ []))) [] e;
  }

  mentioned_same : IsSound file → (k : ℕ) (p : ℕ → Bool) (m : ℕ) → (p m ≡ true) ⊎ IsNoSymbol file m
      → SameEmission (known p (through file files k)) (through file files k) m
  mentioned_same sound k p m (inl e) = known_same sound k p m e
  mentioned_same sound k p m (inr none) = by (p m) refl
    where
      by : (b : Bool) → p m ≡ b → SameEmission (known p (through file files k)) (through file files k) m
      by true e = known_same sound k p m e
      by false e =
          same_then (known p (through file files k)) blank (through file files k) m
          (same_turned blank (known p (through file files k)) m (unknown_same (through file files k) p m e))
          (nothing file files k m none)

  each_same : IsSound file → (k : ℕ) (p : ℕ → Bool) (ms : List ℕ)
      → Each (λ m. (p m ≡ true) ⊎ IsNoSymbol file m) ms
      → Each (λ m. SameEmission (known p (through file files k)) (through file files k) m) ms
  each_same sound k p [] h = tt
  each_same sound k p (m ∷ ms) h = (mentioned_same sound k p m h.0, each_same sound k p ms h.1)

  pub suffices : (order : List ℕ) → IsPaired file → IsOrderOf file order → IsSound file → (p : ℕ → Bool) (n : ℕ)
      → Each (λ m. (p m ≡ true) ⊎ IsNoSymbol file m) (mentions_at file n)
      → SameEmission (next file files (known p (whole file files))) (whole file files) n
  suffices order paired o sound p n h =
      let b = whole file files in
      same_then (next file files (known p b)) (next file files b) b n
      (same_next file files (known p b) b n (each_same sound (length file.symbols) p (mentions_at file n) h))
      (same_turned b (next file files b) n (settled file paired files order o n))

  -- ---- all

  -- what is no symbol's has no value, known or not
  known_part : {A : Type 0} (p : ℕ → Bool) (n : ℕ) (x y : A) → (p n ≡ true) ⊎ IsNoSymbol file n
      → (IsNoSymbol file n → y ≡ x) → (if p n then x else y) ≡ x
  known_part p n x y (inl e) f = if_true (p n) x y e
  known_part p n x y (inr none) f = by (p n)
    where
      by : (b : Bool) → (if b then x else y) ≡ x
      by true = refl
      by false = f none

  pub all_known : (p : ℕ → Bool) → ((n : ℕ) → (p n ≡ true) ⊎ IsNoSymbol file n)
      → known_scope p (whole file files).scope ≡ refilled (whole file files).scope
  all_known p h =
      let b = whole file files in
      let k = length file.symbols in
      λ i. record {
        variable = λ n. known_part p n (b.scope.variable n) no_value (h n)
            (λ none. (nothing file files k n none).scope.variable) i;
        items = λ n. known_part p n (b.scope.items n) no_value (h n)
            (λ none. (nothing file files k n none).scope.items) i;
        name = λ n fs. known_part p n (fill (nearest fs) (b.scope.name n (holes ∷ []))) no_value (h n)
            (λ none. ap (fill (nearest fs)) ((nothing file files k n none).scope.name (holes ∷ []) tt)) i;
        id = λ n fs. known_part p n (fill (nearest fs) (b.scope.id n (holes ∷ []))) no_value (h n)
            (λ none. ap (fill (nearest fs)) ((nothing file files k n none).scope.id (holes ∷ []) tt)) i;
      }
