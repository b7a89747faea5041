-- Symbols that are taken in an order.
use Rattle.std.proofs.Common.{◌≡◌, ◌<◌, ◌≤◌, ◌⊎◌, inl, inr, ℕ, Bool, true, false, List, [], ◌∷◌, length, refl}
use Rattle.std.proofs.Common.{sym, ◌∙◌}
use Rattle.std.proofs.lemmas.Bool.{false≢true, cases_lt}
use Rattle.std.specs.Prelude.{slice_index_or, if◌then◌else◌}
use Rattle.arm_expr.specs.Tree.{Tree}
use Rattle.depend_graph.specs.Orders.{IsAmong}
use Rattle.bicep_circles.specs.Circles.{Links}
use Rattle.bicep_emission.specs.Files.{SourceFile}
use Rattle.bicep_emission.specs.Emitted.{Frame, no_value}
use Rattle.emission_laws.specs.Sound.{IsSound}
use Rattle.emission_laws.specs.Declared.{next, whole}
use Rattle.emission_laws.specs.Holes.{fill, holes, nearest, IsRun, refilled}
use Rattle.emission_laws.specs.Same.{SameEmission}
use Rattle.ordered_emissions.specs.Known.{known, known_scope, known_full_name, known_condition}
use Rattle.ordered_emissions.specs.Orders.{IsPaired, IsOrderOf, IsNoSymbol}
use Rattle.ordered_emissions.proofs.OrderLemmas.{lists, beyond, all_mentioned}
use Rattle.ordered_emissions.proofs.KnownLemmas.{suffices, all_known}
use Rattle.ordered_emissions.proofs.HeadLemmas.{has_heads}
use Rattle.ordered_emissions.proofs.NothingLemmas.{nothing}

module _ (file : SourceFile) (files : List SourceFile) (order : List ℕ) (paired : IsPaired file)
    (o : IsOrderOf file order) (p : ℕ → Bool) where
  -- what the symbol at a place of the order mentions is known, where what is before that place is
  mentioned : (i : ℕ) → i < length order → ((m : ℕ) → IsAmong order i m → p m ≡ true) → (m : ℕ)
      → Links (lists file paired) (slice_index_or order i 0) m → (p m ≡ true) ⊎ IsNoSymbol file m
  mentioned i h before m c = by (cases_lt m (length (lists file paired)))
    where
      by : (m < length (lists file paired)) ⊎ (length (lists file paired) ≤ m) → (p m ≡ true) ⊎ IsNoSymbol file m
      by (inl here) = inl (before m (o.in_turn i m h c here))
      by (inr far) = inr (beyond file paired m far)

  pub earlier_suffice : IsSound file → (i : ℕ) → i < length order
      → ((m : ℕ) → IsAmong order i m → p m ≡ true)
      → SameEmission (next file files (known p (whole file files))) (whole file files) (slice_index_or order i 0)
  earlier_suffice sound i h before =
      suffices file files order paired o sound p (slice_index_or order i 0)
      (all_mentioned file paired (λ m. (p m ≡ true) ⊎ IsNoSymbol file m) (slice_index_or order i 0)
      (mentioned i h before))

  every : ((m : ℕ) → IsAmong order (length order) m → p m ≡ true) → (n : ℕ) → (p n ≡ true) ⊎ IsNoSymbol file n
  every all n = by (cases_lt n (length (lists file paired)))
    where
      by : (n < length (lists file paired)) ⊎ (length (lists file paired) ≤ n) → (p n ≡ true) ⊎ IsNoSymbol file n
      by (inl here) = inl (all n (o.all n here))
      by (inr far) = inr (beyond file paired n far)

  pub every_known : ((m : ℕ) → IsAmong order (length order) m → p m ≡ true)
      → known_scope p (whole file files).scope ≡ refilled (whole file files).scope
  every_known all = all_known file files p (every all)

  -- what is no symbol's has no value, known or not
  head_known : (n : ℕ) (b : Bool) → p n ≡ b → (p n ≡ true) ⊎ IsNoSymbol file n → (x y : Tree) → x ≡ y
      → (IsNoSymbol file n → no_value ≡ y) → (if b then x else no_value) ≡ y
  head_known n true e h x y same none = same
  head_known n false e (inl f) x y same none = absurd (false≢true (sym e ∙ f))
  head_known n false e (inr k) x y same none = none k

  pub heads_known : IsSound file → ((m : ℕ) → IsAmong order (length order) m → p m ≡ true) → (n : ℕ)
      (fs : List Frame) → IsRun fs
      → (known_full_name p (whole file files) n fs ≡ (whole file files).full_name n fs)
      × (known_condition p (whole file files) n fs ≡ (whole file files).condition n fs)
  heads_known sound all n fs r =
      let w = whole file files in
      let h = has_heads file files sound (length file.symbols) n in (
        head_known n (p n) refl (every all n) (fill (nearest fs) (w.full_name n (holes ∷ []))) (w.full_name n fs)
            (h.full_name fs r) (λ k. (nothing file files (length file.symbols) n k).full_name fs r),
        head_known n (p n) refl (every all n) (fill (nearest fs) (w.condition n (holes ∷ []))) (w.condition n fs)
            (h.condition fs r) (λ k. (nothing file files (length file.symbols) n k).condition fs r),
      )
