-- Where declarations mention only symbols of lower rank, more variables change nothing.
use Rattle.std.proofs.Common.{◌≡◌, ◌<◌, ◌≤◌, ◌==◌, ◌&&◌, ◌||◌, ◌⊎◌, inl, inr, ℕ, zero, suc, Bool, false, List, []}
use Rattle.std.proofs.Common.{◌∷◌, length, get_or, refl, sym, ap, ◌∙◌, arith}
use Rattle.std.specs.Prelude.{Contains, slice_get}
use Rattle.std.specs.List.{list_any}
use Rattle.std.proofs.lemmas.Bool.{cases_lt}
use Rattle.bicep_circles.specs.Kind.{Kind}
use Rattle.bicep_circles.specs.Circles.{Links}
use Rattle.bicep_circles.specs.Declarations.{DeclaredTree}
use Rattle.bicep_circles.specs.Links.{links}
use Rattle.bicep_mentions.specs.Entries.{is_variable}
use Rattle.bicep_mentions.specs.Through.{leads_to, mentioning_step, mentioning_within, mentioning}
use Rattle.bicep_mentions.proofs.AgreeLemmas.{both-or}
use Rattle.bicep_mentions.proofs.RankLemmas.{IsRanked}

any-same : (f g : ℕ → Bool) (ms : List ℕ) → ((m : ℕ) → Contains ms m → f m ≡ g m) → list_any f ms ≡ list_any g ms
any-same f g [] h = refl
any-same f g (m ∷ ms) h =
    both-or _ _ _ _ (h m (zero, omega arith, refl))
    (any-same f g ms (λ x c. let within = c.1 in h x (suc c.0, omega (arith, within), c.2)))

-- what is no declaration mentions nothing
none_at : (lists : List (List ℕ)) (k : ℕ) → length lists ≤ k → get_or lists k [] ≡ []
none_at [] k h = refl
none_at (l ∷ lists) zero h = absurd (omega (arith, h))
none_at (l ∷ lists) (suc k) h = none_at lists k (omega (arith, h))

-- a number that is no symbol's mentions nothing
pub nothing : (xs : List Kind) (ds : List DeclaredTree) (limit k n : ℕ) → length (links xs ds) ≤ k
    → mentioning_within xs ds limit k n ≡ false
unfolding mentioning_within
nothing xs ds zero k n h = refl
nothing xs ds (suc limit) k n h =
    ap (list_any (leads_to ds (mentioning_within xs ds limit) n)) (none_at (links xs ds) k h)

module _ (xs : List Kind) (ds : List DeclaredTree) (rank : ℕ → ℕ) (ranked : IsRanked xs ds rank) where
  -- what is mentioned stays, where symbols of lower rank do
  mentioned_stays : (limit k n : ℕ) → rank k < suc limit
      → ((m : ℕ) → m < length (links xs ds) → rank m < limit
      → mentioning_within xs ds limit m n ≡ mentioning_within xs ds (suc limit) m n)
      → (m : ℕ) → Links (links xs ds) k m → (m < length (links xs ds)) ⊎ (length (links xs ds) ≤ m)
      → mentioning_within xs ds limit m n ≡ mentioning_within xs ds (suc limit) m n
  mentioned_stays limit k n h before m c (inl here) =
      let low = ranked.falls k m c here in before m here (omega (arith, h, low))
  mentioned_stays limit k n h before m c (inr far) =
      nothing xs ds limit m n far ∙ sym (nothing xs ds (suc limit) m n far)

  stays : (limit k n : ℕ) → k < length (links xs ds) → rank k < limit
      → mentioning_within xs ds limit k n ≡ mentioning_within xs ds (suc limit) k n
  unfolding mentioning_within
  stays zero k n within h = absurd (omega (arith, h))
  stays (suc limit) k n within h =
      any-same (leads_to ds (mentioning_within xs ds limit) n) (leads_to ds (mentioning_within xs ds (suc limit)) n)
      (get_or (links xs ds) k [])
      (λ m c. ap (λ b. (m == n) || (is_variable (slice_get ds m) && b))
      (mentioned_stays limit k n h (λ x w r. stays limit x n w r) m c (cases_lt m (length (links xs ds)))))

  settled_by : (k n : ℕ) → (k < length (links xs ds)) ⊎ (length (links xs ds) ≤ k)
      → mentioning_within xs ds (length ds) k n ≡ mentioning_within xs ds (suc (length ds)) k n
  settled_by k n (inl here) = stays (length ds) k n here (ranked.few k here)
  settled_by k n (inr far) =
      nothing xs ds (length ds) k n far ∙ sym (nothing xs ds (suc (length ds)) k n far)

  pub is_closed : (k n : ℕ) → mentioning xs ds k n ≡ mentioning_step xs ds (mentioning xs ds) k n
  unfolding mentioning_within
  is_closed k n = settled_by k n (cases_lt k (length (links xs ds)))
