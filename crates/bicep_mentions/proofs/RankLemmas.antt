-- Where declarations mention only symbols of lower rank, more steps change nothing.
use Rattle.std.proofs.Common.{◌≡◌, ◌<◌, ◌≤◌, ◌⊎◌, inl, inr, ℕ, zero, suc, false, List, [], ◌∷◌}
use Rattle.std.proofs.Common.{length, Option, Some, None, refl, sym, ap, subst, ◌∙◌, arith, get_or}
use Rattle.std.specs.Prelude.{Contains}
use Rattle.std.specs.List.{AllByRecursion}
use Rattle.std.proofs.lemmas.Option.{none-some}
use Rattle.std.proofs.lemmas.Bool.{cases_lt}
use Rattle.bicep_circles.specs.Kind.{Kind}
use Rattle.bicep_circles.specs.Circles.{Links}
use Rattle.bicep_circles.specs.Declarations.{DeclaredTree}
use Rattle.bicep_circles.specs.Mentions.{declared_mentions}
use Rattle.bicep_circles.specs.Links.{parent_mentions, mentioned, links}
use Rattle.bicep_mentions.specs.States.{StateReads}
use Rattle.bicep_mentions.specs.Agreement.{AgreeAt}
use Rattle.bicep_mentions.specs.Entries.{declaration_at, own_by, whole_by, state_step, reads_within, state_reads}
use Rattle.bicep_mentions.proofs.AgreeLemmas.{Agree, all-first, same_own, same_whole}

-- each declaration mentions only symbols of a lower rank, and all ranks are below the number of declarations
pub record IsRanked (xs : List Kind) (ds : List DeclaredTree) (rank : ℕ → ℕ) : Type 0 where
  pub falls : (n m : ℕ) → Links (links xs ds) n m → m < length (links xs ds) → rank m < rank n
  pub few : (n : ℕ) → n < length (links xs ds) → rank n < length ds

-- the links of a symbol are what its declaration mentions
pub link_at : (xs : List Kind) (ds : List DeclaredTree) (n : ℕ) (p : Kind × DeclaredTree)
    → declaration_at xs ds n ≡ Some p → get_or (links xs ds) n [] ≡ mentioned p.0 p.1
link_at [] ds n p e = absurd (none-some p e)
link_at (x ∷ xs) [] n p e = absurd (none-some p e)
link_at (x ∷ xs) (d ∷ ds) zero p e = let same : (x, d) ≡ p = cc in ap (λ q. mentioned q.0 q.1) same
link_at (x ∷ xs) (d ∷ ds) (suc n) p e = link_at xs ds n p e

-- beyond the links there is no declaration
pub none_beyond : (xs : List Kind) (ds : List DeclaredTree) (n : ℕ) → length (links xs ds) ≤ n
    → declaration_at xs ds n ≡ None
none_beyond [] ds n h = refl
none_beyond (x ∷ xs) [] n h = refl
none_beyond (x ∷ xs) (d ∷ ds) zero h = absurd (omega (arith, h))
none_beyond (x ∷ xs) (d ∷ ds) (suc n) h = none_beyond xs ds n (omega (arith, h))

pub is_declared : (xs : List Kind) (ds : List DeclaredTree) (n : ℕ) (p : Kind × DeclaredTree)
    → declaration_at xs ds n ≡ Some p → n < length (links xs ds)
is_declared [] ds n p e = absurd (none-some p e)
is_declared (x ∷ xs) [] n p e = absurd (none-some p e)
is_declared (x ∷ xs) (d ∷ ds) zero p e = omega arith
is_declared (x ∷ xs) (d ∷ ds) (suc n) p e = let h = is_declared xs ds n p e in omega (arith, h)

-- what holds of all that is contained holds by recursion
pub all_contained : (P : ℕ → Type 0) (ms : List ℕ) → ((m : ℕ) → Contains ms m → P m) → AllByRecursion P ms
all_contained P [] f = tt
all_contained P (m ∷ ms) f = (
  f m (zero, omega arith, refl),
  all_contained P ms (λ x c. let within = c.1 in f x (suc c.0, omega (arith, within), c.2)),
)

module _ (xs : List Kind) (ds : List DeclaredTree) where
  -- what is no symbol reads no state
  beyond_by : (A : StateReads) (o : Option (Kind × DeclaredTree)) → o ≡ None
      → (own_by A o ≡ false) × (whole_by A o ≡ false)
  beyond_by A None e = (refl, refl)
  beyond_by A (Some p) e = absurd (none-some p (sym e))

  pub beyond : (k n : ℕ) → declaration_at xs ds n ≡ None
      → ((reads_within xs ds k).own n ≡ false) × ((reads_within xs ds k).whole n ≡ false)
  unfolding reads_within
  beyond zero n e = (refl, refl)
  beyond (suc k) n e = beyond_by (reads_within xs ds k) (declaration_at xs ds n) e

  -- what agrees on the symbols that a declaration mentions gives it the same
  pub step_agrees : (A B : StateReads) (n : ℕ) (o : Option (Kind × DeclaredTree)) → declaration_at xs ds n ≡ o
      → ((m : ℕ) → Links (links xs ds) n m → AgreeAt A B m)
      → (own_by A o ≡ own_by B o) × (whole_by A o ≡ whole_by B o)
  step_agrees A B n None e f = (refl, refl)
  step_agrees A B n (Some p) e f =
      let all : Agree A B (mentioned p.0 p.1) =
      all_contained (AgreeAt A B) (mentioned p.0 p.1)
      (λ m c. f m (subst (λ ms. Contains ms m) (sym (link_at xs ds n p e)) c)) in (
        same_own A B p.1 (all-first (AgreeAt A B) (declared_mentions p.1) (parent_mentions p.0) all),
        same_whole A B p.0 p.1 all,
      )

  module _ (rank : ℕ → ℕ) (ranked : IsRanked xs ds rank) where
    -- what is mentioned stays, where symbols of lower rank do
    mentioned_stays : (k n : ℕ) → rank n < suc k
        → ((m : ℕ) → m < length (links xs ds) → rank m < k
        → AgreeAt (reads_within xs ds k) (reads_within xs ds (suc k)) m)
        → (m : ℕ) → Links (links xs ds) n m → (m < length (links xs ds)) ⊎ (length (links xs ds) ≤ m)
        → AgreeAt (reads_within xs ds k) (reads_within xs ds (suc k)) m
    mentioned_stays k n h before m c (inl here) =
        let low = ranked.falls n m c here in before m here (omega (arith, h, low))
    mentioned_stays k n h before m c (inr far) =
        let none = none_beyond xs ds m far in
        let first = beyond k m none in
        let second = beyond (suc k) m none in
        (first.0 ∙ sym second.0, first.1 ∙ sym second.1)

    stays : (k n : ℕ) → n < length (links xs ds) → rank n < k
        → AgreeAt (reads_within xs ds k) (reads_within xs ds (suc k)) n
    unfolding reads_within
    stays zero n within h = absurd (omega (arith, h))
    stays (suc k) n within h =
        step_agrees (reads_within xs ds k) (reads_within xs ds (suc k)) n (declaration_at xs ds n) refl
        (λ m c. mentioned_stays k n h (λ x w r. stays k x w r) m c (cases_lt m (length (links xs ds))))

    settled_by : (n : ℕ) → (n < length (links xs ds)) ⊎ (length (links xs ds) ≤ n)
        → AgreeAt (reads_within xs ds (length ds)) (reads_within xs ds (suc (length ds))) n
    settled_by n (inl here) = stays (length ds) n here (ranked.few n here)
    settled_by n (inr far) =
        let none = none_beyond xs ds n far in
        let first = beyond (length ds) n none in
        let second = beyond (suc (length ds)) n none in
        (first.0 ∙ sym second.0, first.1 ∙ sym second.1)

    -- the declarations say of each symbol what is known of it
    pub is_settled : (n : ℕ) → AgreeAt (state_reads xs ds) (state_step xs ds (state_reads xs ds)) n
    unfolding reads_within
    is_settled n = settled_by n (cases_lt n (length (links xs ds)))
