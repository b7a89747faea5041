-- In an order, what declarations become through as many others as there are symbols is what their expressions become.
use Rattle.std.proofs.Common.{◌≡◌, ◌<◌, ◌≤◌, ◌⊎◌, inl, inr, ℕ, zero, suc, List, [], ◌∷◌, ◌++◌, length, Option, Some}
use Rattle.std.proofs.Common.{None}
use Rattle.std.proofs.Common.{refl, sym, ap, subst, ◌∙◌, arith, get_or, map}
use Rattle.std.specs.Prelude.{slice_get, option_map, Contains}
use Rattle.std.proofs.lemmas.Option.{slice_get_past}
use Rattle.std.proofs.lemmas.Bool.{cases_lt}
use Rattle.reading.specs.World.{Each}
use Rattle.bicep_circles.specs.Kind.{Kind}
use Rattle.bicep_circles.specs.Circles.{Links}
use Rattle.bicep_circles.specs.Declarations.{DeclaredTree}
use Rattle.bicep_circles.specs.Links.{mentioned, links}
use Rattle.bicep_circles.proofs.PlaceLemmas.{place, link_falls, place_within}
use Rattle.bicep_emission.specs.Files.{SourceFile, declaration, symbol_kind}
use Rattle.emission_laws.specs.Ranked.{mentioned_in, mentioned_around, mentions_at}
use Rattle.emission_laws.specs.Declared.{next, through, whole}
use Rattle.emission_laws.specs.Same.{SameEmission}
use Rattle.emission_laws.proofs.SettledLemmas.{same_next}
use Rattle.ordered_emissions.specs.Orders.{IsPaired, kinds, IsOrderOf, IsNoSymbol}
use Rattle.ordered_emissions.proofs.NothingLemmas.{nothing_stays}

-- ---- symbols and declarations by their numbers

some_there : {A : Type 0} (xs : List A) (n : ℕ) → n < length xs → (x : A) × (slice_get xs n ≡ Some x)
some_there [] n h = absurd (omega (arith, h))
some_there (x ∷ xs) zero h = (x, refl)
some_there (x ∷ xs) (suc n) h = some_there xs n (omega (arith, h))

-- what a symbol of that kind and its declaration mention
abbrev mentions_of : Option Kind → Option DeclaredTree → List ℕ
mentions_of (Some x) (Some d) = mentioned x d
mentions_of o p = []

no_declaration : (o : Option Kind) → [] ≡ mentions_of o None
no_declaration None = refl
no_declaration (Some x) = refl

links_at : (xs : List Kind) (ds : List DeclaredTree) (n : ℕ)
    → get_or (links xs ds) n [] ≡ mentions_of (slice_get xs n) (slice_get ds n)
links_at [] ds zero = refl
links_at [] ds (suc n) = refl
links_at (x ∷ xs) [] zero = refl
links_at (x ∷ xs) [] (suc n) = no_declaration (slice_get xs n)
links_at (x ∷ xs) (d ∷ ds) zero = refl
links_at (x ∷ xs) (d ∷ ds) (suc n) = links_at xs ds n

paired_length : (xs : List Kind) (ds : List DeclaredTree) → length xs ≡ length ds
    → length (links xs ds) ≡ length xs
paired_length [] ds e = refl
paired_length (x ∷ xs) [] e = absurd (omega (arith, e))
paired_length (x ∷ xs) (d ∷ ds) e = ap suc (paired_length xs ds (omega (arith, e)))

kind_at : (xs : List (ℕ × List ℕ × Kind)) (n : ℕ)
    → option_map (λ x. x.2) (slice_get xs n) ≡ slice_get (map (λ x. x.2) xs) n
kind_at [] zero = refl
kind_at [] (suc n) = refl
kind_at (x ∷ xs) zero = refl
kind_at (x ∷ xs) (suc n) = kind_at xs n

kinds_length : (xs : List (ℕ × List ℕ × Kind)) → length (map (λ x. x.2) xs) ≡ length xs
kinds_length [] = refl
kinds_length (x ∷ xs) = ap suc (kinds_length xs)

-- what holds of all that is contained holds of each
all_of_list : (P : ℕ → Type 0) (ms : List ℕ) → ((m : ℕ) → Contains ms m → P m) → Each P ms
all_of_list P [] f = tt
all_of_list P (m ∷ ms) f = (
  f m (zero, omega arith, refl),
  all_of_list P ms (λ x c. let within = c.1 in f x (suc c.0, omega (arith, within), c.2)),
)

module _ (file : SourceFile) (paired : IsPaired file) where
  abbrev pub lists : List (List ℕ)
  lists = links (kinds file) file.declared.declarations

  pub count : length lists ≡ length file.symbols
  count =
      paired_length (kinds file) file.declared.declarations (kinds_length file.symbols ∙ paired)
      ∙ kinds_length file.symbols

  pub beyond : (n : ℕ) → length lists ≤ n → IsNoSymbol file n
  beyond n h =
      let all = count in
      record {
        no_declaration = slice_get_past file.declared.declarations n (omega (arith, h, all, paired));
        no_kind = ap (option_map (λ x. x.2)) (slice_get_past file.symbols n (omega (arith, h, all)));
      }

  -- what a declaration mentions is what its symbol is linked to
  linked : (n : ℕ) → n < length lists → get_or lists n [] ≡ mentions_at file n
  linked n here =
      let all = count in
      let x = some_there file.symbols n (omega (arith, here, all)) in
      let d = some_there file.declared.declarations n (omega (arith, here, all, paired)) in
      let kind : symbol_kind file n ≡ Some x.0.2 = ap (option_map (λ y. y.2)) x.1 in
      links_at (kinds file) file.declared.declarations n
      ∙ ap (λ o. mentions_of o (declaration file n)) (sym (kind_at file.symbols n))
      ∙ (λ i. mentions_of (kind i) (d.1 i))
      ∙ sym (λ i. mentioned_in (d.1 i) ++ mentioned_around (kind i))

  unlinked : (n : ℕ) → length lists ≤ n → [] ≡ mentions_at file n
  unlinked n far =
      let none = beyond n far in
      sym (λ i. mentioned_in (none.no_declaration i) ++ mentioned_around (none.no_kind i))

  -- this holds of all that a declaration mentions, where it holds of what its symbol is linked to
  pub all_mentioned : (P : ℕ → Type 0) (n : ℕ) → ((m : ℕ) → Links lists n m → P m) → Each P (mentions_at file n)
  all_mentioned P n f = by (cases_lt n (length lists))
    where
      by : (n < length lists) ⊎ (length lists ≤ n) → Each P (mentions_at file n)
      by (inl here) = subst (Each P) (linked n here) (all_of_list P (get_or lists n []) f)
      by (inr far) = subst (Each P) (unlinked n far) tt

  module _ (files : List SourceFile) (order : List ℕ) (o : IsOrderOf file order) where
    -- what is mentioned becomes the same through one more declaration, where symbols of lower place do
    mentioned_stays : (k n : ℕ) → place order n < suc k
        → ((m : ℕ) → m < length lists → place order m < k
        → SameEmission (through file files k) (through file files (suc k)) m)
        → (m : ℕ) → Links lists n m → SameEmission (through file files k) (through file files (suc k)) m
    mentioned_stays k n h before m c = by (cases_lt m (length lists))
      where
        by : (m < length lists) ⊎ (length lists ≤ m)
            → SameEmission (through file files k) (through file files (suc k)) m
        by (inl here) =
            let low = link_falls lists order o n m c here in before m here (omega (arith, h, low))
        by (inr far) = nothing_stays file files k (suc k) m (beyond m far)

    stays : (k n : ℕ) → n < length lists → place order n < k
        → SameEmission (through file files k) (through file files (suc k)) n
    unfolding through
    stays zero n here h = absurd (omega (arith, h))
    stays (suc k) n here h =
        same_next file files (through file files k) (through file files (suc k)) n
        (all_mentioned (λ m. SameEmission (through file files k) (through file files (suc k)) m) n
        (mentioned_stays k n h (λ m w r. stays k m w r)))

    pub settled : (n : ℕ) → SameEmission (whole file files) (next file files (whole file files)) n
    unfolding through
    settled n = by (cases_lt n (length lists))
      where
        by : (n < length lists) ⊎ (length lists ≤ n)
            → SameEmission (whole file files) (next file files (whole file files)) n
        by (inl here) =
            let within = place_within lists order o n here in
            let few = o.counted in
            let all = count in
            stays (length file.symbols) n here (omega (arith, within, few, all))
        by (inr far) = nothing_stays file files (length file.symbols) (suc (length file.symbols)) n (beyond n far)
