-- Lists of types, and the type of a resource by those around it.
use Rattle.std.proofs.Common.{◌≡◌, ◌≤◌, ◌+◌, ℕ, zero, suc, List, [], ◌∷◌, ◌++◌, length, None, map, refl, ap, subst, ◌∙◌}
use Rattle.std.proofs.Common.{arith}
use Rattle.std.specs.Prelude.{slice_get, option_map, option_and_then}
use Rattle.std.specs.Str.{chars}
use Rattle.std.proofs.lemmas.Str.{chars-nil}
use Rattle.bicep_symbols.specs.Entries.{Symbol}
use Rattle.bicep_declared.specs.Declarations.{DeclaredTree}
use Rattle.bicep_meaning.specs.Files.{SourceFile, type_of, type_by, type_text, type_within, around_kind}
use Rattle.declared_types.specs.Types.{typed_of, HasSymbols, around_in, AreTypesFrom}
use Rattle.declared_types.specs.declared.resources.Typed.{Typed}

pub empty_text : chars [] ≡ []
empty_text = chars-nil

pub none_there : {A B : Type 0} (f : A → B) (xs : List A) (n : ℕ) → length xs ≤ n → slice_get (map f xs) n ≡ None
none_there f [] zero h = refl
none_there f [] (suc n) h = refl
none_there f (x ∷ xs) zero h = absurd (omega (arith, h))
none_there f (x ∷ xs) (suc n) h = none_there f xs n (omega (arith, h))

-- the type of a resource by that of the one around it
module _ (f : SourceFile) (ss : List Symbol) (ds : List DeclaredTree) (h : HasSymbols f ss ds) where
  one_more : (k n : ℕ) → type_within f (suc k) n
      ≡ type_by (λ m. type_within f k m) (around_in (slice_get ss n)) (type_text (slice_get ds n))
  unfolding type_within
  one_more k n =
      let s = h.symbols in
      let d = h.declarations in
      λ i. type_by (λ m. type_within f k m)
      (option_and_then around_kind (option_map (λ x. x.2) (slice_get (s i) n))) (type_text (slice_get (d i) n))

  pub within_is : (depth k n : ℕ) → depth ≡ suc k → type_within f depth n
      ≡ type_by (λ m. type_within f k m) (around_in (slice_get ss n)) (type_text (slice_get ds n))
  within_is depth k n e = ap (λ j. type_within f j n) e ∙ one_more k n

-- the type of the next symbol after those of the first
pub types_push : (f : SourceFile) (n : ℕ) (ts : List Typed) (t : Typed) → AreTypesFrom f n ts
    → typed_of t ≡ type_of f (n + length ts) → AreTypesFrom f n (ts ++ t ∷ [])
types_push f n [] t h e = (subst (λ k. typed_of t ≡ type_of f k) (none_after n) e, tt)
  where
    none_after : (n : ℕ) → n + 0 ≡ n
    none_after n = omega arith
types_push f n (s ∷ ts) t h e =
    (h.0, types_push f (suc n) ts t h.1 (subst (λ k. typed_of t ≡ type_of f k) (one_after n (length ts)) e))
  where
    one_after : (n k : ℕ) → n + suc k ≡ suc n + k
    one_after n k = omega arith
