-- Names of symbols, and sets of numbers.
use Rattle.std.proofs.Common.{◌≡◌, ◌<◌, ℕ, zero, suc, true, List, [], ◌∷◌, length, Option, Some, None, refl, ap}
use Rattle.std.proofs.Common.{arith}
use Rattle.std.proofs.lemmas.Option.{slice_get_within}
use Rattle.std.specs.Prelude.{is_some, slice_get, option_map}
use Rattle.bicep_declared.specs.Declarations.{DeclaredTree}
use Rattle.bicep_meaning.specs.Files.{SourceFile, declaration, symbol_name}
use Rattle.ordered_emissions.specs.Orders.{IsPaired}
use Rattle.source_worlds.specs.Numbers.{name_of, or_empty}

no_more : {A B : Type 0} (g : A → B) (xs : List A) (n : ℕ) → n < length xs → option_map g (slice_get xs n) ≡ None → ⊥
no_more g [] n l h = absurd (omega (arith, l))
no_more g (x ∷ xs) zero l h = absurd cc
no_more g (x ∷ xs) (suc n) l h = no_more g xs n (omega (arith, l)) h

module _ (f : SourceFile) (paired : IsPaired f) (n : ℕ) (d : DeclaredTree) (is : declaration f n ≡ Some d) where
  -- what is declared has a name
  pub has_name : symbol_name f n ≡ None → ⊥
  has_name e =
      let l = slice_get_within f.declared.declarations n d is in
      no_more (λ x. x.1) f.symbols n (omega (arith, l, paired)) e

  pub named : symbol_name f n ≡ Some (name_of f n)
  named = by_name (symbol_name f n) has_name
    where
      by_name : (o : Option (List ℕ)) → (o ≡ None → ⊥) → o ≡ Some (or_empty o)
      by_name None h = absurd (h refl)
      by_name (Some x) h = refl

pub has_name_at : (f : SourceFile) → IsPaired f → (n : ℕ) → is_some (declaration f n) ≡ true → symbol_name f n ≡ None
    → ⊥
has_name_at f paired n h = by_declaration (declaration f n) refl h
  where
    by_declaration : (o : Option DeclaredTree) → declaration f n ≡ o → is_some o ≡ true → symbol_name f n ≡ None → ⊥
    by_declaration None e h = absurd cc
    by_declaration (Some d) e h = has_name f paired n d e

-- a name that is there is that of the symbol
pub name_is : (f : SourceFile) (n : ℕ) (x : List ℕ) → symbol_name f n ≡ Some x → name_of f n ≡ x
name_is f n x e = ap or_empty e
