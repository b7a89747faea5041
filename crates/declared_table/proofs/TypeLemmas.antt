-- The types of symbols in a list.
use Rattle.std.proofs.Common.{◌≡◌, ◌<◌, ◌≤◌, ◌+◌, nat_lt, true, false, ℕ, zero, suc, List, [], ◌∷◌, length, None}
use Rattle.std.proofs.Common.{Some, refl, ap, subst, ◌∙◌}
use Rattle.std.proofs.Common.{sym, arith}
use Rattle.std.proofs.lemmas.Option.{none-some, same_Some, slice_get_past}
use Rattle.std.specs.Prelude.{slice_get, slice_index_or, option_map, option_and_then}
use Rattle.foundation.proofs.Comparisons.{lt_of_true, le_of_false}
use Rattle.emitted_expressions.specs.Files.{SourceFile, declaration, symbol_kind, type_of, type_within, type_by, type_text, typed, around_kind}
use Rattle.ordered_emissions.specs.Orders.{IsPaired}
use Rattle.declared_types.specs.Types.{typed_of, AreTypes, AreTypesFrom}
use Rattle.declared_types.specs.declared.resources.Typed.{Typed}

type_from : (f : SourceFile) (k : ℕ) (ts : List Typed) (n : ℕ) (t : Typed) → AreTypesFrom f k ts
    → slice_get ts n ≡ Some t → typed_of t ≡ type_of f (k + n)
type_from f k [] n t h e = absurd (none-some t e)
type_from f k (u ∷ ts) zero t h e =
    ap typed_of (sym (same_Some u t e)) ∙ subst (λ m. typed_of u ≡ type_of f m) (no_more k) h.0
  where
    no_more : (k : ℕ) → k ≡ k + 0
    no_more k = omega arith
type_from f k (u ∷ ts) (suc n) t h e =
    subst (λ m. typed_of t ≡ type_of f m) (one_more k n) (type_from f (suc k) ts n t h.1 e)
  where
    one_more : (k n : ℕ) → suc k + n ≡ k + suc n
    one_more k n = omega arith

pub type_at : (f : SourceFile) (ts : List Typed) (n : ℕ) (t : Typed) → AreTypes f ts → slice_get ts n ≡ Some t
    → typed_of t ≡ type_of f n
type_at f ts n t h e = subst (λ m. typed_of t ≡ type_of f m) (from_zero n) (type_from f 0 ts n t h.0 e)
  where
    from_zero : (n : ℕ) → 0 + n ≡ n
    from_zero n = omega arith

-- what is no symbol's has an empty type
no_type : (f : SourceFile) (k n : ℕ) → declaration f n ≡ None → symbol_kind f n ≡ None
    → type_within f k n ≡ typed [] []
unfolding type_within
no_type f zero n d s = refl
no_type f (suc k) n d s = λ i.
    type_by (λ m. type_within f k m) (option_and_then around_kind (s i)) (type_text (d i))

pub type_outside : (f : SourceFile) (ts : List Typed) (n : ℕ) → IsPaired f → AreTypes f ts → length ts ≤ n
    → type_of f n ≡ typed [] []
type_outside f ts n paired h far =
    let count = h.1 in
    no_type f (length f.symbols) n (slice_get_past f.declared.declarations n (omega (arith, far, count, paired)))
    (ap (option_map (λ x. x.2)) (slice_get_past f.symbols n (omega (arith, far, count))))

looked_up : (ts : List Typed) (n : ℕ) (t : Typed) → n < length ts → t ≡ slice_index_or ts n t → slice_get ts n ≡ Some t
looked_up [] n t h e = absurd (omega (arith, h))
looked_up (u ∷ ts) zero t h e = ap Some (sym e)
looked_up (u ∷ ts) (suc n) t h e = looked_up ts n t (omega (arith, h)) e

-- the same of a list that is looked up
pub type_there : (f : SourceFile) (ts us : List Typed) (n : ℕ) (t : Typed) → AreTypes f ts → us ≡ ts
    → true ≡ nat_lt n (length us) → t ≡ slice_index_or us n t → typed_of t ≡ type_of f n
type_there f ts us n t are same within at =
    type_at f ts n t are
    (ap (λ (xs : List Typed). slice_get xs n) (sym same)
    ∙ looked_up us n t (lt_of_true n (length us) (sym within)) at)

pub type_absent : (f : SourceFile) (ts us : List Typed) (n : ℕ) → IsPaired f → AreTypes f ts → us ≡ ts
    → false ≡ nat_lt n (length us) → type_of f n ≡ typed [] []
type_absent f ts us n paired are same past =
    type_outside f ts n paired are
    (subst (λ (xs : List Typed). length xs ≤ n) same (le_of_false n (length us) (sym past)))
