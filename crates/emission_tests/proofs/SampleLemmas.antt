-- A sample has no resource, so no type; the second file of its program has outputs.
use Rattle.std.proofs.Common.{◌≡◌, ℕ, zero, suc, true, false, List, [], ◌∷◌, map, Option, Some, None, refl, sym, ap}
use Rattle.std.proofs.Common.{◌∙◌}
use Rattle.std.proofs.lemmas.Bool.{true≢false, false≢true}
use Rattle.foundation.proofs.Comparisons.{eq_of_true}
use Rattle.std.specs.Prelude.{slice_get, option_map, option_and_then}
use Rattle.bicep_meaning.specs.Files.{SourceFile, typed, type_by, type_text, type_within, around_kind, declaration}
use Rattle.emission_tests.specs.Sample.{symbol_of, file_of, file_with, is_second}

no_item : {A : Type 0} (n : ℕ) → slice_get {X = A} [] n ≡ None
no_item zero = refl
no_item (suc n) = refl

not_around : (names : List (List ℕ)) (n : ℕ)
    → option_and_then around_kind (option_map (λ x. x.2) (slice_get (map symbol_of names) n)) ≡ None
not_around [] zero = refl
not_around [] (suc n) = refl
not_around (t ∷ names) zero = refl
not_around (t ∷ names) (suc n) = not_around names n

pub no_type : (names : List (List ℕ)) (k n : ℕ) → type_within (file_of names) k n ≡ typed [] []
unfolding type_within
no_type names zero n = refl
no_type names (suc k) n =
    ap (λ o. type_by (λ m. type_within (file_of names) k m) o (type_text (declaration (file_of names) n)))
    (not_around names n)
    ∙ ap (λ o. type_by (λ m. type_within (file_of names) k m) None (type_text o)) (no_item n)

pub name_there : (names : List (List ℕ)) (n : ℕ)
    → slice_get names n ≡ option_map (λ x. x.1) (slice_get (map symbol_of names) n)
name_there [] zero = refl
name_there [] (suc n) = refl
name_there (t ∷ names) zero = refl
name_there (t ∷ names) (suc n) = name_there names n

-- ---- outputs

module _ (outputs : List (List ℕ)) (k : ℕ) where
  abbrev pub found : Option ℕ → Option (List ℕ)
  found o =
      option_and_then (λ f. slice_get f.outputs k)
      (option_and_then (slice_get (file_of [] ∷ file_with [] outputs ∷ [])) o)

  pub of_second : (o : Option ℕ) → true ≡ is_second o → slice_get outputs k ≡ found o
  of_second None e = absurd (true≢false e)
  of_second (Some n) e = ap (λ m. found (Some m)) (sym (eq_of_true n 1 (sym e)))

  pub of_others : (o : Option ℕ) → false ≡ is_second o → None ≡ found o
  of_others None e = refl
  of_others (Some zero) e = sym (no_item k)
  of_others (Some (suc zero)) e = absurd (false≢true e)
  of_others (Some (suc (suc n))) e =
      sym (ap (option_and_then (λ (f : SourceFile). slice_get f.outputs k)) (no_item n))
