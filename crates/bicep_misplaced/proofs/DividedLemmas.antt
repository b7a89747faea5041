-- Texts at their first character of a number below 128, in bytes and in characters.
use Rattle.std.proofs.Common.{◌≡◌, ◌≢◌, ◌<◌, ◌+◌, ◌==◌, ℕ, suc, Bool, true, false, List, [], ◌∷◌, ◌++◌, length}
use Rattle.std.proofs.Common.{get_or, Option, Some, None, subst, refl, ap, sym, ◌∙◌, arith, length-append}
use Rattle.std.proofs.Common.{eq-eqb}
use Rattle.std.specs.Str.{chars, IsUtf8}
use Rattle.std.proofs.lemmas.Str.{chars-append, chars-IsAscii, encodes-chars, encode_ascii, IsUtf8-from_ascii}
use Rattle.std.proofs.lemmas.Bool.Decides.{nat_tests}
use lib.Utf8.{encode, encodes}
use Rattle.bicep_misplaced.specs.Types.{divided}
use Rattle.foundation.proofs.AsciiWords.{one_ascii}

module _ (m : ℕ) (small : m < 128) where
  is_at : (c : ℕ) → (c == m) ≡ true → c ≡ m
  is_at c e = grind (arith, nat_tests)

  abbrev Lacks : List ℕ → Type 0
  Lacks bs = (i : ℕ) → i < length bs → get_or bs i 0 ≢ m

  after_front : (xs ys : List ℕ) (i : ℕ) → get_or (xs ++ ys) (length xs + i) 0 ≡ get_or ys i 0
  after_front [] ys i = ap (λ k. get_or ys k 0) (omega arith)
  after_front (x ∷ xs) ys i = ap (λ k. get_or (x ∷ (xs ++ ys)) k 0) unary ∙ after_front xs ys i
    where
      unary : suc (length xs) + i ≡ suc (length xs + i)
      unary = omega arith

  lacks_rest : (xs ys : List ℕ) → Lacks (xs ++ ys) → Lacks ys
  lacks_rest xs ys h = λ i l e. h (length xs + i) (omega (arith, length-append xs ys)) (after_front xs ys i ∙ e)

  first_is : (c : ℕ) (cs : List ℕ) → c ≡ m → encodes (c ∷ cs) ≡ m ∷ encodes cs
  first_is c cs e = ap (λ x. encodes (x ∷ cs)) e ∙ ap (λ x. x ++ encodes cs) (encode_ascii m small)

  lacks_first : (bs : List ℕ) → Lacks (m ∷ bs) → ⊥
  lacks_first bs h = h 0 (omega arith) refl

  undivided_at : (cs : List ℕ) → Lacks (encodes cs) → divided m cs ≡ None
  undivided_at [] h = refl
  undivided_at (c ∷ cs) h = by (c == m) refl (undivided_at cs (lacks_rest (encode c) (encodes cs) h))
    where
      by : (b : Bool) → (c == m) ≡ b → divided m cs ≡ None → divided m (c ∷ cs) ≡ None
      by true e r = absurd (lacks_first (encodes cs) (λ i. subst Lacks (first_is c cs (is_at c e)) h i))
      by false e r = rw e (rw r refl)

  pub undivided : (bs : List ℕ) → IsUtf8 bs → Lacks bs → divided m (chars bs) ≡ None
  undivided bs u h = undivided_at (chars bs) (λ i. subst Lacks (sym (encodes-chars bs u)) h i)

  pub divided_here : (xs ys : List ℕ) → divided m xs ≡ None → divided m (xs ++ m ∷ ys) ≡ Some (xs, ys)
  divided_here [] ys h = rw (eq-eqb m m refl) refl
  divided_here (x ∷ xs) ys h = by (x == m) (divided m xs) refl refl h (divided_here xs ys)
    where
      by : (b : Bool) (o : Option (List ℕ × List ℕ)) → (x == m) ≡ b → divided m xs ≡ o → divided m (x ∷ xs) ≡ None
          → (divided m xs ≡ None → divided m (xs ++ m ∷ ys) ≡ Some (xs, ys))
          → divided m (x ∷ (xs ++ m ∷ ys)) ≡ Some (x ∷ xs, ys)
      by true o e d n r = let some : Some ([], xs) ≡ None = (rw e at n) in absurd cc
      by false None e d n r = rw e (rw (r d) refl)
      by false (Some q) e d n r = let some : Some (x ∷ q.0, q.1) ≡ None = (rw d at (rw e at n)) in absurd cc

  pub divided_there : (bs kind api : List ℕ) → IsUtf8 kind → bs ≡ kind ++ m ∷ api → Lacks kind
      → divided m (chars bs) ≡ Some (chars kind, chars api)
  divided_there bs kind api u is h =
      ap (divided m)
      (ap chars is
      ∙ chars-append kind (m ∷ api) u
      ∙ ap (λ x. chars kind ++ x) (chars-append (m ∷ []) api (IsUtf8-from_ascii (m ∷ []) (one_ascii m small))
      ∙ ap (λ x. x ++ chars api) (chars-IsAscii (m ∷ []) (one_ascii m small))))
      ∙ divided_here (chars kind) (chars api) (undivided kind u h)
