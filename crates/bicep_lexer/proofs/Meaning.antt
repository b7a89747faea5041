-- A text means the characters that its signs mean.
use Rattle.std.proofs.Common.{◌≡◌, ℕ, suc, ◌+◌, ◌-◌, ◌*◌, ◌<◌, ◌≤◌, true, false, eqb, List, [], ◌∷◌, ◌++◌, length}
use Rattle.std.proofs.Common.{take, Option, Some, None, is_some, unwrap_or, refl, ap, subst, ◌∙◌, arith}
use Rattle.std.proofs.Common.{length-append}
use Rattle.std.proofs.lemmas.Bool.{eqb-true}
use Rattle.std.proofs.lemmas.Bool.Decides.{nat_tests}
use Rattle.foundation.proofs.Choices.{cond_false, cond_true}
use Rattle.bicep_lexer.specs.declared.kind.TokenKind.{TokenKind}
use Rattle.bicep_lexer.specs.declared.kind.TokenKind.TheVariants as k
use Rattle.bicep_lexer.specs.declared.value.Mode.TheVariants as mode
use Rattle.bicep_lexer.specs.Escapes.{hexadecimal, is_scalar, simple_escape}
use Rattle.bicep_lexer.specs.Values.{with_digit, character_of, unescaped_from, unescaped, inside, value_of}
use Rattle.bicep_lexer.specs.Signs.{Sign, itself, escape, unicode, hexadecimal_from, AreHexadecimal, AreSigns}
use Rattle.bicep_lexer.specs.Signs.{written, meant, IsBetween}
use Rattle.bicep_lexer.proofs.Complete.{not_equal, take_seam}

hexadecimal-grows : (v : ℕ) (ds : List ℕ) → v ≤ hexadecimal_from v ds
hexadecimal-grows v [] = omega arith
hexadecimal-grows v (d ∷ ds) = omega (arith, hexadecimal-grows (16 * v + unwrap_or (hexadecimal d) 0) ds)

digit_no_brace : (d : ℕ) → is_some (hexadecimal d) ≡ true → eqb d 125 ≡ false
digit_no_brace d h = elim (eqb d 125) as (λ t. eqb d 125 ≡ t → t ≡ false) [
  | true ↦ λ e. absurd (none (subst (λ x. is_some (hexadecimal x) ≡ true) (eqb-true d 125 e) h))
  | false ↦ λ e. refl
] refl
  where
    none : is_some (hexadecimal 125) ≡ true → ⊥
    none e = cc

with_digit-small : (v : ℕ) (o : Option ℕ) → is_some o ≡ true → 16 * v + unwrap_or o 0 < 0x11_0000
    → with_digit v o ≡ 16 * v + unwrap_or o 0
with_digit-small v None h small = absurd cc
with_digit-small v (Some x) h small = omega (arith, small)

braced : (v : ℕ) (ds rest : List ℕ) → AreHexadecimal ds → hexadecimal_from v ds < 0x11_0000
    → unescaped_from (mode.Braced v) (ds ++ 125 ∷ rest) ≡ character_of (hexadecimal_from v ds)
    ++ unescaped_from mode.Plain rest
braced v [] rest h small = refl
braced v (d ∷ ds) rest h small =
    let next = 16 * v + unwrap_or (hexadecimal d) 0 in
    let below : next < 0x11_0000 = omega (arith, small, hexadecimal-grows next ds) in
    cond_false (eqb d 125) _ _ (digit_no_brace d h.0)
    ∙ ap (λ n. unescaped_from (mode.Braced n) (ds ++ 125 ∷ rest)) (with_digit-small v (hexadecimal d) h.0 below)
    ∙ braced next ds rest h.1 small

scalar_small : (v : ℕ) → is_scalar v ≡ true → v < 0x11_0000
scalar_small v h = grind (arith, nat_tests)

no_u : (c : ℕ) → is_some (simple_escape c) ≡ true → eqb c 117 ≡ false
no_u c h = elim (eqb c 117) as (λ t. eqb c 117 ≡ t → t ≡ false) [
  | true ↦ λ e. absurd (none (subst (λ x. is_some (simple_escape x) ≡ true) (eqb-true c 117 e) h))
  | false ↦ λ e. refl
] refl
  where
    none : is_some (simple_escape 117) ≡ true → ⊥
    none e = cc

-- each escape's character in its place
signs_meant : (ss : List Sign) → AreSigns ss → unescaped (written ss) ≡ meant ss
signs_meant [] h = refl
signs_meant (itself c ∷ ss) h = cond_false (eqb c 92) _ _ (not_equal c 92 h.0.1)
    ∙ ap (λ xs. c ∷ xs) (signs_meant ss h.2)
signs_meant (escape c ∷ ss) h = cond_false (eqb c 117) _ _ (no_u c h.0)
    ∙ ap (λ xs. unwrap_or (simple_escape c) c ∷ xs) (signs_meant ss h.2)
signs_meant (unicode ds ∷ ss) h =
    let v = hexadecimal_from 0 ds in
    braced 0 ds (written ss) h.0.2 (scalar_small v h.0.3)
    ∙ ap (λ xs. xs ++ unescaped (written ss)) (cond_true (is_scalar v) (v ∷ []) [] h.0.3)
    ∙ ap (λ xs. v ∷ xs) (signs_meant ss h.2)

-- what is inside is what is between the ends
inside_is : (first : ℕ) (inner ends : List ℕ) → inside 1 (length ends) (first ∷ (inner ++ ends)) ≡ inner
inside_is first inner ends =
    let n : suc (length (inner ++ ends)) - (1 + length ends) ≡ length inner = omega (arith, length-append inner ends) in
    ap (λ i. take i (inner ++ ends)) n ∙ take_seam inner ends

pub between_meant : (kind : TokenKind) (cs : List ℕ) (ss : List Sign) → AreSigns ss → IsBetween kind cs (written ss)
    → value_of kind cs ≡ meant ss
between_meant k.Text cs ss h is = ap (λ x. unescaped (inside 1 1 x)) is
    ∙ ap unescaped (inside_is 39 (written ss) (39 ∷ [])) ∙ signs_meant ss h
between_meant k.LeftPiece cs ss h is = ap (λ x. unescaped (inside 1 2 x)) is
    ∙ ap unescaped (inside_is 39 (written ss) (36 ∷ 123 ∷ [])) ∙ signs_meant ss h
between_meant k.MiddlePiece cs ss h is = ap (λ x. unescaped (inside 1 2 x)) is
    ∙ ap unescaped (inside_is 125 (written ss) (36 ∷ 123 ∷ [])) ∙ signs_meant ss h
between_meant k.RightPiece cs ss h is = ap (λ x. unescaped (inside 1 1 x)) is
    ∙ ap unescaped (inside_is 125 (written ss) (39 ∷ [])) ∙ signs_meant ss h
between_meant kind cs ss h is = absurd is
