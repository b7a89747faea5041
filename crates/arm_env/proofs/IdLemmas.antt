-- Ids as they are written, a segment at a time, and texts character by character.
use Rattle.std.proofs.Common.{◌≡◌, ◌<◌, ◌+◌, ℕ, suc, List, [], ◌∷◌, ◌++◌, length, get_or, drop}
use Rattle.std.proofs.Common.{true, false, refl, sym, ap, ◌∙◌, append_assoc, append-nil, arith}
use Rattle.std.proofs.Common.{add-one}
use Rattle.std.specs.Prelude.{◌||◌}
use Rattle.std.proofs.Math.Seq.{drop-cons}
use Rattle.std.proofs.lemmas.List.{drop_all, length_push}
use Rattle.std.proofs.lemmas.Bool.Decides.{nat_tests}
use Rattle.arm_ids.specs.Segments.{slashed, has_slash, is_slash}
use Rattle.foundation.proofs.Lists.{next_item}
use Rattle.arm_ids.proofs.IdLemmas.{slashed-append}

-- a text with a segment more
pub one_more : (xs : List (List ℕ)) (t u s : List ℕ) → t ≡ slashed xs → u ≡ t ++ 47 ∷ s
    → u ≡ slashed (xs ++ s ∷ [])
one_more xs t u s e f = f ∙ ap (λ t. t ++ 47 ∷ s) e
    ∙ ap (λ r. slashed xs ++ 47 ∷ r) (sym (append-nil s)) ∙ sym (slashed-append xs (s ∷ []))

-- and with more segments
pub more : (xs ys : List (List ℕ)) (t u : List ℕ) → t ≡ slashed xs → u ≡ t ++ slashed ys
    → u ≡ slashed (xs ++ ys)
more xs ys t u e f = f ∙ ap (λ t. t ++ slashed ys) e ∙ sym (slashed-append xs ys)

pub first : (t u s a : List ℕ) → t ≡ [] → u ≡ t ++ 47 ∷ s → s ≡ a → u ≡ slashed (a ∷ [])
first t u s a e f g = f ∙ ap (λ t. t ++ 47 ∷ s) e ∙ ap (λ r. 47 ∷ r) (sym (append-nil s))
    ∙ ap (λ s. slashed (s ∷ [])) g

pub next_one : (xs : List (List ℕ)) (t u s a : List ℕ) → t ≡ slashed xs → u ≡ t ++ 47 ∷ s → s ≡ a
    → u ≡ slashed (xs ++ a ∷ [])
next_one xs t u s a e f g = one_more xs t u s e f ∙ ap (λ s. slashed (xs ++ s ∷ [])) g

pub slash_there : (cs ys : List ℕ) (c : ℕ) → (length ys < length cs) × (c ≡ get_or cs (length ys) c)
    → c ≡ 47 → has_slash cs ≡ has_slash (drop (length ys) cs) → true ≡ has_slash cs
slash_there cs ys c t is e =
    let here : is_slash c ≡ true = grind (arith, nat_tests) in
    sym (e ∙ ap has_slash (next_item cs (length ys) c t.0 t.1)
    ∙ ap (λ b. b || has_slash (drop (length ys + 1) cs)) here)

pub slash_further : (cs ys : List ℕ) (c : ℕ)
    → (length ys < length cs) × (c ≡ get_or cs (length ys) c) → (c ≡ 47 → ⊥)
    → has_slash cs ≡ has_slash (drop (length ys) cs)
    → has_slash cs ≡ has_slash (drop (length (ys ++ c ∷ [])) cs)
slash_further cs ys c t is e =
    let here : is_slash c ≡ false = grind (arith, nat_tests) in
    let long : length (ys ++ c ∷ []) ≡ length ys + 1 = length_push ys c in
    e ∙ ap has_slash (next_item cs (length ys) c t.0 t.1)
    ∙ ap (λ b. b || has_slash (drop (length ys + 1) cs)) here
    ∙ ap (λ n. has_slash (drop n cs)) (sym long)

pub slash_nowhere : (cs ys : List ℕ) → length ys ≡ length cs
    → has_slash cs ≡ has_slash (drop (length ys) cs) → false ≡ has_slash cs
slash_nowhere cs ys l e = sym (e ∙ ap has_slash (drop_all (length ys) cs (omega (arith, l))))
