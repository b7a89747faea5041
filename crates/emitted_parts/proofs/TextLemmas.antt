-- Texts of `format` that are written piece by piece.
use Rattle.std.proofs.Common.{◌≡◌, ◌<◌, ◌+◌, ℕ, suc, List, [], ◌∷◌, ◌++◌, drop, length, refl, ap, sym, ◌∙◌}
use Rattle.std.proofs.Common.{◌^◌, get_or, arith}
use Rattle.std.specs.Fmt.{decimal}
use Rattle.std.specs.Str.{chars, IsUtf8}
use Rattle.std.proofs.lemmas.Str.{chars-append, chars-IsAscii}
use Rattle.std.proofs.lemmas.Fmt.{IsAscii-decimal}
use Rattle.std.proofs.lemmas.List.{drop_all}
use Rattle.arm_expr.specs.Print.{Adds}
use Rattle.bicep_resolved.specs.Source.{SourceTree, PieceTrees}
use Rattle.bicep_resolved.specs.Source as s
use Rattle.bicep_emission.specs.Texts.{written_twice, doubled_onto, hole_onto, format_text}
use Rattle.foundation.proofs.Lists.{next_item}

-- the holes and the characters after them, from a number on
abbrev pub after_first : ℕ → PieceTrees → List ℕ
after_first i s.no_piece = []
after_first i (s.piece e after ps) = hole_onto i (format_text (suc i) after ps)

pub format_is : (i : ℕ) (before : List ℕ) (ps : PieceTrees)
    → format_text i before ps ≡ doubled_onto before (after_first i ps)
format_is i before s.no_piece = refl
format_is i before (s.piece e after ps) = refl

cons_at : (all : List ℕ) (n c : ℕ) → (n < length all) × (c ≡ get_or all n c) → drop n all ≡ c ∷ drop (n + 1) all
cons_at all n c t = next_item all n c t.0 t.1

pub twice_turn : (o p base all : List ℕ) (n m c : ℕ) → (n < length all) × (c ≡ get_or all n c) → m ≡ n + 1
    → Adds o p (λ k. written_twice c k)
    → ((k : List ℕ) → o ++ doubled_onto (drop n all) k ≡ base ++ doubled_onto all k)
    → (k : List ℕ) → p ++ doubled_onto (drop m all) k ≡ base ++ doubled_onto all k
twice_turn o p base all n m c t m_is adds inv k =
    ap (λ j. p ++ doubled_onto (drop j all) k) m_is ∙ adds (doubled_onto (drop (n + 1) all) k)
    ∙ ap (λ xs. o ++ doubled_onto xs k) (sym (cons_at all n c t)) ∙ inv k

pub twice_end : (o base all : List ℕ) (n : ℕ) → n ≡ length all
    → ((k : List ℕ) → o ++ doubled_onto (drop n all) k ≡ base ++ doubled_onto all k)
    → (k : List ℕ) → o ++ k ≡ base ++ doubled_onto all k
twice_end o base all n n_is inv k =
    ap (λ xs. o ++ doubled_onto xs k) (sym (drop_all n all (omega arith))) ∙ inv k

-- a number that is written
pub number_put : (new old : List ℕ) (n : ℕ) → n < 2 ^ 64 → IsUtf8 old → new ≡ old ++ decimal n
    → chars new ≡ chars old ++ decimal n
number_put new old n l u h =
    ap chars h ∙ chars-append old (decimal n) u
    ∙ ap (λ x. chars old ++ x) (chars-IsAscii (decimal n) (IsAscii-decimal n l))

-- one more hole
pub piece_turn : (o p whole after : List ℕ) (i : ℕ) (e : SourceTree) (ps : PieceTrees)
    → Adds o p (λ k. hole_onto i (doubled_onto after k))
    → o ++ after_first i (s.piece e after ps) ≡ whole → p ++ after_first (suc i) ps ≡ whole
piece_turn o p whole after i e ps adds inv =
    adds (after_first (suc i) ps) ∙ ap (λ r. o ++ hole_onto i r) (sym (format_is (suc i) after ps)) ∙ inv

pub first_turn : (o p first : List ℕ) (ps : PieceTrees) → o ≡ [] → Adds o p (λ k. doubled_onto first k)
    → p ++ after_first 0 ps ≡ format_text 0 first ps
first_turn o p first ps n adds =
    adds (after_first 0 ps) ∙ ap (λ x. x ++ doubled_onto first (after_first 0 ps)) n ∙ sym (format_is 0 first ps)
