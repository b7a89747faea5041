-- How far the pieces of texts reach.
use Rattle.std.proofs.Common.{◌≡◌, ℕ, suc, ◌+◌, ◌≤◌, Bool, true, false, cond, ◌&&◌, eqb, List, [], ◌∷◌, length, refl}
use Rattle.std.proofs.Common.{arith}
use Rattle.bicep_lexer.specs.Reader.Scanning.{is_escape}
use Rattle.bicep_lexer.specs.Reader.Scanning.{piece_end, further, counted}
use Rattle.bicep_lexer.specs.Signs.{is_hole}
use Rattle.bicep_lexer.specs.Texts.{is_break}
use Rattle.bicep_lexer.specs.declared.texts.PieceEnd.{PieceEnd}
use Rattle.bicep_lexer.specs.declared.texts.PieceEnd.TheVariants as ends
use Rattle.foundation.proofs.Choices.{if_else}

counted-further : (e : PieceEnd) (m : ℕ) → counted e ≤ m → counted (further 1 e) ≤ m + 1
counted-further (ends.Quote n) m h = omega arith
counted-further (ends.Hole n) m h = omega arith
counted-further ends.Line m h = omega arith
counted-further ends.File m h = omega arith
counted-further (ends.BadEscape n) m h = omega arith

pub hole_room : (b : ℕ) (bs : List ℕ) → is_hole b bs ≡ true → 1 ≤ length bs
hole_room b [] h = elim (eqb b 36) as (λ k. (k && false) ≡ true → 1 ≤ 0) [ true ↦ λ e. cc | false ↦ λ e. cc ] h
hole_room b (c ∷ bs) h = omega arith

-- an end counts no more bytes than there are
pub counted_within : (escaped : Bool) (bytes : List ℕ) → counted (piece_end escaped bytes) ≤ length bytes
counted_within escaped [] = omega arith
counted_within true (b ∷ bs) = omega (arith, counted-further (piece_end false bs) (length bs) (counted_within false bs))
counted_within false (b ∷ bs) =
    let P : PieceEnd → Type 0 = λ e. counted e ≤ suc (length bs) in
    let more : (escaped : Bool) → counted (further 1 (piece_end escaped bs)) ≤ suc (length bs) =
    λ escaped. omega (arith, counted-further (piece_end escaped bs) (length bs) (counted_within escaped bs)) in
    if_else P (eqb b 39) _ _ (λ y. omega arith) (λ n.
    if_else P (is_hole b bs) _ _ (λ y. omega (arith, hole_room b bs y)) (λ n.
    if_else P (is_break b) _ _ (λ y. omega arith) (λ n.
    if_else P (eqb b 92) _ _ (λ y. if_else P (is_escape bs) _ _ (λ y. more true) (λ n. omega arith))
    (λ n. more false))))
