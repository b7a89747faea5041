use Rattle.std.proofs.Common.{◌≡◌, ◌<◌, ◌+◌, ◌-◌, ℕ, subst, get_or, length, arith}
use Rattle.std.specs.Str.{IsCharBoundary}
use Rattle.std.proofs.lemmas.Str.{IsCharBoundary-after_ascii}
use Rattle.std.proofs.lemmas.List.{get_or-drop, length-drop}
use Rattle.bicep_lexer.proofs.lexer.slice_at.Goals as goal

pub range-requires-clause-end_boundary : goal.range-requires-clause-end_boundary
range-requires-clause-end_boundary c =
    let text = c.args.text.now in
    let i : ℕ = c.args.at + (c.args.count - 1) in
    let lt : i < length text = omega (arith, length-drop c.args.at text, c.requires.some, c.requires.within) in
    let small : get_or text i 0 < 128 = let P : ℕ → Type 0 = λ b. b < 128 in
    subst P (get_or-drop c.args.at text (c.args.count - 1) 0) c.requires.last in
    let e : i + 1 ≡ c.args.at + c.args.count = omega (arith, c.requires.some) in
    subst (IsCharBoundary text) e (IsCharBoundary-after_ascii text i c.utf8.text lt small)
