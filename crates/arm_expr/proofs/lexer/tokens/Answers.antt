use Rattle.std.proofs.Common.{◌≡◌, ◌∙◌, ◌∷◌, ap, sym, subst, arith, length, map}
use Rattle.std.specs.Str.{chars, IsUtf8}
use Rattle.std.specs.Str.Iter.{chars_rest}
use Rattle.std.proofs.lemmas.Str.{chars_past_char}
use Rattle.arm_expr.specs.Lexer.{lex, between}
use Rattle.arm_expr.specs.Runs.{onto}
use Rattle.arm_expr.specs.Tokens.{token_of}
use Rattle.arm_expr.proofs.LexerLemmas.{all_found}
use Rattle.arm_expr.proofs.lexer.tokens.Goals as goal

pub read_token-requires : goal.read_token-requires
read_token-requires c =
    let l = c.loop-c in
    ap chars l.invariant.1
    ∙ chars_past_char (chars_rest l.characters) (chars_rest c.next.new.self) c.in-Some.c
    (subst IsUtf8 l.invariant.1 l.invariant.3) c.in-Some.ensures.steps.0
    ∙ ap (λ s. c.in-Some.c ∷ chars s) (sym c.as_str.ensures)

pub loop-c-smaller : goal.loop-c-smaller
loop-c-smaller c =
    let l = c.loop-c in
    let first : chars l.left.now ≡ c.in-Some.c ∷ chars c.as_str.result.now =
    ap chars l.invariant.1
    ∙ chars_past_char (chars_rest l.characters) (chars_rest c.next.new.self) c.in-Some.c
    (subst IsUtf8 l.invariant.1 l.invariant.3) c.in-Some.ensures.steps.0
    ∙ ap (λ s. c.in-Some.c ∷ chars s) (sym c.as_str.ensures) in
    omega (arith, c.in-Ok.ensures.1, ap length first)

pub returns : goal.returns
returns c =
    let l = c.loop-c in
    all_found (map token_of l.found.items) (chars_rest l.characters) (chars c.args.text.now)
    c.in_default.ensures.steps.0.0
    (ap (λ s. onto (map token_of l.found.items) (lex between (chars s))) (sym l.invariant.1) ∙ l.invariant.2)
