use Rattle.std.proofs.Common.{◌∙◌, ◌++◌, ◌∷◌, [], ap, sym, rules, arith, refl, map}
use Rattle.std.proofs.lemmas.Str.{chars-nil}
use Rattle.std.specs.Str.{chars}
use Rattle.arm_expr.specs.Lexer.{lex, quoting}
use Rattle.arm_expr.specs.Tokens.{token_of, a_text}
use Rattle.arm_expr.specs.View.{text_of}
use Rattle.arm_expr.proofs.LexerLemmas.{unread, unclosed, text_found, text_rest, quote_found, part_shorter}
use Rattle.arm_expr.proofs.lexer.read_text.Goals as goal

pub parts-init : goal.parts-init
parts-init c = (
  c.utf8.text,
  ap (λ s. lex (quoting s) (chars c.args.text.now)) (ap chars c.new-value.ensures.bytes ∙ chars-nil),
  omega arith,
  refl,
)

pub returns-in-None : goal.returns-in-None
returns-in-None c =
    let l = c.parts in
    unread _ _ _ _ c.refuse.result c.refuse.ensures
    (sym l.invariant.1
    ∙ unclosed (chars l.left.now) (text_of l.value) (λ k h. c.in-None.ensures k (c.in_ok-end.ensures.rest ∙ h)))

pub returns-in-None-after_quote : goal.returns-in-None-after_quote
returns-in-None-after_quote c =
    let l = c.parts in
    let e = sym c.in_ok-end.ensures.rest ∙ c.in-Some.ensures in (
      text_found (map token_of c.args.tokens.now.items) (map token_of c.put.new.tokens.items) c.from_string.result
          (text_of l.value) (chars l.left.now) (chars c.in-Some.after.now) (chars c.args.text.now)
          (c.in_ok-put-in-None-after_quote.ensures
          ∙ ap (λ ts. ts ++ a_text c.from_string.result ∷ []) l.invariant.3)
          (c.from_string.ensures.characters ∙ c.in_ok-end.ensures.front) e c.in-None-after_quote.ensures l.invariant.1,
      text_rest (chars l.left.now) (chars c.in-Some.after.now) (chars c.args.text.now) e l.invariant.2,
    )

pub parts-smaller : goal.parts-smaller
parts-smaller c =
    part_shorter (chars c.parts.left.now) (chars c.in-Some.after.now) (chars c.in-Some-after_quote.more.now)
    (sym c.in_ok-end.ensures.rest ∙ c.in-Some.ensures) c.in-Some-after_quote.ensures

pub parts-preserved : goal.parts-preserved
parts-preserved c =
    let l = c.parts in
    let e = sym c.in_ok-end.ensures.rest ∙ c.in-Some.ensures in
    let f = c.in-Some-after_quote.ensures in (
      search rules,
      quote_found (text_of c.add_quote.new.value) (text_of c.add_part.new.value) (text_of l.value) (chars l.left.now)
          (chars c.in-Some.after.now) (chars c.in-Some-after_quote.more.now) (chars c.args.text.now)
          c.in_ok-add_quote-in-Some-after_quote.ensures c.in_ok-end.ensures.front e f l.invariant.1,
      omega (
        arith,
        part_shorter (chars l.left.now) (chars c.in-Some.after.now)
            (chars c.in-Some-after_quote.more.now) e f,
        l.invariant.2,
      ),
      l.invariant.3,
    )
