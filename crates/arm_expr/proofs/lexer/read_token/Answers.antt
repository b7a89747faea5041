use Rattle.std.proofs.Common.{length, map, false}
use Rattle.std.specs.Str.{chars}
use Rattle.arm_expr.specs.Lexer.{lex, between}
use Rattle.arm_expr.specs.Runs.{counted, rest, continues}
use Rattle.arm_expr.specs.Tokens.{token_of}
use Rattle.arm_expr.specs.declared.lexer.Run.TheVariants as runs
use Rattle.arm_expr.proofs.LexerLemmas.{reads_as, name_found, digits_found}
use Rattle.arm_expr.proofs.lexer.read_token.Goals as goal

pub returns-in_ok-read_name-in-Letter : goal.returns-in_ok-read_name-in-Letter
returns-in_ok-read_name-in-Letter c =
    name_found (map token_of c.args.tokens.now.items) (map token_of c.read_name.new.tokens.items) c.args.c
    (chars c.args.left.now) (chars c.args.text.now) (chars c.in_ok-read_name-in-Letter.field-0.now) c.requires
    c.in-Letter.ensures c.in_ok-read_name-in-Letter.ensures.name c.in_ok-read_name-in-Letter.ensures.rest

pub returns-in-Digit : goal.returns-in-Digit
returns-in-Digit c =
    let all = chars c.args.text.now in
    let found = digits_found c.args.c (chars c.args.left.now) all c.requires c.in-Digit.ensures in
    reads_as (map token_of c.args.tokens.now.items) (map token_of c.read_number.new.tokens.items) (counted false all)
    (lex between all) (length (rest (continues runs.Digits) all)) (length (chars c.args.left.now)) c.read_number.result
    found.0 found.1 c.read_number.ensures
