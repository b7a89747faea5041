use Rattle.std.proofs.Common.{map, string_bytes}
use Rattle.std.specs.Str.{chars}
use Rattle.arm_value.specs.View.{json}
use Rattle.function_prints.proofs.FormatLemmas.{fill_takes, fill_keeps, fill_puts, whole_rest}
use Rattle.function_prints.proofs.filling.fill_here.Goals as goal

pub returns-then-taken-gt0 : goal.returns-then-taken-gt0
returns-then-taken-gt0 c = fill_takes (map json c.args.args.now) (chars (string_bytes c.args.out.now)) c.args.rest.now
    c.args.taken c.requires c.if-taken-gt0.true

pub returns : goal.returns
returns c =
    fill_keeps (map json c.args.args.now) (chars (string_bytes c.args.out.now))
    (chars (string_bytes c.put_character.new.out)) c.args.rest.now c.index-rest-0.result c.args.taken c.requires
    c.if-taken-gt0.false c.index-rest-0.is c.if-is_brace.ensures c.in_ok-put_character.ensures

pub returns-then-is_brace : goal.returns-then-is_brace
returns-then-is_brace c =
    fill_puts (map json c.args.args.now) (chars (string_bytes c.args.out.now))
    (chars (string_bytes c.put_field.new.out)) c.args.rest.now _ c.index-rest-0.result c.args.taken
    c.in_ok-next.next c.requires c.if-taken-gt0.false c.index-rest-0.is c.if-is_brace.ensures
    (whole_rest c.args.rest.now 1) c.in_ok-next.ensures
