use Rattle.std.proofs.Common.{string_bytes}
use Rattle.std.specs.Str.{chars}
use Rattle.function_prints.proofs.FormatLemmas.{puts_argument, no_argument}
use Rattle.function_prints.proofs.filling.put_argument.Goals as goal

pub returns : goal.returns
returns c =
    puts_argument c.args.args.now c.args.following.now (chars (string_bytes c.args.out.now))
    (chars (string_bytes c.add.new.out)) _ c.in-Some.number c.in-Some.digits c.index-args-number.result
    c.in-Some.ensures.value c.in-Some.ensures.within c.index-args-number.is c.in_ok-text.ensures
    c.in_ok-add.ensures

pub returns-in_default : goal.returns-in_default
returns-in_default c = no_argument c.args.args.now c.args.following.now (chars (string_bytes c.args.out.now))
    (chars (string_bytes c.args.out.now)) c.in_default.ensures.value
