use Rattle.std.proofs.Common.{◌∙◌, ◌++◌, ap, encode_utf8_all, chars}
use Rattle.std.proofs.lemmas.Iterator.{YieldsList-from_chars}
use Rattle.std.proofs.lemmas.Iterator.Consumers.{YieldsList-end}
use Rattle.std.proofs.Common.{string_bytes}
use Rattle.arm_value.specs.Pointer.{token_character}
use Rattle.arm_value.proofs.PointerLemmas.{token-push, whole_name}
use Rattle.arm_value.proofs.path.escaped.Goals as goal

pub loop-c-preserved : goal.loop-c-preserved
loop-c-preserved c = c.in_ok-push_escaped.ensures
    ∙ ap (λ bs. bs ++ encode_utf8_all (token_character c.in-Some.c)) c.loop-c.invariant
    ∙ token-push c.loop-c.yielded c.in-Some.c

pub returns : goal.returns
returns c =
    let t = YieldsList-end (YieldsList-from_chars c.args.name.now c.utf8.name cc) c.loop-c.yielded _
    c.loop-c.yielded_by _ _ c.in-None.is c.next.ensures.steps in
    whole_name (string_bytes c.loop-c.escaped) c.loop-c.yielded (chars c.args.name.now) t.0 c.loop-c.invariant
