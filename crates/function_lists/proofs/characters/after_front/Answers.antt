use Rattle.std.proofs.Common.{◌∙◌, ◌<◌, ap, sym, arith, drop}
use Rattle.std.specs.Str.{chars}
use Rattle.std.specs.Str.Iter.{chars_rest}
use Rattle.std.proofs.lemmas.Str.{IsUtf8-past_char}
use Rattle.function_lists.proofs.CharacterLemmas.{past_one, at_end}
use Rattle.function_lists.proofs.characters.after_front.Goals as goal

pub loop-left-preserved : goal.loop-left-preserved
loop-left-preserved c =
    let r = chars_rest c.loop-left.characters in
    let some : 0 < c.loop-left.left = omega (arith, c.loop-left-test.true) in (
      past_one r (chars_rest c.next.new.self) _ c.in-Some.field-0 c.loop-left.left c.loop-left.invariant.1
          c.in-Some.ensures.steps.0 some c.loop-left.invariant.0,
      IsUtf8-past_char r (chars_rest c.next.new.self) c.in-Some.field-0 c.loop-left.invariant.1 c.in-Some.ensures.steps.0,
    )

pub returns-in-None : goal.returns-in-None
returns-in-None c =
    ap chars (c.as_str.ensures ∙ ap chars_rest c.in-None.ensures.steps.0.1)
    ∙ at_end (chars_rest c.loop-left.characters) _ c.loop-left.left c.in-None.ensures.steps.0.0 c.loop-left.invariant.0

pub returns : goal.returns
returns c =
    ap chars c.as_str-2.ensures
    ∙ sym (ap (λ n. drop n (chars (chars_rest c.loop-left.characters))) c.loop-left-test.false)
    ∙ c.loop-left.invariant.0
