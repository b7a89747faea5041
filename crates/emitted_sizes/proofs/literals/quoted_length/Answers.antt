use Rattle.std.proofs.Common.{length, arith}
use Rattle.std.proofs.lemmas.Iterator.{YieldsList-from_chars}
use Rattle.std.proofs.lemmas.Iterator.Consumers.{YieldsList-turn, YieldsList-end}
use Rattle.std.proofs.lemmas.List.{length_push}
use Rattle.std.specs.Str.{chars}
use Rattle.emitted_sizes.proofs.SizeLemmas.{quoted_turn, quoted_end}
use Rattle.emitted_sizes.proofs.literals.quoted_length.Goals as goal

pub loop-c-preserved : goal.loop-c-preserved
loop-c-preserved c =
    let t = YieldsList-turn (YieldsList-from_chars c.args.characters.now c.utf8.characters cc) c.loop-c.yielded _
    c.loop-c.yielded_by _ _ c.in-Some.c c.in-Some.is c.next.ensures.steps in (
      omega (arith, c.saturating_add-length.ensures),
      quoted_turn (chars c.args.characters.now) (length c.loop-c.yielded) _ c.in-Some.c c.loop-c.length
          c.saturating_add-length.result c.width.result _ t (length_push c.loop-c.yielded c.in-Some.c) c.width.ensures
          c.saturating_add-length.ensures c.loop-c.invariant.1,
    )

pub returns : goal.returns
returns c =
    let t = YieldsList-end (YieldsList-from_chars c.args.characters.now c.utf8.characters cc) c.loop-c.yielded _
    c.loop-c.yielded_by _ _ c.in-None.is c.next.ensures.steps in
    quoted_end (chars c.args.characters.now) (length c.loop-c.yielded) c.loop-c.length _ t.1 c.loop-c.invariant.1
    c.loop-c.invariant.0
