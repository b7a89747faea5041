use Rattle.std.proofs.Common.{arith}
use Rattle.std.proofs.lemmas.Str.{IsUtf8-had}
use Rattle.emitted_parts.proofs.TextLemmas.{number_put}
use Rattle.emitted_parts.proofs.texts.put_number.Goals as goal

pub returns : goal.returns
returns c =
    number_put _ _ c.args.number (omega (arith, c.ranges.number.fits)) (IsUtf8-had _ c.args.out.now.ok)
    c.in_ok-write.ensures.bytes
