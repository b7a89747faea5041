use Rattle.std.proofs.Common.{arith}
use Rattle.function_texts.proofs.PlaceLemmas.{no_room, begins_differs, begins_more, begins_ends}
use Rattle.function_texts.proofs.places.begins.Goals as goal

pub returns-then-characters-part : goal.returns-then-characters-part
returns-then-characters-part c = no_room c.args.part.now c.args.characters.now c.if-characters-part.true

pub returns-then-part-i : goal.returns-then-part-i
returns-then-part-i c =
    begins_differs c.args.part.now c.args.characters.now c.loop-i.i c.index-part-i.result c.index-characters-i.result
    _ c.loop-i-test.true (omega arith) c.index-part-i.is c.index-characters-i.is c.if-part-i.true
    c.loop-i.invariant

pub loop-i-preserved : goal.loop-i-preserved
loop-i-preserved c =
    begins_more c.args.part.now c.args.characters.now c.loop-i.i c.index-part-i.result c.index-characters-i.result _
    c.loop-i-test.true (omega arith) c.index-part-i.is c.index-characters-i.is c.if-part-i.false
    c.loop-i.invariant

pub returns : goal.returns
returns c = begins_ends c.args.part.now c.args.characters.now c.loop-i.i _ c.loop-i-test.false c.loop-i.invariant
