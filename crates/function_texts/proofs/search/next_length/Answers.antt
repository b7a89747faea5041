use Rattle.std.proofs.Common.{arith, refl, ◌<◌}
use Rattle.function_texts.specs.Search.{HasAt}
use Rattle.function_texts.proofs.SearchLemmas.{left-all, left_shorter, next_none, next_found, border_shorter}
use Rattle.function_texts.proofs.search.next_length.Goals as goal

pub shorter-init : goal.shorter-init
shorter-init c = record { left = left-all c.args.part.now c.args.before c.args.character; known = c.requires.known }

pub shorter-preserved : goal.shorter-preserved
shorter-preserved c =
    let part = c.args.part.now in
    let length = c.shorter.length in
    let stops : HasAt part length c.args.character → ⊥ = c.has_at.ensures.no c.shorter-test.true in
    let some : 0 < length = omega (arith, c.if-length-eq0.false) in
    let shorter = border_shorter part c.args.borders.now length c.requires.borders some c.shorter.invariant.known in
    record {
      left = left_shorter part c.args.borders.now c.args.before c.args.character length _ c.requires.borders
          c.shorter.invariant.left stops some c.shorter.invariant.known refl;
      known = omega arith;
    }

pub returns-then-length-eq0 : goal.returns-then-length-eq0
returns-then-length-eq0 c = next_none c.args.part.now c.args.before c.args.character c.shorter.length
    c.shorter.invariant.left (c.has_at.ensures.no c.shorter-test.true) c.if-length-eq0.true

pub shorter-smaller : goal.shorter-smaller
shorter-smaller c = border_shorter c.args.part.now c.args.borders.now c.shorter.length c.requires.borders
    (omega (arith, c.if-length-eq0.false)) c.shorter.invariant.known

pub returns : goal.returns
returns c = next_found c.args.part.now c.args.before c.args.character c.shorter.length c.shorter.invariant.left
    (c.has_at.ensures.yes c.shorter-test.false)
