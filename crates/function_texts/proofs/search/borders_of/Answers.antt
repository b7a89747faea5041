use Rattle.std.proofs.Common.{◌≡◌, ℕ, List, ◌++◌, ◌∷◌, [], length, get_or, arith, ap}
use Rattle.std.proofs.lemmas.List.{length_push, get_or_read}
use Rattle.function_texts.proofs.SearchLemmas.{borders_push}
use Rattle.function_texts.proofs.search.borders_of.Goals as goal

pub loop-i-preserved : goal.loop-i-preserved
loop-i-preserved c =
    let part = c.args.part.now in
    let before = c.loop-i.borders.items in
    let length_there = c.next_length-length.result in
    let grown : c.push.new.self.items ≡ before ++ length_there ∷ [] = c.in_ok-push.ensures.items in
    let read : get_or c.as_slice-known.result.now c.loop-i.i 0 ≡ get_or before c.loop-i.i 0 =
    ap (λ (xs : List ℕ). get_or xs c.loop-i.i 0) c.as_slice-known.ensures.value in
    record {
      borders = borders_push part before c.push.new.self.items c.loop-i.i
          (get_or c.as_slice-known.result.now c.loop-i.i 0) c.index-part-i.result length_there
          c.loop-i.invariant.borders c.loop-i.invariant.count c.loop-i.auto.i c.loop-i-test.true read
          (get_or_read part c.loop-i.i c.index-part-i.result c.loop-i-test.true c.index-part-i.is 0)
          c.next_length-length.ensures grown;
      count = omega (arith, length_push before length_there, ap length grown);
    }
