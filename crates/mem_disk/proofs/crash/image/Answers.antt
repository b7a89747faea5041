use Rattle.std.proofs.Common.{◌≡◌, ◌+◌, ◌-◌, ap, ◌∙◌, arith, take, drop, List, ℕ}
use Rattle.mem_disk.proofs.CrashLemmas.{walked_next}
use Rattle.mem_disk.proofs.crash.image.Goals as goal

pub loop-i-preserved : goal.loop-i-preserved
loop-i-preserved c =
    let from : ℕ = c.loop-i.from in
    let n : ℕ = c.size-size.result in
    let bytes : List ℕ = c.args.log.now.bytes.items in
    let piece : List ℕ = take (from + n - from) (drop from c.deref.result.now) in
    let is : piece ≡ take n (drop from bytes) =
    ap (λ (k : ℕ). take k (drop from c.deref.result.now)) (let e : from + n - from ≡ n = omega arith in e)
    ∙ ap (λ (l : List ℕ). take n (drop from l)) c.deref.ensures.value in
    walked_next c.args.part c.args.first.now bytes piece c.args.log.now.entries.items from c.loop-i.i n
    c.entry-entry.result c.loop-i.now.items c.walk.new.now.items c.loop-i.left.items c.walk.new.left.items
    c.entry-entry.ensures c.size-size.ensures is c.loop-i.invariant c.in_ok-walk.ensures
