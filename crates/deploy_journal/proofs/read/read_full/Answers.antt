use Rattle.std.proofs.Common.{◌≡◌, ◌+◌, ◌-◌, ℕ, List, length, take, drop, ap, sym, ◌∙◌, arith}
use Rattle.std.proofs.lemmas.List.{drop-drop, length-take, length-drop}
use Rattle.arm_edges.specs.Disk.{Parts}
use Rattle.deploy_journal.proofs.Numbers.{length_put, read_more}
use Rattle.deploy_journal.proofs.Still.{still_then}
use Rattle.deploy_journal.proofs.read.read_full.Goals as goal

pub loop-done-preserved : goal.loop-done-preserved
loop-done-preserved g c =
    let was = c.loop-done.invariant in
    let buf = c.loop-done.buf in
    let done = c.loop-done.done in
    let k = length buf - done in
    let part = c.read_at.new.buf in
    let file = (g.D.Disk.reads c.args.disk.now).a in
    let size : length part ≡ k = omega (
      arith,
      c.read_at.auto.buf,
      length-take (length buf - done) (drop done buf),
      length-drop done buf,
    ) in
    let all : done + k ≡ length buf = omega arith in
    let same = length_put done k buf part all size in
    record {
      bound = omega (arith, same, c.in_ok-count.ensures.bound);
      filled = λ t within.
          let got = c.in_ok-count.ensures.read t in
          read_more done k c.in_ok-count.count buf part (drop c.args.at file) all size
          (omega (arith, c.in_ok-count.ensures.bound)) (was.filled t (omega (arith, same, within)))
          (got.bytes ∙ ap (λ (f : Parts). take c.in_ok-count.count (drop (c.args.at + done) f.a)) was.still.reads_same
          ∙ ap (λ (l : List ℕ). take c.in_ok-count.count l) (sym (drop-drop done c.args.at file)));
      still = still_then g.D.Disk.tells_images g.D.Disk.reads g.D.Disk.moment g.D.Disk.left g.D.Disk.reach _ _ _
          was.still (record {
            reads_same = c.read_at.ensures.reads;
            reach_same = c.read_at.ensures.reach;
            images =
                c.read_at.ensures.images;
          });
      faults = c.in_ok-count.ensures.cause.stays ∙ was.faults;
    }
