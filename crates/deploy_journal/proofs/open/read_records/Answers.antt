use Rattle.std.proofs.Common.{◌≡◌, ◌+◌, ◌-◌, ◌≤◌, ℕ, List, [], ◌∷◌, ◌++◌, length, drop, ap, sym, ◌∙◌, arith}
use Rattle.arm_edges.specs.Disk.{Parts}
use Rattle.deploy_journal.specs.Records.{Record, spelled, beginning, body}
use Rattle.deploy_journal.proofs.Opening.{step, step_place}
use Rattle.deploy_journal.proofs.Still.{still_then}
use Rattle.deploy_journal.proofs.open.read_records.Goals as goal

pub loop-at-preserved : goal.loop-at-preserved
loop-at-preserved g c =
    let was = c.loop-at.invariant in
    let file = (g.D.Disk.reads c.args.disk.now).a in
    let r : Record = c.in-Entry.record in
    let at = c.loop-at.at in
    let n = 18 + length c.as_slice.result.now + length c.as_slice-in-Entry.result.now in
    let size : n ≡ 18 + length r.first + length r.second =
    omega (arith, ap length c.as_slice.ensures, ap length c.as_slice-in-Entry.ensures) in
    let fits : 18 + length r.first + length r.second ≤ c.args.size - at =
    rw c.in-Entry.is at c.in_ok-read_next.ensures.fits in
    let items : c.push.new.self.items ≡ c.loop-at.records.items ++ r ∷ [] = c.in-Ok.ensures.items in
    record {
      within = omega (arith, size, fits, was.within);
      place = ap (λ (k : ℕ). at + k) size ∙ step_place c.loop-at.records.items r at was.place
          ∙ ap (λ (rs : List Record). 16 + length (spelled rs [])) (sym items);
      split = λ t is front.
          let same = was.still.reads_same in
          let meaning =
          c.in_ok-read_next.ensures.means t
          (omega (arith, is, ap (λ (f : Parts). length f.a) same, was.within, c.loop-at-test.true)) in
          let there = rw c.in-Entry.is at meaning in
          let here : drop at file ≡ 1 ∷ body r (drop (18 + length r.first + length r.second) (drop at file)) =
          ap (λ (f : Parts). drop at f.a) (sym same) ∙ there
          ∙ ap (λ (f : Parts). 1 ∷ body r (drop (18 + length r.first + length r.second) (drop at f.a))) same in
          (λ i. beginning ++ spelled (items i) (drop (at + size i) file))
          ∙ step c.loop-at.records.items r at file (was.split t is front) here;
      still = still_then g.D.Disk.tells_images g.D.Disk.reads g.D.Disk.moment g.D.Disk.left g.D.Disk.reach _ _ _
          was.still c.read_next.ensures.still;
      faults = c.in_ok-read_next.ensures.cause.stays ∙ was.faults;
    }
