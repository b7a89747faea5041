use Rattle.std.proofs.Common.{ℕ, List, ◌∙◌, ap}
use Rattle.deploy_journal.specs.Records.{patched, KeepsFront}
use Rattle.arm_edges.specs.Disk.{Parts}
use Rattle.deploy_journal.proofs.Lists.{written_body}
use Rattle.deploy_journal.proofs.Moments.{on_ok, go_on, wider, same_keeps}
use Rattle.deploy_journal.proofs.append.write_body.Goals as goal

pub returns-in_err-write_past-2-clause-images : goal.returns-in_err-write_past-2-clause-images
returns-in_err-write_past-2-clause-images g c = λ t.
    go_on g.D.Disk.moment g.D.Disk.left c.args.at _ _ _ (c.write_past.ensures.images t)
    (c.write_past-2.ensures.images t)

pub returns-in_err-write_past-3-clause-images : goal.returns-in_err-write_past-3-clause-images
returns-in_err-write_past-3-clause-images g c = λ t.
    let go = go_on g.D.Disk.moment g.D.Disk.left c.args.at in
    go _ _ _ (go _ _ _ (c.write_past.ensures.images t) (c.write_past-2.ensures.images t))
    (c.write_past-3.ensures.images t)

pub returns-in_err-write_past-4-clause-images : goal.returns-in_err-write_past-4-clause-images
returns-in_err-write_past-4-clause-images g c = λ t.
    let go = go_on g.D.Disk.moment g.D.Disk.left c.args.at in
    go _ _ _ (go _ _ _ (go _ _ _ (c.write_past.ensures.images t) (c.write_past-2.ensures.images t))
    (c.write_past-3.ensures.images t)) (c.write_past-4.ensures.images t)

pub returns-clause-images : goal.returns-clause-images
returns-clause-images g c = λ t.
    let go = go_on g.D.Disk.moment g.D.Disk.left c.args.at in
    let synced = wider g.D.Disk.moment g.D.Disk.left _ (KeepsFront c.args.at) _ _ (c.sync.ensures.images t)
    (same_keeps c.args.at) in
    go _ _ _
    (go _ _ _ (go _ _ _ (go _ _ _ (c.write_past.ensures.images t) (c.write_past-2.ensures.images t))
    (c.write_past-3.ensures.images t)) (c.write_past-4.ensures.images t)) synced

pub returns-clause-written : goal.returns-clause-written
returns-clause-written g c = on_ok c.sync.result
    (λ _ t within. ap (λ (f : Parts). f.a) c.sync.ensures.reads
    ∙ written_body c.args.at c.args.kind c.args.first.now c.args.second.now (g.D.Disk.reads c.args.disk.now).a _ _
    _ _ within
    (λ h. c.in_ok-write_past.ensures.written t h
    ∙ ap (λ (l : List ℕ). patched c.args.at l (g.D.Disk.reads c.args.disk.now).a) c.header_of-header.ensures)
    (c.in_ok-write_past-2.ensures.written t) (c.in_ok-write_past-3.ensures.written t)
    (c.in_ok-write_past-4.ensures.written t))
    c.sync.ensures.kept
