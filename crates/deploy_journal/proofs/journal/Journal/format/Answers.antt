use Rattle.deploy_journal.proofs.Moments.{b_goes_on, b_torn, b_same}
use Rattle.deploy_journal.proofs.journal.Journal.format.Goals as goal

pub returns-in_default-write_at-clause-part_b_images : goal.returns-in_default-write_at-clause-part_b_images
returns-in_default-write_at-clause-part_b_images g c = λ t.
    b_goes_on g.D.Disk.moment g.D.Disk.left _ _ _
    (b_same g.D.Disk.moment g.D.Disk.left _ _ (c.length.ensures.images t))
    (b_torn g.D.Disk.moment g.D.Disk.left 0 17 _ _ (c.write_at.ensures.images t))

pub returns-in_default-sync-clause-part_b_images : goal.returns-in_default-sync-clause-part_b_images
returns-in_default-sync-clause-part_b_images g c = λ t.
    let then = b_goes_on g.D.Disk.moment g.D.Disk.left in
    then _ _ _
    (then _ _ _ (b_same g.D.Disk.moment g.D.Disk.left _ _ (c.length.ensures.images t))
    (b_torn g.D.Disk.moment g.D.Disk.left 0 17 _ _ (c.write_at.ensures.images t)))
    (b_same g.D.Disk.moment g.D.Disk.left _ _ (c.sync.ensures.images t))

pub returns-clause-part_b_images : goal.returns-clause-part_b_images
returns-clause-part_b_images g c = λ t.
    let then = b_goes_on g.D.Disk.moment g.D.Disk.left in
    then _ _ _
    (then _ _ _ (b_same g.D.Disk.moment g.D.Disk.left _ _ (c.length.ensures.images t))
    (b_torn g.D.Disk.moment g.D.Disk.left 0 17 _ _ (c.write_at.ensures.images t)))
    (b_same g.D.Disk.moment g.D.Disk.left _ _ (c.sync.ensures.images t))
