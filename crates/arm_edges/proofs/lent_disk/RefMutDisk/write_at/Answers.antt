use Rattle.arm_edges.proofs.lent_disk.RefMutDisk.write_at.Goals as goal

pub returns-clause-images : goal.returns-clause-images
returns-clause-images g c = λ reported.
    let lent = c.write_at.ensures.images reported in
    record { later = lent.later; past = lent.past; keeps = lent.keeps; during = lent.during }
