use Rattle.std.proofs.Common.{◌∙◌, length}
use Rattle.deploy_journal.proofs.Lists.{overwritten_within}
use Rattle.deploy_journal.proofs.Moments.{wider, torn_keeps, on_ok}
use Rattle.deploy_journal.proofs.append.write_past.Goals as goal

pub returns-clause-written : goal.returns-clause-written
returns-clause-written g c =
    let file = (g.D.Disk.reads c.args.disk.now).a in
    on_ok c.write_at.result (λ written tells within. (written tells).here
    ∙ overwritten_within c.args.at c.args.bytes.now file within) c.write_at.ensures.written

pub returns-clause-images : goal.returns-clause-images
returns-clause-images g c = λ tells.
    wider g.D.Disk.moment g.D.Disk.left _ _ _ _ (c.write_at.ensures.images tells)
    (torn_keeps c.args.front c.args.at (length c.args.bytes.now) c.requires.past)
