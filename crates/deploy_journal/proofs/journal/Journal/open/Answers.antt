use Rattle.std.proofs.Common.{arith}
use Rattle.deploy_journal.proofs.Unique.{damaged_none}
use Rattle.deploy_journal.proofs.journal.Journal.open.Goals as goal

-- no part of a disk is longer than its reach, so that no file here holds records and is damaged too
pub returns-in-Ok-clause-undamaged : goal.returns-in-Ok-clause-undamaged
returns-in-Ok-clause-undamaged g c = λ t at damaged.
    let laws = g.met.D.Disk g.world.𝓛 g.world.𝓜 g.world.𝓡 ((λ s x. x), (λ x. x), (λ x. x), λ x. x) in
    let fits = laws.reads_fit c.args.disk t in
    damaged_none (g.D.Disk.reads c.args.disk).a at _ _ (omega (arith, fits.0, laws.reach_fits c.args.disk)) damaged
    (c.in-Ok.ensures.holds t)
