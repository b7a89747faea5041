use Rattle.std.proofs.Common.{length, refl, inl, ap, sym, ◌∙◌}
use Rattle.arm_edges.specs.Disk.{Parts}
use Rattle.deploy_journal.proofs.open.read_all.Goals as goal

pub returns-then-not-branch-clause-damaged : goal.returns-then-not-branch-clause-damaged
returns-then-not-branch-clause-damaged g c = λ t.
    let same = c.length.ensures.reads ∙ c.sync.ensures.reads in
    let size = c.in-Ok-length.ensures.size t ∙ ap (λ (f : Parts). length f.a) (sym c.length.ensures.reads) in
    let none = (c.in_ok-read_beginning.ensures.begins t size).1 in
    let h = c.if-not-branch.true in
    inl (refl, λ rest is. none h rest (ap (λ (f : Parts). f.a) same ∙ is))
