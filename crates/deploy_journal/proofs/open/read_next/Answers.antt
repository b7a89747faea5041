use Rattle.std.proofs.Common.{◌≡◌, ◌+◌, ℕ, List, ◌∷◌, length, drop, ap, sym, subst, ◌∙◌, arith}
use Rattle.std.proofs.lemmas.List.{drop-drop}
use Rattle.arm_edges.specs.Disk.{Parts}
use Rattle.deploy_journal.specs.Records.{body, IsCutShort}
use Rattle.deploy_journal.proofs.Opening.{gate_there}
use Rattle.deploy_journal.proofs.open.read_next.Goals as goal

pub returns-in-Some-clause-means : goal.returns-in-Some-clause-means
returns-in-Some-clause-means g c = λ t is.
    let file = (g.D.Disk.reads c.args.disk.now).a in
    let same = c.read_full.ensures.still.reads_same in
    let r = c.in-Some.record in
    let gate =
    gate_there c.args.at c.read_full.new.buf file (omega (arith, is))
    (c.in-Ok-true.ensures.filled t (omega (arith, is))).1 c.if-gate-ne1.false in
    let there =
    rw c.in-Some.is at (c.in_ok-record.ensures.read t (omega (arith, is, ap (λ (f : Parts). length f.a) same))) in
    let here : drop (c.args.at + 1) file
    ≡ body r (drop (c.args.at + 1 + (17 + length r.first + length r.second)) file) =
    sym (ap (λ (f : Parts). drop (c.args.at + 1) f.a) same) ∙ there
    ∙ ap (λ (f : Parts). body r (drop (c.args.at + 1 + (17 + length r.first + length r.second)) f.a)) same in
    gate ∙ ap (λ (l : List ℕ). 1 ∷ l) here
    ∙ ap (λ (l : List ℕ). 1 ∷ body r l) (ap (λ (n : ℕ). drop n file) (omega arith)
    ∙ sym (drop-drop (18 + length r.first + length r.second) c.args.at file))

pub returns-in-None-clause-means : goal.returns-in-None-clause-means
returns-in-None-clause-means g c = λ t is.
    let file = (g.D.Disk.reads c.args.disk.now).a in
    let same = c.read_full.ensures.still.reads_same in
    let gate =
    gate_there c.args.at c.read_full.new.buf file (omega (arith, is))
    (c.in-Ok-true.ensures.filled t (omega (arith, is))).1 c.if-gate-ne1.false in
    let there =
    rw c.in-None.is at (c.in_ok-record.ensures.read t (omega (arith, is, ap (λ (f : Parts). length f.a) same))) in
    (drop (c.args.at + 1) file, gate, subst (λ (f : Parts). IsCutShort (drop (c.args.at + 1) f.a)) same there)
