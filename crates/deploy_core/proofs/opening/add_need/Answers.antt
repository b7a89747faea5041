use Rattle.std.proofs.Common.{arith}
use Rattle.deploy_core.proofs.OpenLemmas.{left_out, added_on}
use Rattle.deploy_core.proofs.opening.add_need.Goals as goal

pub returns-then-task-count : goal.returns-then-task-count
returns-then-task-count c =
    let t = c.if-task-count.true in
    let r = c.requires in
    λ kinds ns h. left_out c.args.agenda.now c.args.need kinds ns h (λ l m. omega (arith, t, r, l))

pub returns-then-other-count : goal.returns-then-other-count
returns-then-other-count c =
    let t = c.if-other-count.true in
    let r = c.requires in
    λ kinds ns h. left_out c.args.agenda.now c.args.need kinds ns h (λ l m. omega (arith, t, r, m))

pub returns : goal.returns
returns c =
    let t = c.if-task-count.false in
    let o = c.if-other-count.false in
    let r = c.requires in
    let f = c.args.agenda.now.few in
    added_on c.args.agenda.now c.need.new.self c.args.need _ _ c.need.result (omega (arith, t, r, f))
    (omega (arith, o, r, f)) c.need.ensures (omega (arith, t, r)) (omega (arith, o, r))
