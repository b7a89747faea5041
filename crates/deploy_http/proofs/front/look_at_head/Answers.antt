use Rattle.std.proofs.Common.{ℕ, List, sym, subst}
use Rattle.http_heads.specs.Fronts.{IsHead}
use Rattle.deploy_http.proofs.InputLemmas.{has_plan, plan_refused}
use Rattle.deploy_http.proofs.front.look_at_head.Goals as goal

pub returns-in-Ok : goal.returns-in-Ok
returns-in-Ok c =
    let h = c.requires.head.0 in
    let P : List ℕ → Type 0 = λ s. IsHead s c.args.head.now h in
    has_plan c.args.bytes.now c.args.head.now h c.in-Ok.plan c.requires.head.1
    (c.in-Ok.ensures.plan h (subst P (sym c.requires.start) c.requires.head.1)) c.in-Ok.ensures.head
    c.in-Ok.ensures.small

pub returns-in-Err : goal.returns-in-Err
returns-in-Err c =
    let h = c.requires.head.0 in
    let P : List ℕ → Type 0 = λ s. IsHead s c.args.head.now h in
    plan_refused c.args.bytes.now c.args.head.now h c.in-Err.fault c.requires.head.1
    (c.in-Err.ensures.plan h (subst P (sym c.requires.start) c.requires.head.1)) c.in-Err.ensures.unread
