use Rattle.std.proofs.Common.{ℕ, List, subst}
use Rattle.arm_ids.specs.ScopeId.{IsIdOfScope, IsNoScope}
use Rattle.http_routes.specs.Routes.{scope_of}
use Rattle.http_routes.proofs.IdLemmas.{scope_read, scope_unread, unread_is}
use Rattle.http_routes.proofs.id.scope_of.Goals as goal

pub returns-in-Ok : goal.returns-in-Ok
returns-in-Ok c =
    let P : List ℕ → Type 0 = λ t. IsIdOfScope t c.in-Ok.scope in
    scope_read c.args.id.now c.in-Ok.scope (subst P c.as_str.ensures.characters c.in-Ok.ensures.ok)

pub returns-in-Err : goal.returns-in-Err
returns-in-Err c =
    let P : List ℕ → Type 0 = λ t. IsNoScope t c.in-Err.fault in
    unread_is _ (scope_of c.args.id.now) c.in-Err.fault c.unread.ensures.none c.unread.ensures.known
    (scope_unread c.args.id.now c.in-Err.fault (subst P c.as_str.ensures.characters c.in-Err.ensures.fault))
