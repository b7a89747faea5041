use Rattle.std.proofs.Common.{ℕ, List, subst}
use Rattle.arm_ids.specs.Id.{IsIdOf, IsNoKey}
use Rattle.http_routes.specs.Routes.{key_of}
use Rattle.http_routes.proofs.IdLemmas.{key_read, key_unread, unread_is}
use Rattle.http_routes.proofs.id.key_of.Goals as goal

pub returns-in-Ok : goal.returns-in-Ok
returns-in-Ok c =
    let P : List ℕ → Type 0 = λ t. IsIdOf t c.in-Ok.key in
    key_read c.args.id.now c.in-Ok.key (subst P c.as_str.ensures.characters c.in-Ok.ensures.ok)

pub returns-in-Err : goal.returns-in-Err
returns-in-Err c =
    let P : List ℕ → Type 0 = λ t. IsNoKey t c.in-Err.fault in
    unread_is _ (key_of c.args.id.now) c.in-Err.fault c.unread.ensures.none c.unread.ensures.known
    (key_unread c.args.id.now c.in-Err.fault (subst P c.as_str.ensures.characters c.in-Err.ensures.fault))
