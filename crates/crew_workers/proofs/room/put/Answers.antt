use Rattle.std.proofs.Common.{◌<◌, ◌++◌, ◌∷◌, [], ap, ◌∙◌, subst, get_or, vec_items, vec_len}
use Rattle.crew_workers.proofs.room.put.Goals as goal
use Rattle.foundation.proofs.Lists.{get_new, get_old}

pub returns-clause-before : goal.returns-clause-before
returns-clause-before g c k d low =
    ap (λ l. get_or l k d) c.push_reserved.ensures.items
    ∙ get_old (vec_items c.args.list.now) c.args.item k d (subst (λ n. k < n) c.args.list.now.ok.0 low)

pub returns-clause-last : goal.returns-clause-last
returns-clause-last g c d =
    ap (λ l. get_or l (vec_len c.args.list.now) d) c.push_reserved.ensures.items
    ∙ ap (λ n. get_or (vec_items c.args.list.now ++ c.args.item ∷ []) n d) c.args.list.now.ok.0
    ∙ get_new (vec_items c.args.list.now) c.args.item d
