use Rattle.std.proofs.Common.{◌≡◌, ◌∙◌, ◌++◌, [], ap, map, subst, arith, IfOk}
use Rattle.std.proofs.lemmas.List.{map-append}
use Rattle.arm_value.specs.Json.{members_nesting, put_each}
use Rattle.arm_value.specs.View.{member}
use Rattle.arm_eval.proofs.PutLemmas.{put_after, append_nests}
use Rattle.arm_eval.proofs.whole.put_together.Goals as goal

pub from_members-requires : goal.from_members-requires
from_members-requires c =
    let added = map member c.args.added.items in
    let all = ap (map member) c.in_ok-push_all.ensures
    ∙ map-append member c.into_vec-members.result.items c.args.added.items
    ∙ ap (λ ms. ms ++ added) c.into_vec-members.ensures in
    omega (arith, ap members_nesting all, append_nests c.args.own added c.depth-depth.ensures.rules.2 c.requires)

pub returns : goal.returns
returns c =
    let added = map member c.args.added.items in
    let all = ap (map member) c.in_ok-push_all.ensures
    ∙ map-append member c.into_vec-members.result.items c.args.added.items
    ∙ ap (λ ms. ms ++ added) c.into_vec-members.ensures in
    subst (λ ms. IfOk c.from_members.result (λ whole. whole ≡ ms)) (ap (put_each []) all
    ∙ put_after c.args.own added c.depth-depth.ensures.rules.0) c.from_members.ensures
