use Rattle.std.proofs.Common.{◌<◌, length, subst, List, ℕ}
use Rattle.arm_ids.proofs.IdLemmas.{joined_none}
use Rattle.arm_ids.proofs.id.joined.Goals as goal

pub returns-in_default : goal.returns-in_default
returns-in_default c =
    joined_none c.of.result c.args.segments.now (let P : List (List ℕ) → Type 0 = λ ss. length ss < 1 in
    subst P c.as_slice.ensures c.in_default.len_below) c.of.ensures
