use Rattle.std.proofs.Common.{sym, ap, ◌∙◌, codes}
use Rattle.arm_ids.specs.Segments.{is_empty}
use Rattle.arm_ids.specs.ScopeId.{is_pair}
use Rattle.arm_ids.proofs.WordLemmas.{chars_subscriptions}
use Rattle.arm_ids.proofs.ScopeIdLemmas.{fails_first, decides_second}
use Rattle.arm_ids.proofs.scope.is_start.Goals as goal

pub returns-then-not-is_empty : goal.returns-then-not-is_empty
returns-then-not-is_empty c =
    fails_first (is_empty c.args.root.now) (is_pair (codes "subscriptions") c.args.word.now c.args.name.now)
    (sym c.is_empty.ensures ∙ c.if-not-is_empty.true)

pub returns : goal.returns
returns c =
    decides_second (is_empty c.args.root.now) (is_pair (codes "subscriptions") c.args.word.now c.args.name.now) _
    (sym c.is_empty.ensures ∙ c.if-not-is_empty.false)
    (c.is_pair.ensures ∙ ap (λ w. is_pair w c.args.word.now c.args.name.now) chars_subscriptions)
