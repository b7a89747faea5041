use Rattle.std.proofs.Common.{sym, ap, ◌∙◌, codes}
use Rattle.arm_ids.specs.ScopeId.{is_pair, is_start}
use Rattle.arm_ids.proofs.WordLemmas.{chars_groups}
use Rattle.arm_ids.proofs.ScopeIdLemmas.{fails_first, decides_second}
use Rattle.arm_ids.proofs.scope.is_group_start.Goals as goal

pub returns-then-not-is_start : goal.returns-then-not-is_start
returns-then-not-is_start c =
    fails_first (is_start c.args.root.now c.args.word.now c.args.name.now)
    (is_pair (codes "resourceGroups") c.args.group_word.now c.args.group.now)
    (sym c.is_start.ensures ∙ c.if-not-is_start.true)

pub returns : goal.returns
returns c =
    decides_second (is_start c.args.root.now c.args.word.now c.args.name.now)
    (is_pair (codes "resourceGroups") c.args.group_word.now c.args.group.now) _
    (sym c.is_start.ensures ∙ c.if-not-is_start.false)
    (c.is_pair.ensures ∙ ap (λ w. is_pair w c.args.group_word.now c.args.group.now) chars_groups)
