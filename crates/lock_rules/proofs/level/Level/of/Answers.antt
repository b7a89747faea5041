use Rattle.std.proofs.Common.{true, false, sym, ◌∙◌}
use Rattle.lock_rules.proofs.LevelLemmas.{level_first, level_rest}
use Rattle.lock_rules.proofs.level.Level.of.Goals as goal

pub returns-then-equals_ignore_case : goal.returns-then-equals_ignore_case
returns-then-equals_ignore_case c =
    sym (level_first c.args.word.now (sym c.equals_ignore_case.ensures ∙ c.if-equals_ignore_case.true))

pub returns-then-equals_ignore_case-2 : goal.returns-then-equals_ignore_case-2
returns-then-equals_ignore_case-2 c =
    sym (level_rest c.args.word.now true (sym c.equals_ignore_case.ensures ∙ c.if-equals_ignore_case.false)
    (sym c.equals_ignore_case-2.ensures ∙ c.if-equals_ignore_case-2.true))

pub returns : goal.returns
returns c =
    sym (level_rest c.args.word.now false (sym c.equals_ignore_case.ensures ∙ c.if-equals_ignore_case.false)
    (sym c.equals_ignore_case-2.ensures ∙ c.if-equals_ignore_case-2.false))
