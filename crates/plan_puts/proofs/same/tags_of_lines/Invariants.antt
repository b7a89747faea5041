use Rattle.plan_puts.proofs.LineLemmas.{TagsLeft}
use Rattle.plan_puts.proofs.same.tags_of_lines.Given as goal

abbrev pub invariant-lines : goal.invariant-lines
invariant-lines l = TagsLeft l.table l.all.items l.at
