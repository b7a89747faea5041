use Rattle.std.proofs.Common.{ℕ, ◌≡◌, ◌≤◌, ◌<◌, get_or, None}
use Rattle.function_texts.proofs.marks.next_mark.Given as goal

abbrev pub invariant-loop-place : goal.invariant-loop-place
invariant-loop-place l = (place : ℕ) → l.from ≤ place → place < l.place → get_or l.marks place None ≡ None
