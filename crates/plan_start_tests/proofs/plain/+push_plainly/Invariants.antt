use Rattle.plan_start_tests.proofs.plain.+push_plainly.Given as goal

abbrev pub decreases-push_plainly : goal.decreases-push_plainly
decreases-push_plainly l = l.depth
