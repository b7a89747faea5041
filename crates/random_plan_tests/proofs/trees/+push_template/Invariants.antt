use Rattle.random_plan_tests.proofs.trees.+push_template.Given as goal

abbrev pub decreases-push_template : goal.decreases-push_template
decreases-push_template l = l.depth
