use Rattle.random_plan_tests.proofs.listing.+push_scope.Given as goal

abbrev pub decreases-push_scope : goal.decreases-push_scope
decreases-push_scope l = l.depth
