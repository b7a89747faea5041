use Rattle.tree_tests.proofs.sample.+doubled.Given as goal

abbrev pub decreases-doubled : goal.decreases-doubled
decreases-doubled l = l.number
