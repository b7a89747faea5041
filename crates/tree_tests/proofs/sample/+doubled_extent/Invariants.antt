use Rattle.tree_tests.proofs.sample.+doubled_extent.Given as goal

abbrev pub decreases-doubled_extent : goal.decreases-doubled_extent
decreases-doubled_extent l = l.number
