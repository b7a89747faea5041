use Rattle.emitted_sizes.proofs.literals.+digits.Given as goal

abbrev pub decreases-digits : goal.decreases-digits
decreases-digits l = l.n
