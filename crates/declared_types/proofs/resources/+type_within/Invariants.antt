use Rattle.declared_types.proofs.resources.+type_within.Given as goal

-- there is one resource less around
abbrev pub decreases-type_within : goal.decreases-type_within
decreases-type_within l = l.depth
