mod JointLemmas
