mod HolderLemmas
