mod FillingLemmas
