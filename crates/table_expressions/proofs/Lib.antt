mod MeaningLemmas
