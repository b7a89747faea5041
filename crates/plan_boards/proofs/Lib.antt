mod OpenLemmas
