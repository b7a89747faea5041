use Rattle.deploy_cells.proofs.ListingLemmas.{listing_back}
use Rattle.deploy_cells.proofs.laws.listings_read_back.Goals as goal

pub returns : goal.returns
returns c = listing_back
