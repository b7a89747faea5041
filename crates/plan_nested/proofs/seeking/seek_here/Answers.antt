use Rattle.arm_value.specs.View.{json}
use Rattle.deploy_cells.specs.Listing.{sought}
use Rattle.plan_listing.specs.Hits.{is_wanted}
use Rattle.plan_nested.proofs.SeekLemmas.{here_found, here_stops, finds_there}
use Rattle.plan_nested.proofs.seeking.seek_here.Goals as goal

pub returns-in-Ok-find_listed-clause-told : goal.returns-in-Ok-find_listed-clause-told
returns-in-Ok-find_listed-clause-told c =
    here_found c.args.table.now c.args.frame (is_wanted c.args.wanted.now) (json c.in-Ok.listing.now)
    c.in-Ok-find_listed.found c.in-Ok.ensures c.in-Ok-find_listed.ensures

pub returns-in-Ok-find_listed-clause-there : goal.returns-in-Ok-find_listed-clause-there
returns-in-Ok-find_listed-clause-there c =
    finds_there c.args.table.now c.args.frame (sought (is_wanted c.args.wanted.now) (json c.in-Ok.listing.now))
    c.in-Ok-find_listed.found c.in-Ok-find_listed.ensures

pub returns-in-Err-clause-told : goal.returns-in-Err-clause-told
returns-in-Err-clause-told c =
    here_stops c.args.table.now c.args.frame (is_wanted c.args.wanted.now) c.in-Err.lack c.in-Err.ensures
