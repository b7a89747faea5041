use Rattle.std.proofs.Common.{sym}
use Rattle.arm_value.specs.View.{json}
use Rattle.deploy_cells.specs.Listing.{sought}
use Rattle.plan_listing.specs.Hits.{is_wanted}
use Rattle.plan_sight.proofs.LookLemmas.{scopes_there}
use Rattle.plan_nested.proofs.SeekLemmas.{found_is, finds_found, finds_left}
use Rattle.plan_nested.proofs.seeking.find_listed.Goals as goal

pub scope_found-requires-clause-found : goal.scope_found-requires-clause-found
scope_found-requires-clause-found c =
    found_is c.args.table.now c.args.frame c.requires.ready (scopes_there c.args.table.now c.args.frame
    c.requires.there) (json c.args.listing.now) (is_wanted c.args.wanted.now) c.in-Found.number c.in-Found.copy
    c.requires.listed (sym c.in-Found.ensures)

pub returns-in_ok-inside-in-Found : goal.returns-in_ok-inside-in-Found
returns-in_ok-inside-in-Found c =
    finds_found c.args.table.now c.args.frame c.in-Found.number c.in-Found.copy c.in_ok-inside-in-Found.inside
    (sought (is_wanted c.args.wanted.now) (json c.args.listing.now)) c.in-Found.ensures c.in_ok-inside-in-Found.ensures

pub returns-in-LeftAway : goal.returns-in-LeftAway
returns-in-LeftAway c =
    finds_left c.args.table.now c.args.frame (sought (is_wanted c.args.wanted.now) (json c.args.listing.now))
    c.in-LeftAway.ensures

pub returns-in-NotHere : goal.returns-in-NotHere
returns-in-NotHere c = sym c.in-NotHere.ensures
