use Rattle.std.proofs.Common.{arith}
use Rattle.std.proofs.lemmas.Option.{slice_get_within}
use Rattle.board_history.specs.Past.{event_of}
use Rattle.board_dealing.proofs.Agendas.{kept_listing, kept_looking}
use Rattle.board_dealing.proofs.Happening.{wakers_within}
use Rattle.board_dealing.proofs.LookLemmas.{in_agenda}
use Rattle.board_dealing.proofs.WakeLemmas.{event_there, found_at}
use Rattle.board_dealing.proofs.waking.catch_up.Goals as goal

pub hear-requires : goal.hear-requires
hear-requires g c =
    λ v w. in_agenda _ _ _ _ _ c.places.seen c.places.invariant v
    (wakers_within _ c.args.history.now.events c.places.invariant.is_legal c.places.seen
    (event_of c.in-Some.event.now)
    (event_there c.events-events.result.now c.args.history.now.events c.places.seen c.in-Some.event.now
    c.events-events.ensures
    (found_at c.events-events.result.now c.places.seen c.in-Some.event.now c.in-Some.ensures.lookup.0
    c.in-Some.ensures.lookup.1)) v w)

pub returns-in_err-hear-clause-kept : goal.returns-in_err-hear-clause-kept
returns-in_err-hear-clause-kept g c =
    kept_listing _ _ _ _ _ c.places.seen c.places.invariant _ c.hear.ensures.keeps

pub places-preserved : goal.places-preserved
places-preserved g c =
    let there = event_there c.events-events.result.now c.args.history.now.events c.places.seen c.in-Some.event.now
    c.events-events.ensures
    (found_at c.events-events.result.now c.places.seen c.in-Some.event.now c.in-Some.ensures.lookup.0
    c.in-Some.ensures.lookup.1) in
    let l = slice_get_within c.args.history.now.events c.places.seen (event_of c.in-Some.event.now) there in
    kept_looking _ _ _ _ _ c.places.seen c.places.invariant _ c.hear.ensures.keeps (event_of c.in-Some.event.now)
    there c.in_ok-hear.ensures.heard (omega (arith, l))
