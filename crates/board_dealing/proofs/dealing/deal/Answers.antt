use Rattle.std.proofs.Common.{◌∙◌, subst, ℕ}
use Rattle.board_dealing.specs.Kept.{IsKept}
use Rattle.board_dealing.proofs.DealLemmas.{deal_failed, dealt_next}
use Rattle.board_dealing.proofs.Pausing.{settled}
use Rattle.board_dealing.proofs.PassLemmas.{kept_of, goes_of}
use Rattle.board_dealing.proofs.dealing.deal.Goals as goal

pub begin_first-requires-clause-kept : goal.begin_first-requires-clause-kept
begin_first-requires-clause-kept g c =
    subst (λ (n : ℕ). IsKept (g.S.Standings.planned c.settle.new.standings)
    (g.S.Standings.known c.settle.new.standings) c.settle.new.history.count c.settle.new.history.events
    c.settle.new.agenda n) c.in_ok-settle.ensures.caught
    (kept_of (g.S.Standings.planned c.args.standings.now) (g.S.Standings.planned c.settle.new.standings)
    (g.S.Standings.known c.settle.new.standings) c.settle.new.history.count c.settle.new.history.events
    c.settle.new.agenda c.settle.new.seen c.settle.ensures.planned c.settle.ensures.kept)

pub returns-clause-planned : goal.returns-clause-planned
returns-clause-planned g c = c.begin_first.ensures.planned ∙ c.settle.ensures.planned

pub returns-clause-kept : goal.returns-clause-kept
returns-clause-kept g c =
    goes_of (g.S.Standings.planned c.args.standings.now) (g.S.Standings.planned c.settle.new.standings)
    (g.S.Standings.known c.settle.new.standings) (g.S.Standings.known c.begin_first.new.standings)
    c.settle.new.history c.begin_first.new.history c.settle.new.agenda c.begin_first.new.agenda c.settle.new.seen
    c.settle.ensures.planned c.begin_first.ensures.kept c.settle.ensures.kept

pub returns-clause-next : goal.returns-clause-next
returns-clause-next g c =
    dealt_next (g.S.Standings.planned c.args.standings.now) (g.S.Standings.planned c.settle.new.standings)
    c.args.history.now.events c.settle.new.history.events c.begin_first.new.history.events c.args.worker
    c.begin_first.result c.settle.ensures.planned c.begin_first.ensures.next
    (record {
      has_passed = c.settle.ensures.passed;
      is_settled = settled (g.S.Standings.planned c.args.standings.now) (g.S.Standings.known c.settle.new.standings)
          c.settle.new.history.count c.settle.new.history.events c.settle.new.agenda c.settle.new.seen
          c.settle.ensures.kept c.in_ok-settle.ensures.caught c.in_ok-settle.ensures.none;
    })

pub returns-clause-out : goal.returns-clause-out
returns-clause-out g c =
    deal_failed (g.S.Standings.planned c.args.standings.now) c.args.history.now.events c.settle.new.history.events
    c.begin_first.new.history.events c.begin_first.result c.settle.ensures.passed c.begin_first.ensures.out
