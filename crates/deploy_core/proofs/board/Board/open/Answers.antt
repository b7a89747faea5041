use Rattle.std.proofs.Common.{length, map, refl, ap, sym, subst}
use Rattle.board_history.specs.Past.{Past}
use Rattle.board_dealing.specs.Kept.{IsKept}
use Rattle.board_replays.specs.declared.noted.BoardFault.{BoardFault}
use Rattle.board_replays.specs.Replays.{noted_of, IsBoardFault}
use Rattle.deploy_core.proofs.OpenLemmas.{kept_first}
use Rattle.deploy_core.proofs.board.Board.open.Goals as goal

pub opened-requires-clause-kept : goal.opened-requires-clause-kept
opened-requires-clause-kept g c =
    subst (λ (p : Past). IsKept (g.S.Standings.planned c.args.standings) (g.S.Standings.known c.args.standings) p.count
    p.events c.in-Ok.parts.agenda 0) (sym c.in-Ok.ensures.history)
    (kept_first (g.S.Standings.planned c.args.standings) (g.S.Standings.known c.args.standings)
    (length (g.S.Standings.planned c.args.standings).tasks) c.args.needs.now c.in-Ok.parts.agenda refl
    c.requires.seen c.requires.needs c.in-Ok.ensures.agenda)

pub opened-requires-clause-nothing : goal.opened-requires-clause-nothing
opened-requires-clause-nothing g c = ap (λ (p : Past). p.events) c.in-Ok.ensures.history

pub returns-in-Err-clause-fault : goal.returns-in-Err-clause-fault
returns-in-Err-clause-fault g c =
    subst (λ (f : BoardFault). IsBoardFault (g.S.Standings.planned c.args.standings)
    (map noted_of c.args.answers.items) f) (sym c.dropped.ensures) tt
