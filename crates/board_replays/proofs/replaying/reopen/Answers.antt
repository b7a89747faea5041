use Rattle.std.proofs.Common.{ℕ, ◌==◌, sym, ap, ◌∙◌}
use Rattle.board_replays.proofs.PlayLemmas.{empty_by, not_empty}
use Rattle.board_replays.proofs.LateLemmas.{not_reopened}
use Rattle.board_replays.proofs.replaying.reopen.Goals as goal

pub returns-then-is_empty-clause-reopened : goal.returns-then-is_empty-clause-reopened
returns-then-is_empty-clause-reopened g c =
    not_reopened (g.S.Standings.planned c.args.standings.now) c.args.answers.items c.args.history.now.events
    (empty_by c.args.answers.items
    (sym (ap (λ (n : ℕ). n == 0) c.args.answers.ok.0) ∙ sym c.is_empty.ensures ∙ c.if-is_empty.true)) c.requires.nothing

pub go_on-requires-clause-some : goal.go_on-requires-clause-some
go_on-requires-clause-some g c =
    not_empty c.args.answers.items
    (sym (ap (λ (n : ℕ). n == 0) c.args.answers.ok.0) ∙ sym c.is_empty.ensures ∙ c.if-is_empty.false)
