use Rattle.std.proofs.Common.{ℕ, ◌==◌, sym, ap, ◌∙◌}
use Rattle.board_replays.proofs.PlayLemmas.{early_of, late_of, empty_by, not_empty}
use Rattle.board_replays.proofs.playing.play.Goals as goal

pub settle_and_play-requires-clause-none : goal.settle_and_play-requires-clause-none
settle_and_play-requires-clause-none g c =
    empty_by c.args.late.now.items
    (sym (ap (λ (n : ℕ). n == 0) c.args.late.now.ok.0) ∙ sym c.is_empty.ensures ∙ c.if-is_empty.true)

pub returns-then-is_empty-clause-played : goal.returns-then-is_empty-clause-played
returns-then-is_empty-clause-played g c =
    λ ns i. c.settle_and_play.ensures.played ns
    (early_of (g.S.Standings.planned c.args.standings.now) ns c.args.late.now.items c.args.history.now.events
    (empty_by c.args.late.now.items
    (sym (ap (λ (n : ℕ). n == 0) c.args.late.now.ok.0) ∙ sym c.is_empty.ensures ∙ c.if-is_empty.true)) i)

pub play_late-requires-clause-kept : goal.play_late-requires-clause-kept
play_late-requires-clause-kept g c = (c.args.seen.now, c.requires.kept)

pub returns-else-is_empty-clause-kept : goal.returns-else-is_empty-clause-kept
returns-else-is_empty-clause-kept g c = c.play_late.ensures.kept c.args.seen.now c.requires.kept

pub returns-else-is_empty-clause-played : goal.returns-else-is_empty-clause-played
returns-else-is_empty-clause-played g c =
    λ ns i. c.play_late.ensures.played ns
    (late_of (g.S.Standings.planned c.args.standings.now) ns c.args.late.now.items c.args.history.now.events
    (not_empty c.args.late.now.items
    (sym (ap (λ (n : ℕ). n == 0) c.args.late.now.ok.0) ∙ sym c.is_empty.ensures ∙ c.if-is_empty.false)) i)
