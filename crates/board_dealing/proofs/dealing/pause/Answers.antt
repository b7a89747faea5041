use Rattle.board_dealing.proofs.dealing.pause.Goals as goal

pub returns-then-is_idle : goal.returns-then-is_idle
returns-then-is_idle c = c.is_idle.ensures.idle c.if-is_idle.true
