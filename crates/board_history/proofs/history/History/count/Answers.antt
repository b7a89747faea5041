use Rattle.std.proofs.Common.{arith}
use Rattle.board_history.proofs.history.History.count.Goals as goal

pub overflow_cast-result : goal.overflow_cast-result
overflow_cast-result c = let f = c.self.invariant.few in omega (arith, f)
