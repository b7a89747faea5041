use Rattle.std.proofs.Common.{◌≡◌, ◌<◌, ℕ, true, false, arith, eqb}
use Rattle.std.proofs.lemmas.Bool.Decides.{nat_tests}
use Rattle.board_history.proofs.Keeping.{none_begun, some_begun, idle_inside, busy_inside}
use Rattle.board_history.proofs.history.History.is_idle.Goals as goal

none_by : (n : ℕ) → eqb n 0 ≡ true → n ≡ 0
none_by n e = grind (arith, nat_tests, e)

some_by : (n : ℕ) → eqb n 0 ≡ false → 0 < n
some_by n e = grind (arith, nat_tests, e)

pub returns-clause-idle : goal.returns-clause-idle
returns-clause-idle c = λ e.
    idle_inside _ _ _ c.self.view_is (none_begun _ _ _ _ _ c.self.invariant (none_by c.self.inside.opened e))

pub returns-clause-busy : goal.returns-clause-busy
returns-clause-busy c = λ e.
    busy_inside _ _ _ c.self.view_is (some_begun _ _ _ _ _ c.self.invariant (some_by c.self.inside.opened e))
