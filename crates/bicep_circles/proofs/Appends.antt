-- Lists that go on from one another.
use Rattle.std.proofs.Common.{append_assoc, append-nil}

pub ruleset appends = (append_assoc, append-nil)
