use Rattle.std.proofs.Common.{◌≡◌, map, drop, length}
use Rattle.arm_expr.specs.Tokens.{token_of}
use Rattle.arm_expr.specs.Stack.{state_of, frames_of, kept_run, kept_parsed}
use Rattle.arm_expr.proofs.parser.parse.Given as goal

-- what is left is read as all of it is
abbrev pub invariant-loop-token : goal.invariant-loop-token
invariant-loop-token l =
    kept_run (state_of l.state) (frames_of l.stack.items) (map token_of (drop (length l.yielded) l.fn.tokens.items))
    ≡ kept_parsed (map token_of l.fn.tokens.items)
