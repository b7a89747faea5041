-- What the values of the parser mean.
use Rattle.std.specs.Prelude.{ℕ, List, [], ◌∷◌, map, Option, option_map, option_and_then}
use Rattle.std.specs.declared.vec.Vec.{Vec}
use Rattle.std.specs.declared.alloc.Global.{Global}
use Rattle.arm_expr.specs.declared.expr.Expr.{Expr}
use Rattle.arm_expr.specs.declared.parser.Frame as frames
use Rattle.arm_expr.specs.declared.parser.Frame.TheVariants as frame
use Rattle.arm_expr.specs.declared.parser.State as states
use Rattle.arm_expr.specs.declared.parser.State.TheVariants as state
use Rattle.arm_expr.specs.Tree.{Tree}
use Rattle.arm_expr.specs.Tokens.{Token}
use Rattle.arm_expr.specs.Lexer.{lex, between}
use Rattle.arm_expr.specs.Machine.{Frame, calling, indexing, State, wanted, named, opened, done, dotted, closed}
use Rattle.arm_expr.specs.Machine.{separated, indexed, begun, first_begun, gone_on, step, run, finished, parsed}
use Rattle.arm_expr.specs.Machine.{as_kept}
use Rattle.arm_expr.specs.View.{tree_of}

abbrev pub kept_of : Option Expr → Option Tree
kept_of o = option_map tree_of o

abbrev pub arguments_of : Option (Vec Expr Global) → Option (List Tree)
arguments_of o = option_map (λ es. map tree_of es.items) o

abbrev pub KeptFrame : Type 0
KeptFrame = Frame (Option Tree) (Option (List Tree))

abbrev pub KeptState : Type 0
KeptState = State (Option Tree)

abbrev pub frame_of : frames.Frame → KeptFrame
frame_of (frame.Calling name arguments) = calling name (arguments_of arguments)
frame_of (frame.Indexing e) = indexing (kept_of e)

-- the last one is on top
abbrev pub frames_onto : List KeptFrame → List frames.Frame → List KeptFrame
frames_onto S [] = S
frames_onto S (f ∷ fs) = frames_onto (frame_of f ∷ S) fs

abbrev pub frames_of : List frames.Frame → List KeptFrame
frames_of fs = frames_onto [] fs

abbrev pub state_of : states.State → KeptState
state_of state.Wanted = wanted
state_of (state.Named name) = named name
state_of (state.Opened name) = opened name
state_of (state.Done e) = done (kept_of e)
state_of (state.Dotted e) = dotted (kept_of e)

abbrev pub KeptNext : Type 0
KeptNext = Option (KeptState × List KeptFrame)

-- The machine that keeps trees which nest at most 64, step by step.
abbrev pub kept_closed : Option Tree → List KeptFrame → KeptNext
kept_closed = closed (Option Tree) (Option (List Tree)) (as_kept 64)

abbrev pub kept_separated : Option Tree → List KeptFrame → KeptNext
kept_separated = separated (Option Tree) (Option (List Tree)) (as_kept 64)

abbrev pub kept_indexed : Option Tree → List KeptFrame → KeptNext
kept_indexed = indexed (Option Tree) (Option (List Tree)) (as_kept 64)

abbrev pub kept_begun : List KeptFrame → Token → KeptNext
kept_begun = begun (Option Tree) (Option (List Tree)) (as_kept 64)

abbrev pub kept_first_begun : List ℕ → List KeptFrame → Token → KeptNext
kept_first_begun = first_begun (Option Tree) (Option (List Tree)) (as_kept 64)

abbrev pub kept_gone_on : Option Tree → List KeptFrame → Token → KeptNext
kept_gone_on = gone_on (Option Tree) (Option (List Tree)) (as_kept 64)

abbrev pub kept_step : KeptState → List KeptFrame → Token → KeptNext
kept_step = step (Option Tree) (Option (List Tree)) (as_kept 64)

abbrev pub kept_finished : KeptState → List KeptFrame → Option (Option Tree)
kept_finished = finished (Option Tree) (Option (List Tree)) (as_kept 64)

abbrev pub kept_run : KeptState → List KeptFrame → List Token → Option (Option Tree)
kept_run = run (Option Tree) (Option (List Tree)) (as_kept 64)

-- no answer where nothing is spelled, and no tree where it nests above 64
abbrev pub kept_parsed : List Token → Option (Option Tree)
kept_parsed = parsed (Option Tree) (Option (List Tree)) (as_kept 64)

-- the same of the characters between the brackets
abbrev pub kept_reading : List ℕ → Option (Option Tree)
kept_reading cs = option_and_then kept_parsed (lex between cs)
