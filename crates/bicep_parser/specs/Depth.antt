-- How deep what was read last nests, and what is open.
use Rattle.std.specs.Prelude.{ℕ, max, nat_lt, List, [], ◌∷◌, Option, Some, None, if◌then◌else◌}
use Rattle.bicep_machine.specs.Stack.{Callee, function, decorating, Header, header, Front, nothing_before}
use Rattle.bicep_machine.specs.Stack.{a_condition, a_loop, loop_and_condition, Frame, calling, indexing, in_array}
use Rattle.bicep_machine.specs.Stack.{in_object, in_text, left, asked, chosen, assigned, body_over, looped}
use Rattle.bicep_machine.specs.Stack.{in_condition, bodied, in_file, State, dotted, done, paused, past_member}
use Rattle.bicep_machine.specs.Stack.{body_end, at_sign, decorator_named, decorator_spaced, decorator_ready}
use Rattle.bicep_machine.specs.Stack.{decorated, past_decorators, declaring, declared, typed, headed, existed}
use Rattle.bicep_machine.specs.Stack.{past_statement}

abbrev pub callee_depth : Callee → ℕ
callee_depth (function f) = 0
callee_depth (decorating ds at f) = ds.1

abbrev pub header_depth : Header → ℕ
header_depth (header ds at o n q) = ds.1

abbrev pub front_depth : Front → ℕ
front_depth nothing_before = 0
front_depth (a_condition at c) = c.1
front_depth (a_loop l) = l.1
front_depth (loop_and_condition l at c) = max l.1 c.1

abbrev pub frame_depth : Frame → ℕ
frame_depth (calling c was es) = max (callee_depth c) es.1
frame_depth (indexing e k) = e.1
frame_depth (in_array at was es) = es.1
frame_depth (in_object at was ms) = ms.1
frame_depth (in_text at head hs) = hs.1
frame_depth (left o e) = e.1
frame_depth (asked c) = c.1
frame_depth (chosen c a) = max c.1 a.1
frame_depth (assigned ds d) = ds.1
frame_depth (body_over at ns h) = header_depth h
frame_depth (looped l) = l.1
frame_depth (in_condition at h f) = max (header_depth h) (front_depth f)
frame_depth (bodied h f) = max (header_depth h) (front_depth f)
frame_depth (in_file ss) = ss.1
frame_depth F = 0

-- of all that is open
abbrev pub stack_depth : List Frame → ℕ
stack_depth [] = 0
stack_depth (F ∷ S) = max (frame_depth F) (stack_depth S)

abbrev pub state_depth : State → ℕ
state_depth (dotted k e) = e.1
state_depth (done e) = e.1
state_depth (paused e) = e.1
state_depth (past_member m) = m.1
state_depth (body_end h b) = max (header_depth h) b.1
state_depth (at_sign ds at) = ds.1
state_depth (decorator_named ds at n) = ds.1
state_depth (decorator_spaced ds at from) = ds.1
state_depth (decorator_ready ds at f) = ds.1
state_depth (decorated ds) = ds.1
state_depth (past_decorators ds) = ds.1
state_depth (declaring ds at w) = ds.1
state_depth (declared ds at w n) = ds.1
state_depth (typed ds at w n ty) = ds.1
state_depth (headed h) = header_depth h
state_depth (existed h) = header_depth h
state_depth (past_statement s) = s.1
state_depth s = 0

-- of all that is kept
abbrev pub deepest : State → List Frame → ℕ
deepest s S = max (state_depth s) (stack_depth S)

-- of what is open on top
abbrev pub top_depth : List Frame → ℕ
top_depth [] = 0
top_depth (F ∷ S) = frame_depth F

-- of what was read last, and what is open right around it
abbrev pub at_hand : State → List Frame → ℕ
at_hand s S = max (state_depth s) (top_depth S)

-- the place where something nests too deep, if none was noted before
abbrev pub noted : Option ℕ → State → List Frame → ℕ → Option ℕ
noted (Some d) s S at = Some d
noted None s S at = if nat_lt 64 (at_hand s S) then Some at else None
