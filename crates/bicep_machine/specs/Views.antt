-- What the values of the code stand for.
use Rattle.std.specs.Prelude.{Bool, List, [], ◌∷◌, map}
use Rattle.std.specs.declared.vec.Vec.{Vec}
use Rattle.std.specs.declared.boxed.Box.{Box}
use Rattle.std.specs.declared.alloc.Global.{Global}
use Rattle.bicep_tree.specs.declared.expr.Body.{Body}
use Rattle.bicep_tree.specs.declared.expr.Decorator.{Decorator}
use Rattle.bicep_tree.specs.declared.expr.Expr.{Expr}
use Rattle.bicep_tree.specs.declared.expr.Hole.{Hole}
use Rattle.bicep_tree.specs.declared.expr.Loop.{Loop}
use Rattle.bicep_tree.specs.declared.expr.Member.{Member}
use Rattle.bicep_tree.specs.declared.expr.Object.{Object}
use Rattle.bicep_tree.specs.declared.expr.Value.{Value}
use Rattle.bicep_tree.specs.declared.declaration.Declaration.{Declaration}
use Rattle.bicep_tree.specs.declared.declaration.Statement.{Statement}
use Rattle.bicep_tree.specs.Tree.{Tree, ObjectTree, MemberTree, ValueTree, LoopTree, DecoratorTree, BodyTree}
use Rattle.bicep_tree.specs.Tree.{DeclarationTree, StatementTree}
use Rattle.bicep_tree.specs.View.{HoleTree, tree_of, body_of, member_of, value_of, decorator_of, hole_of, loop_of}
use Rattle.bicep_tree.specs.View.{object_of, declaration_of, statement_of, file_of}
use Rattle.bicep_machine.specs.declared.kept.Kept as code
use Rattle.bicep_machine.specs.declared.frame.Callee as callees
use Rattle.bicep_machine.specs.declared.frame.Callee.TheVariants as callee
use Rattle.bicep_machine.specs.declared.frame.Header as headers
use Rattle.bicep_machine.specs.declared.frame.Front as fronts
use Rattle.bicep_machine.specs.declared.frame.Front.TheVariants as front
use Rattle.bicep_machine.specs.declared.frame.Assigned as assignments
use Rattle.bicep_machine.specs.declared.frame.Assigned.TheVariants as assignment
use Rattle.bicep_machine.specs.declared.frame.Frame as frames
use Rattle.bicep_machine.specs.declared.frame.Frame.TheVariants as frame
use Rattle.bicep_machine.specs.declared.state.State as states
use Rattle.bicep_machine.specs.declared.state.State.TheVariants as state
use Rattle.bicep_machine.specs.declared.state.Next as nexts
use Rattle.bicep_machine.specs.Kept.{Kept}
use Rattle.bicep_machine.specs.Stack.{Decorators, Callee, function, decorating, Header, header, Front, nothing_before}
use Rattle.bicep_machine.specs.Stack.{a_condition, a_loop, loop_and_condition, Assigned, to_metadata, to_scope}
use Rattle.bicep_machine.specs.Stack.{to_param, to_var, to_output, Frame, grouping, calling, indexing, opened}
use Rattle.bicep_machine.specs.Stack.{in_array, in_object, in_text, prefixing, left, asked, chosen, valued, assigned}
use Rattle.bicep_machine.specs.Stack.{over, body_over, in_names, looped, in_condition, bodied, in_file, State, wanted}
use Rattle.bicep_machine.specs.Stack.{first, named, qualifying, qualified, dotted, done, paused, item, for_wanted}
use Rattle.bicep_machine.specs.Stack.{names_wanted, one_wanted, one_named, other_wanted, both_named, member, labelled}
use Rattle.bicep_machine.specs.Stack.{past_member, among, body, looped_body, condition, guarded, body_end, at_sign}
use Rattle.bicep_machine.specs.Stack.{decorator_named, decorator_spaced, decorator_ready, decorated, past_decorators}
use Rattle.bicep_machine.specs.Stack.{declaring, declared, typed, headed, existed, between, past_statement}

-- ---- what is kept

abbrev pub kept : code.Kept (Box Expr Global) → Kept Tree
kept k = (tree_of k.part.value, k.depth)

abbrev pub kept_items : code.Kept (Vec Expr Global) → Kept (List Tree)
kept_items k = (map tree_of k.part.items, k.depth)

abbrev pub kept_holes : code.Kept (Vec Hole Global) → Kept (List HoleTree)
kept_holes k = (map hole_of k.part.items, k.depth)

abbrev pub kept_members : code.Kept (Vec Member Global) → Kept (List MemberTree)
kept_members k = (map member_of k.part.items, k.depth)

abbrev pub kept_object : code.Kept Object → Kept ObjectTree
kept_object k = (object_of k.part, k.depth)

abbrev pub kept_member : code.Kept Member → Kept MemberTree
kept_member k = (member_of k.part, k.depth)

abbrev pub kept_value : code.Kept Value → Kept ValueTree
kept_value k = (value_of k.part, k.depth)

abbrev pub kept_loop : code.Kept (Box Loop Global) → Kept LoopTree
kept_loop k = (loop_of k.part.value, k.depth)

abbrev pub kept_body : code.Kept Body → Kept BodyTree
kept_body k = (body_of k.part, k.depth)

abbrev pub kept_decorators : code.Kept (Vec Decorator Global) → Decorators
kept_decorators k = (map decorator_of k.part.items, k.depth)

abbrev pub kept_decorator : code.Kept Decorator → Kept DecoratorTree
kept_decorator k = (decorator_of k.part, k.depth)

abbrev pub kept_declaration : code.Kept Declaration → Kept DeclarationTree
kept_declaration k = (declaration_of k.part, k.depth)

abbrev pub kept_statement : code.Kept Statement → Kept StatementTree
kept_statement k = (statement_of k.part, k.depth)

abbrev pub kept_statements : code.Kept (Vec Statement Global) → Kept (List StatementTree)
kept_statements k = (file_of k.part.items, k.depth)

-- ---- what is open

abbrev pub callee_of : callees.Callee → Callee
callee_of (callee.Function f) = function f
callee_of (callee.Decorator ds at f) = decorating (kept_decorators ds) at f

abbrev pub header_of : headers.Header → Header
header_of h = header (kept_decorators h.decorators) h.at h.owner h.name h.path

abbrev pub front_of : fronts.Front → Front
front_of front.Nothing = nothing_before
front_of (front.Condition at c) = a_condition at (kept c)
front_of (front.Loop l) = a_loop (kept_loop l)
front_of (front.LoopAndCondition l at c) = loop_and_condition (kept_loop l) at (kept c)

abbrev pub assigned_of : assignments.Assigned → Assigned
assigned_of (assignment.Metadata at n) = to_metadata at n
assigned_of (assignment.Scope at) = to_scope at
assigned_of (assignment.Param at n ty) = to_param at n ty
assigned_of (assignment.Var at n) = to_var at n
assigned_of (assignment.Output at n ty) = to_output at n ty

abbrev pub frame_of : frames.Frame → Frame
frame_of (frame.Grouping at was) = grouping at was
frame_of (frame.Calling c was es) = calling (callee_of c) was (kept_items es)
frame_of (frame.Indexing e k) = indexing (kept e) k
frame_of (frame.Opened at was) = opened at was
frame_of (frame.InArray at was es) = in_array at was (kept_items es)
frame_of (frame.InObject at was ms) = in_object at was (kept_members ms)
frame_of (frame.InText at s hs) = in_text at s (kept_holes hs)
frame_of (frame.Prefixing at p) = prefixing at p
frame_of (frame.Left o e) = left o (kept e)
frame_of (frame.Asked c) = asked (kept c)
frame_of (frame.Chosen c a) = chosen (kept c) (kept a)
frame_of (frame.Valued l) = valued l
frame_of (frame.Assigned ds d) = assigned (kept_decorators ds) (assigned_of d)
frame_of (frame.Over at ns) = over at ns
frame_of (frame.BodyOver at ns h) = body_over at ns (header_of h.value)
frame_of (frame.InNames at) = in_names at
frame_of (frame.Looped l) = looped (kept_loop l)
frame_of (frame.InCondition at h f) = in_condition at (header_of h.value) (front_of f)
frame_of (frame.Bodied h f) = bodied (header_of h.value) (front_of f)
frame_of (frame.InFile ss) = in_file (kept_statements ss)

-- what is open, as the machine has it
abbrev pub Frames : Type 0
Frames = List Frame

-- the last one is on top
abbrev pub frames_onto : List Frame → List frames.Frame → List Frame
frames_onto S [] = S
frames_onto S (f ∷ fs) = frames_onto (frame_of f ∷ S) fs

abbrev pub frames_of : List frames.Frame → List Frame
frames_of fs = frames_onto [] fs

abbrev pub state_of : states.State → State
state_of (state.Wanted skips) = wanted skips
state_of state.First = first
state_of (state.Named n) = named n
state_of (state.Qualifying space n) = qualifying space n
state_of (state.Qualified space n m) = qualified space n m
state_of (state.Dotted k e) = dotted k (kept e)
state_of (state.Done e) = done (kept e)
state_of (state.Paused e) = paused (kept e)
state_of state.Item = item
state_of (state.ForWanted at) = for_wanted at
state_of (state.NamesWanted at) = names_wanted at
state_of state.OneWanted = one_wanted
state_of (state.OneNamed n) = one_named n
state_of (state.OtherWanted n) = other_wanted n
state_of (state.BothNamed n m) = both_named n m
state_of state.Member = member
state_of (state.Labelled l) = labelled l
state_of (state.PastMember m) = past_member (kept_member m)
state_of (state.Among at ns) = among at ns
state_of state.Body = body
state_of state.LoopedBody = looped_body
state_of (state.Condition at) = condition at
state_of state.Guarded = guarded
state_of (state.BodyEnd h b) = body_end (header_of h.value) (kept_body b)
state_of (state.AtSign ds at) = at_sign (kept_decorators ds) at
state_of (state.DecoratorNamed ds at n) = decorator_named (kept_decorators ds) at n
state_of (state.DecoratorSpaced ds at from) = decorator_spaced (kept_decorators ds) at from
state_of (state.DecoratorReady ds at f) = decorator_ready (kept_decorators ds) at f
state_of (state.Decorated ds) = decorated (kept_decorators ds)
state_of (state.PastDecorators ds) = past_decorators (kept_decorators ds)
state_of (state.Declaring ds at w) = declaring (kept_decorators ds) at w
state_of (state.Declared ds at w n) = declared (kept_decorators ds) at w n
state_of (state.Typed ds at w n ty) = typed (kept_decorators ds) at w n ty
state_of (state.Headed h) = headed (header_of h.value)
state_of (state.Existed h) = existed (header_of h.value)
state_of state.Between = between
state_of (state.PastStatement s) = past_statement (kept_statement s)

-- where a token leads, and what is open there
abbrev pub next_of : nexts.Next → List frames.Frame → State × Bool × List Frame
next_of n S = (state_of n.state, n.inside, frames_of S)
