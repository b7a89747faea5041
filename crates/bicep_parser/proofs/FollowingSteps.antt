-- What is read last fits what is open, after each token.
use Rattle.std.proofs.Common.{ℕ, ◌&&◌, List, [], ◌∷◌, Bool, true, false, Option, Some, None, option_and_then}
use Rattle.bicep_tree.specs.declared.leaf.Name.{Name}
use Rattle.bicep_tree.specs.declared.leaf.Label.{Label}
use Rattle.bicep_tree.specs.declared.leaf.Label.TheVariants as label
use Rattle.bicep_tree.specs.declared.leaf.Literal.TheVariants as l
use Rattle.bicep_tree.specs.declared.leaf.Namespace.{Namespace}
use Rattle.bicep_tree.specs.declared.leaf.Access.{Access}
use Rattle.bicep_tree.specs.declared.leaf.Access.TheVariants as a
use Rattle.bicep_tree.specs.declared.leaf.Operator.TheVariants as o
use Rattle.bicep_tree.specs.declared.leaf.LoopNames.{LoopNames}
use Rattle.bicep_tree.specs.declared.terminal.Terminal.{Terminal}
use Rattle.bicep_tree.specs.declared.terminal.Terminal.TheVariants as t
use Rattle.bicep_tree.specs.Tree.{Tree, name, MemberTree, BodyTree}
use Rattle.bicep_tree.specs.Precedence.{level}
use Rattle.bicep_tree.specs.Terminals.{Placed}
use Rattle.bicep_tree.specs.Forms.{is_newline}
use Rattle.bicep_machine.specs.Kept.{Kept, flat, of_access}
use Rattle.bicep_machine.specs.Stack as s
use Rattle.bicep_machine.specs.Stack.{Header, nothing_before, Frame, in_object, valued, assigned, in_names, bodied}
use Rattle.bicep_machine.specs.Stack.{State, wanted, qualifying, qualified, dotted, done, paused, item, for_wanted}
use Rattle.bicep_machine.specs.Stack.{names_wanted, one_wanted, one_named, other_wanted, both_named, member, labelled}
use Rattle.bicep_machine.specs.Stack.{past_member, among, looped_body, condition, guarded, body_end, at_sign}
use Rattle.bicep_machine.specs.Stack.{decorator_named, decorator_spaced, decorator_ready, decorated, past_decorators}
use Rattle.bicep_machine.specs.Stack.{declaring, declared, typed, headed, existed, between, past_statement, Next}
use Rattle.bicep_machine.specs.Closing.{is_for, pair_of, pair_on, over_on, closed, newline_on}
use Rattle.bicep_machine.specs.Machine.{is_in, is_if, is_resource, namespace_of, begun, gone_on, space_on, rejoined}
use Rattle.bicep_machine.specs.Machine.{transition, step}
use Rattle.bicep_parser.proofs.Fitting.{inside, members, decorating, place_of, Fits, Value, Bare, Free, Body, Names}
use Rattle.bicep_parser.proofs.Fitting.{Loop, Stands, Follows}
use Rattle.bicep_parser.proofs.Following.{below, put_follows, body_follows, members_follow, member_follows}
use Rattle.foundation.proofs.Choices.{if_else}
use Rattle.bicep_parser.proofs.Following.{over_follows, pair_follows, item_name_follows, call_follows, parted_follows}
use Rattle.bicep_parser.proofs.Following.{items_follow, operator_follows, question_follows, paren_follows}
use Rattle.bicep_parser.proofs.Following.{bracket_follows, comma_follows, brace_follows, colon_follows}
use Rattle.bicep_parser.proofs.Following.{late_colon_follows, middle_follows, right_follows, line_follows}
use Rattle.bicep_parser.proofs.FollowingDeclarations.{at_sign_follows, decorator_named_follows}
use Rattle.bicep_parser.proofs.FollowingDeclarations.{decorator_spaced_follows, decorator_ready_follows}
use Rattle.bicep_parser.proofs.FollowingDeclarations.{decorated_follows, past_decorators_follows, declaring_follows}
use Rattle.bicep_parser.proofs.FollowingDeclarations.{declared_follows, typed_follows, headed_follows}
use Rattle.bicep_parser.proofs.FollowingDeclarations.{existed_follows, between_follows, past_statement_follows}

-- ---- expressions

begun_follows : (i : Bool) (S : List Frame) (at : ℕ) (y : Terminal) → Value S → Follows (begun i S at y)
begun_follows i S at (t.Name u) h = h
begun_follows i S at (t.Literal v) h = h
begun_follows i S at (t.LeftPiece u) h = (tt, h)
begun_follows i S at t.OpenBrace h = h.1
begun_follows i S at t.OpenBracket h = (tt, h)
begun_follows i S at t.OpenParen h = (tt, h)
begun_follows i S at t.Not h = (tt, h)
begun_follows i S at (t.Operator o.Subtract) h = (tt, h)
begun_follows i S at y h = tt

gone_follows : (e : Kept Tree) (i : Bool) (S : List Frame) (y : Terminal) → Value S → Follows (gone_on 64 e i S y)
gone_follows e i S (t.Access k) h = h
gone_follows e i S t.OpenBracket h = (tt, h)
gone_follows e i S t.SafeBracket h = (tt, h)
gone_follows e i S t.Not h = h
gone_follows e i S (t.Operator q) h = operator_follows i q (closed 64 (level q) e S) (below S (level q) e h)
gone_follows e i S t.Question h = question_follows i (closed 64 1 e S) (below S 1 e h)
gone_follows e i S t.Colon h = colon_follows i (closed 64 0 e S) (below S 0 e h)
gone_follows e i S t.CloseParen h = paren_follows (closed 64 0 e S) (below S 0 e h)
gone_follows e i S t.CloseBracket h = bracket_follows i (closed 64 0 e S) (below S 0 e h)
gone_follows e i S t.Comma h = comma_follows (closed 64 0 e S) (below S 0 e h)
gone_follows e i S t.CloseBrace h = brace_follows (closed 64 0 e S) (below S 0 e h)
gone_follows e i S (t.MiddlePiece u) h = middle_follows i u (closed 64 0 e S) (below S 0 e h)
gone_follows e i S (t.RightPiece u) h = right_follows i u (closed 64 0 e S) (below S 0 e h)
gone_follows e i S t.Newline h = h
gone_follows e i S (t.Name u) h =
    if_else Follows (is_in u) (pair_on (pair_of e.0) S) None (λ y. pair_follows (pair_of e.0) S h) (λ y. tt)
gone_follows e i S y h = tt

wanted_follows : (b i : Bool) (S : List Frame) (at : ℕ) (y : Terminal) → Value S
    → Follows (transition 64 (wanted b) i S at y)
wanted_follows true i S at t.Newline h = h
wanted_follows true i S at y h = begun_follows i S at y h
wanted_follows false i S at y h = begun_follows i S at y h

first_follows : (i : Bool) (S : List Frame) (at : ℕ) (y : Terminal) → Value S → Follows (transition 64 s.first i S at y)
first_follows i S at t.CloseParen h = call_follows S h
first_follows i S at y h = begun_follows i S at y h

space_follows : (r : Option Namespace) (n : Name) (i : Bool) (S : List Frame) → Value S → Follows (space_on 64 r n i S)
space_follows None n i S h = h
space_follows (Some y) n i S h = h

named_follows : (n : Name) (i : Bool) (S : List Frame) (at : ℕ) (y : Terminal) → Value S
    → Follows (transition 64 (s.named n) i S at y)
named_follows n i S at t.OpenParen h = (tt, h)
named_follows n i S at (t.Access a.Member) h = space_follows (namespace_of n.text) n i S h
named_follows n i S at (t.Name u) h = item_name_follows n (record { at = at; text = u }) S h
named_follows n i S at y h = gone_follows (flat (name n)) i S y h

qualifying_follows : (q : Namespace) (n : Name) (i : Bool) (S : List Frame) (at : ℕ) (y : Terminal) → Value S
    → Follows (transition 64 (qualifying q n) i S at y)
qualifying_follows q n i S at (t.Name u) h = h
qualifying_follows q n i S at y h = tt

qualified_follows : (q : Namespace) (n m : Name) (i : Bool) (S : List Frame) (at : ℕ) (y : Terminal) → Value S
    → Follows (transition 64 (qualified q n m) i S at y)
qualified_follows q n m i S at t.OpenParen h = (tt, h)
qualified_follows q n m i S at y h = gone_follows (of_access 64 (flat (name n)) a.Member m) i S y h

dotted_follows : (k : Access) (e : Kept Tree) (i : Bool) (S : List Frame) (at : ℕ) (y : Terminal) → Value S
    → Follows (transition 64 (dotted k e) i S at y)
dotted_follows k e i S at (t.Name u) h = h
dotted_follows k e i S at y h = tt

item_follows : (i : Bool) (S : List Frame) (at : ℕ) (y : Terminal) → Value S → Follows (transition 64 item i S at y)
item_follows i S at t.Newline h = parted_follows S h
item_follows i S at t.Comma h = parted_follows S h
item_follows i S at t.CloseBracket h = items_follow S h
item_follows i S at y h = begun_follows false S at y h

-- ---- members

member_decorates : (S : List Frame) → Fits members S → Fits decorating S
member_decorates [] h = absurd h
member_decorates (in_object at was ms ∷ S) h = h
member_decorates (F ∷ S) h = absurd h

member_state_follows : (i : Bool) (S : List Frame) (at : ℕ) (y : Terminal) → Fits members S
    → Follows (transition 64 member i S at y)
member_state_follows i S at t.Newline h = h
member_state_follows i S at t.Comma h = h
member_state_follows i S at t.CloseBrace h = members_follow S h
member_state_follows i S at t.At h = member_decorates S h
member_state_follows i S at (t.Name u) h = h
member_state_follows i S at (t.Literal (l.Text u)) h = h
member_state_follows i S at y h = tt

labelled_follows : (n : Label) (i : Bool) (S : List Frame) (at : ℕ) (y : Terminal) → Fits members S
    → Follows (transition 64 (labelled n) i S at y)
labelled_follows (label.Name n) i S at t.Colon h = (tt, h)
labelled_follows (label.Quoted q) i S at t.Colon h = (tt, h)
labelled_follows (label.Name n) i S at (t.Name u) h =
    if_else Follows (is_resource n.text) _ None (λ y. (tt, h)) (λ y. tt)
labelled_follows (label.Name n) i S at y h = tt
labelled_follows (label.Quoted q) i S at y h = tt

past_member_follows : (m : Kept MemberTree) (i : Bool) (S : List Frame) (at : ℕ) (y : Terminal) → Fits members S
    → Follows (transition 64 (past_member m) i S at y)
past_member_follows m i S at t.Newline h = put_follows m S h
past_member_follows m i S at t.Comma h = put_follows m S h
past_member_follows m i S at t.CloseBrace h = member_follows m S h
past_member_follows m i S at y h = tt

-- ---- loops and bodies

loop_inside : (S : List Frame) → Loop S → Fits inside S
loop_inside [] h = absurd h
loop_inside (valued n ∷ S) h = h
loop_inside (assigned ds d ∷ S) h = h.1
loop_inside (bodied hd nothing_before ∷ S) h = h
loop_inside (bodied hd f ∷ S) h = absurd h
loop_inside (F ∷ S) h = absurd h

among_follows : (from : ℕ) (ns : LoopNames) (i : Bool) (S : List Frame) (at : ℕ) (y : Terminal) → Loop S
    → Follows (transition 64 (among from ns) i S at y)
among_follows from ns i S at (t.Name u) h =
    if_else Follows (is_in u) (over_on from ns S) None (λ y. over_follows from ns S (loop_inside S h)) (λ y. tt)
among_follows from ns i S at y h = tt

bare_free : (S : List Frame) → Bare S → Free S
bare_free [] h = absurd h
bare_free (bodied hd nothing_before ∷ S) h = (tt, h)
bare_free (bodied hd f ∷ S) h = absurd h
bare_free (F ∷ S) h = absurd h

free_body : (S : List Frame) → Free S → Body S
free_body [] h = absurd h
free_body (bodied hd f ∷ S) h = h.1
free_body (F ∷ S) h = absurd h

body_inside : (S : List Frame) → Body S → Fits inside S
body_inside [] h = absurd h
body_inside (bodied hd f ∷ S) h = h
body_inside (F ∷ S) h = absurd h

bare_loop : (S : List Frame) → Bare S → Loop S
bare_loop [] h = absurd h
bare_loop (bodied hd nothing_before ∷ S) h = h
bare_loop (bodied hd f ∷ S) h = absurd h
bare_loop (F ∷ S) h = absurd h

body_state_follows : (i : Bool) (S : List Frame) (at : ℕ) (y : Terminal) → Bare S
    → Follows (transition 64 s.body i S at y)
body_state_follows i S at t.OpenBrace h = body_inside S (free_body S (bare_free S h))
body_state_follows i S at t.OpenBracket h = h
body_state_follows i S at (t.Name u) h = if_else Follows (is_if u) _ None (λ y. bare_free S h) (λ y. tt)
body_state_follows i S at y h = tt

looped_body_follows : (i : Bool) (S : List Frame) (at : ℕ) (y : Terminal) → Free S
    → Follows (transition 64 looped_body i S at y)
looped_body_follows i S at t.OpenBrace h = body_inside S (free_body S h)
looped_body_follows i S at (t.Name u) h = if_else Follows (is_if u) _ None (λ y. h) (λ y. tt)
looped_body_follows i S at y h = tt

condition_follows : (from : ℕ) (i : Bool) (S : List Frame) (at : ℕ) (y : Terminal) → Free S
    → Follows (transition 64 (condition from) i S at y)
condition_follows from i [] at y h = absurd h
condition_follows from i (bodied hd f ∷ S) at t.OpenParen h = (tt, h)
condition_follows from i (bodied hd f ∷ S) at y h = tt
condition_follows from i (F ∷ S) at y h = absurd h

guarded_follows : (i : Bool) (S : List Frame) (at : ℕ) (y : Terminal) → Body S
    → Follows (transition 64 guarded i S at y)
guarded_follows i S at t.OpenBrace h = body_inside S h
guarded_follows i S at y h = tt

body_end_follows : (hd : Header) (b : Kept BodyTree) (i : Bool) (S : List Frame) (at : ℕ) (y : Terminal)
    → Fits (place_of hd) S → Follows (transition 64 (body_end hd b) i S at y)
body_end_follows hd b i S at t.CloseBracket h = body_follows hd b S h
body_end_follows hd b i S at y h = tt

for_wanted_follows : (from : ℕ) (i : Bool) (S : List Frame) (at : ℕ) (y : Terminal) → Bare S
    → Follows (transition 64 (for_wanted from) i S at y)
for_wanted_follows from i S at (t.Name u) h = if_else Follows (is_for u) _ None (λ y. h) (λ y. tt)
for_wanted_follows from i S at y h = tt

names_wanted_follows : (from : ℕ) (i : Bool) (S : List Frame) (at : ℕ) (y : Terminal) → Bare S
    → Follows (transition 64 (names_wanted from) i S at y)
names_wanted_follows from i S at (t.Name u) h = bare_loop S h
names_wanted_follows from i S at t.OpenParen h = h
names_wanted_follows from i S at y h = tt

both_named_follows : (n m : Name) (i : Bool) (S : List Frame) (at : ℕ) (y : Terminal) → Names S
    → Follows (transition 64 (both_named n m) i S at y)
both_named_follows n m i [] at y h = absurd h
both_named_follows n m i (in_names from ∷ S) at t.CloseParen h = bare_loop S h
both_named_follows n m i (in_names from ∷ S) at y h = tt
both_named_follows n m i (F ∷ S) at y h = absurd h

one_wanted_follows : (i : Bool) (S : List Frame) (at : ℕ) (y : Terminal) → Names S
    → Follows (transition 64 one_wanted i S at y)
one_wanted_follows i S at (t.Name u) h = h
one_wanted_follows i S at y h = tt

one_named_follows : (n : Name) (i : Bool) (S : List Frame) (at : ℕ) (y : Terminal) → Names S
    → Follows (transition 64 (one_named n) i S at y)
one_named_follows n i S at t.Comma h = h
one_named_follows n i S at y h = tt

other_wanted_follows : (n : Name) (i : Bool) (S : List Frame) (at : ℕ) (y : Terminal) → Names S
    → Follows (transition 64 (other_wanted n) i S at y)
other_wanted_follows n i S at (t.Name u) h = h
other_wanted_follows n i S at y h = tt

-- ---- after a newline that ended an expression

rejoined_follows : (n : Next) (at : ℕ) (y : Terminal) → Follows n
    → Follows (option_and_then (λ q. rejoined 64 q at y) n)
rejoined_follows None at y h = tt
rejoined_follows (Some (item, i, S)) at y h = item_follows i S at y h
rejoined_follows (Some (member, i, S)) at y h = member_state_follows i S at y h
rejoined_follows (Some (between, i, S)) at y h = between_follows i S at y h
rejoined_follows (Some q) at y h = tt

paused_follows : (e : Kept Tree) (i : Bool) (S : List Frame) (at : ℕ) (y : Terminal) → Value S
    → Follows (transition 64 (paused e) i S at y)
paused_follows e i S at t.Newline h = h
paused_follows e i S at t.Question h = question_follows false (closed 64 1 e S) (below S 1 e h)
paused_follows e i S at t.Colon h = late_colon_follows (closed 64 0 e S) (below S 0 e h)
paused_follows e i S at y h =
    rejoined_follows (newline_on 64 (closed 64 0 e S)) at y (line_follows (closed 64 0 e S) (below S 0 e h))

-- ---- a step

moved_follows : (st : State) (i : Bool) (S : List Frame) (at : ℕ) (y : Terminal) → Stands st i S
    → Follows (transition 64 st i S at y)
moved_follows (wanted b) i S at y h = wanted_follows b i S at y h
moved_follows s.first i S at y h = first_follows i S at y h
moved_follows (s.named n) i S at y h = named_follows n i S at y h
moved_follows (qualifying q n) i S at y h = qualifying_follows q n i S at y h
moved_follows (qualified q n m) i S at y h = qualified_follows q n m i S at y h
moved_follows (dotted k e) i S at y h = dotted_follows k e i S at y h
moved_follows (done e) i S at y h = gone_follows e i S y h
moved_follows (paused e) i S at y h = paused_follows e i S at y h
moved_follows item i S at y h = item_follows i S at y h
moved_follows (for_wanted from) i S at y h = for_wanted_follows from i S at y h
moved_follows (names_wanted from) i S at y h = names_wanted_follows from i S at y h
moved_follows one_wanted i S at y h = one_wanted_follows i S at y h
moved_follows (one_named n) i S at y h = one_named_follows n i S at y h
moved_follows (other_wanted n) i S at y h = other_wanted_follows n i S at y h
moved_follows (both_named n m) i S at y h = both_named_follows n m i S at y h
moved_follows member i S at y h = member_state_follows i S at y h
moved_follows (labelled n) i S at y h = labelled_follows n i S at y h
moved_follows (past_member m) i S at y h = past_member_follows m i S at y h
moved_follows (among from ns) i S at y h = among_follows from ns i S at y h
moved_follows s.body i S at y h = body_state_follows i S at y h
moved_follows looped_body i S at y h = looped_body_follows i S at y h
moved_follows (condition from) i S at y h = condition_follows from i S at y h
moved_follows guarded i S at y h = guarded_follows i S at y h
moved_follows (body_end hd b) i S at y h = body_end_follows hd b i S at y h
moved_follows (at_sign ds from) i S at y h = at_sign_follows ds from i S at y h
moved_follows (decorator_named ds from n) i S at y h = decorator_named_follows ds from n i S at y h
moved_follows (decorator_spaced ds sign from) i S at y h = decorator_spaced_follows ds sign from i S at y h
moved_follows (decorator_ready ds from g) i S at y h = decorator_ready_follows ds from g i S at y h
moved_follows (decorated ds) i S at y h = decorated_follows ds i S at y h.1
moved_follows (past_decorators ds) i S at y h = past_decorators_follows ds i S at y h
moved_follows (declaring ds from v) i S at y h = declaring_follows ds from v i S at y h
moved_follows (declared ds from v n) i S at y h = declared_follows ds from v n i S at y h.1
moved_follows (typed ds from v n ty) i S at y h = typed_follows ds from v n ty i S at y h.1
moved_follows (headed hd) i S at y h = headed_follows hd i S at y h
moved_follows (existed hd) i S at y h = existed_follows hd i S at y h
moved_follows between i S at y h = between_follows i S at y h
moved_follows (past_statement st) i S at y h = past_statement_follows st i S at y h

-- what was read last fits what is open after each token
pub step_follows : (st : State) (i : Bool) (S : List Frame) (x : Placed) → Stands st i S → Follows (step 64 st i S x)
step_follows st i S (at, y) h = if_else Follows (i && is_newline y) (Some (st, i, S)) (transition 64 st i S at y)
    (λ e. h)
    (λ e. moved_follows st i S at y h)
