-- What nests too deep stays known after each token.
use Rattle.std.proofs.Common.{◌≡◌, ℕ, ◌<◌, ◌&&◌, max, List, [], ◌∷◌, Bool, true, false, Option, Some, None}
use Rattle.std.proofs.Common.{option_and_then, refl, arith}
use Rattle.bicep_tree.specs.declared.leaf.Name.{Name}
use Rattle.bicep_tree.specs.declared.leaf.Label.{Label}
use Rattle.bicep_tree.specs.declared.leaf.Label.TheVariants as label
use Rattle.bicep_tree.specs.declared.leaf.Literal.TheVariants as l
use Rattle.bicep_tree.specs.declared.leaf.Namespace.{Namespace}
use Rattle.bicep_tree.specs.declared.leaf.Access.{Access}
use Rattle.bicep_tree.specs.declared.leaf.Access.TheVariants as a
use Rattle.bicep_tree.specs.declared.leaf.Operator.TheVariants as o
use Rattle.bicep_tree.specs.declared.leaf.LoopNames.{LoopNames}
use Rattle.bicep_tree.specs.declared.terminal.Terminal.{Terminal}
use Rattle.bicep_tree.specs.declared.terminal.Terminal.TheVariants as t
use Rattle.bicep_tree.specs.Tree.{Tree, name, not_null, access, MemberTree, BodyTree}
use Rattle.bicep_tree.specs.Precedence.{level}
use Rattle.bicep_tree.specs.Terminals.{Placed}
use Rattle.bicep_tree.specs.Forms.{is_newline}
use Rattle.bicep_machine.specs.Kept.{Kept, flat, gap, of_access}
use Rattle.bicep_machine.specs.Stack as s
use Rattle.bicep_machine.specs.Stack.{Header, Frame, in_names, bodied, State, wanted, qualifying, qualified, dotted}
use Rattle.bicep_machine.specs.Stack.{done, paused, item, for_wanted, names_wanted, one_wanted, one_named}
use Rattle.bicep_machine.specs.Stack.{other_wanted, both_named, member, labelled, past_member, among, looped_body}
use Rattle.bicep_machine.specs.Stack.{condition, guarded, body_end, at_sign, decorator_named, decorator_spaced}
use Rattle.bicep_machine.specs.Stack.{decorator_ready, decorated, past_decorators, declaring, declared, typed, headed}
use Rattle.bicep_machine.specs.Stack.{existed, between, past_statement, Next}
use Rattle.bicep_machine.specs.Closing.{is_for, pair_of, pair_on, over_on, closed, newline_on}
use Rattle.bicep_machine.specs.Machine.{is_in, is_if, is_resource, namespace_of, begun, gone_on, space_on, rejoined}
use Rattle.bicep_machine.specs.Machine.{transition, step}
use Rattle.bicep_parser.specs.Depth.{header_depth, stack_depth, deepest}
use Rattle.foundation.proofs.Choices.{if_else}
use Rattle.bicep_parser.proofs.Deepening.{Marked, Keeps, up, gap_marked, closed_keeps, put_keeps, body_keeps}
use Rattle.bicep_parser.proofs.Deepening.{members_keep, member_keeps, over_keeps, pair_keeps, item_name_keeps}
use Rattle.bicep_parser.proofs.Deepening.{call_keeps, parted_keeps, items_keep, operator_keeps, question_keeps}
use Rattle.bicep_parser.proofs.Deepening.{paren_keeps, bracket_keeps, comma_keeps, brace_keeps, colon_keeps}
use Rattle.bicep_parser.proofs.Deepening.{late_colon_keeps, middle_keeps, right_keeps, line_keeps}
use Rattle.bicep_parser.proofs.DeepeningDeclarations.{at_sign_keeps, decorator_named_keeps, decorator_spaced_keeps}
use Rattle.bicep_parser.proofs.DeepeningDeclarations.{decorator_ready_keeps, decorated_keeps, past_decorators_keeps}
use Rattle.bicep_parser.proofs.DeepeningDeclarations.{declaring_keeps, declared_keeps, typed_keeps, headed_keeps}
use Rattle.bicep_parser.proofs.DeepeningDeclarations.{existed_keeps, between_keeps, past_statement_keeps}

-- ---- expressions

begun_keeps : (n : ℕ) (i : Bool) (S : List Frame) (at : ℕ) (y : Terminal) → (64 < n → 64 < stack_depth S)
    → Keeps n (begun i S at y)
begun_keeps n i S at (t.Name u) g = (tt, λ h. let k = g h in omega arith)
begun_keeps n i S at (t.Literal v) g = (λ h. refl, λ h. let k = g h in omega arith)
begun_keeps n i S at (t.LeftPiece u) g = (tt, λ h. let k = g h in omega arith)
begun_keeps n i S at t.OpenBrace g = (tt, λ h. let k = g h in omega arith)
begun_keeps n i S at t.OpenBracket g = (tt, λ h. let k = g h in omega arith)
begun_keeps n i S at t.OpenParen g = (tt, λ h. let k = g h in omega arith)
begun_keeps n i S at t.Not g = (tt, λ h. let k = g h in omega arith)
begun_keeps n i S at (t.Operator o.Subtract) g = (tt, λ h. let k = g h in omega arith)
begun_keeps n i S at y g = tt

gone_keeps : (n : ℕ) (e : Kept Tree) (i : Bool) (S : List Frame) (y : Terminal) → (64 < e.1 → pair_of e.0 ≡ None)
    → (64 < n → 64 < max e.1 (stack_depth S)) → Keeps n (gone_on 64 e i S y)
gone_keeps n e i S (t.Access k) m g = (tt, g)
gone_keeps n e i S t.OpenBracket m g = (tt, λ h. let k = g h in omega arith)
gone_keeps n e i S t.SafeBracket m g = (tt, λ h. let k = g h in omega arith)
gone_keeps n e i S t.Not m g = (gap_marked (not_null e.0) e.1, λ h. up gap (not_null e.0) e.1 (stack_depth S) (g h))
gone_keeps n e i S (t.Operator q) m g =
    operator_keeps n i q (closed 64 (level q) e S) (λ h. closed_keeps S (level q) e (g h))
gone_keeps n e i S t.Question m g = question_keeps n i (closed 64 1 e S) (λ h. closed_keeps S 1 e (g h))
gone_keeps n e i S t.Colon m g = colon_keeps n i (closed 64 0 e S) (λ h. closed_keeps S 0 e (g h))
gone_keeps n e i S t.CloseParen m g = paren_keeps n (closed 64 0 e S) (λ h. closed_keeps S 0 e (g h))
gone_keeps n e i S t.CloseBracket m g = bracket_keeps n i (closed 64 0 e S) (λ h. closed_keeps S 0 e (g h))
gone_keeps n e i S t.Comma m g = comma_keeps n (closed 64 0 e S) (λ h. closed_keeps S 0 e (g h))
gone_keeps n e i S t.CloseBrace m g = brace_keeps n (closed 64 0 e S) (λ h. closed_keeps S 0 e (g h))
gone_keeps n e i S (t.MiddlePiece u) m g = middle_keeps n i u (closed 64 0 e S) (λ h. closed_keeps S 0 e (g h))
gone_keeps n e i S (t.RightPiece u) m g = right_keeps n i u (closed 64 0 e S) (λ h. closed_keeps S 0 e (g h))
gone_keeps n e i S t.Newline m g = (tt, g)
gone_keeps n e i S (t.Name u) m g =
    if_else (Keeps n) (is_in u) (pair_on (pair_of e.0) S) None (λ y. pair_keeps n e.1 (pair_of e.0) S m g) (λ y. tt)
gone_keeps n e i S y m g = tt

wanted_keeps : (n : ℕ) (b i : Bool) (S : List Frame) (at : ℕ) (y : Terminal) → (64 < n → 64 < stack_depth S)
    → Keeps n (transition 64 (wanted b) i S at y)
wanted_keeps n true i S at t.Newline g = (tt, λ h. let k = g h in omega arith)
wanted_keeps n true i S at y g = begun_keeps n i S at y g
wanted_keeps n false i S at y g = begun_keeps n i S at y g

first_keeps : (n : ℕ) (i : Bool) (S : List Frame) (at : ℕ) (y : Terminal) → (64 < n → 64 < stack_depth S)
    → Keeps n (transition 64 s.first i S at y)
first_keeps n i S at t.CloseParen g = call_keeps n S g
first_keeps n i S at y g = begun_keeps n i S at y g

space_keeps : (n : ℕ) (r : Option Namespace) (m : Name) (i : Bool) (S : List Frame) → (64 < n → 64 < stack_depth S)
    → Keeps n (space_on 64 r m i S)
space_keeps n None m i S g = (tt, λ h. let k = g h in omega arith)
space_keeps n (Some y) m i S g = (tt, λ h. let k = g h in omega arith)

named_keeps : (n : ℕ) (m : Name) (i : Bool) (S : List Frame) (at : ℕ) (y : Terminal) → (64 < n → 64 < stack_depth S)
    → Keeps n (transition 64 (s.named m) i S at y)
named_keeps n m i S at t.OpenParen g = (tt, λ h. let k = g h in omega arith)
named_keeps n m i S at (t.Access a.Member) g = space_keeps n (namespace_of m.text) m i S g
named_keeps n m i S at (t.Name u) g = item_name_keeps n m (record { at = at; text = u }) S g
named_keeps n m i S at y g = gone_keeps n (flat (name m)) i S y (λ h. refl) (λ h. let k = g h in omega arith)

qualifying_keeps : (n : ℕ) (q : Namespace) (m : Name) (i : Bool) (S : List Frame) (at : ℕ) (y : Terminal)
    → (64 < n → 64 < stack_depth S) → Keeps n (transition 64 (qualifying q m) i S at y)
qualifying_keeps n q m i S at (t.Name u) g = (tt, λ h. let k = g h in omega arith)
qualifying_keeps n q m i S at y g = tt

qualified_keeps : (n : ℕ) (q : Namespace) (m p : Name) (i : Bool) (S : List Frame) (at : ℕ) (y : Terminal)
    → (64 < n → 64 < stack_depth S) → Keeps n (transition 64 (qualified q m p) i S at y)
qualified_keeps n q m p i S at t.OpenParen g = (tt, λ h. let k = g h in omega arith)
qualified_keeps n q m p i S at y g =
    gone_keeps n (of_access 64 (flat (name m)) a.Member p) i S y (gap_marked (access (name m) a.Member p) 0)
    (λ h. let k = g h in up gap (access (name m) a.Member p) 0 (stack_depth S) (omega arith))

dotted_keeps : (k : Access) (e : Kept Tree) (i : Bool) (S : List Frame) (at : ℕ) (y : Terminal)
    → Keeps (max e.1 (stack_depth S)) (transition 64 (dotted k e) i S at y)
dotted_keeps k e i S at (t.Name u) =
    (gap_marked _ e.1, λ h. up gap (access e.0 k (record { at = at; text = u })) e.1 (stack_depth S) h)
dotted_keeps k e i S at y = tt

item_keeps : (n : ℕ) (i : Bool) (S : List Frame) (at : ℕ) (y : Terminal) → (64 < n → 64 < stack_depth S)
    → Keeps n (transition 64 item i S at y)
item_keeps n i S at t.Newline g = parted_keeps n S g
item_keeps n i S at t.Comma g = parted_keeps n S g
item_keeps n i S at t.CloseBracket g = items_keep n S g
item_keeps n i S at y g = begun_keeps n false S at y g

-- ---- members

member_state_keeps : (n : ℕ) (i : Bool) (S : List Frame) (at : ℕ) (y : Terminal) → (64 < n → 64 < stack_depth S)
    → Keeps n (transition 64 member i S at y)
member_state_keeps n i S at t.Newline g = (tt, λ h. let k = g h in omega arith)
member_state_keeps n i S at t.Comma g = (tt, λ h. let k = g h in omega arith)
member_state_keeps n i S at t.CloseBrace g = members_keep n S g
member_state_keeps n i S at t.At g = (tt, λ h. let k = g h in omega arith)
member_state_keeps n i S at (t.Name u) g = (tt, λ h. let k = g h in omega arith)
member_state_keeps n i S at (t.Literal (l.Text u)) g = (tt, λ h. let k = g h in omega arith)
member_state_keeps n i S at y g = tt

labelled_keeps : (n : ℕ) (b : Label) (i : Bool) (S : List Frame) (at : ℕ) (y : Terminal)
    → (64 < n → 64 < stack_depth S) → Keeps n (transition 64 (labelled b) i S at y)
labelled_keeps n (label.Name m) i S at t.Colon g = (tt, λ h. let k = g h in omega arith)
labelled_keeps n (label.Quoted q) i S at t.Colon g = (tt, λ h. let k = g h in omega arith)
labelled_keeps n (label.Name m) i S at (t.Name u) g =
    if_else (Keeps n) (is_resource m.text) _ None (λ y. (tt, λ h. let k = g h in omega arith)) (λ y. tt)
labelled_keeps n (label.Name m) i S at y g = tt
labelled_keeps n (label.Quoted q) i S at y g = tt

past_member_keeps : (m : Kept MemberTree) (i : Bool) (S : List Frame) (at : ℕ) (y : Terminal)
    → Keeps (max m.1 (stack_depth S)) (transition 64 (past_member m) i S at y)
past_member_keeps m i S at t.Newline = put_keeps _ m S (λ h. h)
past_member_keeps m i S at t.Comma = put_keeps _ m S (λ h. h)
past_member_keeps m i S at t.CloseBrace = member_keeps _ m S (λ h. h)
past_member_keeps m i S at y = tt

-- ---- loops and bodies

among_keeps : (n from : ℕ) (ns : LoopNames) (i : Bool) (S : List Frame) (at : ℕ) (y : Terminal)
    → (64 < n → 64 < stack_depth S) → Keeps n (transition 64 (among from ns) i S at y)
among_keeps n from ns i S at (t.Name u) g =
    if_else (Keeps n) (is_in u) (over_on from ns S) None (λ y. over_keeps n from ns S g) (λ y. tt)
among_keeps n from ns i S at y g = tt

body_state_keeps : (n : ℕ) (i : Bool) (S : List Frame) (at : ℕ) (y : Terminal) → (64 < n → 64 < stack_depth S)
    → Keeps n (transition 64 s.body i S at y)
body_state_keeps n i S at t.OpenBrace g = (tt, λ h. let k = g h in omega arith)
body_state_keeps n i S at t.OpenBracket g = (tt, λ h. let k = g h in omega arith)
body_state_keeps n i S at (t.Name u) g =
    if_else (Keeps n) (is_if u) _ None (λ y. (tt, λ h. let k = g h in omega arith)) (λ y. tt)
body_state_keeps n i S at y g = tt

looped_body_keeps : (n : ℕ) (i : Bool) (S : List Frame) (at : ℕ) (y : Terminal) → (64 < n → 64 < stack_depth S)
    → Keeps n (transition 64 looped_body i S at y)
looped_body_keeps n i S at t.OpenBrace g = (tt, λ h. let k = g h in omega arith)
looped_body_keeps n i S at (t.Name u) g =
    if_else (Keeps n) (is_if u) _ None (λ y. (tt, λ h. let k = g h in omega arith)) (λ y. tt)
looped_body_keeps n i S at y g = tt

condition_keeps : (n from : ℕ) (i : Bool) (S : List Frame) (at : ℕ) (y : Terminal) → (64 < n → 64 < stack_depth S)
    → Keeps n (transition 64 (condition from) i S at y)
condition_keeps n from i [] at y g = tt
condition_keeps n from i (bodied hd f ∷ S) at t.OpenParen g = (tt, λ h. let k = g h in omega arith)
condition_keeps n from i (bodied hd f ∷ S) at y g = tt
condition_keeps n from i (F ∷ S) at y g = tt

guarded_keeps : (n : ℕ) (i : Bool) (S : List Frame) (at : ℕ) (y : Terminal) → (64 < n → 64 < stack_depth S)
    → Keeps n (transition 64 guarded i S at y)
guarded_keeps n i S at t.OpenBrace g = (tt, λ h. let k = g h in omega arith)
guarded_keeps n i S at y g = tt

body_end_keeps : (hd : Header) (b : Kept BodyTree) (i : Bool) (S : List Frame) (at : ℕ) (y : Terminal)
    → Keeps (max (max (header_depth hd) b.1) (stack_depth S)) (transition 64 (body_end hd b) i S at y)
body_end_keeps hd b i S at t.CloseBracket = body_keeps _ hd b S (λ h. h)
body_end_keeps hd b i S at y = tt

for_wanted_keeps : (n from : ℕ) (i : Bool) (S : List Frame) (at : ℕ) (y : Terminal) → (64 < n → 64 < stack_depth S)
    → Keeps n (transition 64 (for_wanted from) i S at y)
for_wanted_keeps n from i S at (t.Name u) g =
    if_else (Keeps n) (is_for u) _ None (λ y. (tt, λ h. let k = g h in omega arith)) (λ y. tt)
for_wanted_keeps n from i S at y g = tt

names_wanted_keeps : (n from : ℕ) (i : Bool) (S : List Frame) (at : ℕ) (y : Terminal) → (64 < n → 64 < stack_depth S)
    → Keeps n (transition 64 (names_wanted from) i S at y)
names_wanted_keeps n from i S at (t.Name u) g = (tt, λ h. let k = g h in omega arith)
names_wanted_keeps n from i S at t.OpenParen g = (tt, λ h. let k = g h in omega arith)
names_wanted_keeps n from i S at y g = tt

both_named_keeps : (n : ℕ) (m p : Name) (i : Bool) (S : List Frame) (at : ℕ) (y : Terminal)
    → (64 < n → 64 < stack_depth S) → Keeps n (transition 64 (both_named m p) i S at y)
both_named_keeps n m p i [] at y g = tt
both_named_keeps n m p i (in_names from ∷ S) at t.CloseParen g = (tt, λ h. let k = g h in omega arith)
both_named_keeps n m p i (in_names from ∷ S) at y g = tt
both_named_keeps n m p i (F ∷ S) at y g = tt

one_wanted_keeps : (n : ℕ) (i : Bool) (S : List Frame) (at : ℕ) (y : Terminal) → (64 < n → 64 < stack_depth S)
    → Keeps n (transition 64 one_wanted i S at y)
one_wanted_keeps n i S at (t.Name u) g = (tt, λ h. let k = g h in omega arith)
one_wanted_keeps n i S at y g = tt

one_named_keeps : (n : ℕ) (m : Name) (i : Bool) (S : List Frame) (at : ℕ) (y : Terminal)
    → (64 < n → 64 < stack_depth S) → Keeps n (transition 64 (one_named m) i S at y)
one_named_keeps n m i S at t.Comma g = (tt, λ h. let k = g h in omega arith)
one_named_keeps n m i S at y g = tt

other_wanted_keeps : (n : ℕ) (m : Name) (i : Bool) (S : List Frame) (at : ℕ) (y : Terminal)
    → (64 < n → 64 < stack_depth S) → Keeps n (transition 64 (other_wanted m) i S at y)
other_wanted_keeps n m i S at (t.Name u) g = (tt, λ h. let k = g h in omega arith)
other_wanted_keeps n m i S at y g = tt

-- ---- after a newline that ended an expression

rejoined_keeps : (n : ℕ) (r : Next) (at : ℕ) (y : Terminal) → Keeps n r
    → Keeps n (option_and_then (λ q. rejoined 64 q at y) r)
rejoined_keeps n None at y k = tt
rejoined_keeps n (Some (item, i, S)) at y k = item_keeps n i S at y (λ h. let j = k.1 h in omega arith)
rejoined_keeps n (Some (member, i, S)) at y k = member_state_keeps n i S at y (λ h. let j = k.1 h in omega arith)
rejoined_keeps n (Some (between, i, S)) at y k = between_keeps n i S at y (λ h. let j = k.1 h in omega arith)
rejoined_keeps n (Some q) at y k = tt

paused_keeps : (n : ℕ) (e : Kept Tree) (i : Bool) (S : List Frame) (at : ℕ) (y : Terminal)
    → (64 < n → 64 < max e.1 (stack_depth S)) → Keeps n (transition 64 (paused e) i S at y)
paused_keeps n e i S at t.Newline g = (tt, g)
paused_keeps n e i S at t.Question g = question_keeps n false (closed 64 1 e S) (λ h. closed_keeps S 1 e (g h))
paused_keeps n e i S at t.Colon g = late_colon_keeps n (closed 64 0 e S) (λ h. closed_keeps S 0 e (g h))
paused_keeps n e i S at y g =
    rejoined_keeps n (newline_on 64 (closed 64 0 e S)) at y
    (line_keeps n (closed 64 0 e S) (λ h. closed_keeps S 0 e (g h)))

-- ---- a step

moved_keeps : (st : State) (i : Bool) (S : List Frame) (at : ℕ) (y : Terminal) → Marked st
    → Keeps (deepest st S) (transition 64 st i S at y)
moved_keeps (wanted b) i S at y m = wanted_keeps _ b i S at y (λ h. omega arith)
moved_keeps s.first i S at y m = first_keeps _ i S at y (λ h. omega arith)
moved_keeps (s.named n) i S at y m = named_keeps _ n i S at y (λ h. omega arith)
moved_keeps (qualifying q n) i S at y m = qualifying_keeps _ q n i S at y (λ h. omega arith)
moved_keeps (qualified q n p) i S at y m = qualified_keeps _ q n p i S at y (λ h. omega arith)
moved_keeps (dotted k e) i S at y m = dotted_keeps k e i S at y
moved_keeps (done e) i S at y m = gone_keeps _ e i S y m (λ h. h)
moved_keeps (paused e) i S at y m = paused_keeps _ e i S at y (λ h. h)
moved_keeps item i S at y m = item_keeps _ i S at y (λ h. omega arith)
moved_keeps (for_wanted from) i S at y m = for_wanted_keeps _ from i S at y (λ h. omega arith)
moved_keeps (names_wanted from) i S at y m = names_wanted_keeps _ from i S at y (λ h. omega arith)
moved_keeps one_wanted i S at y m = one_wanted_keeps _ i S at y (λ h. omega arith)
moved_keeps (one_named n) i S at y m = one_named_keeps _ n i S at y (λ h. omega arith)
moved_keeps (other_wanted n) i S at y m = other_wanted_keeps _ n i S at y (λ h. omega arith)
moved_keeps (both_named n p) i S at y m = both_named_keeps _ n p i S at y (λ h. omega arith)
moved_keeps member i S at y m = member_state_keeps _ i S at y (λ h. omega arith)
moved_keeps (labelled n) i S at y m = labelled_keeps _ n i S at y (λ h. omega arith)
moved_keeps (past_member e) i S at y m = past_member_keeps e i S at y
moved_keeps (among from ns) i S at y m = among_keeps _ from ns i S at y (λ h. omega arith)
moved_keeps s.body i S at y m = body_state_keeps _ i S at y (λ h. omega arith)
moved_keeps looped_body i S at y m = looped_body_keeps _ i S at y (λ h. omega arith)
moved_keeps (condition from) i S at y m = condition_keeps _ from i S at y (λ h. omega arith)
moved_keeps guarded i S at y m = guarded_keeps _ i S at y (λ h. omega arith)
moved_keeps (body_end hd b) i S at y m = body_end_keeps hd b i S at y
moved_keeps (at_sign ds from) i S at y m = at_sign_keeps ds from i S at y
moved_keeps (decorator_named ds from n) i S at y m = decorator_named_keeps ds from n i S at y
moved_keeps (decorator_spaced ds sign from) i S at y m = decorator_spaced_keeps ds sign from i S at y
moved_keeps (decorator_ready ds from f) i S at y m = decorator_ready_keeps ds from f i S at y
moved_keeps (decorated ds) i S at y m = decorated_keeps ds i S at y
moved_keeps (past_decorators ds) i S at y m = past_decorators_keeps ds i S at y
moved_keeps (declaring ds from v) i S at y m = declaring_keeps ds from v i S at y
moved_keeps (declared ds from v n) i S at y m = declared_keeps ds from v n i S at y
moved_keeps (typed ds from v n ty) i S at y m = typed_keeps ds from v n ty i S at y
moved_keeps (headed hd) i S at y m = headed_keeps hd i S at y
moved_keeps (existed hd) i S at y m = existed_keeps hd i S at y
moved_keeps between i S at y m = between_keeps _ i S at y (λ h. omega arith)
moved_keeps (past_statement st) i S at y m = past_statement_keeps st i S at y

-- what nests too deep stays known after each token
pub step_keeps : (st : State) (i : Bool) (S : List Frame) (x : Placed) → Marked st
    → Keeps (deepest st S) (step 64 st i S x)
step_keeps st i S (at, y) m =
    if_else (Keeps (deepest st S)) (i && is_newline y) (Some (st, i, S)) (transition 64 st i S at y) (λ e. (m, λ h. h))
    (λ e. moved_keeps st i S at y m)
