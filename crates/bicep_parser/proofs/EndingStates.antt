-- Tokens that end what is open, whatever was read last.
use Rattle.std.proofs.Common.{◌≡◌, ℕ, List, [], ◌∷◌, Bool, true, false, true≢false, Some, None, cond, codes, refl}
use Rattle.std.proofs.Common.{sym, ap, ◌∙◌}
use Rattle.bicep_lexer.specs.declared.kind.TokenKind.TheVariants as k
use Rattle.bicep_tree.specs.declared.leaf.Name.{Name}
use Rattle.bicep_tree.specs.declared.leaf.Namespace.{Namespace}
use Rattle.bicep_tree.specs.declared.leaf.Label.{Label}
use Rattle.bicep_tree.specs.declared.leaf.Label.TheVariants as label
use Rattle.bicep_tree.specs.declared.leaf.LoopNames.{LoopNames}
use Rattle.bicep_tree.specs.declared.leaf.Access.TheVariants as a
use Rattle.bicep_tree.specs.declared.terminal.Terminal.TheVariants as t
use Rattle.bicep_tree.specs.Tree.{Tree, name}
use Rattle.bicep_machine.specs.Kept.{Kept, flat, of_access}
use Rattle.bicep_machine.specs.Stack as s
use Rattle.bicep_machine.specs.Stack.{nothing_before, to_var, to_output, Frame, asked, valued, assigned, over}
use Rattle.bicep_machine.specs.Stack.{body_over, in_names, in_condition, bodied, in_file, State, wanted, qualifying}
use Rattle.bicep_machine.specs.Stack.{qualified, dotted, done, paused, item, for_wanted, names_wanted, one_wanted}
use Rattle.bicep_machine.specs.Stack.{one_named, other_wanted, both_named, member, labelled, past_member, among}
use Rattle.bicep_machine.specs.Stack.{looped_body, condition, guarded, body_end, at_sign, decorator_named}
use Rattle.bicep_machine.specs.Stack.{decorator_spaced, decorator_ready, decorated, past_decorators, declaring}
use Rattle.bicep_machine.specs.Stack.{declared, typed, headed, existed, between, past_statement, Next}
use Rattle.bicep_machine.specs.Closing.{Closed, is_for, over_on, closed}
use Rattle.bicep_machine.specs.Machine.{is_in, with_question}
use Rattle.bicep_parser.proofs.Fitting.{statements, members, Fits, Value, Bare, Free, Body, Names, Loop, Stands}
use Rattle.bicep_parser.proofs.Following.{below}
use Rattle.bicep_parser.proofs.Completing.{x_is, for_is, in_is, colon, paren, brace, Completes, Leads, by_token, to}
use Rattle.bicep_parser.proofs.Completing.{by_word, by_closer, done_ends, named_ends, qualified_ends, x, x_tree}
use Rattle.bicep_parser.proofs.Completing.{wanted_ends, past_statement_ends, past_member_ends}
use Rattle.bicep_parser.proofs.EndingBodies.{body_ends, looped_body_ends, guarded_ends, body_end_ends, headed_ends}
use Rattle.bicep_parser.proofs.EndingBodies.{existed_ends}
use Rattle.bicep_parser.proofs.EndingDeclarations.{typed_ends, declared_ends, declaring_ends, past_decorators_ends}
use Rattle.bicep_parser.proofs.EndingDeclarations.{decorated_ends, decorator_ready_ends, decorator_named_ends}
use Rattle.bicep_parser.proofs.EndingDeclarations.{decorator_spaced_ends, at_sign_ends}
use Rattle.bicep_parser.proofs.EndingFrames.{all_ends}

-- ---- words

in_joins : is_in (codes "in") ≡ true
unfolding is_in
in_joins = refl

for_begins : is_for (codes "for") ≡ true
unfolding is_for
for_begins = refl

-- ---- expressions

value_ends : (b i : Bool) (S : List Frame) → Value S → Completes (wanted b) i S
value_ends b i S h = wanted_ends b i S ((all_ends S).values h x_tree i)

name_ends : (n : Name) (i : Bool) (S : List Frame) → Value S → Completes (s.named n) i S
name_ends n i S h = named_ends n i S ((all_ends S).values h (flat (name n)) i)

tree_ends : (e : Kept Tree) (i : Bool) (S : List Frame) → Value S → Completes (done e) i S
tree_ends e i S h = done_ends e i S ((all_ends S).values h e i)

-- after a newline, an expression is the condition of a conditional
question_leads : (p : Closed) → Value p.1 → Leads (with_question 64 false p)
question_leads (e, S) h = to (wanted true) false (asked e ∷ S) (value_ends true false (asked e ∷ S) (tt, h))

paused_ends : (e : Kept Tree) (i : Bool) (S : List Frame) → Value S → Completes (paused e) i S
paused_ends e i S h = by_token (k.Question, 0, codes "?") t.Question (paused e) i S refl refl
    (question_leads (closed 64 1 e S) (below S 1 e h))

qualified_name_ends : (q : Namespace) (n m : Name) (i : Bool) (S : List Frame) → Value S
    → Completes (qualified q n m) i S
qualified_name_ends q n m i S h =
    qualified_ends q n m i S ((all_ends S).values h (of_access 64 (flat (name n)) a.Member m) i)

-- ---- members

labelled_ends : (n : Label) (i : Bool) (S : List Frame) → Fits members S → Completes (labelled n) i S
labelled_ends (label.Name n) i S h =
    by_closer colon (labelled (label.Name n)) i S
    (to (wanted false) false (valued (label.Name n) ∷ S) (value_ends false false (valued (label.Name n) ∷ S) (tt, h)))
labelled_ends (label.Quoted q) i S h =
    by_closer colon (labelled (label.Quoted q)) i S
    (to (wanted false) false (valued (label.Quoted q) ∷ S)
    (value_ends false false (valued (label.Quoted q) ∷ S) (tt, h)))

-- ---- loops

over_leads : (at : ℕ) (ns : LoopNames) (S : List Frame) → Loop S → Leads (over_on at ns S)
over_leads at ns [] h = absurd h
over_leads at ns (valued n ∷ S) h =
    to (wanted false) false (over at ns ∷ valued n ∷ S) (value_ends false false (over at ns ∷ valued n ∷ S) (tt, h))
over_leads at ns (assigned ds (to_var w n) ∷ S) h =
    to (wanted false) false (over at ns ∷ assigned ds (to_var w n) ∷ S)
    (value_ends false false (over at ns ∷ assigned ds (to_var w n) ∷ S) (tt, h))
over_leads at ns (assigned ds (to_output w n ty) ∷ S) h =
    to (wanted false) false (over at ns ∷ assigned ds (to_output w n ty) ∷ S)
    (value_ends false false (over at ns ∷ assigned ds (to_output w n ty) ∷ S) (tt, h))
over_leads at ns (assigned ds d ∷ S) h = absurd (true≢false (sym h.0))
over_leads at ns (bodied hd nothing_before ∷ S) h =
    to (wanted false) false (body_over at ns hd ∷ S) (value_ends false false (body_over at ns hd ∷ S) (tt, h))
over_leads at ns (bodied hd f ∷ S) h = absurd h
over_leads at ns (F ∷ S) h = absurd h

-- a step that is another
along : {n m : Next} → n ≡ m → Leads m → Leads n
along e l = record { next = l.next; is = e ∙ l.is; completes = l.completes }

among_ends : (at : ℕ) (ns : LoopNames) (i : Bool) (S : List Frame) → Loop S → Completes (among at ns) i S
among_ends at ns i S h =
    by_word (codes "in") (among at ns) i S in_is
    (along (ap (λ b. cond b (over_on at ns S) None) in_joins) (over_leads at ns S h))

bare_loop : (S : List Frame) → Bare S → Loop S
bare_loop [] h = absurd h
bare_loop (bodied hd nothing_before ∷ S) h = h
bare_loop (bodied hd f ∷ S) h = absurd h
bare_loop (F ∷ S) h = absurd h

names_wanted_ends : (at : ℕ) (i : Bool) (S : List Frame) → Bare S → Completes (names_wanted at) i S
names_wanted_ends at i S h =
    by_word (codes "x") (names_wanted at) i S x_is (to _ false S (among_ends at _ false S (bare_loop S h)))

for_wanted_ends : (at : ℕ) (i : Bool) (S : List Frame) → Bare S → Completes (for_wanted at) i S
for_wanted_ends at i S h =
    by_word (codes "for") (for_wanted at) i S for_is
    (along (ap (λ b. cond b (Some (names_wanted at, false, S)) None) for_begins)
    (to (names_wanted at) false S (names_wanted_ends at false S h)))

both_named_ends : (n m : Name) (i : Bool) (S : List Frame) → Names S → Completes (both_named n m) i S
both_named_ends n m i [] h = absurd h
both_named_ends n m i (in_names at ∷ S) h =
    by_closer paren (both_named n m) i (in_names at ∷ S) (to _ false S (among_ends at _ false S (bare_loop S h)))
both_named_ends n m i (F ∷ S) h = absurd h

other_wanted_ends : (n : Name) (i : Bool) (S : List Frame) → Names S → Completes (other_wanted n) i S
other_wanted_ends n i S h = by_word (codes "x") (other_wanted n) i S x_is (to _ true S (both_named_ends n x true S h))

one_named_ends : (n : Name) (i : Bool) (S : List Frame) → Names S → Completes (one_named n) i S
one_named_ends n i S h =
    by_token (k.Comma, 0, codes ",") t.Comma (one_named n) i S refl refl (to _ true S (other_wanted_ends n true S h))

one_wanted_ends : (i : Bool) (S : List Frame) → Names S → Completes one_wanted i S
one_wanted_ends i S h = by_word (codes "x") one_wanted i S x_is (to _ true S (one_named_ends x true S h))

-- ---- bodies

bare_ends : (i : Bool) (S : List Frame) → Bare S → Completes s.body i S
bare_ends i [] h = absurd h
bare_ends i (bodied hd nothing_before ∷ S) h = body_ends hd nothing_before i S (all_ends S) h
bare_ends i (bodied hd f ∷ S) h = absurd h
bare_ends i (F ∷ S) h = absurd h

free_ends : (i : Bool) (S : List Frame) → Free S → Completes looped_body i S
free_ends i [] h = absurd h
free_ends i (bodied hd f ∷ S) h = looped_body_ends hd f i S (all_ends S) h.1
free_ends i (F ∷ S) h = absurd h

condition_ends : (at : ℕ) (i : Bool) (S : List Frame) → Free S → Completes (condition at) i S
condition_ends at i [] h = absurd h
condition_ends at i (bodied hd f ∷ S) h =
    by_token (k.OpenParen, 0, codes "(") t.OpenParen (condition at) i (bodied hd f ∷ S) refl refl
    (to (wanted false) true (in_condition at hd f ∷ S) (value_ends false true (in_condition at hd f ∷ S) (tt, h)))
condition_ends at i (F ∷ S) h = absurd h

object_ends : (i : Bool) (S : List Frame) → Body S → Completes guarded i S
object_ends i [] h = absurd h
object_ends i (bodied hd f ∷ S) h = guarded_ends hd f i S (all_ends S) h
object_ends i (F ∷ S) h = absurd h

-- ---- files

between_ends : (i : Bool) (S : List Frame) → Fits statements S → Completes between i S
between_ends i [] h = absurd h
between_ends i (in_file ss ∷ []) h = record { more = []; kept = ss; reads = refl }
between_ends i (in_file ss ∷ (F ∷ S)) h = absurd h
between_ends i (F ∷ S) h = absurd h

-- whatever was read last, if it fits what is open
pub state_ends : (st : State) (i : Bool) (S : List Frame) → Stands st i S → Completes st i S
state_ends (wanted b) i S h = value_ends b i S h
state_ends s.first i S h = by_word (codes "x") s.first i S x_is (to (s.named x) i S (name_ends x i S h))
state_ends (s.named n) i S h = name_ends n i S h
state_ends (qualifying q n) i S h =
    by_word (codes "x") (qualifying q n) i S x_is (to (qualified q n x) i S (qualified_name_ends q n x i S h))
state_ends (qualified q n m) i S h = qualified_name_ends q n m i S h
state_ends (dotted k e) i S h = by_word (codes "x") (dotted k e) i S x_is (to _ i S (tree_ends _ i S h))
state_ends (done e) i S h = tree_ends e i S h
state_ends (paused e) i S h = paused_ends e i S h
state_ends item i S h = by_word (codes "x") item i S x_is (to (s.named x) false S (name_ends x false S h))
state_ends (for_wanted at) i S h = for_wanted_ends at i S h
state_ends (names_wanted at) i S h = names_wanted_ends at i S h
state_ends one_wanted i S h = one_wanted_ends i S h
state_ends (one_named n) i S h = one_named_ends n i S h
state_ends (other_wanted n) i S h = other_wanted_ends n i S h
state_ends (both_named n m) i S h = both_named_ends n m i S h
state_ends member i S h = by_closer brace member i S ((all_ends S).members_end h)
state_ends (labelled n) i S h = labelled_ends n i S h
state_ends (past_member m) i S h = past_member_ends m i S ((all_ends S).member_ends h m)
state_ends (among at ns) i S h = among_ends at ns i S h
state_ends s.body i S h = bare_ends i S h
state_ends looped_body i S h = free_ends i S h
state_ends (condition at) i S h = condition_ends at i S h
state_ends guarded i S h = object_ends i S h
state_ends (body_end hd b) i S h = body_end_ends hd b i S (all_ends S) h
state_ends (at_sign ds at) i S h = at_sign_ends ds at i S (all_ends S) h
state_ends (decorator_named ds at n) i S h = decorator_named_ends ds at n i S (all_ends S) h
state_ends (decorator_spaced ds at from) i S h = decorator_spaced_ends ds at from i S (all_ends S) h
state_ends (decorator_ready ds at g) i S h = decorator_ready_ends ds at g i S (all_ends S) h
state_ends (decorated ds) true S h = absurd (true≢false h.0)
state_ends (decorated ds) false S h = decorated_ends ds S (all_ends S) h.1
state_ends (past_decorators ds) i S h = past_decorators_ends ds i S (all_ends S) h
state_ends (declaring ds at v) i S h = declaring_ends ds at v i S (all_ends S) h
state_ends (declared ds at v n) i S h = declared_ends ds at v n i S (all_ends S) h.0 h.1
state_ends (typed ds at v n ty) i S h = typed_ends ds at v n ty i S h.0 h.1
state_ends (headed hd) i S h = headed_ends hd i S (all_ends S) h
state_ends (existed hd) i S h = existed_ends hd i S (all_ends S) h
state_ends between i S h = between_ends i S h
state_ends (past_statement st) i S h = past_statement_ends st i S h
