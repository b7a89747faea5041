-- What is read last fits what is open, after each token: at the ends of expressions, members and bodies.
use Rattle.std.proofs.Common.{◌≡◌, ℕ, nat_le, List, [], ◌∷◌, Bool, true, false, Option, Some, None, cond, refl}
use Rattle.bicep_tree.specs.declared.leaf.Name.{Name}
use Rattle.bicep_tree.specs.declared.leaf.LoopNames.{LoopNames}
use Rattle.bicep_tree.specs.declared.leaf.LoopNames.TheVariants as ns
use Rattle.bicep_tree.specs.declared.leaf.Operator.{Operator}
use Rattle.bicep_tree.specs.Tree.{Tree, ObjectTree, MemberTree, ValueTree, BodyTree, StatementTree}
use Rattle.bicep_tree.specs.Precedence.{level}
use Rattle.bicep_machine.specs.declared.word.Owner.TheVariants as owner
use Rattle.bicep_machine.specs.Kept.{Kept, of_prefix, of_binary, of_conditional}
use Rattle.bicep_machine.specs.Stack as s
use Rattle.bicep_machine.specs.Stack.{Header, header, Front, nothing_before, a_condition, loop_and_condition, to_var}
use Rattle.bicep_machine.specs.Stack.{to_output, Frame, grouping, calling, indexing, opened, in_array, in_object}
use Rattle.bicep_machine.specs.Stack.{in_text, prefixing, left, asked, chosen, valued, assigned, over, body_over}
use Rattle.bicep_machine.specs.Stack.{looped, in_condition, bodied, in_file}
use Rattle.bicep_machine.specs.Closing.{Closed, filed, member_put, body_on, each_on, over_on, is_for, pair_on}
use Rattle.bicep_machine.specs.Closing.{named_on, item_on, takes_loops, item_parted, closed, fronted, object_on}
use Rattle.bicep_machine.specs.Closing.{members_closed, member_closed, items_closed, call_closed, paren_on}
use Rattle.bicep_machine.specs.Closing.{bracket_on, comma_on, brace_on, colon_on, late_colon_on, middle_on, right_on}
use Rattle.bicep_machine.specs.Closing.{newline_on}
use Rattle.bicep_machine.specs.Machine.{with_operator, with_question}
use Rattle.bicep_parser.proofs.Fitting.{inside, members, statements, looping, place_of, Fits, Value, Follows}
use Rattle.foundation.proofs.Choices.{if_else}

-- what is open below the operators that are closed
pub below : (S : List Frame) (n : ℕ) (e : Kept Tree) → Value S → Value (closed 64 n e S).1
below [] n e h = absurd h.1
below (prefixing at p ∷ S) n e h = below S n (of_prefix 64 at p e) h.1
below (left o a ∷ S) n e h =
    if_else (λ p. Value p.1) (nat_le n (level o)) (closed 64 n (of_binary 64 o a e) S) (e, left o a ∷ S)
    (λ y. below S n (of_binary 64 o a e) h.1) (λ y. h)
below (chosen c a ∷ S) n e h =
    if_else (λ p. Value p.1) (nat_le n 0) (closed 64 n (of_conditional 64 c a e) S) (e, chosen c a ∷ S)
    (λ y. below S n (of_conditional 64 c a e) h.1) (λ y. h)
below (F ∷ S) n e h = h

-- ---- statements, members and bodies

pub filed_follows : (st : Kept StatementTree) (S : List Frame) → Fits statements S → Follows (filed st S)
filed_follows st [] h = tt
filed_follows st (in_file ss ∷ []) h = tt
filed_follows st (in_file ss ∷ (F ∷ S)) h = absurd h
filed_follows st (F ∷ S) h = tt

pub put_follows : (m : Kept MemberTree) (S : List Frame) → Fits members S → Follows (member_put m S)
put_follows m [] h = tt
put_follows m (in_object at was ms ∷ S) h = h
put_follows m (F ∷ S) h = tt

pub body_follows : (hd : Header) (b : Kept BodyTree) (S : List Frame) → Fits (place_of hd) S → Follows (body_on hd b S)
body_follows (header ds at (owner.Resource x) n q) b S h = h
body_follows (header ds at (owner.Child x) n q) b S h = h
body_follows (header ds at owner.Module n q) b S h = h

fronted_follows : (hd : Header) (f : Front) (o : Kept ObjectTree) (S : List Frame) → Fits (place_of hd) S
    → Follows (fronted 64 hd f o S)
fronted_follows hd nothing_before o S h = body_follows hd _ S h
fronted_follows hd (a_condition at c) o S h = body_follows hd _ S h
fronted_follows hd (s.a_loop l) o S h = h
fronted_follows hd (loop_and_condition l at c) o S h = h

object_follows : (i : Bool) (o : Kept ObjectTree) (S : List Frame) → Fits inside S → Follows (object_on 64 i o S)
object_follows i o [] h = absurd h
object_follows i o (bodied hd f ∷ S) h = fronted_follows hd f o S h
object_follows i o (F ∷ S) h = (tt, h)

pub members_follow : (S : List Frame) → Fits members S → Follows (members_closed 64 S)
members_follow [] h = tt
members_follow (in_object at was ms ∷ S) h = object_follows was _ S h
members_follow (F ∷ S) h = tt

pub member_follows : (m : Kept MemberTree) (S : List Frame) → Fits members S → Follows (member_closed 64 m S)
member_follows m [] h = tt
member_follows m (in_object at was ms ∷ S) h = object_follows was _ S h
member_follows m (F ∷ S) h = tt

-- ---- loops

each_follows : (v : Kept ValueTree) (S : List Frame) → Fits looping S → Follows (each_on v S)
each_follows v [] h = tt
each_follows v (valued l ∷ S) h = h
each_follows v (assigned ds (to_var at n) ∷ S) h = h.1
each_follows v (assigned ds (to_output at n ty) ∷ S) h = h.1
each_follows v (assigned ds d ∷ S) h = tt
each_follows v (F ∷ S) h = tt

pub over_follows : (at : ℕ) (ns : LoopNames) (S : List Frame) → Fits inside S → Follows (over_on at ns S)
over_follows at ns [] h = tt
over_follows at ns (valued l ∷ S) h = (tt, h)
over_follows at ns (assigned ds (to_var w n) ∷ S) h = (tt, (refl, h))
over_follows at ns (assigned ds (to_output w n ty) ∷ S) h = (tt, (refl, h))
over_follows at ns (assigned ds d ∷ S) h = tt
over_follows at ns (bodied hd nothing_before ∷ S) h = (tt, h)
over_follows at ns (bodied hd f ∷ S) h = tt
over_follows at ns (F ∷ S) h = tt

pub pair_follows : (r : Option (Name × Name × Name)) (S : List Frame) → Value S → Follows (pair_on r S)
pair_follows None S h = tt
pair_follows (Some p) [] h = tt
pair_follows (Some p) (opened at was ∷ S) h = if_else Follows (is_for p.0.text) (over_on at (ns.Both p.1 p.2) S) None
    (λ y. over_follows at (ns.Both p.1 p.2) S h.1.1) (λ y. tt)
pair_follows (Some p) (F ∷ S) h = tt

named_follows : (at : ℕ) (was : Bool) (n : Name) (S : List Frame) → Value S → Follows (named_on at was n S)
named_follows at was n [] h = tt
named_follows at was n (valued l ∷ S) h = h.1
named_follows at was n (assigned ds d ∷ S) h = if_else Follows (takes_loops d) _ None (λ y. (y, h.1)) (λ y. tt)
named_follows at was n (F ∷ S) h = tt

pub item_name_follows : (w n : Name) (S : List Frame) → Value S → Follows (item_on w n S)
item_name_follows w n [] h = tt
item_name_follows w n (opened at was ∷ S) h =
    if_else Follows (is_for w.text) (named_on at was n S) None (λ y. named_follows at was n S h.1) (λ y. tt)
item_name_follows w n (F ∷ S) h = tt

-- ---- calls and arrays

pub call_follows : (S : List Frame) → Value S → Follows (call_closed 64 S)
call_follows [] h = tt
call_follows (calling (s.function g) was es ∷ S) h = h.1
call_follows (calling (s.decorating ds at g) was es ∷ S) h = h.1
call_follows (F ∷ S) h = tt

pub parted_follows : (S : List Frame) → Value S → Follows (item_parted S)
parted_follows [] h = tt
parted_follows (opened at was ∷ S) h = h
parted_follows (in_array at was es ∷ S) h = h
parted_follows (F ∷ S) h = tt

pub items_follow : (S : List Frame) → Value S → Follows (items_closed 64 S)
items_follow [] h = tt
items_follow (opened at was ∷ S) h = h.1
items_follow (in_array at was es ∷ S) h = h.1
items_follow (F ∷ S) h = tt

-- ---- after an expression whose operators are closed

pub operator_follows : (i : Bool) (o : Operator) (p : Closed) → Value p.1 → Follows (with_operator 64 i o p)
operator_follows i o (e, S) h = (tt, h)

pub question_follows : (i : Bool) (p : Closed) → Value p.1 → Follows (with_question 64 i p)
question_follows i (e, S) h = (tt, h)

guarded_follows : (at : ℕ) (hd : Header) (f : Front) (e : Kept Tree) (S : List Frame)
    → Value (in_condition at hd f ∷ S) → Follows (paren_on 64 (e, in_condition at hd f ∷ S))
guarded_follows at hd nothing_before e S h = h.1.1
guarded_follows at hd (s.a_loop l) e S h = h.1.1
guarded_follows at hd f e S h = tt

pub paren_follows : (p : Closed) → Value p.1 → Follows (paren_on 64 p)
paren_follows (e, []) h = tt
paren_follows (e, grouping at was ∷ S) h = h.1
paren_follows (e, calling (s.function g) was es ∷ S) h = h.1
paren_follows (e, calling (s.decorating ds at g) was es ∷ S) h = h.1
paren_follows (e, in_condition at hd f ∷ S) h = guarded_follows at hd f e S h
paren_follows (e, F ∷ S) h = tt

pub bracket_follows : (i : Bool) (p : Closed) → Value p.1 → Follows (bracket_on 64 i p)
bracket_follows i (e, []) h = tt
bracket_follows i (e, indexing x k ∷ S) h = h.1
bracket_follows i (e, opened at was ∷ S) h = h.1
bracket_follows i (e, in_array at was es ∷ S) h = h.1
bracket_follows i (e, looped l ∷ S) h = each_follows _ S h.1
bracket_follows i (e, F ∷ S) h = tt

pub comma_follows : (p : Closed) → Value p.1 → Follows (comma_on 64 p)
comma_follows (e, []) h = tt
comma_follows (e, calling (s.function g) was es ∷ S) h = h
comma_follows (e, calling (s.decorating ds at g) was es ∷ S) h = h
comma_follows (e, opened at was ∷ S) h = h
comma_follows (e, in_array at was es ∷ S) h = h
comma_follows (e, valued l ∷ S) h = put_follows _ S h.1
comma_follows (e, F ∷ S) h = tt

pub brace_follows : (p : Closed) → Value p.1 → Follows (brace_on 64 p)
brace_follows (e, []) h = tt
brace_follows (e, valued l ∷ S) h = member_follows _ S h.1
brace_follows (e, F ∷ S) h = tt

pub colon_follows : (i : Bool) (p : Closed) → Value p.1 → Follows (colon_on 64 i p)
colon_follows i (e, []) h = tt
colon_follows i (e, asked c ∷ S) h = h
colon_follows i (e, over at ns ∷ S) h = h
colon_follows i (e, body_over at ns hd ∷ S) h = (tt, h.1)
colon_follows i (e, F ∷ S) h = tt

pub late_colon_follows : (p : Closed) → Value p.1 → Follows (late_colon_on 64 p)
late_colon_follows (e, []) h = tt
late_colon_follows (e, asked c ∷ S) h = h
late_colon_follows (e, F ∷ S) h = tt

pub middle_follows : (i : Bool) (u : List ℕ) (p : Closed) → Value p.1 → Follows (middle_on 64 i u p)
middle_follows i u (e, []) h = tt
middle_follows i u (e, in_text at head hs ∷ S) h = h
middle_follows i u (e, F ∷ S) h = tt

pub right_follows : (i : Bool) (u : List ℕ) (p : Closed) → Value p.1 → Follows (right_on 64 i u p)
right_follows i u (e, []) h = tt
right_follows i u (e, in_text at head hs ∷ S) h = h.1
right_follows i u (e, F ∷ S) h = tt

pub line_follows : (p : Closed) → Value p.1 → Follows (newline_on 64 p)
line_follows (e, []) h = tt
line_follows (e, opened at was ∷ S) h = h
line_follows (e, in_array at was es ∷ S) h = h
line_follows (e, valued l ∷ S) h = put_follows _ S h.1
line_follows (e, assigned ds d ∷ S) h = filed_follows _ S h.1
line_follows (e, F ∷ S) h = tt
