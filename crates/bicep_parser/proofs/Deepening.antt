-- What nests too deep stays known after each token: at the ends of expressions, members and bodies.
use Rattle.std.proofs.Common.{◌≡◌, ℕ, ◌+◌, ◌<◌, max, nat_le, nat_lt, List, [], ◌∷◌, Bool, true, false, Option, Some}
use Rattle.std.proofs.Common.{None, refl, arith}
use Rattle.std.proofs.lemmas.Bool.Decides.{nat_tests}
use Rattle.bicep_tree.specs.declared.leaf.Name.{Name}
use Rattle.bicep_tree.specs.declared.leaf.LoopNames.{LoopNames}
use Rattle.bicep_tree.specs.declared.leaf.LoopNames.TheVariants as ns
use Rattle.bicep_tree.specs.declared.leaf.Operator.{Operator}
use Rattle.bicep_tree.specs.Tree.{Tree, interpolated, array, parentheses, call, index, prefixed, binary, conditional}
use Rattle.bicep_tree.specs.Tree.{ObjectTree, braces, MemberTree, ValueTree, each, BodyTree, body_each, body_each_if}
use Rattle.bicep_tree.specs.Tree.{StatementTree, trees, holes, members}
use Rattle.bicep_tree.specs.Precedence.{level}
use Rattle.bicep_machine.specs.declared.word.Owner.TheVariants as owner
use Rattle.bicep_machine.specs.Kept.{Kept, put, gap, object_gap, value_gap, body_gap, made, of_members, of_each}
use Rattle.bicep_machine.specs.Kept.{of_prefix, of_binary, of_conditional, of_plain, of_property, of_hole}
use Rattle.bicep_machine.specs.Stack as s
use Rattle.bicep_machine.specs.Stack.{Decorators, Callee, Header, header, Front, nothing_before, a_condition}
use Rattle.bicep_machine.specs.Stack.{loop_and_condition, Assigned, to_var, to_output, Frame, grouping, calling}
use Rattle.bicep_machine.specs.Stack.{indexing, opened, in_array, in_object, in_text, prefixing, left, asked, chosen}
use Rattle.bicep_machine.specs.Stack.{valued, assigned, over, body_over, looped, in_condition, bodied, in_file, State}
use Rattle.bicep_machine.specs.Stack.{done, Next}
use Rattle.bicep_machine.specs.Closing.{Closed, of_statement, with_expression, filed, member_put, body_on, each_on}
use Rattle.bicep_machine.specs.Closing.{over_on, is_for, pair_of, pair_on, named_on, holds_loops, item_on}
use Rattle.bicep_machine.specs.Closing.{item_parted, closed, fronted, object_on, members_closed, member_closed}
use Rattle.bicep_machine.specs.Closing.{items_closed, called, call_closed, paren_on, bracket_on, comma_on, brace_on}
use Rattle.bicep_machine.specs.Closing.{colon_on, late_colon_on, middle_on, right_on, newline_on}
use Rattle.bicep_machine.specs.Machine.{with_operator, with_question}
use Rattle.bicep_parser.specs.Depth.{callee_depth, header_depth, front_depth, stack_depth, deepest}
use Rattle.foundation.proofs.Choices.{if_else}

-- an expression that nests too deep is kept as no call
abbrev pub Marked : State → Type 0
Marked (done e) = 64 < e.1 → pair_of e.0 ≡ None
Marked st = Unit {0}

-- where something nested so deep, something is too deep after a step
abbrev pub Keeps : ℕ → Next → Type 0
Keeps n None = Unit {0}
Keeps n (Some q) = Marked q.0 × (64 < n → 64 < deepest q.0 q.2)

-- a composite is too deep where a part is
pub up : {X : Type 0} (lost x : X) (n r : ℕ) → 64 < max n r → 64 < max (made 64 lost x n).1 r
unfolding made
up {X} lost x n r h = if_else {A = Kept X} (λ k. 64 < max k.1 r) (nat_lt n 64) (x, n + 1) (lost, 65) (λ e. omega arith)
    (λ e. omega arith)

no_more : (n : ℕ) → nat_lt n 64 ≡ true → 64 < n + 1 → ⊥
no_more n e h =
    let lt : n < 64 = grind (arith, nat_tests) in
    omega arith

pub gap_marked : (x : Tree) (n : ℕ) → 64 < (made 64 gap x n).1 → pair_of (made 64 gap x n).0 ≡ None
unfolding made
gap_marked x n = if_else {A = Kept Tree} (λ k. 64 < k.1 → pair_of k.0 ≡ None) (nat_lt n 64) (x, n + 1) (gap, 65)
    (λ e h. absurd (no_more n e h)) (λ e h. refl)

-- of an expression, and of what is open around it
abbrev pub closed_depth : Closed → ℕ
closed_depth p = max p.0.1 (stack_depth p.1)

pub closed_keeps : (S : List Frame) (n : ℕ) (e : Kept Tree) → 64 < max e.1 (stack_depth S)
    → 64 < closed_depth (closed 64 n e S)
closed_keeps [] n e h = h
closed_keeps (prefixing at p ∷ S) n e h =
    closed_keeps S n (of_prefix 64 at p e) (up gap (prefixed at p e.0) e.1 (stack_depth S) (omega arith))
closed_keeps (left o a ∷ S) n e h =
    if_else (λ p. 64 < closed_depth p) (nat_le n (level o)) (closed 64 n (of_binary 64 o a e) S) (e, left o a ∷ S)
    (λ y. closed_keeps S n (of_binary 64 o a e)
    (up gap (binary o a.0 e.0) (max a.1 e.1) (stack_depth S) (omega arith))) (λ y. h)
closed_keeps (chosen c a ∷ S) n e h =
    if_else (λ p. 64 < closed_depth p) (nat_le n 0) (closed 64 n (of_conditional 64 c a e) S) (e, chosen c a ∷ S)
    (λ y. closed_keeps S n (of_conditional 64 c a e)
    (up gap (conditional c.0 a.0 e.0) (max c.1 (max a.1 e.1)) (stack_depth S) (omega arith))) (λ y. h)
closed_keeps (F ∷ S) n e h = h

-- ---- statements, members and bodies

pub filed_keeps : (n : ℕ) (st : Kept StatementTree) (S : List Frame) → (64 < n → 64 < max st.1 (stack_depth S))
    → Keeps n (filed st S)
filed_keeps n st [] g = tt
filed_keeps n st (in_file ss ∷ S) g = (tt, λ h. let k = g h in omega arith)
filed_keeps n st (F ∷ S) g = tt

pub put_keeps : (n : ℕ) (m : Kept MemberTree) (S : List Frame) → (64 < n → 64 < max m.1 (stack_depth S))
    → Keeps n (member_put m S)
put_keeps n m [] g = tt
put_keeps n m (in_object at was ms ∷ S) g = (tt, λ h. let k = g h in omega arith)
put_keeps n m (F ∷ S) g = tt

pub body_keeps : (n : ℕ) (hd : Header) (b : Kept BodyTree) (S : List Frame)
    → (64 < n → 64 < max (max (header_depth hd) b.1) (stack_depth S)) → Keeps n (body_on hd b S)
body_keeps n (header ds at (owner.Resource x) m q) b S g = (tt, g)
body_keeps n (header ds at (owner.Child x) m q) b S g = (tt, g)
body_keeps n (header ds at owner.Module m q) b S g = (tt, g)

fronted_keeps : (n : ℕ) (hd : Header) (f : Front) (o : Kept ObjectTree) (S : List Frame)
    → (64 < n → 64 < max o.1 (max (max (header_depth hd) (front_depth f)) (stack_depth S)))
    → Keeps n (fronted 64 hd f o S)
fronted_keeps n hd nothing_before o S g = body_keeps n hd _ S (λ h. let k = g h in omega arith)
fronted_keeps n hd (a_condition at c) o S g = body_keeps n hd _ S (λ h. let k = g h in omega arith)
fronted_keeps n hd (s.a_loop l) o S g = (
  tt,
  λ h. let k = g h in let u =
      up body_gap (body_each l.0 o.0) (max l.1 o.1) (max (header_depth hd) (stack_depth S)) (omega arith) in
      omega arith,
)
fronted_keeps n hd (loop_and_condition l at c) o S g = (
  tt,
  λ h. let k = g h in let u =
      up body_gap (body_each_if l.0 at c.0 o.0) (max l.1 (max c.1 o.1)) (max (header_depth hd) (stack_depth S))
      (omega arith) in omega arith,
)

object_keeps : (n : ℕ) (i : Bool) (o : Kept ObjectTree) (S : List Frame) → (64 < n → 64 < max o.1 (stack_depth S))
    → Keeps n (object_on 64 i o S)
object_keeps n i o [] g = (λ h. refl, g)
object_keeps n i o (bodied hd f ∷ S) g = fronted_keeps n hd f o S g
object_keeps n i o (F ∷ S) g = (λ h. refl, g)

pub members_keep : (n : ℕ) (S : List Frame) → (64 < n → 64 < stack_depth S) → Keeps n (members_closed 64 S)
members_keep n [] g = tt
members_keep n (in_object at was ms ∷ S) g =
    object_keeps n was (of_members 64 at ms) S
    (λ h. up object_gap (braces at (members ms.0)) ms.1 (stack_depth S) (g h))
members_keep n (F ∷ S) g = tt

pub member_keeps : (n : ℕ) (m : Kept MemberTree) (S : List Frame) → (64 < n → 64 < max m.1 (stack_depth S))
    → Keeps n (member_closed 64 m S)
member_keeps n m [] g = tt
member_keeps n m (in_object at was ms ∷ S) g =
    object_keeps n was (of_members 64 at (put ms m)) S (λ h. let k = g h in
    up object_gap (braces at (members (put ms m).0)) (max ms.1 m.1) (stack_depth S) (omega arith))
member_keeps n m (F ∷ S) g = tt

-- ---- loops

each_keeps : (n : ℕ) (v : Kept ValueTree) (S : List Frame) → (64 < n → 64 < max v.1 (stack_depth S))
    → Keeps n (each_on v S)
each_keeps n v [] g = tt
each_keeps n v (valued l ∷ S) g = (tt, λ h. let k = g h in omega arith)
each_keeps n v (assigned ds (to_var at m) ∷ S) g = (tt, λ h. let k = g h in omega arith)
each_keeps n v (assigned ds (to_output at m ty) ∷ S) g = (tt, λ h. let k = g h in omega arith)
each_keeps n v (assigned ds d ∷ S) g = tt
each_keeps n v (F ∷ S) g = tt

pub over_keeps : (n at : ℕ) (ns : LoopNames) (S : List Frame) → (64 < n → 64 < stack_depth S)
    → Keeps n (over_on at ns S)
over_keeps n at ns [] g = tt
over_keeps n at ns (valued l ∷ S) g = (tt, λ h. let k = g h in omega arith)
over_keeps n at ns (assigned ds (to_var w m) ∷ S) g = (tt, λ h. let k = g h in omega arith)
over_keeps n at ns (assigned ds (to_output w m ty) ∷ S) g = (tt, λ h. let k = g h in omega arith)
over_keeps n at ns (assigned ds d ∷ S) g = tt
over_keeps n at ns (bodied hd nothing_before ∷ S) g = (tt, λ h. let k = g h in omega arith)
over_keeps n at ns (bodied hd f ∷ S) g = tt
over_keeps n at ns (F ∷ S) g = tt

-- what is open is too deep, where the pair is not
beside_pair : {A : Type 0} (k d : ℕ) (p : A) → (64 < k → ◌≡◌ {A = Option A} (Some p) None) → 64 < max k d → 64 < d
beside_pair k d p m h = by (nat_lt 64 k) refl
  where
    by : (b : Bool) → nat_lt 64 k ≡ b → 64 < d
    by true e =
        let lt : 64 < k = grind (arith, nat_tests) in
        let none = m lt in
        absurd cc
    by false e = grind (arith, nat_tests)

pub pair_keeps : (n k : ℕ) (r : Option (Name × Name × Name)) (S : List Frame) → (64 < k → r ≡ None)
    → (64 < n → 64 < max k (stack_depth S)) → Keeps n (pair_on r S)
pair_keeps n k None S m g = tt
pair_keeps n k (Some p) [] m g = tt
pair_keeps n k (Some p) (opened at was ∷ S) m g =
    if_else (Keeps n) (is_for p.0.text) (over_on at (ns.Both p.1 p.2) S) None
    (λ y. over_keeps n at (ns.Both p.1 p.2) S (λ h. beside_pair k (stack_depth S) p m (let j = g h in omega arith)))
    (λ y. tt)
pair_keeps n k (Some p) (F ∷ S) m g = tt

named_keeps : (n at : ℕ) (was : Bool) (m : Name) (S : List Frame) → (64 < n → 64 < stack_depth S)
    → Keeps n (named_on at was m S)
named_keeps n at was m [] g = tt
named_keeps n at was m (F ∷ S) g =
    if_else (Keeps n) (holds_loops F) _ None (λ y. (tt, λ h. let k = g h in omega arith)) (λ y. tt)

pub item_name_keeps : (n : ℕ) (w m : Name) (S : List Frame) → (64 < n → 64 < stack_depth S) → Keeps n (item_on w m S)
item_name_keeps n w m [] g = tt
item_name_keeps n w m (opened at was ∷ S) g =
    if_else (Keeps n) (is_for w.text) (named_on at was m S) None
    (λ y. named_keeps n at was m S (λ h. let k = g h in omega arith)) (λ y. tt)
item_name_keeps n w m (F ∷ S) g = tt

-- ---- calls and arrays

callee_keeps : (n : ℕ) (c : Callee) (was : Bool) (es : Kept (List Tree)) (S : List Frame)
    → (64 < n → 64 < max (max (callee_depth c) es.1) (stack_depth S)) → Keeps n (called 64 c was es S)
callee_keeps n (s.function f) was es S g =
    (gap_marked _ es.1, λ h. let k = g h in up gap (call f (trees es.0)) es.1 (stack_depth S) (omega arith))
callee_keeps n (s.decorating ds at f) was es S g = (tt, λ h. let k = g h in omega arith)

pub call_keeps : (n : ℕ) (S : List Frame) → (64 < n → 64 < stack_depth S) → Keeps n (call_closed 64 S)
call_keeps n [] g = tt
call_keeps n (calling c was es ∷ S) g = callee_keeps n c was es S g
call_keeps n (F ∷ S) g = tt

pub parted_keeps : (n : ℕ) (S : List Frame) → (64 < n → 64 < stack_depth S) → Keeps n (item_parted S)
parted_keeps n [] g = tt
parted_keeps n (opened at was ∷ S) g = (tt, λ h. let k = g h in omega arith)
parted_keeps n (in_array at was es ∷ S) g = (tt, λ h. let k = g h in omega arith)
parted_keeps n (F ∷ S) g = tt

pub items_keep : (n : ℕ) (S : List Frame) → (64 < n → 64 < stack_depth S) → Keeps n (items_closed 64 S)
items_keep n [] g = tt
items_keep n (opened at was ∷ S) g =
    (gap_marked _ 0, λ h. let k = g h in up gap (array at (trees [])) 0 (stack_depth S) (omega arith))
items_keep n (in_array at was es ∷ S) g =
    (gap_marked _ es.1, λ h. up gap (array at (trees es.0)) es.1 (stack_depth S) (g h))
items_keep n (F ∷ S) g = tt

-- ---- after an expression whose operators are closed

pub operator_keeps : (n : ℕ) (i : Bool) (o : Operator) (p : Closed) → (64 < n → 64 < closed_depth p)
    → Keeps n (with_operator 64 i o p)
operator_keeps n i o (e, S) g = (tt, λ h. let k = g h in omega arith)

pub question_keeps : (n : ℕ) (i : Bool) (p : Closed) → (64 < n → 64 < closed_depth p) → Keeps n (with_question 64 i p)
question_keeps n i (e, S) g = (tt, λ h. let k = g h in omega arith)

guarded_keeps : (n at : ℕ) (hd : Header) (f : Front) (e : Kept Tree) (S : List Frame)
    → (64 < n → 64 < closed_depth (e, in_condition at hd f ∷ S)) → Keeps n (paren_on 64 (e, in_condition at hd f ∷ S))
guarded_keeps n at hd nothing_before e S g = (tt, λ h. let k = g h in omega arith)
guarded_keeps n at hd (s.a_loop l) e S g = (tt, λ h. let k = g h in omega arith)
guarded_keeps n at hd f e S g = tt

pub paren_keeps : (n : ℕ) (p : Closed) → (64 < n → 64 < closed_depth p) → Keeps n (paren_on 64 p)
paren_keeps n (e, []) g = tt
paren_keeps n (e, grouping at was ∷ S) g =
    (gap_marked _ e.1, λ h. let k = g h in up gap (parentheses at e.0) e.1 (stack_depth S) (omega arith))
paren_keeps n (e, calling c was es ∷ S) g = callee_keeps n c was (put es e) S (λ h. let k = g h in omega arith)
paren_keeps n (e, in_condition at hd f ∷ S) g = guarded_keeps n at hd f e S g
paren_keeps n (e, F ∷ S) g = tt

pub bracket_keeps : (n : ℕ) (i : Bool) (p : Closed) → (64 < n → 64 < closed_depth p) → Keeps n (bracket_on 64 i p)
bracket_keeps n i (e, []) g = tt
bracket_keeps n i (e, indexing x k ∷ S) g = (
  gap_marked _ (max x.1 e.1),
  λ h. let j = g h in
      up gap (index x.0 k e.0) (max x.1 e.1) (stack_depth S) (omega arith),
)
bracket_keeps n i (e, opened at was ∷ S) g = (
  gap_marked _ (max 0 e.1),
  λ h. let j = g h in
      up gap (array at (trees (e.0 ∷ []))) (max 0 e.1) (stack_depth S) (omega arith),
)
bracket_keeps n i (e, in_array at was es ∷ S) g = (
  gap_marked _ (max es.1 e.1),
  λ h. let j = g h in
      up gap (array at (trees (put es e).0)) (max es.1 e.1) (stack_depth S) (omega arith),
)
bracket_keeps n i (e, looped l ∷ S) g =
    each_keeps n (of_each 64 l e) S (λ h. let j = g h in
    up value_gap (each l.0 e.0) (max l.1 e.1) (stack_depth S) (omega arith))
bracket_keeps n i (e, F ∷ S) g = tt

pub comma_keeps : (n : ℕ) (p : Closed) → (64 < n → 64 < closed_depth p) → Keeps n (comma_on 64 p)
comma_keeps n (e, []) g = tt
comma_keeps n (e, calling c was es ∷ S) g = (tt, λ h. let k = g h in omega arith)
comma_keeps n (e, opened at was ∷ S) g = (tt, λ h. let k = g h in omega arith)
comma_keeps n (e, in_array at was es ∷ S) g = (tt, λ h. let k = g h in omega arith)
comma_keeps n (e, valued l ∷ S) g = put_keeps n (of_property l (of_plain e)) S (λ h. let k = g h in omega arith)
comma_keeps n (e, F ∷ S) g = tt

pub brace_keeps : (n : ℕ) (p : Closed) → (64 < n → 64 < closed_depth p) → Keeps n (brace_on 64 p)
brace_keeps n (e, []) g = tt
brace_keeps n (e, valued l ∷ S) g = member_keeps n (of_property l (of_plain e)) S (λ h. let k = g h in omega arith)
brace_keeps n (e, F ∷ S) g = tt

pub colon_keeps : (n : ℕ) (i : Bool) (p : Closed) → (64 < n → 64 < closed_depth p) → Keeps n (colon_on 64 i p)
colon_keeps n i (e, []) g = tt
colon_keeps n i (e, asked c ∷ S) g = (tt, λ h. let k = g h in omega arith)
colon_keeps n i (e, over at ns ∷ S) g = (tt, λ h. let k = g h in omega arith)
colon_keeps n i (e, body_over at ns hd ∷ S) g = (tt, λ h. let k = g h in omega arith)
colon_keeps n i (e, F ∷ S) g = tt

pub late_colon_keeps : (n : ℕ) (p : Closed) → (64 < n → 64 < closed_depth p) → Keeps n (late_colon_on 64 p)
late_colon_keeps n (e, []) g = tt
late_colon_keeps n (e, asked c ∷ S) g = (tt, λ h. let k = g h in omega arith)
late_colon_keeps n (e, F ∷ S) g = tt

pub middle_keeps : (n : ℕ) (i : Bool) (u : List ℕ) (p : Closed) → (64 < n → 64 < closed_depth p)
    → Keeps n (middle_on 64 i u p)
middle_keeps n i u (e, []) g = tt
middle_keeps n i u (e, in_text at head hs ∷ S) g = (tt, λ h. let k = g h in omega arith)
middle_keeps n i u (e, F ∷ S) g = tt

pub right_keeps : (n : ℕ) (i : Bool) (u : List ℕ) (p : Closed) → (64 < n → 64 < closed_depth p)
    → Keeps n (right_on 64 i u p)
right_keeps n i u (e, []) g = tt
right_keeps n i u (e, in_text at head hs ∷ S) g = (
  gap_marked _ (max hs.1 e.1),
  λ h. let k = g h in
      up gap (interpolated at head (holes (put hs (of_hole e u)).0)) (max hs.1 e.1) (stack_depth S) (omega arith),
)
right_keeps n i u (e, F ∷ S) g = tt

-- an expression after `=` is as deep as it is, and so are the decorators before it
pub assigned_deep : (ds : Decorators) (d : Assigned) (e : Kept Tree) (r : ℕ) → 64 < max e.1 (max ds.1 r)
    → 64 < max (of_statement ds (with_expression d e)).1 r
assigned_deep ds (s.to_metadata at m) e r h = omega arith
assigned_deep ds (s.to_scope at) e r h = omega arith
assigned_deep ds (s.to_param at m ty) e r h = omega arith
assigned_deep ds (to_var at m) e r h = omega arith
assigned_deep ds (to_output at m ty) e r h = omega arith

pub line_keeps : (n : ℕ) (p : Closed) → (64 < n → 64 < closed_depth p) → Keeps n (newline_on 64 p)
line_keeps n (e, []) g = tt
line_keeps n (e, opened at was ∷ S) g = (tt, λ h. let k = g h in omega arith)
line_keeps n (e, in_array at was es ∷ S) g = (tt, λ h. let k = g h in omega arith)
line_keeps n (e, valued l ∷ S) g = put_keeps n (of_property l (of_plain e)) S (λ h. let k = g h in omega arith)
line_keeps n (e, assigned ds d ∷ S) g =
    filed_keeps n (of_statement ds (with_expression d e)) S (λ h. assigned_deep ds d e (stack_depth S) (g h))
line_keeps n (e, F ∷ S) g = tt
