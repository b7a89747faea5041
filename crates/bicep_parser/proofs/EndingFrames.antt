-- Tokens that end what is open, one frame after another.
use Rattle.std.proofs.Common.{◌≡◌, ℕ, nat_le, List, [], ◌∷◌, Bool, true, false, true≢false, Some, cond, refl, sym}
use Rattle.std.proofs.Common.{subst}
use Rattle.bicep_tree.specs.declared.leaf.LoopNames.{LoopNames}
use Rattle.bicep_tree.specs.declared.leaf.Operator.{Operator}
use Rattle.bicep_tree.specs.declared.leaf.Operator.TheVariants as o
use Rattle.bicep_tree.specs.Tree.{Tree, ObjectTree, MemberTree, ValueTree}
use Rattle.bicep_tree.specs.Precedence.{level}
use Rattle.bicep_machine.specs.Kept.{Kept, put, of_prefix, of_binary, of_conditional, of_loop, of_each, of_plain}
use Rattle.bicep_machine.specs.Kept.{of_property, of_members, of_decorator}
use Rattle.bicep_machine.specs.Stack as s
use Rattle.bicep_machine.specs.Stack.{Header, Front, nothing_before, to_var, to_output, Frame, grouping, calling}
use Rattle.bicep_machine.specs.Stack.{indexing, opened, in_array, in_object, in_text, prefixing, left, asked, chosen}
use Rattle.bicep_machine.specs.Stack.{valued, assigned, over, body_over, in_names, looped, in_condition, bodied}
use Rattle.bicep_machine.specs.Stack.{in_file, wanted, done}
use Rattle.bicep_machine.specs.Closing.{of_statement, with_expression, closed, object_on, each_on, members_closed}
use Rattle.bicep_machine.specs.Closing.{member_closed}
use Rattle.bicep_parser.proofs.Fitting.{inside, members, statements, looping, Fits, Value}
use Rattle.bicep_parser.proofs.Completing.{colon, paren, bracket, brace, piece, Leads, Ending, at_end, by, Ends, to}
use Rattle.bicep_parser.proofs.Completing.{done_ends, x_tree, wanted_ends, file_ends, past_statement_ends}
use Rattle.bicep_parser.proofs.Completing.{past_member_ends}
use Rattle.bicep_parser.proofs.EndingBodies.{fronted_leads, guarded_ends, looped_leads}
use Rattle.bicep_parser.proofs.EndingDeclarations.{decorated_ends}

-- an expression that ends in its place
stands : (e : Kept Tree) (i : Bool) (S : List Frame) → Ends S → Value S → Leads (Some (done e, i, S))
stands e i S c h = to (done e) i S (done_ends e i S (c.values h e i))

binds : (q : Operator) → nat_le 0 (level q) ≡ true
binds o.Coalesce = refl
binds o.Or = refl
binds o.And = refl
binds o.Equals = refl
binds o.NotEquals = refl
binds o.EqualsInsensitive = refl
binds o.NotEqualsInsensitive = refl
binds o.Less = refl
binds o.LessOrEqual = refl
binds o.Greater = refl
binds o.GreaterOrEqual = refl
binds o.Add = refl
binds o.Subtract = refl
binds o.Multiply = refl
binds o.Divide = refl
binds o.Remainder = refl

-- ---- expressions

left_ends : (q : Operator) (a e : Kept Tree) (i : Bool) (S : List Frame) → Ends S → Value S
    → Ending (closed 64 0 e (left q a ∷ S)) i
left_ends q a e i S c h = subst (λ b. Ending (cond b (closed 64 0 (of_binary 64 q a e) S) (e, left q a ∷ S)) i)
    (sym (binds q)) (c.values h (of_binary 64 q a e) i)

called_ends : (callee : s.Callee) (was : Bool) (es : Kept (List Tree)) (e : Kept Tree) (i : Bool) (S : List Frame)
    → Ends S → Value (calling callee was es ∷ S) → Ending (e, calling callee was es ∷ S) i
called_ends (s.function g) was es e i S c h = by paren (stands _ was S c h.1)
called_ends (s.decorating ds at g) was es e i S c h =
    by paren (subst (λ b. Leads (Some (s.decorated (put ds (of_decorator at g (put es e))), b, S))) (sym h.1.0)
    (to _ false S (decorated_ends _ S c h.1.1)))

condition_ends : (at : ℕ) (hd : Header) (f : Front) (e : Kept Tree) (i : Bool) (S : List Frame) → Ends S
    → Value (in_condition at hd f ∷ S) → Ending (e, in_condition at hd f ∷ S) i
condition_ends at hd nothing_before e i S c h = by paren (to _ false _ (guarded_ends hd _ false S c h.1.1))
condition_ends at hd (s.a_loop l) e i S c h = by paren (to _ false _ (guarded_ends hd _ false S c h.1.1))
condition_ends at hd f e i S c h = absurd h.1.0

asked_ends : (k e : Kept Tree) (i : Bool) (S : List Frame) → Ends S → Value S → Ending (e, asked k ∷ S) i
asked_ends k e i S c h =
    by colon
    (to (wanted true) i (chosen k e ∷ S)
    (wanted_ends true i (chosen k e ∷ S) (c.values h (of_conditional 64 k e x_tree) i)))

over_ends : (at : ℕ) (ns : LoopNames) (e : Kept Tree) (i : Bool) (S : List Frame) → Ends S → Fits looping S
    → Ending (e, over at ns ∷ S) i
over_ends at ns e i S c h =
    by colon
    (to (wanted false) false (looped (of_loop at ns e) ∷ S)
    (wanted_ends false false (looped (of_loop at ns e) ∷ S)
    (by bracket (c.loops h (of_each 64 (of_loop at ns e) x_tree)))))

assigned_ends : (ds : s.Decorators) (d : s.Assigned) (e : Kept Tree) (i : Bool) (S : List Frame) → Fits statements S
    → Ending (e, assigned ds d ∷ S) i
assigned_ends ds d e i S h = let r = file_ends S h (of_statement ds (with_expression d e)) in at_end r.0 r.1

values_end : (F : Frame) (S : List Frame) → Ends S → Value (F ∷ S) → (e : Kept Tree) (i : Bool)
    → Ending (closed 64 0 e (F ∷ S)) i
values_end (grouping at was) S c h e i = by paren (stands _ was S c h.1)
values_end (calling callee was es) S c h e i = called_ends callee was es e i S c h
values_end (indexing k x) S c h e i = by bracket (stands _ i S c h.1)
values_end (opened at was) S c h e i = by bracket (stands _ was S c h.1)
values_end (in_array at was es) S c h e i = by bracket (stands _ was S c h.1)
values_end (in_object at was ms) S c h e i = absurd h.1
values_end (in_text at head hs) S c h e i = by piece (stands _ i S c h.1)
values_end (prefixing at p) S c h e i = c.values h.1 (of_prefix 64 at p e) i
values_end (left q a) S c h e i = left_ends q a e i S c h.1
values_end (asked k) S c h e i = asked_ends k e i S c h.1
values_end (chosen k a) S c h e i = c.values h.1 (of_conditional 64 k a e) i
values_end (valued l) S c h e i = by brace (c.member_ends h.1 (of_property l (of_plain e)))
values_end (assigned ds d) S c h e i = assigned_ends ds d e i S h.1
values_end (over at ns) S c h e i = over_ends at ns e i S c h.1
values_end (body_over at ns hd) S c h e i = by colon (looped_leads i e at ns hd S c h.1)
values_end (in_names at) S c h e i = absurd h.1
values_end (looped l) S c h e i = by bracket (c.loops h.1 (of_each 64 l e))
values_end (in_condition at hd f) S c h e i = condition_ends at hd f e i S c h
values_end (bodied hd f) S c h e i = absurd h.0
values_end (in_file ss) S c h e i = absurd h.1

-- ---- objects, members and loops

objects_end : (F : Frame) (S : List Frame) → Ends S → Fits inside (F ∷ S) → (i : Bool) (o : Kept ObjectTree)
    → Leads (object_on 64 i o (F ∷ S))
objects_end (bodied hd f) S c h i o = fronted_leads hd f o S c h
objects_end F S c h i o = to _ i (F ∷ S) (done_ends _ i (F ∷ S) (values_end F S c (tt, h) _ i))

members_close : (F : Frame) (S : List Frame) → Ends S → Fits members (F ∷ S) → Leads (members_closed 64 (F ∷ S))
members_close (in_object at was ms) S c h = c.objects h was (of_members 64 at ms)
members_close F S c h = absurd h

member_closes : (F : Frame) (S : List Frame) → Ends S → Fits members (F ∷ S) → (m : Kept MemberTree)
    → Leads (member_closed 64 m (F ∷ S))
member_closes (in_object at was ms) S c h m = c.objects h was (of_members 64 at (put ms m))
member_closes F S c h m = absurd h

loops_end : (F : Frame) (S : List Frame) → Ends S → Fits looping (F ∷ S) → (v : Kept ValueTree)
    → Leads (each_on v (F ∷ S))
loops_end (valued l) S c h v = to _ false S (past_member_ends _ false S (c.member_ends h _))
loops_end (assigned ds (to_var at n)) S c h v = to _ false S (past_statement_ends _ false S h.1)
loops_end (assigned ds (to_output at n ty)) S c h v = to _ false S (past_statement_ends _ false S h.1)
loops_end (assigned ds d) S c h v = absurd (true≢false (sym h.0))
loops_end F S c h v = absurd h

-- ---- all that is open

frame_ends : (F : Frame) (S : List Frame) → Ends S → Ends (F ∷ S)
frame_ends F S c =
    record {
      values = values_end F S c;
      objects = objects_end F S c;
      members_end = members_close F S c;
      member_ends = member_closes F S c;
      loops = loops_end F S c;
    }

none_ends : Ends []
none_ends =
    record {
      values = λ h e i. absurd h.1;
      objects = λ h i o. absurd h;
      members_end = λ h. absurd h;
      member_ends = λ h m. absurd h;
      loops = λ h v. absurd h;
    }

pub all_ends : (S : List Frame) → Ends S
all_ends [] = none_ends
all_ends (F ∷ S) = frame_ends F S (all_ends S)
