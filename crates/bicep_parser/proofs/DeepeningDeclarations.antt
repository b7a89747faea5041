-- What nests too deep stays known after each token: the states of decorators, declarations and files.
use Rattle.std.proofs.Common.{ℕ, ◌<◌, max, List, [], ◌∷◌, Bool, true, false, Option, Some, None, arith}
use Rattle.bicep_tree.specs.declared.leaf.Name.{Name}
use Rattle.bicep_tree.specs.declared.leaf.Literal.TheVariants as l
use Rattle.bicep_tree.specs.declared.leaf.Access.TheVariants as a
use Rattle.bicep_tree.specs.declared.leaf.TypeName.{TypeName}
use Rattle.bicep_tree.specs.declared.leaf.Function.{Function}
use Rattle.bicep_tree.specs.declared.terminal.Terminal.{Terminal}
use Rattle.bicep_tree.specs.declared.terminal.Terminal.TheVariants as t
use Rattle.bicep_tree.specs.Tree.{StatementTree}
use Rattle.bicep_machine.specs.declared.word.Word.{Word}
use Rattle.bicep_machine.specs.declared.word.Word.TheVariants as w
use Rattle.bicep_machine.specs.declared.word.Owner.TheVariants as owner
use Rattle.bicep_machine.specs.Kept.{Kept, empty}
use Rattle.bicep_machine.specs.Stack.{Decorators, Header, header, Frame, in_object, in_file, at_sign, decorator_named}
use Rattle.bicep_machine.specs.Stack.{decorator_spaced, decorator_ready, decorated, past_decorators, declaring}
use Rattle.bicep_machine.specs.Stack.{declared, typed, headed, existed, between, past_statement}
use Rattle.bicep_machine.specs.Machine.{is_sys, is_resource, is_existing, type_of, word_of, word_on, child_on}
use Rattle.bicep_machine.specs.Machine.{decorated_word, type_on, made_existing, existing_on, transition}
use Rattle.bicep_parser.specs.Depth.{header_depth, stack_depth}
use Rattle.foundation.proofs.Choices.{if_else}
use Rattle.bicep_parser.proofs.Deepening.{Keeps, filed_keeps}

-- ---- decorators

pub at_sign_keeps : (ds : Decorators) (from : ℕ) (i : Bool) (S : List Frame) (at : ℕ) (y : Terminal)
    → Keeps (max ds.1 (stack_depth S)) (transition 64 (at_sign ds from) i S at y)
at_sign_keeps ds from i S at (t.Name u) = (tt, λ h. h)
at_sign_keeps ds from i S at y = tt

pub decorator_named_keeps : (ds : Decorators) (from : ℕ) (m : Name) (i : Bool) (S : List Frame) (at : ℕ)
    (y : Terminal) → Keeps (max ds.1 (stack_depth S)) (transition 64 (decorator_named ds from m) i S at y)
decorator_named_keeps ds from m i S at t.OpenParen = (tt, λ h. omega arith)
decorator_named_keeps ds from m i S at (t.Access a.Member) =
    if_else (Keeps (max ds.1 (stack_depth S))) (is_sys m.text) (Some (decorator_spaced ds from m.at, false, S)) None
    (λ y. (tt, λ h. h)) (λ y. tt)
decorator_named_keeps ds from m i S at y = tt

pub decorator_spaced_keeps : (ds : Decorators) (sign from : ℕ) (i : Bool) (S : List Frame) (at : ℕ) (y : Terminal)
    → Keeps (max ds.1 (stack_depth S)) (transition 64 (decorator_spaced ds sign from) i S at y)
decorator_spaced_keeps ds sign from i S at (t.Name u) = (tt, λ h. h)
decorator_spaced_keeps ds sign from i S at y = tt

pub decorator_ready_keeps : (ds : Decorators) (from : ℕ) (f : Function) (i : Bool) (S : List Frame) (at : ℕ)
    (y : Terminal) → Keeps (max ds.1 (stack_depth S)) (transition 64 (decorator_ready ds from f) i S at y)
decorator_ready_keeps ds from f i S at t.OpenParen = (tt, λ h. omega arith)
decorator_ready_keeps ds from f i S at y = tt

pub decorated_keeps : (ds : Decorators) (i : Bool) (S : List Frame) (at : ℕ) (y : Terminal)
    → Keeps (max ds.1 (stack_depth S)) (transition 64 (decorated ds) i S at y)
decorated_keeps ds i S at t.Newline = (tt, λ h. h)
decorated_keeps ds i S at y = tt

-- ---- declarations

word_keeps : (n : ℕ) (ds : Decorators) (at : ℕ) (r : Option Word) (S : List Frame)
    → (64 < n → 64 < max ds.1 (stack_depth S)) → Keeps n (word_on ds at r S)
word_keeps n ds at None S g = tt
word_keeps n ds at (Some v) S g = (tt, g)

child_keeps : (n : ℕ) (ds : Decorators) (at : ℕ) (b : Bool) (S : List Frame)
    → (64 < n → 64 < max ds.1 (stack_depth S)) → Keeps n (child_on ds at b S)
child_keeps n ds at true S g = (tt, g)
child_keeps n ds at false S g = tt

decorated_word_keeps : (ds : Decorators) (at : ℕ) (u : List ℕ) (S : List Frame)
    → Keeps (max ds.1 (stack_depth S)) (decorated_word ds at u S)
decorated_word_keeps ds at u [] = tt
decorated_word_keeps ds at u (in_object o was ms ∷ S) =
    child_keeps _ ds at (is_resource u) (in_object o was ms ∷ S) (λ h. h)
decorated_word_keeps ds at u (in_file ss ∷ S) = word_keeps _ ds at (word_of u) (in_file ss ∷ S) (λ h. h)
decorated_word_keeps ds at u (F ∷ S) = tt

pub past_decorators_keeps : (ds : Decorators) (i : Bool) (S : List Frame) (at : ℕ) (y : Terminal)
    → Keeps (max ds.1 (stack_depth S)) (transition 64 (past_decorators ds) i S at y)
past_decorators_keeps ds i S at t.At = (tt, λ h. h)
past_decorators_keeps ds i S at (t.Name u) = decorated_word_keeps ds at u S
past_decorators_keeps ds i S at y = tt

pub declaring_keeps : (ds : Decorators) (from : ℕ) (v : Word) (i : Bool) (S : List Frame) (at : ℕ) (y : Terminal)
    → Keeps (max ds.1 (stack_depth S)) (transition 64 (declaring ds from v) i S at y)
declaring_keeps ds from w.TargetScope i S at t.Assign = (tt, λ h. omega arith)
declaring_keeps ds from w.TargetScope i S at y = tt
declaring_keeps ds from w.Metadata i S at (t.Name u) = (tt, λ h. h)
declaring_keeps ds from w.Param i S at (t.Name u) = (tt, λ h. h)
declaring_keeps ds from w.Var i S at (t.Name u) = (tt, λ h. h)
declaring_keeps ds from w.Output i S at (t.Name u) = (tt, λ h. h)
declaring_keeps ds from w.Resource i S at (t.Name u) = (tt, λ h. h)
declaring_keeps ds from w.Child i S at (t.Name u) = (tt, λ h. h)
declaring_keeps ds from w.Module i S at (t.Name u) = (tt, λ h. h)
declaring_keeps ds from v i S at y = tt

type_keeps : (ds : Decorators) (from : ℕ) (v : Word) (m : Name) (r : Option TypeName) (S : List Frame)
    → Keeps (max ds.1 (stack_depth S)) (type_on ds from v m r S)
type_keeps ds from v m None S = tt
type_keeps ds from v m (Some ty) S = (tt, λ h. h)

pub declared_keeps : (ds : Decorators) (from : ℕ) (v : Word) (m : Name) (i : Bool) (S : List Frame) (at : ℕ)
    (y : Terminal) → Keeps (max ds.1 (stack_depth S)) (transition 64 (declared ds from v m) i S at y)
declared_keeps ds from w.Metadata m i S at t.Assign = (tt, λ h. omega arith)
declared_keeps ds from w.Var m i S at t.Assign = (tt, λ h. omega arith)
declared_keeps ds from w.Param m i S at (t.Name u) = type_keeps ds from w.Param m (type_of u) S
declared_keeps ds from w.Output m i S at (t.Name u) = type_keeps ds from w.Output m (type_of u) S
declared_keeps ds from w.Resource m i S at (t.Literal (l.Text u)) = (tt, λ h. h)
declared_keeps ds from w.Child m i S at (t.Literal (l.Text u)) = (tt, λ h. h)
declared_keeps ds from w.Module m i S at (t.Literal (l.Text u)) = (tt, λ h. h)
declared_keeps ds from v m i S at y = tt

pub typed_keeps : (ds : Decorators) (from : ℕ) (v : Word) (m : Name) (ty : TypeName) (i : Bool) (S : List Frame)
    (at : ℕ) (y : Terminal) → Keeps (max ds.1 (stack_depth S)) (transition 64 (typed ds from v m ty) i S at y)
typed_keeps ds from w.Param m ty i S at t.Assign = (tt, λ h. omega arith)
typed_keeps ds from w.Param m ty i S at t.Newline = filed_keeps _ _ S (λ h. omega arith)
typed_keeps ds from w.Output m ty i S at t.Assign = (tt, λ h. omega arith)
typed_keeps ds from v m ty i S at y = tt

existing_keeps : (hd : Header) (S : List Frame)
    → Keeps (max (header_depth hd) (stack_depth S)) (existing_on (made_existing hd) S)
existing_keeps (header ds at (owner.Resource x) m q) S = (tt, λ h. h)
existing_keeps (header ds at (owner.Child x) m q) S = (tt, λ h. h)
existing_keeps (header ds at owner.Module m q) S = tt

pub headed_keeps : (hd : Header) (i : Bool) (S : List Frame) (at : ℕ) (y : Terminal)
    → Keeps (max (header_depth hd) (stack_depth S)) (transition 64 (headed hd) i S at y)
headed_keeps hd i S at t.Assign = (tt, λ h. omega arith)
headed_keeps hd i S at (t.Name u) = if_else (Keeps (max (header_depth hd) (stack_depth S))) (is_existing u)
    (existing_on (made_existing hd) S) None (λ y. existing_keeps hd S) (λ y. tt)
headed_keeps hd i S at y = tt

pub existed_keeps : (hd : Header) (i : Bool) (S : List Frame) (at : ℕ) (y : Terminal)
    → Keeps (max (header_depth hd) (stack_depth S)) (transition 64 (existed hd) i S at y)
existed_keeps hd i S at t.Assign = (tt, λ h. omega arith)
existed_keeps hd i S at y = tt

-- ---- files

pub between_keeps : (n : ℕ) (i : Bool) (S : List Frame) (at : ℕ) (y : Terminal) → (64 < n → 64 < stack_depth S)
    → Keeps n (transition 64 between i S at y)
between_keeps n i S at t.Newline g = (tt, λ h. let k = g h in omega arith)
between_keeps n i S at t.At g = (tt, λ h. let k = g h in omega arith)
between_keeps n i S at (t.Name u) g = word_keeps n empty at (word_of u) S (λ h. let k = g h in omega arith)
between_keeps n i S at y g = tt

pub past_statement_keeps : (st : Kept StatementTree) (i : Bool) (S : List Frame) (at : ℕ) (y : Terminal)
    → Keeps (max st.1 (stack_depth S)) (transition 64 (past_statement st) i S at y)
past_statement_keeps st i S at t.Newline = filed_keeps _ st S (λ h. h)
past_statement_keeps st i S at y = tt
