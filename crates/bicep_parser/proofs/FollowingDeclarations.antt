-- What is read last fits what is open, after each token: the states of decorators, declarations and files.
use Rattle.std.proofs.Common.{◌≡◌, ℕ, List, [], ◌∷◌, Bool, true, false, Option, Some, None, bytes_eq, codes, refl}
use Rattle.std.proofs.Common.{sym, subst}
use Rattle.bicep_tree.specs.declared.leaf.Name.{Name}
use Rattle.bicep_tree.specs.declared.leaf.Literal.TheVariants as l
use Rattle.bicep_tree.specs.declared.leaf.Access.TheVariants as a
use Rattle.bicep_tree.specs.declared.leaf.TypeName.{TypeName}
use Rattle.bicep_tree.specs.declared.leaf.Function.{Function}
use Rattle.bicep_tree.specs.declared.terminal.Terminal.{Terminal}
use Rattle.bicep_tree.specs.declared.terminal.Terminal.TheVariants as t
use Rattle.bicep_tree.specs.Tree.{StatementTree}
use Rattle.bicep_machine.specs.declared.word.Word.{Word}
use Rattle.bicep_machine.specs.declared.word.Word.TheVariants as w
use Rattle.bicep_machine.specs.declared.word.Owner.TheVariants as owner
use Rattle.bicep_machine.specs.Kept.{Kept, empty}
use Rattle.bicep_machine.specs.Stack.{Decorators, Header, header, Frame, in_object, in_file, at_sign, decorator_named}
use Rattle.bicep_machine.specs.Stack.{decorator_spaced, decorator_ready, decorated, past_decorators, declaring}
use Rattle.bicep_machine.specs.Stack.{declared, typed, headed, existed, between, past_statement}
use Rattle.bicep_machine.specs.Machine.{is_sys, is_resource, is_existing, type_of, word_of, word_on, child_on}
use Rattle.bicep_machine.specs.Machine.{decorated_word, type_on, made_existing, existing_on, transition}
use Rattle.bicep_parser.proofs.Fitting.{members, statements, decorating, place_of, place_at, IsTyped, Fits, Follows}
use Rattle.bicep_parser.proofs.Following.{filed_follows}
use Rattle.foundation.proofs.Choices.{if_else}

-- ---- decorators

pub at_sign_follows : (ds : Decorators) (from : ℕ) (i : Bool) (S : List Frame) (at : ℕ) (y : Terminal)
    → Fits decorating S → Follows (transition 64 (at_sign ds from) i S at y)
at_sign_follows ds from i S at (t.Name u) h = h
at_sign_follows ds from i S at y h = tt

pub decorator_named_follows : (ds : Decorators) (from : ℕ) (n : Name) (i : Bool) (S : List Frame) (at : ℕ)
    (y : Terminal) → Fits decorating S → Follows (transition 64 (decorator_named ds from n) i S at y)
decorator_named_follows ds from n i S at t.OpenParen h = (tt, (refl, h))
decorator_named_follows ds from n i S at (t.Access a.Member) h =
    if_else Follows (is_sys n.text) _ None (λ y. h) (λ y. tt)
decorator_named_follows ds from n i S at y h = tt

pub decorator_spaced_follows : (ds : Decorators) (sign from : ℕ) (i : Bool) (S : List Frame) (at : ℕ) (y : Terminal)
    → Fits decorating S → Follows (transition 64 (decorator_spaced ds sign from) i S at y)
decorator_spaced_follows ds sign from i S at (t.Name u) h = h
decorator_spaced_follows ds sign from i S at y h = tt

pub decorator_ready_follows : (ds : Decorators) (from : ℕ) (g : Function) (i : Bool) (S : List Frame) (at : ℕ)
    (y : Terminal) → Fits decorating S → Follows (transition 64 (decorator_ready ds from g) i S at y)
decorator_ready_follows ds from g i S at t.OpenParen h = (tt, (refl, h))
decorator_ready_follows ds from g i S at y h = tt

pub decorated_follows : (ds : Decorators) (i : Bool) (S : List Frame) (at : ℕ) (y : Terminal) → Fits decorating S
    → Follows (transition 64 (decorated ds) i S at y)
decorated_follows ds i S at t.Newline h = h
decorated_follows ds i S at y h = tt

-- ---- declarations

-- where the declaration of a word of a file is
abbrev InFile : Option Word → Type 0
InFile None = Unit {0}
InFile (Some v) = place_at v ≡ statements

word_place : (u : List ℕ) → InFile (word_of u)
unfolding word_of
word_place u =
    if_else InFile (bytes_eq u (codes "metadata")) _ _ (λ e. refl)
    (λ n1. if_else InFile (bytes_eq u (codes "targetScope")) _ _ (λ e. refl)
    (λ n2. if_else InFile (bytes_eq u (codes "param")) _ _ (λ e. refl)
    (λ n3. if_else InFile (bytes_eq u (codes "var")) _ _ (λ e. refl)
    (λ n4. if_else InFile (bytes_eq u (codes "output")) _ _ (λ e. refl)
    (λ n5. if_else InFile (bytes_eq u (codes "resource")) _ _ (λ e. refl)
    (λ n6. if_else InFile (bytes_eq u (codes "module")) _ _ (λ e. refl) (λ n7. tt)))))))

word_follows : (ds : Decorators) (at : ℕ) (r : Option Word) (S : List Frame) → InFile r → Fits statements S
    → Follows (word_on ds at r S)
word_follows ds at None S e h = tt
word_follows ds at (Some v) S e h = subst (λ p. Fits p S) (sym e) h

child_follows : (ds : Decorators) (at : ℕ) (b : Bool) (S : List Frame) → Fits members S → Follows (child_on ds at b S)
child_follows ds at true S h = h
child_follows ds at false S h = tt

decorated_word_follows : (ds : Decorators) (at : ℕ) (u : List ℕ) (S : List Frame) → Fits decorating S
    → Follows (decorated_word ds at u S)
decorated_word_follows ds at u [] h = tt
decorated_word_follows ds at u (in_object o was ms ∷ S) h =
    child_follows ds at (is_resource u) (in_object o was ms ∷ S) h
decorated_word_follows ds at u (in_file ss ∷ []) h = word_follows ds at (word_of u) (in_file ss ∷ []) (word_place u) h
decorated_word_follows ds at u (in_file ss ∷ (F ∷ S)) h = absurd h
decorated_word_follows ds at u (F ∷ S) h = tt

pub past_decorators_follows : (ds : Decorators) (i : Bool) (S : List Frame) (at : ℕ) (y : Terminal)
    → Fits decorating S → Follows (transition 64 (past_decorators ds) i S at y)
past_decorators_follows ds i S at t.At h = h
past_decorators_follows ds i S at (t.Name u) h = decorated_word_follows ds at u S h
past_decorators_follows ds i S at y h = tt

pub declaring_follows : (ds : Decorators) (from : ℕ) (v : Word) (i : Bool) (S : List Frame) (at : ℕ) (y : Terminal)
    → Fits (place_at v) S → Follows (transition 64 (declaring ds from v) i S at y)
declaring_follows ds from w.TargetScope i S at t.Assign h = (tt, h)
declaring_follows ds from w.TargetScope i S at y h = tt
declaring_follows ds from w.Metadata i S at (t.Name u) h = (tt, h)
declaring_follows ds from w.Param i S at (t.Name u) h = (tt, h)
declaring_follows ds from w.Var i S at (t.Name u) h = (tt, h)
declaring_follows ds from w.Output i S at (t.Name u) h = (tt, h)
declaring_follows ds from w.Resource i S at (t.Name u) h = (tt, h)
declaring_follows ds from w.Child i S at (t.Name u) h = (tt, h)
declaring_follows ds from w.Module i S at (t.Name u) h = (tt, h)
declaring_follows ds from v i S at y h = tt

type_follows : (ds : Decorators) (from : ℕ) (v : Word) (n : Name) (r : Option TypeName) (S : List Frame) → IsTyped v
    → Fits (place_at v) S → Follows (type_on ds from v n r S)
type_follows ds from v n None S g h = tt
type_follows ds from v n (Some ty) S g h = (g, h)

pub declared_follows : (ds : Decorators) (from : ℕ) (v : Word) (n : Name) (i : Bool) (S : List Frame) (at : ℕ)
    (y : Terminal) → Fits (place_at v) S → Follows (transition 64 (declared ds from v n) i S at y)
declared_follows ds from w.Metadata n i S at t.Assign h = (tt, h)
declared_follows ds from w.Var n i S at t.Assign h = (tt, h)
declared_follows ds from w.Param n i S at (t.Name u) h = type_follows ds from w.Param n (type_of u) S tt h
declared_follows ds from w.Output n i S at (t.Name u) h = type_follows ds from w.Output n (type_of u) S tt h
declared_follows ds from w.Resource n i S at (t.Literal (l.Text u)) h = h
declared_follows ds from w.Child n i S at (t.Literal (l.Text u)) h = h
declared_follows ds from w.Module n i S at (t.Literal (l.Text u)) h = h
declared_follows ds from v n i S at y h = tt

pub typed_follows : (ds : Decorators) (from : ℕ) (v : Word) (n : Name) (ty : TypeName) (i : Bool) (S : List Frame)
    (at : ℕ) (y : Terminal) → Fits (place_at v) S → Follows (transition 64 (typed ds from v n ty) i S at y)
typed_follows ds from w.Param n ty i S at t.Assign h = (tt, h)
typed_follows ds from w.Param n ty i S at t.Newline h = filed_follows _ S h
typed_follows ds from w.Output n ty i S at t.Assign h = (tt, h)
typed_follows ds from v n ty i S at y h = tt

existing_follows : (hd : Header) (S : List Frame) → Fits (place_of hd) S → Follows (existing_on (made_existing hd) S)
existing_follows (header ds at (owner.Resource x) n q) S h = h
existing_follows (header ds at (owner.Child x) n q) S h = h
existing_follows (header ds at owner.Module n q) S h = tt

pub headed_follows : (hd : Header) (i : Bool) (S : List Frame) (at : ℕ) (y : Terminal) → Fits (place_of hd) S
    → Follows (transition 64 (headed hd) i S at y)
headed_follows hd i S at t.Assign h = h
headed_follows hd i S at (t.Name u) h = if_else Follows (is_existing u) (existing_on (made_existing hd) S) None
    (λ y. existing_follows hd S h) (λ y. tt)
headed_follows hd i S at y h = tt

pub existed_follows : (hd : Header) (i : Bool) (S : List Frame) (at : ℕ) (y : Terminal) → Fits (place_of hd) S
    → Follows (transition 64 (existed hd) i S at y)
existed_follows hd i S at t.Assign h = h
existed_follows hd i S at y h = tt

-- ---- files

statement_decorates : (S : List Frame) → Fits statements S → Fits decorating S
statement_decorates [] h = absurd h
statement_decorates (in_file ss ∷ []) h = h
statement_decorates (in_file ss ∷ (F ∷ S)) h = absurd h
statement_decorates (F ∷ S) h = absurd h

pub between_follows : (i : Bool) (S : List Frame) (at : ℕ) (y : Terminal) → Fits statements S
    → Follows (transition 64 between i S at y)
between_follows i S at t.Newline h = h
between_follows i S at t.At h = statement_decorates S h
between_follows i S at (t.Name u) h = word_follows empty at (word_of u) S (word_place u) h
between_follows i S at y h = tt

pub past_statement_follows : (st : Kept StatementTree) (i : Bool) (S : List Frame) (at : ℕ) (y : Terminal)
    → Fits statements S
    → Follows (transition 64 (past_statement st) i S at y)
past_statement_follows st i S at t.Newline h = filed_follows st S h
past_statement_follows st i S at y h = tt
