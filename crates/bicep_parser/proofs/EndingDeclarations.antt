-- Tokens that end a declaration, and the decorators before it.
use Rattle.std.proofs.Common.{◌≡◌, ℕ, List, [], ◌∷◌, Bool, true, false, Some, codes, refl, ap}
use Rattle.bicep_lexer.specs.declared.kind.TokenKind.TheVariants as k
use Rattle.bicep_tree.specs.declared.leaf.Name.{Name}
use Rattle.bicep_tree.specs.declared.leaf.Function.{Function}
use Rattle.bicep_tree.specs.declared.leaf.Function.TheVariants as f
use Rattle.bicep_tree.specs.declared.leaf.TypeName.{TypeName}
use Rattle.bicep_tree.specs.declared.leaf.TypeName.TheVariants as type
use Rattle.bicep_tree.specs.declared.terminal.Terminal.TheVariants as t
use Rattle.bicep_machine.specs.declared.word.Word.{Word}
use Rattle.bicep_machine.specs.declared.word.Word.TheVariants as w
use Rattle.bicep_machine.specs.Kept.{empty}
use Rattle.bicep_machine.specs.Stack as s
use Rattle.bicep_machine.specs.Stack.{Decorators, Assigned, to_scope, Frame, calling, in_object, assigned, in_file}
use Rattle.bicep_machine.specs.Stack.{State, wanted, at_sign, decorator_named, decorator_spaced, decorator_ready}
use Rattle.bicep_machine.specs.Stack.{decorated, past_decorators, declaring, declared, typed}
use Rattle.bicep_machine.specs.Closing.{of_statement, with_expression}
use Rattle.bicep_machine.specs.Machine.{is_resource, type_of, word_of, word_on, child_on, type_on}
use Rattle.bicep_parser.proofs.Fitting.{statements, decorating, place_at, IsNamed, IsTyped, Fits}
use Rattle.bicep_parser.proofs.Completing.{x_is, var_is, resource_is, string_is, paren, Completes, Leads, at_end}
use Rattle.bicep_parser.proofs.Completing.{Ends, by_token, to, by_word, by_closer, x, x_tree, wanted_ends, file_ends}
use Rattle.bicep_parser.proofs.EndingBodies.{headed_ends}

-- ---- words

resource_begins : is_resource (codes "resource") ≡ true
unfolding is_resource
resource_begins = refl

var_begins : word_of (codes "var") ≡ Some w.Var
unfolding word_of
var_begins = refl

string_names : type_of (codes "string") ≡ Some type.String
unfolding type_of
string_names = refl

-- a step that is another, which is known
along : {n : s.Next} {st : State} {i : Bool} {S : List Frame} → n ≡ Some (st, i, S) → Completes st i S → Leads n
along {st} {i} {S} e c = record { next = (st, i, S); is = e; completes = c }

-- ---- declarations

-- the expression of a declaration
pub assigned_ends : (ds : Decorators) (d : Assigned) (S : List Frame) → Fits statements S
    → Completes (wanted false) false (assigned ds d ∷ S)
assigned_ends ds d S h = let e = file_ends S h (of_statement ds (with_expression d x_tree)) in
    wanted_ends false false (assigned ds d ∷ S) (at_end e.0 e.1)

pub typed_ends : (ds : Decorators) (from : ℕ) (v : Word) (n : Name) (ty : TypeName) (i : Bool) (S : List Frame)
    → IsTyped v → Fits (place_at v) S → Completes (typed ds from v n ty) i S
typed_ends ds from w.Param n ty i S g h =
    by_token (k.Assign, 0, codes "=") t.Assign (typed ds from w.Param n ty) i S refl refl
    (to (wanted false) false _ (assigned_ends ds _ S h))
typed_ends ds from w.Output n ty i S g h =
    by_token (k.Assign, 0, codes "=") t.Assign (typed ds from w.Output n ty) i S refl refl
    (to (wanted false) false _ (assigned_ends ds _ S h))
typed_ends ds from v n ty i S g h = absurd g

pub declared_ends : (ds : Decorators) (from : ℕ) (v : Word) (n : Name) (i : Bool) (S : List Frame) → Ends S
    → IsNamed v → Fits (place_at v) S → Completes (declared ds from v n) i S
declared_ends ds from w.Metadata n i S c g h =
    by_token (k.Assign, 0, codes "=") t.Assign (declared ds from w.Metadata n) i S refl refl
    (to (wanted false) false _ (assigned_ends ds _ S h))
declared_ends ds from w.Var n i S c g h =
    by_token (k.Assign, 0, codes "=") t.Assign (declared ds from w.Var n) i S refl refl
    (to (wanted false) false _ (assigned_ends ds _ S h))
declared_ends ds from w.Param n i S c g h =
    by_word (codes "string") (declared ds from w.Param n) i S string_is
    (along (ap (λ r. type_on ds from w.Param n r S) string_names)
    (typed_ends ds from w.Param n type.String false S tt h))
declared_ends ds from w.Output n i S c g h =
    by_word (codes "string") (declared ds from w.Output n) i S string_is
    (along (ap (λ r. type_on ds from w.Output n r S) string_names)
    (typed_ends ds from w.Output n type.String false S tt h))
declared_ends ds from w.Resource n i S c g h =
    by_token (k.Text, 0, codes "''") _ (declared ds from w.Resource n) i S refl refl
    (to _ false S (headed_ends _ false S c h))
declared_ends ds from w.Child n i S c g h =
    by_token (k.Text, 0, codes "''") _ (declared ds from w.Child n) i S refl refl
    (to _ false S (headed_ends _ false S c h))
declared_ends ds from w.Module n i S c g h =
    by_token (k.Text, 0, codes "''") _ (declared ds from w.Module n) i S refl refl
    (to _ false S (headed_ends _ false S c h))
declared_ends ds from w.TargetScope n i S c g h = absurd g

pub declaring_ends : (ds : Decorators) (from : ℕ) (v : Word) (i : Bool) (S : List Frame) → Ends S
    → Fits (place_at v) S → Completes (declaring ds from v) i S
declaring_ends ds from w.TargetScope i S c h =
    by_token (k.Assign, 0, codes "=") t.Assign (declaring ds from w.TargetScope) i S refl refl
    (to (wanted false) false _ (assigned_ends ds (to_scope from) S h))
declaring_ends ds from w.Metadata i S c h =
    by_word (codes "x") (declaring ds from w.Metadata) i S x_is
    (to _ false S (declared_ends ds from w.Metadata x false S c tt h))
declaring_ends ds from w.Param i S c h =
    by_word (codes "x") (declaring ds from w.Param) i S x_is
    (to _ false S (declared_ends ds from w.Param x false S c tt h))
declaring_ends ds from w.Var i S c h =
    by_word (codes "x") (declaring ds from w.Var) i S x_is
    (to _ false S (declared_ends ds from w.Var x false S c tt h))
declaring_ends ds from w.Output i S c h =
    by_word (codes "x") (declaring ds from w.Output) i S x_is
    (to _ false S (declared_ends ds from w.Output x false S c tt h))
declaring_ends ds from w.Resource i S c h =
    by_word (codes "x") (declaring ds from w.Resource) i S x_is
    (to _ false S (declared_ends ds from w.Resource x false S c tt h))
declaring_ends ds from w.Child i S c h =
    by_word (codes "x") (declaring ds from w.Child) i S x_is
    (to _ false S (declared_ends ds from w.Child x false S c tt h))
declaring_ends ds from w.Module i S c h =
    by_word (codes "x") (declaring ds from w.Module) i S x_is
    (to _ false S (declared_ends ds from w.Module x false S c tt h))

-- ---- decorators

-- what they stand before: a resource in an object, a variable in a file
pub past_decorators_ends : (ds : Decorators) (i : Bool) (S : List Frame) → Ends S → Fits decorating S
    → Completes (past_decorators ds) i S
past_decorators_ends ds i [] c h = absurd h
past_decorators_ends ds i (in_object at was ms ∷ S) c h =
    by_word (codes "resource") (past_decorators ds) i (in_object at was ms ∷ S) resource_is
    (along (ap (λ b. child_on ds 0 b (in_object at was ms ∷ S)) resource_begins)
    (declaring_ends ds 0 w.Child false (in_object at was ms ∷ S) c h))
past_decorators_ends ds i (in_file ss ∷ []) c h =
    by_word (codes "var") (past_decorators ds) i (in_file ss ∷ []) var_is
    (along (ap (λ r. word_on ds 0 r (in_file ss ∷ [])) var_begins)
    (declaring_ends ds 0 w.Var false (in_file ss ∷ []) c h))
past_decorators_ends ds i (in_file ss ∷ (F ∷ S)) c h = absurd h
past_decorators_ends ds i (F ∷ S) c h = absurd h

-- a newline after decorators
pub decorated_ends : (ds : Decorators) (S : List Frame) → Ends S → Fits decorating S → Completes (decorated ds) false S
decorated_ends ds S c h =
    let p = past_decorators_ends ds false S c h in
    record { more = (k.Newline, 0, codes "\n") ∷ p.more; kept = p.kept; reads = p.reads }

-- a decorator without arguments
first_ends : (ds : Decorators) (sign : ℕ) (g : Function) (S : List Frame) → Ends S → Fits decorating S
    → Completes s.first true (calling (s.decorating ds sign g) false empty ∷ S)
first_ends ds sign g S c h = by_closer paren s.first true _ (to _ false S (decorated_ends _ S c h))

pub decorator_ready_ends : (ds : Decorators) (sign : ℕ) (g : Function) (i : Bool) (S : List Frame) → Ends S
    → Fits decorating S → Completes (decorator_ready ds sign g) i S
decorator_ready_ends ds sign g i S c h =
    by_token (k.OpenParen, 0, codes "(") t.OpenParen (decorator_ready ds sign g) i S refl refl
    (to s.first true _ (first_ends ds sign g S c h))

pub decorator_named_ends : (ds : Decorators) (sign : ℕ) (n : Name) (i : Bool) (S : List Frame) → Ends S
    → Fits decorating S → Completes (decorator_named ds sign n) i S
decorator_named_ends ds sign n i S c h =
    by_token (k.OpenParen, 0, codes "(") t.OpenParen (decorator_named ds sign n) i S refl refl
    (to s.first true _ (first_ends ds sign (f.Plain n) S c h))

pub decorator_spaced_ends : (ds : Decorators) (sign from : ℕ) (i : Bool) (S : List Frame) → Ends S → Fits decorating S
    → Completes (decorator_spaced ds sign from) i S
decorator_spaced_ends ds sign from i S c h =
    by_word (codes "x") (decorator_spaced ds sign from) i S x_is
    (to _ false S (decorator_ready_ends ds sign _ false S c h))

pub at_sign_ends : (ds : Decorators) (sign : ℕ) (i : Bool) (S : List Frame) → Ends S → Fits decorating S
    → Completes (at_sign ds sign) i S
at_sign_ends ds sign i S c h =
    by_word (codes "x") (at_sign ds sign) i S x_is (to _ false S (decorator_named_ends ds sign x false S c h))
