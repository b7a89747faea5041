-- What a file keeps is at hand, before or after a token with which the next statement begins.
use Rattle.std.proofs.Common.{◌≡◌, ℕ, ◌≤◌, max, List, [], ◌∷◌, Bool, false, Option, Some, None, option_and_then}
use Rattle.std.proofs.Common.{subst, arith}
use Rattle.bicep_tree.specs.declared.leaf.Name.{Name}
use Rattle.bicep_tree.specs.declared.leaf.Access.TheVariants as a
use Rattle.bicep_tree.specs.declared.terminal.Terminal.{Terminal}
use Rattle.bicep_tree.specs.declared.terminal.Terminal.TheVariants as t
use Rattle.bicep_tree.specs.Tree.{Tree, name, param, StatementTree, FileTree}
use Rattle.bicep_machine.specs.declared.word.Word.{Word}
use Rattle.bicep_machine.specs.declared.word.Word.TheVariants as w
use Rattle.bicep_machine.specs.Kept.{Kept, flat, put, empty, of_access}
use Rattle.bicep_machine.specs.Stack as s
use Rattle.bicep_machine.specs.Stack.{Frame, opened, assigned, in_file, State, qualified, done, paused, typed}
use Rattle.bicep_machine.specs.Stack.{between, past_statement, at_sign, declaring}
use Rattle.bicep_machine.specs.Closing.{Closed, of_statement, with_expression, pair_of, pair_on, item_on, closed}
use Rattle.bicep_machine.specs.Closing.{newline_on}
use Rattle.bicep_machine.specs.Machine.{is_in, word_of, word_on, gone_on, rejoined, transition, ended, ended_by}
use Rattle.bicep_machine.specs.Machine.{ended_between, finished}
use Rattle.bicep_parser.specs.Depth.{top_depth, at_hand}
use Rattle.bicep_parser.specs.Refused.{BeginsAStatement}
use Rattle.foundation.proofs.Choices.{if_else}

-- what is kept of a file
abbrev File : Type 0
File = Kept FileTree

ended_low : (st : Kept StatementTree) (S : List Frame) (k : File) → ended 64 st S ≡ Some k
    → k.1 ≤ max st.1 (top_depth S)
ended_low st [] k e = absurd cc
ended_low st (in_file ss ∷ []) k e =
    let same : put ss st ≡ k = cc in
    subst (λ x. x.1 ≤ max st.1 ss.1) same (omega arith)
ended_low st (in_file ss ∷ (F ∷ S)) k e = absurd cc
ended_low st (F ∷ S) k e = absurd cc

between_low : (S : List Frame) (k : File) → ended_between 64 S ≡ Some k → k.1 ≤ top_depth S
between_low [] k e = absurd cc
between_low (in_file ss ∷ []) k e =
    let same : ss ≡ k = cc in
    subst (λ x. x.1 ≤ ss.1) same (omega arith)
between_low (in_file ss ∷ (F ∷ S)) k e = absurd cc
between_low (F ∷ S) k e = absurd cc

-- after a name that two names in parentheses may be, an array is open, in which no file ends
no_pair : (r : Option (Name × Name × Name)) (S : List Frame) (e : Kept Tree) (q : State × Bool × List Frame)
    (k : File) → pair_on r S ≡ Some q → ended_by 64 (closed 64 0 e S) ≡ Some k → ⊥
no_pair None S e q k h g = absurd cc
no_pair (Some p) [] e q k h g = absurd cc
no_pair (Some p) (opened at was ∷ S) e q k h g = absurd cc
no_pair (Some p) (F ∷ S) e q k h g = absurd cc

no_name : (u : List ℕ) (e : Kept Tree) (i : Bool) (S : List Frame) (q : State × Bool × List Frame) (k : File)
    → gone_on 64 e i S (t.Name u) ≡ Some q → ended_by 64 (closed 64 0 e S) ≡ Some k → ⊥
no_name u e i S q k = if_else (λ n. n ≡ Some q → ended_by 64 (closed 64 0 e S) ≡ Some k → ⊥) (is_in u)
    (pair_on (pair_of e.0) S) None (λ y h g. no_pair (pair_of e.0) S e q k h g) (λ y h g. absurd cc)

-- likewise after `for` and a name
no_item : (n m : Name) (S : List Frame) (e : Kept Tree) (q : State × Bool × List Frame) (k : File)
    → item_on n m S ≡ Some q → ended_by 64 (closed 64 0 e S) ≡ Some k → ⊥
no_item n m [] e q k h g = absurd cc
no_item n m (opened at was ∷ S) e q k h g = absurd cc
no_item n m (F ∷ S) e q k h g = absurd cc

-- a word begins a statement, and the file stays open
word_low : (at : ℕ) (r : Option Word) (S : List Frame) (q : State × Bool × List Frame) → word_on empty at r S ≡ Some q
    → top_depth S ≤ at_hand q.0 q.2
word_low at None S q e = absurd cc
word_low at (Some v) S q e =
    let same : (declaring empty at v, false, S) ≡ q = cc in
    subst (λ x. top_depth S ≤ at_hand x.0 x.2) same (omega arith)

opens_low : (S : List Frame) (at : ℕ) (y : Terminal) (q : State × Bool × List Frame) → BeginsAStatement y
    → rejoined 64 (between, false, S) at y ≡ Some q → top_depth S ≤ at_hand q.0 q.2
opens_low S at (t.Name u) q o e = word_low at (word_of u) S q e
opens_low S at t.At q o e =
    let same : (at_sign empty at, false, S) ≡ q = cc in
    subst (λ x. top_depth S ≤ at_hand x.0 x.2) same (omega arith)
opens_low S at y q o e = absurd o

-- after a newline that ended an expression
line_low : (p : Closed) (at : ℕ) (y : Terminal) (q : State × Bool × List Frame) (k : File) → BeginsAStatement y
    → option_and_then (λ r. rejoined 64 r at y) (newline_on 64 p) ≡ Some q → ended_by 64 p ≡ Some k
    → k.1 ≤ at_hand q.0 q.2
line_low (e, []) at y q k o h g = absurd cc
line_low (e, assigned ds d ∷ []) at y q k o h g = absurd cc
line_low (e, assigned ds d ∷ (in_file ss ∷ [])) at y q k o h g =
    let same : put ss (of_statement ds (with_expression d e)) ≡ k = cc in
    subst (λ x. x.1 ≤ at_hand q.0 q.2) same
    (opens_low (in_file (put ss (of_statement ds (with_expression d e))) ∷ []) at y q o h)
line_low (e, assigned ds d ∷ (in_file ss ∷ (F ∷ S))) at y q k o h g = absurd cc
line_low (e, assigned ds d ∷ (F ∷ S)) at y q k o h g = absurd cc
line_low (e, F ∷ S) at y q k o h g = absurd cc

paused_low : (e : Kept Tree) (i : Bool) (S : List Frame) (at : ℕ) (y : Terminal) (q : State × Bool × List Frame)
    (k : File) → BeginsAStatement y → transition 64 (paused e) i S at y ≡ Some q
    → ended_by 64 (closed 64 0 e S) ≡ Some k
    → k.1 ≤ at_hand q.0 q.2
paused_low e i S at (t.Name u) q k o h g = line_low (closed 64 0 e S) at (t.Name u) q k o h g
paused_low e i S at t.At q k o h g = line_low (closed 64 0 e S) at t.At q k o h g
paused_low e i S at y q k o h g = absurd o

no_more : (e : Kept Tree) (i : Bool) (S : List Frame) (y : Terminal) (q : State × Bool × List Frame) (k : File)
    → BeginsAStatement y → gone_on 64 e i S y ≡ Some q → ended_by 64 (closed 64 0 e S) ≡ Some k → ⊥
no_more e i S (t.Name u) q k o h g = no_name u e i S q k h g
no_more e i S t.At q k o h g = absurd cc
no_more e i S y q k o h g = absurd o

named_ends_not : (n : Name) (i : Bool) (S : List Frame) (at : ℕ) (y : Terminal) (q : State × Bool × List Frame)
    (k : File) → BeginsAStatement y → transition 64 (s.named n) i S at y ≡ Some q
    → ended_by 64 (closed 64 0 (flat (name n)) S) ≡ Some k → ⊥
named_ends_not n i S at (t.Name u) q k o h g = no_item n _ S (flat (name n)) q k h g
named_ends_not n i S at t.At q k o h g = absurd cc
named_ends_not n i S at y q k o h g = absurd o

typed_low : (ds : s.Decorators) (from : ℕ) (v : Word) (n : Name) (ty : _) (S : List Frame) (k : File)
    → finished 64 (typed ds from v n ty) S ≡ Some k → k.1 ≤ at_hand (typed ds from v n ty) S
typed_low ds from w.Param n ty S k e = let le = ended_low (of_statement ds (flat (param from n ty))) S k e in
    omega arith
typed_low ds from v n ty S k e = absurd cc

-- what the file before keeps
pub kept_low : (st : State) (i : Bool) (S : List Frame) (at : ℕ) (y : Terminal) (q : State × Bool × List Frame)
    (k : File) → BeginsAStatement y → finished 64 st S ≡ Some k → transition 64 st i S at y ≡ Some q
    → k.1 ≤ max (at_hand st S) (at_hand q.0 q.2)
kept_low between i S at y q k o e m = let le = between_low S k e in omega arith
kept_low (past_statement st) i S at y q k o e m = let le = ended_low st S k e in omega arith
kept_low (typed ds from v n ty) i S at y q k o e m = let le = typed_low ds from v n ty S k e in omega arith
kept_low (s.named n) i S at y q k o e m = absurd (named_ends_not n i S at y q k o m e)
kept_low (qualified x n p) i S at (t.Name u) q k o e m =
    absurd (no_name u (of_access 64 (flat (name n)) a.Member p) i S q k m e)
kept_low (qualified x n p) i S at t.At q k o e m = absurd cc
kept_low (qualified x n p) i S at y q k o e m = absurd o
kept_low (done f) i S at y q k o e m = absurd (no_more f i S y q k o m e)
kept_low (paused f) i S at y q k o e m = let le = paused_low f i S at y q k o m e in omega arith
kept_low st i S at y q k o e m = absurd cc
