-- Reading, one token after another, with the open calls and brackets on a stack, whatever is made of what is read.
use Rattle.std.specs.Prelude.{ℕ, ℤ, nat_le, List, [], ◌∷◌, ◌++◌, Option, Some, None, option_map, option_and_then}
use Rattle.std.specs.Prelude.{if◌then◌else◌}
use Rattle.arm_expr.specs.Tree.{Tree, text, int, call, member, index, trees, nesting, deepest}
use Rattle.arm_expr.specs.Tokens.{Token, a_text, an_int, a_name, open_paren, close_paren, open_bracket, close_bracket}
use Rattle.arm_expr.specs.Tokens.{comma, dot}

-- what is made of each form of expression (A), and of the arguments of a call so far (B)
pub record Makes (A B : Type 0) : Type 0 where
  pub of_text : List ℕ → A
  pub of_int : ℤ → A
  pub no_arguments : B
  pub with_argument : B → A → B
  pub of_call : List ℕ → B → A
  pub of_member : A → List ℕ → A
  pub of_index : A → A → A

-- what is open: a call with its arguments so far, or an expression and `[`
pub data Frame (A B : Type 0) : Type 0 where
  calling : List ℕ → B → Frame A B
  indexing : A → Frame A B

pub data State (A : Type 0) : Type 0 where
  -- an expression is to come
  wanted : State A
  -- a name, which `(` is to follow
  named : List ℕ → State A
  -- a name and `(`, which an argument or `)` is to follow
  opened : List ℕ → State A
  done : A → State A
  -- an expression and `.`, which a name is to follow
  dotted : A → State A

module _ (A B : Type 0) (m : Makes A B) where
  -- the last argument ends, and so does the call
  abbrev pub closed : A → List (Frame A B) → Option (State A × List (Frame A B))
  closed e [] = None
  closed e (calling name es ∷ S) = Some (done (m.of_call name (m.with_argument es e)), S)
  closed e (indexing b ∷ S) = None

  -- an argument ends
  abbrev pub separated : A → List (Frame A B) → Option (State A × List (Frame A B))
  separated e [] = None
  separated e (calling name es ∷ S) = Some (wanted, calling name (m.with_argument es e) ∷ S)
  separated e (indexing b ∷ S) = None

  -- an index ends
  abbrev pub indexed : A → List (Frame A B) → Option (State A × List (Frame A B))
  indexed e [] = None
  indexed e (calling name es ∷ S) = None
  indexed e (indexing b ∷ S) = Some (done (m.of_index b e), S)

  -- an expression begins
  abbrev pub begun : List (Frame A B) → Token → Option (State A × List (Frame A B))
  begun S (a_text s) = Some (done (m.of_text s), S)
  begun S (an_int z) = Some (done (m.of_int z), S)
  begun S (a_name name) = Some (named name, S)
  begun S _ = None

  -- an expression goes on or ends
  abbrev pub gone_on : A → List (Frame A B) → Token → Option (State A × List (Frame A B))
  gone_on e S dot = Some (dotted e, S)
  gone_on e S open_bracket = Some (wanted, indexing e ∷ S)
  gone_on e S close_bracket = indexed e S
  gone_on e S close_paren = closed e S
  gone_on e S comma = separated e S
  gone_on e S _ = None

  -- the first argument begins, or there is none
  abbrev pub first_begun : List ℕ → List (Frame A B) → Token → Option (State A × List (Frame A B))
  first_begun name S close_paren = Some (done (m.of_call name m.no_arguments), S)
  first_begun name S t = begun (calling name m.no_arguments ∷ S) t

  abbrev pub step : State A → List (Frame A B) → Token → Option (State A × List (Frame A B))
  step wanted S t = begun S t
  step (named name) S open_paren = Some (opened name, S)
  step (named name) S _ = None
  step (opened name) S t = first_begun name S t
  step (done e) S t = gone_on e S t
  step (dotted e) S (a_name name) = Some (done (m.of_member e name), S)
  step (dotted e) S _ = None

  -- nothing is open at the end
  abbrev pub finished : State A → List (Frame A B) → Option A
  finished (done e) [] = Some e
  finished _ _ = None

  abbrev pub run : State A → List (Frame A B) → List Token → Option A
  run s S [] = finished s S
  run s S (t ∷ ts) = option_and_then (λ p. run p.0 p.1 ts) (step s S t)

  abbrev pub parsed : List Token → Option A
  parsed ts = run wanted [] ts

-- the tree that nests within the limit, and no tree in place of a deeper one
abbrev pub kept : ℕ → Tree → Option Tree
kept limit e = if nat_le (nesting e) limit then Some e else None

-- the arguments, where all nest within the limit
abbrev pub all_kept : ℕ → List Tree → Option (List Tree)
all_kept limit es = if nat_le (deepest (trees es)) limit then Some es else None

-- whole trees
abbrev pub as_tree : Makes Tree (List Tree)
as_tree = record {
  of_text = text;
  of_int = int;
  no_arguments = [];
  with_argument = λ es e. es ++ e ∷ [];
  of_call = λ name es. call name (trees es);
  of_member = member;
  of_index = index;
}

-- trees that nest within the limit
abbrev pub as_kept : ℕ → Makes (Option Tree) (Option (List Tree))
as_kept limit = record {
  of_text = λ s. Some (text s);
  of_int = λ z. Some (int z);
  no_arguments = Some [];
  with_argument = λ o p. option_and_then (λ es. option_map (λ e. es ++ e ∷ []) p) o;
  of_call = λ name o. option_and_then (λ es. kept limit (call name (trees es))) o;
  of_member = λ o name. option_and_then (λ e. kept limit (member e name)) o;
  of_index = λ o p. option_and_then (λ b. option_and_then (λ e. kept limit (index b e)) p) o;
}
