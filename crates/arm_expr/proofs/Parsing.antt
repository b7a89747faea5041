-- The machine that makes whole trees reads what is spelled, and nothing else.
use Rattle.std.proofs.Common.{◌≡◌, ℕ, List, [], ◌∷◌, ◌++◌, Option, Some, None, option_and_then, refl, ap, sym, ◌∙◌}
use Rattle.arm_expr.specs.Tree.{Tree, text, int, call, member, index, Trees, none, more, trees}
use Rattle.arm_expr.specs.Tokens.{Token, a_text, an_int, a_name, open_paren, close_paren, open_bracket, close_bracket}
use Rattle.arm_expr.specs.Tokens.{comma, dot}
use Rattle.arm_expr.specs.Machine as machine
use Rattle.arm_expr.specs.Machine.{Frame, calling, indexing, State, wanted, named, opened, done, dotted, as_tree}
use Rattle.arm_expr.proofs.Words.{spelled, arguments_spelled, further_spelled}

abbrev Frames : Type 0
Frames = List (Frame Tree (List Tree))

abbrev Next : Type 0
Next = Option (State Tree × Frames)

abbrev run : State Tree → Frames → List Token → Option Tree
run = machine.run Tree (List Tree) as_tree

abbrev step : State Tree → Frames → Token → Next
step = machine.step Tree (List Tree) as_tree

-- the arguments after those in a list
abbrev followed_by : List Tree → Trees → Trees
followed_by [] ts = ts
followed_by (e ∷ es) ts = more e (followed_by es ts)

followed_by-trees : (es : List Tree) (e : Tree) → trees (es ++ e ∷ []) ≡ followed_by es (more e none)
followed_by-trees [] e = refl
followed_by-trees (x ∷ es) e = ap (more x) (followed_by-trees es e)

followed_by-more : (es : List Tree) (e : Tree) (ts : Trees) → followed_by (es ++ e ∷ []) ts ≡ followed_by es (more e ts)
followed_by-more [] e ts = refl
followed_by-more (x ∷ es) e ts = ap (more x) (followed_by-more es e ts)

-- what follows `name(` is read as it is after the call's first expression
opened_first : (e : Tree) (name : List ℕ) (S : Frames) (k : List Token)
    → run (opened name) S (spelled e k) ≡ run wanted (calling name [] ∷ S) (spelled e k)
opened_first (text s) name S k = refl
opened_first (int z) name S k = refl
opened_first (call n es) name S k = refl
opened_first (member e n) name S k = opened_first e name S (dot ∷ a_name n ∷ k)
opened_first (index e i) name S k = opened_first e name S (open_bracket ∷ spelled i (close_bracket ∷ k))

-- what is spelled is read, whatever follows it
mutual
  complete : (e : Tree) (S : Frames) (k : List Token) → run wanted S (spelled e k) ≡ run (done e) S k
  complete (text s) S k = refl
  complete (int z) S k = refl
  complete (call name es) S k = complete_arguments es name S k
  complete (member e name) S k = complete e S (dot ∷ a_name name ∷ k)
  complete (index e i) S k = complete e S (open_bracket ∷ spelled i (close_bracket ∷ k))
      ∙ complete i (indexing e ∷ S) (close_bracket ∷ k)

  complete_arguments : (es : Trees) (name : List ℕ) (S : Frames) (k : List Token)
      → run (opened name) S (arguments_spelled es k) ≡ run (done (call name es)) S k
  complete_arguments none name S k = refl
  complete_arguments (more e es) name S k =
      opened_first e name S (further_spelled es k) ∙ complete e (calling name [] ∷ S) (further_spelled es k)
      ∙ complete_further es e [] name S k

  complete_further : (es : Trees) (e : Tree) (before : List Tree) (name : List ℕ) (S : Frames) (k : List Token)
      → run (done e) (calling name before ∷ S) (further_spelled es k)
      ≡ run (done (call name (followed_by before (more e es)))) S k
  complete_further none e before name S k = ap (λ ts. run (done (call name ts)) S k) (followed_by-trees before e)
  complete_further (more x es) e before name S k =
      complete x (calling name (before ++ e ∷ []) ∷ S) (further_spelled es k)
      ∙ complete_further es x (before ++ e ∷ []) name S k
      ∙ ap (λ ts. run (done (call name ts)) S k) (followed_by-more before e (more x es))

-- what is read so far, before the tokens that follow
abbrev arguments_read : List Tree → List Token → List Token
arguments_read [] k = k
arguments_read (e ∷ es) k = spelled e (comma ∷ arguments_read es k)

abbrev frames_read : Frames → List Token → List Token
frames_read [] k = k
frames_read (calling name es ∷ S) k = frames_read S (a_name name ∷ open_paren ∷ arguments_read es k)
frames_read (indexing e ∷ S) k = frames_read S (spelled e (open_bracket ∷ k))

abbrev state_read : State Tree → List Token → List Token
state_read wanted k = k
state_read (named name) k = a_name name ∷ k
state_read (opened name) k = a_name name ∷ open_paren ∷ k
state_read (done e) k = spelled e k
state_read (dotted e) k = spelled e (dot ∷ k)

arguments-more : (es : List Tree) (e : Tree) (k : List Token)
    → arguments_read (es ++ e ∷ []) k ≡ arguments_read es (spelled e (comma ∷ k))
arguments-more [] e k = refl
arguments-more (x ∷ es) e k = ap (λ ts. spelled x (comma ∷ ts)) (arguments-more es e k)

further-last : (es : List Tree) (e : Tree) (k : List Token)
    → further_spelled (trees (es ++ e ∷ [])) k ≡ comma ∷ arguments_read es (spelled e (close_paren ∷ k))
further-last [] e k = refl
further-last (x ∷ es) e k = ap (λ ts. comma ∷ spelled x ts) (further-last es e k)

arguments-last : (es : List Tree) (e : Tree) (k : List Token)
    → arguments_spelled (trees (es ++ e ∷ [])) k ≡ arguments_read es (spelled e (close_paren ∷ k))
arguments-last [] e k = refl
arguments-last (x ∷ es) e k = ap (λ ts. spelled x ts) (further-last es e k)

-- where a step leads
abbrev Keeps : Next → List Token → List Token → Type 0
Keeps None ts before = Unit {0}
Keeps (Some p) ts before = frames_read p.1 (state_read p.0 ts) ≡ before

closed_keeps : (e : Tree) (S : Frames) (ts : List Token)
    → Keeps (machine.closed Tree (List Tree) as_tree e S) ts (frames_read S (spelled e (close_paren ∷ ts)))
closed_keeps e [] ts = tt
closed_keeps e (calling name es ∷ S) ts =
    ap (λ k. frames_read S (a_name name ∷ open_paren ∷ k)) (arguments-last es e ts)
closed_keeps e (indexing b ∷ S) ts = tt

separated_keeps : (e : Tree) (S : Frames) (ts : List Token)
    → Keeps (machine.separated Tree (List Tree) as_tree e S) ts (frames_read S (spelled e (comma ∷ ts)))
separated_keeps e [] ts = tt
separated_keeps e (calling name es ∷ S) ts =
    ap (λ k. frames_read S (a_name name ∷ open_paren ∷ k)) (arguments-more es e ts)
separated_keeps e (indexing b ∷ S) ts = tt

indexed_keeps : (e : Tree) (S : Frames) (ts : List Token)
    → Keeps (machine.indexed Tree (List Tree) as_tree e S) ts (frames_read S (spelled e (close_bracket ∷ ts)))
indexed_keeps e [] ts = tt
indexed_keeps e (calling name es ∷ S) ts = tt
indexed_keeps e (indexing b ∷ S) ts = refl

begun_keeps : (S : Frames) (t : Token) (ts : List Token)
    → Keeps (machine.begun Tree (List Tree) as_tree S t) ts (frames_read S (t ∷ ts))
begun_keeps S (a_text s) ts = refl
begun_keeps S (an_int z) ts = refl
begun_keeps S (a_name name) ts = refl
begun_keeps S _ ts = tt

first_keeps : (name : List ℕ) (S : Frames) (t : Token) (ts : List Token)
    → Keeps (machine.first_begun Tree (List Tree) as_tree name S t) ts
    (frames_read S (a_name name ∷ open_paren ∷ t ∷ ts))
first_keeps name S close_paren ts = refl
first_keeps name S t ts = begun_keeps (calling name [] ∷ S) t ts

-- a step reads its token
step_keeps : (s : State Tree) (S : Frames) (t : Token) (ts : List Token)
    → Keeps (step s S t) ts (frames_read S (state_read s (t ∷ ts)))
step_keeps wanted S t ts = begun_keeps S t ts
step_keeps (named name) S open_paren ts = refl
step_keeps (named name) S _ ts = tt
step_keeps (opened name) S t ts = first_keeps name S t ts
step_keeps (done e) S dot ts = refl
step_keeps (done e) S open_bracket ts = refl
step_keeps (done e) S close_bracket ts = indexed_keeps e S ts
step_keeps (done e) S close_paren ts = closed_keeps e S ts
step_keeps (done e) S comma ts = separated_keeps e S ts
step_keeps (done e) S _ ts = tt
step_keeps (dotted e) S (a_name name) ts = refl
step_keeps (dotted e) S _ ts = tt

finished_read : (s : State Tree) (S : Frames) (r : Tree) → machine.finished Tree (List Tree) as_tree s S ≡ Some r
    → frames_read S (state_read s []) ≡ spelled r []
finished_read (done e) [] r h = let e_is : e ≡ r = cc in ap (λ x. spelled x []) e_is
finished_read (done e) (f ∷ S) r h = cc
finished_read wanted S r h = cc
finished_read (named name) S r h = cc
finished_read (opened name) S r h = cc
finished_read (dotted e) S r h = cc

sound : (ts : List Token) (s : State Tree) (S : Frames) (r : Tree) → run s S ts ≡ Some r
    → frames_read S (state_read s ts) ≡ spelled r []
sound [] s S r h = finished_read s S r h
sound (t ∷ ts) s S r h =
    elim (step s S t) as (λ n. Keeps n ts (frames_read S (state_read s (t ∷ ts)))
    → option_and_then (λ p. run p.0 p.1 ts) n ≡ Some r → frames_read S (state_read s (t ∷ ts)) ≡ spelled r []) [
      | None ↦ λ k none. cc
      | Some p ↦ λ k some. sym k ∙ sound ts p.0 p.1 r some
    ] (step_keeps s S t ts) h

pub spelled_is_parsed : (e : Tree) → machine.parsed Tree (List Tree) as_tree (spelled e []) ≡ Some e
spelled_is_parsed e = complete e [] []

pub parsed_is_spelled : (ts : List Token) (e : Tree) → machine.parsed Tree (List Tree) as_tree ts ≡ Some e
    → ts ≡ spelled e []
parsed_is_spelled ts e h = sound ts wanted [] e h
