-- Tokens that end what is open: the tokens, and how the machine reads them.
use Rattle.std.proofs.Common.{◌≡◌, ◌<◌, ℕ, zero, suc, nat_lt, ◌&&◌, List, [], ◌∷◌, map, Bool, true, false, true≢false}
use Rattle.std.proofs.Common.{Some, option_and_then, chars, codes, refl, sym, ap, ◌∙◌, arith}
use Rattle.std.specs.List.{list_all}
use Rattle.std.specs.Str.{IsAscii}
use Rattle.std.proofs.lemmas.Bool.Decides.{nat_tests}
use Rattle.std.proofs.lemmas.Str.{chars-IsAscii}
use Rattle.bicep_lexer.specs.Reading.{Standing}
use Rattle.bicep_lexer.specs.Values.{value_of}
use Rattle.bicep_lexer.specs.declared.kind.TokenKind.TheVariants as k
use Rattle.bicep_tree.specs.declared.leaf.Name.{Name}
use Rattle.bicep_tree.specs.declared.leaf.Namespace.{Namespace}
use Rattle.bicep_tree.specs.declared.leaf.Access.TheVariants as a
use Rattle.bicep_tree.specs.declared.terminal.Terminal.{Terminal}
use Rattle.bicep_tree.specs.declared.terminal.Terminal.TheVariants as t
use Rattle.bicep_tree.specs.Tree.{Tree, name, ObjectTree, MemberTree, ValueTree, StatementTree}
use Rattle.bicep_tree.specs.Terminals.{word_terminal, terminal_of, placed}
use Rattle.bicep_tree.specs.Forms.{is_newline}
use Rattle.bicep_machine.specs.Kept.{Kept, flat, of_access}
use Rattle.bicep_machine.specs.Stack as s
use Rattle.bicep_machine.specs.Stack.{Frame, State, wanted, qualified, done, past_member, past_statement, in_file, Next}
use Rattle.bicep_machine.specs.Closing.{Closed, closed, object_on, each_on, members_closed, member_closed, paren_on}
use Rattle.bicep_machine.specs.Closing.{bracket_on, brace_on, colon_on, right_on}
use Rattle.bicep_machine.specs.Machine.{transition, step, ended, ended_by, run}
use Rattle.bicep_parser.proofs.Fitting.{inside, members, statements, looping, Fits, Value}
use Rattle.foundation.proofs.Choices.{if_else}
use Rattle.foundation.proofs.TruthValues.{both}

-- ---- tokens

-- a word at 0
abbrev pub word : List ℕ → Standing
word u = (k.Name, 0, u)

-- what a word is read as, where it is no value
abbrev pub IsName : List ℕ → Type 0
IsName u = terminal_of (word u) ≡ t.Name u

below : (b : ℕ) → nat_lt b 128 ≡ true → b < 128
below b e = grind (arith, nat_tests)

ascii : (u : List ℕ) → list_all (λ b. nat_lt b 128) u ≡ true → IsAscii u
ascii [] e i = omega arith
ascii (b ∷ u) e zero = below b (both (nat_lt b 128) (list_all (λ b. nat_lt b 128) u) e).0
ascii (b ∷ u) e (suc i) = ascii u (both (nat_lt b 128) (list_all (λ b. nat_lt b 128) u) e).1 i

plain : (u : List ℕ) → list_all (λ b. nat_lt b 128) u ≡ true → word_terminal u ≡ t.Name u → IsName u
plain u e is = ap word_terminal (chars-IsAscii u (ascii u e)) ∙ is

pub x_is : IsName (codes "x")
unfolding word_terminal
x_is = plain (codes "x") refl refl

pub for_is : IsName (codes "for")
unfolding word_terminal
for_is = plain (codes "for") refl refl

pub in_is : IsName (codes "in")
unfolding word_terminal
in_is = plain (codes "in") refl refl

pub var_is : IsName (codes "var")
unfolding word_terminal
var_is = plain (codes "var") refl refl

pub resource_is : IsName (codes "resource")
unfolding word_terminal
resource_is = plain (codes "resource") refl refl

pub string_is : IsName (codes "string")
unfolding word_terminal
string_is = plain (codes "string") refl refl

-- a token that ends an expression
pub data Closer : Type 0 where
  colon : Closer
  paren : Closer
  bracket : Closer
  brace : Closer
  piece : Closer

abbrev pub closer : Closer → Standing
closer colon = (k.Colon, 0, codes ":")
closer paren = (k.CloseParen, 0, codes ")")
closer bracket = (k.CloseBracket, 0, codes "]")
closer brace = (k.CloseBrace, 0, codes "}")
closer piece = (k.RightPiece, 0, codes "}'")

abbrev pub piece_text : List ℕ
piece_text = value_of k.RightPiece (chars (codes "}'"))

abbrev pub closer_terminal : Closer → Terminal
closer_terminal colon = t.Colon
closer_terminal paren = t.CloseParen
closer_terminal bracket = t.CloseBracket
closer_terminal brace = t.CloseBrace
closer_terminal piece = t.RightPiece piece_text

-- what it does after an expression whose operators are closed
abbrev pub closing : Closer → Bool → Closed → Next
closing colon i p = colon_on 64 i p
closing paren i p = paren_on 64 p
closing bracket i p = bracket_on 64 i p
closing brace i p = brace_on 64 p
closing piece i p = right_on 64 i piece_text p

-- ---- what ends

-- some tokens end what is open
pub record Completes (st : State) (i : Bool) (S : List Frame) : Type 0 where
  pub more : List Standing
  pub kept : Kept (List StatementTree)
  pub reads : run 64 st i S (map placed more) ≡ Some kept

-- a step leads on, and then some tokens end what is open
pub record Leads (n : Next) : Type 0 where
  pub next : State × Bool × List Frame
  pub is : n ≡ Some next
  pub completes : Completes next.0 next.1 next.2

-- an expression whose operators are closed ends the file, or there is a token that ends it
pub data Ending (p : Closed) (i : Bool) : Type 0 where
  at_end : (r : Kept (List StatementTree)) → ended_by 64 p ≡ Some r → Ending p i
  by : (c : Closer) → Leads (closing c i p) → Ending p i

-- what ends in what is open
pub record Ends (S : List Frame) : Type 0 where
  pub values : Value S → (e : Kept Tree) (i : Bool) → Ending (closed 64 0 e S) i
  pub objects : Fits inside S → (i : Bool) (o : Kept ObjectTree) → Leads (object_on 64 i o S)
  pub members_end : Fits members S → Leads (members_closed 64 S)
  pub member_ends : Fits members S → (m : Kept MemberTree) → Leads (member_closed 64 m S)
  pub loops : Fits looping S → (v : Kept ValueTree) → Leads (each_on v S)

no_line : (i b : Bool) → b ≡ false → (i && b) ≡ true → ⊥
no_line true b e h = true≢false (sym h ∙ e)
no_line false b e h = true≢false (sym h)

-- a token, and then tokens that end what is open
pub by_token : (x : Standing) (y : Terminal) (st : State) (i : Bool) (S : List Frame) → terminal_of x ≡ y
    → is_newline y ≡ false → Leads (transition 64 st i S x.1 y) → Completes st i S
by_token x y st i S is stays l =
    record {
      more = x ∷ l.completes.more;
      kept = l.completes.kept;
      reads =
          ap (λ z. option_and_then (λ r. run 64 r.0 r.1 r.2 (map placed l.completes.more)) (step 64 st i S (x.1, z)))
          is
          ∙ ap (option_and_then (λ r. run 64 r.0 r.1 r.2 (map placed l.completes.more))) stepped
          ∙ l.completes.reads;
    }
  where
    stepped : step 64 st i S (x.1, y) ≡ Some l.next
    stepped = if_else (λ n. n ≡ Some l.next) (i && is_newline y) (Some (st, i, S)) (transition 64 st i S x.1 y)
        (λ e. absurd (no_line i (is_newline y) stays e)) (λ e. l.is)

-- a step that is known
pub to : (st : State) (i : Bool) (S : List Frame) → Completes st i S → Leads (Some (st, i, S))
to st i S c = record { next = (st, i, S); is = refl; completes = c }

-- a word that is read as a name
pub by_word : (u : List ℕ) (st : State) (i : Bool) (S : List Frame) → IsName u
    → Leads (transition 64 st i S 0 (t.Name u))
    → Completes st i S
by_word u st i S is l = by_token (word u) (t.Name u) st i S is refl l

-- a mark that ends an expression
pub by_closer : (c : Closer) (st : State) (i : Bool) (S : List Frame)
    → Leads (transition 64 st i S 0 (closer_terminal c))
    → Completes st i S
by_closer colon st i S l = by_token (closer colon) t.Colon st i S refl refl l
by_closer paren st i S l = by_token (closer paren) t.CloseParen st i S refl refl l
by_closer bracket st i S l = by_token (closer bracket) t.CloseBracket st i S refl refl l
by_closer brace st i S l = by_token (closer brace) t.CloseBrace st i S refl refl l
by_closer piece st i S l = by_token (closer piece) (t.RightPiece piece_text) st i S refl refl l

-- ---- expressions

-- an expression ends
pub done_ends : (e : Kept Tree) (i : Bool) (S : List Frame) → Ending (closed 64 0 e S) i → Completes (done e) i S
done_ends e i S (at_end r h) = record { more = []; kept = r; reads = h }
done_ends e i S (by colon l) = by_closer colon (done e) i S l
done_ends e i S (by paren l) = by_closer paren (done e) i S l
done_ends e i S (by bracket l) = by_closer bracket (done e) i S l
done_ends e i S (by brace l) = by_closer brace (done e) i S l
done_ends e i S (by piece l) = by_closer piece (done e) i S l

pub named_ends : (n : Name) (i : Bool) (S : List Frame) → Ending (closed 64 0 (flat (name n)) S) i
    → Completes (s.named n) i S
named_ends n i S (at_end r h) = record { more = []; kept = r; reads = h }
named_ends n i S (by colon l) = by_closer colon (s.named n) i S l
named_ends n i S (by paren l) = by_closer paren (s.named n) i S l
named_ends n i S (by bracket l) = by_closer bracket (s.named n) i S l
named_ends n i S (by brace l) = by_closer brace (s.named n) i S l
named_ends n i S (by piece l) = by_closer piece (s.named n) i S l

pub qualified_ends : (q : Namespace) (n m : Name) (i : Bool) (S : List Frame)
    → Ending (closed 64 0 (of_access 64 (flat (name n)) a.Member m) S) i → Completes (qualified q n m) i S
qualified_ends q n m i S (at_end r h) = record { more = []; kept = r; reads = h }
qualified_ends q n m i S (by colon l) = by_closer colon (qualified q n m) i S l
qualified_ends q n m i S (by paren l) = by_closer paren (qualified q n m) i S l
qualified_ends q n m i S (by bracket l) = by_closer bracket (qualified q n m) i S l
qualified_ends q n m i S (by brace l) = by_closer brace (qualified q n m) i S l
qualified_ends q n m i S (by piece l) = by_closer piece (qualified q n m) i S l

-- the name `x`
abbrev pub x : Name
x = record { at = 0; text = codes "x" }

abbrev pub x_tree : Kept Tree
x_tree = flat (name x)

-- an expression that is wanted is `x`
pub wanted_ends : (b i : Bool) (S : List Frame) → Ending (closed 64 0 x_tree S) i → Completes (wanted b) i S
wanted_ends true i S h = by_word (codes "x") (wanted true) i S x_is (to (s.named x) i S (named_ends x i S h))
wanted_ends false i S h = by_word (codes "x") (wanted false) i S x_is (to (s.named x) i S (named_ends x i S h))

-- ---- statements and members

-- the file ends after a statement
pub file_ends : (S : List Frame) → Fits statements S → (st : Kept StatementTree) → (r : Kept (List StatementTree))
    × (ended 64 st S ≡ Some r)
file_ends [] h st = absurd h
file_ends (in_file ss ∷ []) h st = (_, refl)
file_ends (in_file ss ∷ (F ∷ S)) h st = absurd h
file_ends (F ∷ S) h st = absurd h

pub past_statement_ends : (st : Kept StatementTree) (i : Bool) (S : List Frame) → Fits statements S
    → Completes (past_statement st) i S
past_statement_ends st i S h = let e = file_ends S h st in record { more = []; kept = e.0; reads = e.1 }

-- an object ends after a member
pub past_member_ends : (m : Kept MemberTree) (i : Bool) (S : List Frame) → Leads (member_closed 64 m S)
    → Completes (past_member m) i S
past_member_ends m i S l = by_closer brace (past_member m) i S l
