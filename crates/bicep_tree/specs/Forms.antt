-- Forms of tokens.
use Rattle.std.specs.Prelude.{◌≡◌, ℕ, ◌&&◌, Bool, true, false, List, ◌∷◌, ◌++◌, codes}
use Rattle.std.specs.List.{AllByRecursion}
use Rattle.bicep_tree.specs.declared.leaf.Name.{Name}
use Rattle.bicep_tree.specs.declared.leaf.Quoted.{Quoted}
use Rattle.bicep_tree.specs.declared.leaf.Label.{Label}
use Rattle.bicep_tree.specs.declared.leaf.Label.TheVariants as label
use Rattle.bicep_tree.specs.declared.leaf.Literal.TheVariants as l
use Rattle.bicep_tree.specs.declared.leaf.Access.TheVariants as a
use Rattle.bicep_tree.specs.declared.leaf.Indexing.{Indexing}
use Rattle.bicep_tree.specs.declared.leaf.Indexing.TheVariants as x
use Rattle.bicep_tree.specs.declared.leaf.Prefix.{Prefix}
use Rattle.bicep_tree.specs.declared.leaf.Prefix.TheVariants as p
use Rattle.bicep_tree.specs.declared.leaf.Operator.TheVariants as o
use Rattle.bicep_tree.specs.declared.leaf.Namespace.{Namespace}
use Rattle.bicep_tree.specs.declared.leaf.Namespace.TheVariants as n
use Rattle.bicep_tree.specs.declared.leaf.Function.{Function}
use Rattle.bicep_tree.specs.declared.leaf.Function.TheVariants as f
use Rattle.bicep_tree.specs.declared.terminal.Terminal.{Terminal}
use Rattle.bicep_tree.specs.declared.terminal.Terminal.TheVariants as t
use Rattle.bicep_tree.specs.Terminals.{Placed}

-- A form of tokens: `f ts ks` says that the tokens ts begin with something of that form, and that ks are the rest.
abbrev pub Form : Type 1
Form = List Placed → List Placed → Type 0

infixr 4 ◌▹◌
-- one form, and then another
abbrev pub ◌▹◌ : Form → Form → Form
◌▹◌ f g ts ks = (middle : List Placed) × f ts middle × g middle ks

-- that form, where this holds
abbrev pub provided : Type 0 → Form → Form
provided P f ts ks = P × f ts ks

-- no token
abbrev pub nothing : Form
nothing ts ks = ts ≡ ks

-- no tokens are of that form
abbrev pub never : Form
never ts ks = ⊥

-- this terminal, at that place
abbrev pub sign_at : ℕ → Terminal → Form
sign_at at s ts ks = ts ≡ (at, s) ∷ ks

-- this terminal
abbrev pub sign : Terminal → Form
sign s ts ks = (at : ℕ) × (ts ≡ (at, s) ∷ ks)

abbrev pub is_newline : Terminal → Bool
is_newline t.Newline = true
is_newline s = false

-- a newline or a comma, between members and between items
abbrev pub is_separator : Terminal → Bool
is_separator t.Newline = true
is_separator t.Comma = true
is_separator s = false

-- one terminal that passes the test
abbrev pub one : (Terminal → Bool) → Form
one test ts ks = (at : ℕ) × (s : Terminal) × (ts ≡ (at, s) ∷ ks) × (test s ≡ true)

-- any number of terminals that pass the test
abbrev pub any : (Terminal → Bool) → Form
any test ts ks = (passed : List Placed) × AllByRecursion (λ t. test t.1 ≡ true) passed × (ts ≡ passed ++ ks)

-- newlines, where they are skipped
abbrev pub skipped : Bool → Form
skipped inside = any (λ s. inside && is_newline s)

-- this terminal, and the skipped newlines before it
abbrev pub token_at : Bool → ℕ → Terminal → Form
token_at inside at s = skipped inside ▹ sign_at at s

abbrev pub token : Bool → Terminal → Form
token inside s = skipped inside ▹ sign s

-- this name
abbrev pub named : Bool → Name → Form
named inside n = token_at inside n.at (t.Name n.text)

-- this word
abbrev pub word : List ℕ → Form
word w = sign (t.Name w)

-- this text, without interpolation
abbrev pub quoted : Quoted → Form
quoted q = sign_at q.at (t.Literal (l.Text q.text))

-- the name of a member
abbrev pub labelled : Label → Form
labelled (label.Name n) = named false n
labelled (label.Quoted q) = quoted q

abbrev pub index_sign : Indexing → Terminal
index_sign x.Plain = t.OpenBracket
index_sign x.Safe = t.SafeBracket

abbrev pub prefix_sign : Prefix → Terminal
prefix_sign p.Not = t.Not
prefix_sign p.Negate = t.Operator o.Subtract

abbrev pub namespace_word : Namespace → List ℕ
namespace_word n.Sys = codes "sys"
namespace_word n.Az = codes "az"

-- the name of a function: a name, or `sys` or `az`, a dot and a name
abbrev pub function : Bool → Function → Form
function inside (f.Plain n) = named inside n
function inside (f.Qualified at space n) =
    token_at inside at (t.Name (namespace_word space)) ▹ token inside (t.Access a.Member) ▹ named inside n

-- the name of a decorator: a name, or `sys`, a dot and a name
abbrev pub decorating : Function → Form
decorating (f.Plain n) = named false n
decorating (f.Qualified at n.Sys n) = sign_at at (t.Name (codes "sys")) ▹ sign (t.Access a.Member) ▹ named false n
decorating (f.Qualified at n.Az n) = never
