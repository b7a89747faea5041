-- What the functions of the code share.
use Rattle.std.specs.Prelude.{ℕ, false, List, ◌∷◌, Option, Some, None, if◌then◌else◌}
use Rattle.bicep_tree.specs.declared.leaf.Name.{Name}
use Rattle.bicep_tree.specs.declared.leaf.Quoted.{Quoted}
use Rattle.bicep_tree.specs.Tree.{Tree, name, Trees, none, more}
use Rattle.bicep_machine.specs.declared.closing.Folded.{Folded}
use Rattle.bicep_machine.specs.declared.closing.Folded.TheVariants as folds
use Rattle.bicep_tree.specs.declared.leaf.Literal.TheVariants as l
use Rattle.bicep_tree.specs.declared.terminal.Terminal.{Terminal}
use Rattle.bicep_tree.specs.declared.terminal.Terminal.TheVariants as t
use Rattle.bicep_machine.specs.declared.word.Word.{Word}
use Rattle.bicep_machine.specs.declared.word.Owner.{Owner}
use Rattle.bicep_machine.specs.Stack.{Frame, Decorators, Assigned, header, wanted, assigned, headed, Next}
use Rattle.bicep_machine.specs.Closing.{Closed, closed, pair_of, pair_on}
use Rattle.bicep_machine.specs.Machine.{is_in, type_of, type_on, quoted_at}
use Rattle.bicep_machine.specs.Kept.{Kept}
use Rattle.bicep_machine.specs.Views.{kept, frame_of}

-- what is closed in all, where so much is closed
abbrev pub folded : ℕ → Folded → List Frame → Closed
folded level (folds.Into e) S = closed 64 level (kept e) S
folded level (folds.Beside f e) S = (kept e, frame_of f ∷ S)

-- the name, where the expression is one
abbrev pub name_in : Tree → Option Name
name_in (name n) = Some n
name_in e = None

abbrev pub name_within : Option Tree → Option Name
name_within None = None
name_within (Some e) = name_in e

abbrev pub both_of : Option Name → Option Name → Option (Name × Name)
both_of (Some a) (Some b) = Some (a, b)
both_of a b = None

-- the two names, where two expressions are names
abbrev pub two_names : Trees → Option (Name × Name)
two_names (more a (more b none)) = both_of (name_in a) (name_in b)
two_names es = None

-- the word before two names
abbrev pub word_before : Name → Option (Name × Name) → Option (Name × Name × Name)
word_before w None = None
word_before w (Some p) = Some (w, p.0, p.1)

-- ---- what several declarations share

-- the type after the name of a declaration
abbrev pub typing_step : Decorators → ℕ → Word → Name → List Frame → Terminal → Next
typing_step ds from word n S (t.Name s) = type_on ds from word n (type_of s) S
typing_step ds from word n S s = None

-- the type text or the path after the name of a declaration
abbrev pub heading_step : Decorators → ℕ → Owner → Name → List Frame → ℕ → Terminal → Next
heading_step ds from o n S at (t.Literal (l.Text s)) = Some (headed (header ds from o n (quoted_at at s)), false, S)
heading_step ds from o n S at s = None

-- `=` before the expression of a declaration
abbrev pub assigning_step : Decorators → Assigned → List Frame → Terminal → Next
assigning_step ds d S t.Assign = Some (wanted false, false, assigned ds d ∷ S)
assigning_step ds d S s = None

abbrev pub assigned_to : Decorators → Assigned → List Frame → Next
assigned_to ds d S = Some (wanted false, false, assigned ds d ∷ S)

abbrev pub headed_by : Decorators → ℕ → Owner → Name → Quoted → List Frame → Next
headed_by ds from o n q S = Some (headed (header ds from o n q), false, S)

-- a word after an expression
abbrev pub in_on : List ℕ → Kept Tree → List Frame → Next
in_on w e S = if is_in w then pair_on (pair_of e.0) S else None
