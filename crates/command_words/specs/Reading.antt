-- How the words after a command are read: its file, and its options with their values, in any order, each at most once.
use Rattle.std.specs.Prelude.{ℕ, List, [], ◌∷◌, bytes_eq, codes}
use Rattle.std.specs.Prelude.{Option, Some, None, option_map, is_some}
use Rattle.std.specs.Prelude.{if◌then◌else◌}
use Rattle.std.specs.Borrow.{Bor}
use Rattle.command_words.specs.Words.{Sign, Value, AnOption, WithValue, NoSign, word_of}
use Rattle.command_words.specs.declared.given.Given.{Given}
use Rattle.command_words.specs.declared.reading.Reading.{Reading}
use Rattle.command_words.specs.declared.given.Place.{Place}
use Rattle.command_words.specs.declared.given.Place.TheVariants.{File, Group, Name, Mode, Parameters, Subscription}
use Rattle.command_words.specs.declared.given.Place.TheVariants.{Language}

-- the values that were given, each at most once
pub record Values : Type 0 where
  pub file : Option (List ℕ)
  pub group : Option (List ℕ)
  pub name : Option (List ℕ)
  pub mode : Option (List ℕ)
  pub parameters : Option (List ℕ)
  pub subscription : Option (List ℕ)
  pub language : Option (List ℕ)

abbrev pub nothing : Values
nothing = record {
  file = None;
  group = None;
  name = None;
  mode = None;
  parameters = None;
  subscription = None;
  language = None;
}

-- the place of an option's value, by the option's name
unfoldable pub later_place : List ℕ → Option Place
later_place x =
    if bytes_eq x (codes "parameters") then Some Parameters else
    (if bytes_eq x (codes "subscription") then Some Subscription else
    (if bytes_eq x (codes "language") then Some Language else None))

unfoldable pub place_of : List ℕ → Option Place
place_of x =
    if bytes_eq x (codes "group") then Some Group else
    (if bytes_eq x (codes "name") then Some Name else
    (if bytes_eq x (codes "mode") then Some Mode else later_place x))

abbrev pub held : Values → Place → Option (List ℕ)
held g File = g.file
held g Group = g.group
held g Name = g.name
held g Mode = g.mode
held g Parameters = g.parameters
held g Subscription = g.subscription
held g Language = g.language

abbrev pub with : Values → Place → List ℕ → Values
with g File v = record g { file = Some v }
with g Group v = record g { group = Some v }
with g Name v = record g { name = Some v }
with g Mode v = record g { mode = Some v }
with g Parameters v = record g { parameters = Some v }
with g Subscription v = record g { subscription = Some v }
with g Language v = record g { language = Some v }

-- one value more, unless its place has a value
abbrev pub put : Values → Place → List ℕ → Option Values
put g p v = if is_some (held g p) then None else Some (with g p v)

abbrev pub text_of : Option (Bor (List ℕ)) → Option (List ℕ)
text_of o = option_map (λ v. v.now) o

abbrev pub values_of : Given → Values
values_of g = record {
  file = text_of g.file;
  group = text_of g.group;
  name = text_of g.name;
  mode = text_of g.mode;
  parameters = text_of g.parameters;
  subscription = text_of g.subscription;
  language = text_of g.language;
}

-- what was given so far, and the place of the option whose value is the next word
pub record State : Type 0 where
  pub values : Values
  pub next : Option Place

abbrev pub filled : Option Values → Option State
filled o = option_map (λ g. record { values = g; next = None }) o

abbrev pub named : Values → Option Place → Option State
named g o = option_map (λ p. record { values = g; next = Some p }) o

abbrev pub given_value : Values → Option Place → List ℕ → Option State
given_value g None v = None
given_value g (Some p) v = filled (put g p v)

-- a word of the command itself
abbrev pub begun : Values → Sign → Option State
begun g (Value v) = filled (put g File v)
begun g (AnOption x) = named g (place_of x)
begun g (WithValue x v) = given_value g (place_of x) v
begun g NoSign = None

-- a word that is the value of the option before it
abbrev pub ended : Values → Place → Sign → Option State
ended g p (Value v) = filled (put g p v)
ended g p s = None

abbrev pub turned : Values → Option Place → Sign → Option State
turned g None s = begun g s
turned g (Some p) s = ended g p s

abbrev pub after : State → List ℕ → Option State
after s w = turned s.values s.next (word_of w)

-- the words one after another
abbrev pub run : Option State → List (List ℕ) → Option State
run None ws = None
run (Some s) [] = Some s
run (Some s) (w ∷ ws) = run (after s w) ws

-- each option has its value
abbrev pub ends : Option State → Option Values
ends None = None
ends (Some s) = if is_some s.next then None else Some s.values

-- before the first word
abbrev pub start : State
start = record { values = nothing; next = None }

-- what these words give, where they are in form
abbrev pub read : List (List ℕ) → Option Values
read ws = ends (run (Some start) ws)

abbrev pub state_of : Reading → State
state_of r = record { values = values_of r.given; next = r.next }
