-- What a text of `reference` stands for in a template of the second form (Microsoft Learn, "Use symbolic name").
use Rattle.std.specs.Prelude.{◌++◌, ◌+◌, ◌*◌, ◌-◌, ◌==◌, ◌&&◌, ℕ, Bool, true, nat_lt, bytes_eq, List, [], ◌∷◌}
use Rattle.std.specs.Prelude.{Option, Some, None, option_map, map, length, not, if◌then◌else◌}
use Rattle.std.specs.Char.{is_ascii_digit}
use Rattle.std.specs.Fmt.{decimal}
use Rattle.arm_value.specs.Json.{Json, text}
use Rattle.arm_ids.specs.Id.{resource, is_whole, folded}
use Rattle.arm_ids.specs.declared.id.Place.{Place}
use Rattle.arm_ids.specs.declared.id.ResourceId.{ResourceId}
use Rattle.arm_expr.specs.Brackets.{meaning as text_meaning}
use Rattle.reading.specs.Reading.{done, ask, pure, none, continued, through}
use Rattle.reading.specs.Knowledge.{Known, known, absent, missing, Told, value, no_value, waits, told}
use Rattle.arm_env.specs.declared.env.Looping.{Looping}
use Rattle.arm_env.specs.declared.env.Symbol.{Symbol}
use Rattle.arm_env.specs.declared.env.Env.{Env}
use Rattle.arm_env.specs.Look as look
use Rattle.arm_env.specs.Look.{Look, Fact, a_key, Looking, Surroundings}
use Rattle.expression_values.specs.Meaning.{outcome}
use Rattle.arm_eval.specs.Trees.{said_value}

-- the number that the digits after a `[` write, of which nine count
abbrev pub grown : Option ℕ → ℕ → Option ℕ
grown None c = if c == 91 then Some 0 else None
grown (Some n) c = if nat_lt n 100000000 && is_ascii_digit c then Some (n * 10 + (c - 48)) else Some n

abbrev pub number_from : Option ℕ → List ℕ → Option ℕ
number_from n [] = n
number_from n (c ∷ cs) = number_from (grown n c) cs

-- `n[i]`
abbrev pub element : List ℕ → ℕ → List ℕ
element name i = name ++ 91 ∷ (decimal i ++ 93 ∷ [])

-- a symbol, and the name of its loop, if it has one
pub record Listed : Type 0 where
  pub symbol : Symbol
  pub copy : Option (List ℕ)

-- what a text means: a symbol without a loop, or the element of a looped one
pub record Title : Type 0 where
  pub listed : Listed
  pub index : Option ℕ

-- the element of a looped symbol: the text is `n[i]`, with i as it is printed
abbrev pub by_index : Listed → List ℕ → Option ℕ → Option Title
by_index s t None = None
by_index s t (Some i) =
    if bytes_eq (element s.symbol.name i) t then Some (record { listed = s; index = Some i }) else None

-- a symbol without a loop: the text is its name
abbrev pub by_name : Listed → List ℕ → Option Title
by_name s t = if bytes_eq t s.symbol.name then Some (record { listed = s; index = None }) else None

abbrev pub title_by : Listed → List ℕ → Option Title
title_by s t = if s.symbol.looped then by_index s t (number_from None t) else by_name s t

-- the first, where there is one
abbrev pub or_else : Option Title → Option Title → Option Title
or_else (Some x) o = Some x
or_else None o = o

-- what a text means: the first symbol that it names
abbrev pub title_of : List Listed → List ℕ → Option Title
title_of [] t = None
title_of (s ∷ ss) t = or_else (title_by s t) (title_of ss t)

-- the loops of a title: a main loop where its symbol has one, before those around the template instance
abbrev pub title_loops : List Looping → Title → Option ℕ → List Looping
title_loops around title None = around
title_loops around title (Some i) = record { name = title.listed.copy; index = i; main = true } ∷ around

-- the key of a type and a name in a place, where one can be formed
abbrev pub key_at : Place → List ℕ → Json → Option ResourceId
key_at place kind (text name) =
    if is_whole (resource place.subscription place.group kind name)
    then Some (folded (resource place.subscription place.group kind name)) else None
key_at place kind _ = None

-- what a cell has
abbrev pub itself : Look → Looking (Option Fact)
itself c = ask c (λ v. done (Some v))

-- inside a name a text is an id alone
abbrev pub alone : Look → Looking (Option Fact)
alone (look.named t) = pure None
alone c = itself c

-- the value of a title
abbrev pub title_value : Surroundings → List ℕ → Looking Json
title_value here t = through alone (said_value here t (text_meaning t))

-- the symbols of a template instance, and the loops around the instance
pub record Titles : Type 0 where
  pub symbols : List Listed
  pub loops : List Looping

-- the key of the resource that a symbol means
abbrev pub key_of : Titles → Place → Title → Looking ResourceId
key_of ts place title =
    continued (title_value (record {
      loops = title_loops ts.loops title title.index;
      place =
          place;
    }) title.listed.symbol.title)
    (λ j. done (key_at place title.listed.symbol.kind j))

abbrev pub key_sought : Titles → Place → Option Title → Looking ResourceId
key_sought ts place None = none
key_sought ts place (Some title) = key_of ts place title

-- what a text stands for: what its symbol means, or nothing
abbrev pub fact_sought : Titles → Place → Option Title → Looking (Option Fact)
fact_sought ts place title = continued (outcome (key_sought ts place title)) (λ o. pure (option_map a_key o))

-- the reading in the place of each cell: what a text stands for is what its symbol means
abbrev pub titled : Titles → Place → Look → Looking (Option Fact)
titled ts place (look.named t) = fact_sought ts place (title_of ts.symbols t)
titled ts place c = itself c

-- the symbols of an environment: alone it names no loops, and has none around its template instance
abbrev pub unnamed : Symbol → Listed
unnamed s = record { symbol = s; copy = None }

abbrev pub titles_of : Env → Titles
titles_of env = record { symbols = map unnamed env.symbols.items; loops = [] }

-- whether texts are symbolic names in an environment
abbrev pub has_symbols : Env → Bool
has_symbols env = not env.inside_name && not (length env.symbols.items == 0)

-- what looks at an environment, where texts may be symbolic names
abbrev pub followed : {A : Type 0} → Env → Looking A → Looking A
followed env r = if has_symbols env then through (titled (titles_of env) env.place.now) r else r

-- what is known of a cell by what is told of the reading in its place
abbrev pub known_of : Told Look (Option Fact) → Known Fact
known_of (value (Some x)) = known x
known_of (value None) = absent
known_of no_value = absent
known_of (waits c) = missing

-- what is known with readings in the places of cells
unfoldable pub known_through : (Look → Looking (Option Fact)) → (Look → Known Fact) → Look → Known Fact
known_through h p c = known_of (told p (h c))

-- what is known of a cell that has a reading in its place: where the reading waits, the cell does
abbrev pub held_back : {A : Type 0} → Look → Told Look A → Told Look A
held_back c (value x) = value x
held_back c no_value = no_value
held_back c (waits d) = waits c
