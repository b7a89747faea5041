-- What the words after a command give, whatever their order: a file and options, each with its value.
use Rattle.std.specs.Prelude.{◌≡◌, ◌↔◌, ◌++◌, ◌==◌, ℕ, List, [], ◌∷◌, Option, Some, None, if◌then◌else◌}
use Rattle.command_words.specs.Words.{Sign, Value, AnOption, WithValue, NoSign, word_of}
use Rattle.command_words.specs.Reading.{Values, held, place_of}
use Rattle.command_words.specs.declared.given.Place.{Place}
use Rattle.command_words.specs.declared.given.Place.TheVariants.{File, Group, Name, Mode, Parameters, Subscription}
use Rattle.command_words.specs.declared.given.Place.TheVariants.{Language}

-- a value, with what it is the value of
pub record Part : Type 0 where
  pub place : Place
  pub value : List ℕ

-- one word that gives a value: the file, or `--NAME=VALUE`
abbrev pub IsWord : Place → List ℕ → Sign → Type 0
IsWord p v (Value u) = (p ≡ File) × (u ≡ v)
IsWord p v (WithValue x u) = (place_of x ≡ Some p) × (u ≡ v)
IsWord p v (AnOption x) = ⊥
IsWord p v NoSign = ⊥

-- two words that give a value: `--NAME VALUE`
pub record AreWords (p : Place) (v w u : List ℕ) : Type 0 where
  pub name : List ℕ
  pub option : word_of w ≡ AnOption name
  pub place : place_of name ≡ Some p
  pub value : word_of u ≡ Value v

abbrev pub IsSpelled : Part → List (List ℕ) → Type 0
IsSpelled q [] = ⊥
IsSpelled q (w ∷ []) = IsWord q.place q.value (word_of w)
IsSpelled q (w ∷ u ∷ []) = AreWords q.place q.value w u
IsSpelled q (w ∷ u ∷ s ∷ ws) = ⊥

-- the words of these values, one after another
abbrev pub AreSpelled : List Part → List (List ℕ) → Type 0
AreSpelled [] ws = ws ≡ []
AreSpelled (q ∷ qs) ws =
    (us : List (List ℕ)) × ((vs : List (List ℕ)) × ((ws ≡ us ++ vs) × (IsSpelled q us × AreSpelled qs vs)))

abbrev pub number : Place → ℕ
number File = 0
number Group = 1
number Name = 2
number Mode = 3
number Parameters = 4
number Subscription = 5
number Language = 6

-- the first value that is given for a place
abbrev pub value_at : Place → List Part → Option (List ℕ)
value_at p [] = None
value_at p (q ∷ qs) = if number q.place == number p then Some q.value else value_at p qs

-- none is given twice
abbrev pub AreOnce : List Part → Type 0
AreOnce [] = Unit {0}
AreOnce (q ∷ qs) = (value_at q.place qs ≡ None) × AreOnce qs

-- these words give these values, in some order, each once
pub record Gives (ws : List (List ℕ)) (g : Values) : Type 0 where
  pub parts : List Part
  pub spelled : AreSpelled parts ws
  pub once : AreOnce parts
  pub values : (p : Place) → held g p ≡ value_at p parts

-- what is read of words is what they give
abbrev pub ReadsWhatIsGiven : (List (List ℕ) → Option Values) → Type 0
ReadsWhatIsGiven read = (ws : List (List ℕ)) (g : Values) → (read ws ≡ Some g) ↔ Gives ws g
