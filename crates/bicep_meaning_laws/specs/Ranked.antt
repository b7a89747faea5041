-- Files in which no declaration leads back to itself, and what declarations mean there.
use Rattle.std.specs.Prelude.{◌≡◌, ◌<◌, ℕ, List, [], ◌++◌, Option, Some, None}
use Rattle.reading.specs.World.{Each}
use Rattle.bicep_meaning.specs.Kind.{Kind}
use Rattle.bicep_meaning.specs.Declarations.{DeclaredTree}
use Rattle.bicep_circles.specs.Mentions.{declared_mentions}
use Rattle.bicep_circles.specs.Links.{parent_mentions}
use Rattle.bicep_meaning.specs.Files.{SourceFile, symbol_kind, declaration}
use Rattle.bicep_meaning.specs.Around.{Here, Frame, Around}
use Rattle.bicep_meaning.specs.Declared.{declared}

abbrev pub mentioned_in : Option DeclaredTree → List ℕ
mentioned_in None = []
mentioned_in (Some d) = declared_mentions d

abbrev pub mentioned_around : Option Kind → List ℕ
mentioned_around None = []
mentioned_around (Some x) = parent_mentions x

-- the symbols that the declaration of a number mentions, and the resource around it
abbrev pub mentions_at : SourceFile → ℕ → List ℕ
mentions_at f n = mentioned_in (declaration f n) ++ mentioned_around (symbol_kind f n)

-- declarations mention only symbols of lower rank
abbrev pub IsRanked : SourceFile → (ℕ → ℕ) → Type 0
IsRanked f rank = (n : ℕ) → Each (λ m. rank m < rank n) (mentions_at f n)

-- the declaration of that number means the same in both
pub record IsSame (a b : Around) (n : ℕ) : Type 0 where
  pub variable : a.variable n ≡ b.variable n
  pub items : a.items n ≡ b.items n
  pub name : (fs : List Frame) → a.name n fs ≡ b.name n fs
  pub full_name : (fs : List Frame) → a.full_name n fs ≡ b.full_name n fs
  pub condition : (fs : List Frame) → a.condition n fs ≡ b.condition n fs
  pub id : (fs : List Frame) → a.id n fs ≡ b.id n fs

-- each declaration means what its expressions mean
abbrev pub IsSettled : Here → Around → Type 0
IsSettled here a = (n : ℕ) → IsSame a (declared here a) n
