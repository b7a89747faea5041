-- Entries that are made of what other declarations have become.
use Rattle.std.specs.Prelude.{◌≡◌, ℕ, Bool, true, false, List, [], ◌∷◌, Option, option_and_then}
use Rattle.bicep_declared.specs.Declarations.{DeclaredTree}
use Rattle.bicep_meaning.specs.Declared.{body_of}
use Rattle.bicep_meaning.specs.Files.{SourceFile, parent, type_of}
use Rattle.bicep_emission.specs.Emitted.{no_value}
use Rattle.emitted_declarations.specs.Declared.{Emission, id_of_parts, variable_of, over, name_by, full_name_by}
use Rattle.emitted_declarations.specs.Declared.{condition_of, parts_at, id_at}
use Rattle.emission_laws.specs.Holes.{holes}
use Rattle.kept_expressions.specs.Kept.{IsKept, IsKeptHoles, AreKeptHoles}
use Rattle.declared_table.specs.declared.entry.Entry.{Entry}

-- of the declaration of that number, where the others become this
module _ (file : SourceFile) (files : List SourceFile) (b : Emission) (n : ℕ) (o : Option DeclaredTree) where
  -- the id of a resource is that of its type and its parts; what is no resource has none
  abbrev pub IsIdBy : Bool → Type 0
  IsIdBy true = id_at file files b n o (holes ∷ [])
      ≡ id_of_parts (type_of file n).kind (parts_at file files b n o (holes ∷ []))
  IsIdBy false = id_at file files b n o (holes ∷ []) ≡ no_value

  -- the entry has what the declaration becomes
  pub record IsMade (e : Entry) : Type 0 where
    pub variable : IsKept (variable_of file files b n o) e.variable
    pub items : IsKept (over file files b (option_and_then (λ x. x.each) (option_and_then body_of o))) e.items
    pub name : IsKeptHoles (name_by file files b n o (holes ∷ [])) e.name
    pub full_name : IsKeptHoles (full_name_by file files b (parent file n) (name_by file files b n o (holes ∷ []))
        (holes ∷ [])) e.full_name
    pub condition : IsKeptHoles (condition_of file files b n (option_and_then body_of o) (holes ∷ [])) e.condition
    pub parts : AreKeptHoles (parts_at file files b n o (holes ∷ [])) e.parts.items
    pub id : IsIdBy e.is_resource
