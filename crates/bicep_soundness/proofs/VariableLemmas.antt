-- The values of variables are of their types.
use Rattle.std.proofs.Common.{◌≡◌, inl, inr, ℕ, zero, suc, Bool, true, false, [], Option, Some, None, refl}
use Rattle.std.proofs.Common.{sym, subst}
use Rattle.std.specs.Prelude.{if◌then◌else◌}
use Rattle.std.proofs.lemmas.Option.{none-some}
use Rattle.arm_value.specs.Json.{Json}
use Rattle.arm_value.specs.Look.{fold}
use Rattle.reading.specs.Reading.{done, read, continued}
use Rattle.reading.specs.World.{value_in}
use Rattle.deploy_cells.specs.Cells.{World, variable}
use Rattle.bicep_resolved.specs.Source.{ValueTree}
use Rattle.bicep_declared.specs.Declarations.{DeclaredTree}
use Rattle.bicep_declared.specs.Declarations as d
use Rattle.bicep_typing.specs.Names.{Types}
use Rattle.bicep_meaning.specs.Files.{symbol_name, declaration}
use Rattle.bicep_meaning.specs.Around.{Here}
use Rattle.bicep_meaning.specs.Declared.{around, declared, variable_value}
use Rattle.bicep_meaning.specs.Meaning.{value_of}
use Rattle.bicep_soundness.specs.Values.{IsOfType}
use Rattle.bicep_soundness.specs.Entries.{type_at}
use Rattle.bicep_soundness.specs.Sound.{IsTypedIn}
use Rattle.bicep_soundness.proofs.ReadLemmas.{goes}
use Rattle.bicep_soundness.proofs.SoundLemmas.{sound_value}

module _ (ts : Types) (here : Here) (w : World) (typed : IsTypedIn ts here w) where
  abbrev pub AreVariables : ℕ → Type 0
  AreVariables k =
      (n : ℕ) (v : Json) → value_in w ((around here k).variable n) ≡ Some v → IsOfType (type_at ts n) v

  -- a variable with an entry, or one without, of which the expression has a value
  entry_or_value : (k n at : ℕ) (x : ValueTree) (v : Json) → AreVariables k
      → declaration here.file n ≡ Some (d.variable at x)
      → (b : Bool) → here.file.has_entry n ≡ b
      → value_in w (if b then continued (done (symbol_name here.file n)) (λ y. read (variable here.at (fold y)))
      else value_of here (around here k) x []) ≡ Some v → IsOfType (type_at ts n) v
  unfolding value_in
  entry_or_value k n at x v before is true has e =
      let g = goes w (done (symbol_name here.file n)) (λ y. read (variable here.at (fold y))) v e in
      typed.entries.variables n g.value v has g.is g.rest
  entry_or_value k n at x v before is false has e =
      elim (typed.declared n at x is) [
        | inl any ↦ subst (λ t. IsOfType t v) (sym any) tt
        | inr own ↦ sound_value ts here w typed.entries k before x [] (type_at ts n) v tt own e
      ]

  one_variable : (k n : ℕ) (v : Json) → AreVariables k → (o : Option DeclaredTree) → declaration here.file n ≡ o
      → value_in w (variable_value here (around here k) n o) ≡ Some v → IsOfType (type_at ts n) v
  unfolding value_in
  one_variable k n v before None is e = absurd (none-some v e)
  one_variable k n v before (Some (d.parameter at t)) is e = absurd (none-some v e)
  one_variable k n v before (Some (d.parameter_with at t x)) is e = absurd (none-some v e)
  one_variable k n v before (Some (d.variable at x)) is e =
      entry_or_value k n at x v before is (here.file.has_entry n) refl e
  one_variable k n v before (Some (d.a_resource at q existing b)) is e = absurd (none-some v e)
  one_variable k n v before (Some (d.a_module at b)) is e = absurd (none-some v e)

  pub variables_are : (k : ℕ) → AreVariables k
  unfolding around declared value_in
  variables_are zero = λ n v e. absurd (none-some v e)
  variables_are (suc k) = λ n v e. one_variable k n v (variables_are k) (declaration here.file n) refl e
