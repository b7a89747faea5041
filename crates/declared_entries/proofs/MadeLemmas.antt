-- What is made of what other declarations have become is what the declaration becomes.
use Rattle.std.proofs.Common.{ℕ, Bool, true, false, List, [], ◌∷◌, ap, sym, ◌∙◌, subst}
use Rattle.bicep_meaning.specs.Files.{SourceFile, declaration, type_of}
use Rattle.emitted_declarations.specs.Declared.{Emission, next, id_of_parts}
use Rattle.emission_laws.specs.Holes.{holes}
use Rattle.emission_laws.specs.Same.{SameEmission}
use Rattle.kept_expressions.specs.Kept.{IsKept, IsKeptHoles, AreKeptHoles}
use Rattle.declared_table.specs.Entries.{IsEntry, IsId}
use Rattle.declared_table.specs.declared.entry.Entry.{Entry}
use Rattle.declared_entries.specs.Made.{IsMade, IsIdBy}

module _ (file : SourceFile) (files : List SourceFile) (b w : Emission) (n : ℕ)
    (same : SameEmission (next file files b) w n) where
  id_made : (q : Bool) → IsIdBy file files b n (declaration file n) q → IsId file w n q
  unfolding next
  id_made true h =
      sym (same.scope.id (holes ∷ []) tt) ∙ h
      ∙ ap (id_of_parts (type_of file n).kind) (same.parts (holes ∷ []) tt)
  id_made false h = sym (same.scope.id (holes ∷ []) tt) ∙ h

  pub is_entry : (e : Entry) → IsMade file files b n (declaration file n) e → IsEntry file w n e
  unfolding next
  is_entry e m = record {
    variable = subst (λ t. IsKept t e.variable) same.scope.variable m.variable;
    items = subst (λ t. IsKept t e.items) same.scope.items m.items;
    name = subst (λ t. IsKeptHoles t e.name) (same.scope.name (holes ∷ []) tt) m.name;
    full_name = subst (λ t. IsKeptHoles t e.full_name) (same.full_name (holes ∷ []) tt) m.full_name;
    condition = subst (λ t. IsKeptHoles t e.condition) (same.condition (holes ∷ []) tt) m.condition;
    parts = subst (λ ts. AreKeptHoles ts e.parts.items) (same.parts (holes ∷ []) tt) m.parts;
    id = id_made e.is_resource m.id;
  }
