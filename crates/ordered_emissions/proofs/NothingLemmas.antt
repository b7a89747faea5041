-- Numbers that are no symbol's become nothing; and declarations that become the same.
use Rattle.std.proofs.Common.{◌≡◌, ℕ, zero, suc, List, refl, sym, ap, ◌∙◌}
use Rattle.std.specs.Prelude.{option_and_then}
use Rattle.bicep_emission.specs.Files.{SourceFile, declaration, no_parent, parent, inside_or, around_kind, fields_parent}
use Rattle.bicep_emission.specs.Declared.{body_of}
use Rattle.bicep_emission.specs.Emitted.{Frame, no_value}
use Rattle.emission_laws.specs.Declared.{Emission, variable_of, over, name_by, full_name_by, condition_of, parts_at, id_at, next, blank, through}
use Rattle.emission_laws.specs.Same.{SameEmission}
use Rattle.ordered_emissions.specs.Orders.{IsNoSymbol}

-- ---- declarations that become the same

pub same_turned : (a b : Emission) (n : ℕ) → SameEmission a b n → SameEmission b a n
same_turned a b n s = record {
  scope = record {
    variable = sym s.scope.variable;
    items = sym s.scope.items;
    name = λ fs r. sym (s.scope.name fs r);
    id = λ fs r. sym (s.scope.id fs r);
  };
  full_name = λ fs r. sym (s.full_name fs r);
  condition = λ fs r. sym (s.condition fs r);
  parts = λ fs r. sym (s.parts fs r);
}

pub same_then : (a b c : Emission) (n : ℕ) → SameEmission a b n → SameEmission b c n → SameEmission a c n
same_then a b c n s t = record {
  scope = record {
    variable = s.scope.variable ∙ t.scope.variable;
    items = s.scope.items ∙ t.scope.items;
    name = λ fs r. s.scope.name fs r ∙ t.scope.name fs r;
    id = λ fs r. s.scope.id fs r ∙ t.scope.id fs r;
  };
  full_name = λ fs r. s.full_name fs r ∙ t.full_name fs r;
  condition = λ fs r. s.condition fs r ∙ t.condition fs r;
  parts = λ fs r. s.parts fs r ∙ t.parts fs r;
}

-- ---- numbers that are no symbol's

module _ (file : SourceFile) (files : List SourceFile) where
  no_parent_is : (n : ℕ) → IsNoSymbol file n → parent file n ≡ no_parent
  no_parent_is n h =
      ap (λ o. inside_or (option_and_then around_kind o) (fields_parent (declaration file n))) h.no_kind
      ∙ ap fields_parent h.no_declaration

  nothing_next : (b : Emission) (n : ℕ) → IsNoSymbol file n → SameEmission blank (next file files b) n
  unfolding next
  nothing_next b n h =
      let own : (fs : List Frame) → no_value ≡ name_by file files b n (declaration file n) fs =
      λ fs. sym (ap (λ o. name_by file files b n o fs) h.no_declaration) in
      record {
        scope = record {
          variable = sym (ap (variable_of file files b n) h.no_declaration);
          items = sym (ap (λ o. over file files b (option_and_then (λ x. x.each) (option_and_then body_of o)))
              h.no_declaration);
          name = λ fs r. own fs;
          id = λ fs r. sym (ap (λ o. id_at file files b n o fs) h.no_declaration);
        };
        full_name = λ fs r. own fs
            ∙ sym (ap (λ p. full_name_by file files b p (name_by file files b n (declaration file n) fs) fs)
            (no_parent_is n h));
        condition = λ fs r. sym (ap (λ o. condition_of file files b n (option_and_then body_of o) fs)
            h.no_declaration);
        parts = λ fs r. sym (ap (λ o. parts_at file files b n o fs) h.no_declaration);
      }

  pub nothing : (k n : ℕ) → IsNoSymbol file n → SameEmission blank (through file files k) n
  unfolding through
  nothing zero n h = record {
    scope = record { variable = refl; items = refl; name = λ fs r. refl; id = λ fs r. refl };
    full_name = λ fs r. refl;
    condition = λ fs r. refl;
    parts = λ fs r. refl;
  }
  nothing (suc k) n h = nothing_next (through file files k) n h

  -- what is no symbol's becomes the same through more declarations
  pub nothing_stays : (k j n : ℕ) → IsNoSymbol file n
      → SameEmission (through file files k) (through file files j) n
  nothing_stays k j n h =
      same_then (through file files k) blank (through file files j) n
      (same_turned blank (through file files k) n (nothing k n h)) (nothing j n h)
