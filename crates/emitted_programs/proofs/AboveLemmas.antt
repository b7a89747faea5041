-- Which cells are there where one is admitted: the scope around it, and an index below the count.
use Rattle.std.proofs.Common.{◌≡◌, ◌<◌, ◌≤◌, ◌^◌, ℕ, Bool, true, false, true≢false, List, [], ◌∷◌, Option, Some}
use Rattle.std.proofs.Common.{None, refl, sym, ap, ◌∙◌, arith}
use Rattle.std.specs.Prelude.{nat_lt, option_and_then}
use Rattle.foundation.proofs.Comparisons.{le_of_true, lt_of_true, none_below}
use Rattle.arm_value.specs.Json.{Json}
use Rattle.arm_value.specs.Kinds.{is_true}
use Rattle.arm_ids.specs.declared.id.Place.{Place}
use Rattle.reading.specs.World.{value_in}
use Rattle.template_parts.specs.declared.mode.Form.{Form}
use Rattle.deploy_cells.specs.Cells.{Step, Position, Cell, parameter, variable, offered, count, included, name}
use Rattle.deploy_cells.specs.Cells.{deployments}
use Rattle.deploy_cells.specs.Cells.{World, is_admitted, copies}
use Rattle.bicep_meaning.specs.Instances.{SourceProgram, with_deployment, place_at}
use Rattle.cell_renaming.specs.Renaming.{to_position}
use Rattle.source_worlds.specs.Numbers.{numbering}
use Rattle.emitted_sites.specs.Facts.{HasFacts}
use Rattle.emitted_sites.proofs.PlaceLemmas.{named_place}

module _ (z : Form) (d : SourceProgram) (w : World) (facts : HasFacts z d w) where
  -- a scope is there where its cells are admitted
  pub of_count : (p : Position) (n : ℕ) → is_admitted w (count p n) ≡ is_admitted w (deployments p)
  of_count [] n = refl
  of_count (s ∷ p) n = refl

  pub of_offered : (p : Position) (x : List ℕ) → is_admitted w (offered p x) ≡ is_admitted w (deployments p)
  of_offered [] x = refl
  of_offered (s ∷ p) x = refl

  pub of_parameter : (p : Position) (x : List ℕ) → is_admitted w (parameter p x) ≡ is_admitted w (deployments p)
  of_parameter [] x = refl
  of_parameter (s ∷ p) x = refl

  pub of_variable : (p : Position) (x : List ℕ) → is_admitted w (variable p x) ≡ is_admitted w (deployments p)
  of_variable [] x = refl
  of_variable (s ∷ p) x = refl

  -- a cell that has something is admitted
  by_bool : (c : Cell) (b : Bool) → is_admitted w c ≡ b → (w c ≡ None → ⊥) → is_admitted w c ≡ true
  by_bool c true e h = e
  by_bool c false e h = absurd (h (facts.closed c e))

  pub is_there : (c : Cell) → (w c ≡ None → ⊥) → is_admitted w c ≡ true
  is_there c h = by_bool c (is_admitted w c) refl h

  not_none : (o : Option Json) → is_true o ≡ true → o ≡ None → ⊥
  not_none o e h = true≢false (sym e ∙ ap is_true h)

  no_index : (o : Option Json) (i : ℕ) → nat_lt i (copies o) ≡ true → o ≡ None → ⊥
  no_index o i e h = true≢false (sym e ∙ ap (λ o. nat_lt i (copies o)) h ∙ none_below i)

  -- of an instance that is admitted
  pub counted_scope : (p : Position) (s : Step) → nat_lt s.copy (copies (w (count p s.resource))) ≡ true
      → is_admitted w (deployments p) ≡ true
  counted_scope p s e =
      sym (of_count p s.resource)
      ∙ is_there (count p s.resource) (no_index (w (count p s.resource)) s.copy e)

  small_by : (i n : ℕ) → i < n → n ≤ 800 → i < 2 ^ 63
  small_by i n a b = omega (arith, a, b)

  pub small_index : (p : Position) (s : Step) → nat_lt s.copy (copies (w (count p s.resource))) ≡ true
      → s.copy < 2 ^ 63
  small_index p s e =
      small_by s.copy (copies (w (count p s.resource))) (lt_of_true s.copy (copies (w (count p s.resource))) e)
      (le_of_true (copies (w (count p s.resource))) 800 (facts.counts p s.resource))

  pub included_admitted : (p : Position) (s : Step) → is_true (w (included p s)) ≡ true
      → nat_lt s.copy (copies (w (count p s.resource))) ≡ true
  included_admitted p s e = is_there (included p s) (not_none (w (included p s)) e)

  pub offered_scope : (p : Position) (x : List ℕ) → is_true (w (offered p x)) ≡ true
      → is_admitted w (deployments p) ≡ true
  offered_scope p x e = sym (of_offered p x) ∙ is_there (offered p x) (not_none (w (offered p x)) e)

  -- a scope that is there has a place
  pub record HasPlace (p : Position) : Type 0 where
    pub place : Place
    pub is : value_in w (place_at d.place p) ≡ Some place

  root_place : value_in w (place_at d.place []) ≡ Some d.place
  unfolding value_in
  root_place = refl

  pub has_place : (p q : Position) → to_position (numbering z d.files) p ≡ Some q
      → is_admitted w (deployments p) ≡ true → HasPlace p
  has_place [] q e a = record { place = d.place; is = root_place }
  has_place (s ∷ p) q e a =
      let n = facts.names p q s e a in record {
        place = record d.place { deployment = n.title };
        is =
            named_place w (name p s) (λ j. with_deployment d.place j)
            ∙ ap (option_and_then (λ j. with_deployment d.place j)) n.is;
      }
