-- What a desired state of a program has for each cell.
use Rattle.std.proofs.Common.{◌≡◌, Bool, true, false, true≢false, Option, Some, None, refl, sym, ap, ◌∙◌}
use Rattle.std.specs.Prelude.{option_map, option_and_then, if◌then◌else◌}
use Rattle.foundation.proofs.Options.{same_some}
use Rattle.arm_value.specs.Json.{Json}
use Rattle.reading.specs.Reading.{done, pure}
use Rattle.reading.specs.World.{value_in}
use Rattle.reading.proofs.Parts.{value_in-continued}
use Rattle.deploy_cells.specs.Cells.{Cell, parameter, variable, offered, output, count, included, name, deployments}
use Rattle.deploy_cells.specs.Cells.{state, World, is_admitted}
use Rattle.deploy_cells.specs.Guarded.{Reads, there, there_if, IsWorld}
use Rattle.deploy_cells.proofs.CellLemmas.{guarded_value}
use Rattle.plan_cells.specs.Desired.{is_state}
use Rattle.bicep_meaning.specs.Instances.{SourceProgram, raw, rule, if_meets, ruled, plain, meaning}

-- a value that is read and meets its rule
pub record HasValue (w : World) (f : Json → Bool) (r : Reads Json) (o : Option Json) : Type 0 where
  pub value : Json
  pub is_read : value_in w r ≡ Some value
  pub meets : f value ≡ true
  pub has : o ≡ Some value

module _ (d : SourceProgram) (w : World) where
  pub plain_is : (c : Cell) → is_state c ≡ false → plain d c ≡ there_if (option_map (ruled (rule d c)) (raw d c))
  unfolding plain
  plain_is (parameter p x) e = refl
  plain_is (variable p x) e = refl
  plain_is (offered p x) e = refl
  plain_is (output p x) e = refl
  plain_is (count p r) e = refl
  plain_is (included p s) e = refl
  plain_is (name p s) e = refl
  plain_is (deployments p) e = refl
  plain_is (state k) e = absurd (true≢false e)

  abbrev some_there : Json → Option (Option Json)
  some_there v = Some (Some v)

  -- what a value that meets its rule, or none, comes to
  abbrev pub kept : (Json → Bool) → Option Json → Option (Option Json)
  kept f o = option_and_then some_there (option_and_then (λ j. if_meets (f j) j) o)

  pub ruled_value : (f : Json → Bool) (r : Reads Json) → value_in w (there (ruled f r)) ≡ kept f (value_in w r)
  unfolding value_in
  ruled_value f r =
      value_in-continued Cell Json Json (Option Json) w (ruled f r) (λ v. pure (Some v))
      ∙ ap (option_and_then some_there)
      (value_in-continued Cell Json Json Json w r (λ j. done (if_meets (f j) j)))

  pub plain_value : (c : Cell) (r : Reads Json) → is_state c ≡ false → raw d c ≡ Some r
      → value_in w (plain d c) ≡ kept (rule d c) (value_in w r)
  plain_value c r s e =
      ap (value_in w) (plain_is c s ∙ ap (λ o. there_if (option_map (ruled (rule d c)) o)) e)
      ∙ ruled_value (rule d c) r

  by_rule : (f : Json → Bool) (r : Reads Json) (o : Option Json) (j : Json) (b : Bool) → f j ≡ b
      → value_in w r ≡ Some j → option_and_then some_there (if_meets b j) ≡ Some o → HasValue w f r o
  by_rule f r o j true m e h = record { value = j; is_read = e; meets = m; has = sym (same_some h) }
  by_rule f r o j false m e h = absurd cc

  by_value : (f : Json → Bool) (r : Reads Json) (o u : Option Json) → value_in w r ≡ u → kept f u ≡ Some o
      → HasValue w f r o
  by_value f r o None e h = absurd cc
  by_value f r o (Some j) e h = by_rule f r o j (f j) refl e h

  -- what a cell is in a world where its parent admits it
  admitted_value : IsWorld (meaning d) w → (c : Cell) → is_admitted w c ≡ true → value_in w (plain d c) ≡ Some (w c)
  unfolding meaning
  admitted_value h c a =
      sym (guarded_value w c (plain d c) ∙ ap (λ b. if b then value_in w (plain d c) else Some None) a) ∙ h c

  pub valued : IsWorld (meaning d) w → (c : Cell) → is_state c ≡ false → (r : Reads Json) → raw d c ≡ Some r
      → is_admitted w c ≡ true → HasValue w (rule d c) r (w c)
  valued h c s r e a =
      by_value (rule d c) r (w c) (value_in w r) refl (sym (plain_value c r s e) ∙ admitted_value h c a)

  undeclared : IsWorld (meaning d) w → (c : Cell) → raw d c ≡ None → is_state c ≡ false → is_admitted w c ≡ true
      → w c ≡ None
  unfolding value_in
  undeclared h c e s a =
      same_some
      (sym (sym (ap (value_in w) (plain_is c s ∙ ap (λ o. there_if (option_map (ruled (rule d c)) o)) e))
      ∙ admitted_value h c a))

  pub not_admitted : IsWorld (meaning d) w → (c : Cell) → is_admitted w c ≡ false → w c ≡ None
  unfolding meaning
  not_admitted h c a =
      same_some
      (sym (sym (guarded_value w c (plain d c) ∙ ap (λ b. if b then value_in w (plain d c) else Some None) a) ∙ h c))

  pub by_admitted : IsWorld (meaning d) w → (c : Cell) → raw d c ≡ None → is_state c ≡ false → (b : Bool)
      → is_admitted w c ≡ b → w c ≡ None
  by_admitted h c e s true a = undeclared h c e s a
  by_admitted h c e s false a = not_admitted h c a
