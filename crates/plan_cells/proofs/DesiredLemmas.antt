-- A desired state of a template is one part by part.
use Rattle.std.proofs.Common.{◌≡◌, Bool, true, false, true≢false, List, ◌∷◌, Option, Some, None, refl, sym, ap, ◌∙◌}
use Rattle.std.specs.Prelude.{option_map, option_and_then, if◌then◌else◌}
use Rattle.template_parameters.specs.Json.{Json}
use Rattle.deploy_cells.specs.Held.{HeldResource}
use Rattle.reading.specs.Reading.{done, pure}
use Rattle.reading.specs.World.{value_in}
use Rattle.reading.proofs.Parts.{value_in-continued}
use Rattle.deploy_cells.specs.Cells.{Step, Position, Cell, parameter, variable, offered, output, count, included, name, deployments, state, World, is_admitted}
use Rattle.deploy_cells.specs.Guarded.{Reads, there, there_if, IsWorld}
use Rattle.deploy_cells.proofs.CellLemmas.{guarded_value}
use Rattle.plan_cells.specs.Resources.{Nested, nested_numbers}
use Rattle.deploy_cells.specs.Listing.{listing_value}
use Rattle.plan_cells.specs.Scopes.{template_at, nested_of}
use Rattle.plan_cells.specs.Meaning.{Deployment, raw, rule, if_meets, ruled, plain, meaning}
use Rattle.plan_cells.specs.Desired.{Satisfies, HasValue, IsValued, is_state, HasScope, HasParts}
use Rattle.template_parameters.specs.Kinds.{is_true}

module _ (d : Deployment) (w : World) where
  plain_is : (c : Cell) → is_state c ≡ false → plain d c ≡ there_if (option_map (ruled d (rule d c)) (raw d c))
  unfolding plain
  plain_is (parameter p x) e = refl
  plain_is (variable p x) e = refl
  plain_is (offered p x) e = refl
  plain_is (output p x) e = refl
  plain_is (count p r) e = refl
  plain_is (included p s) e = refl
  plain_is (name p s) e = refl
  plain_is (deployments p) e = refl
  plain_is (state k) e = absurd (true≢false e)

  abbrev some_there : Json → Option (Option Json)
  some_there v = Some (Some v)

  -- what a value that meets its rule, or none, comes to
  abbrev kept : (Json → Bool) → Option Json → Option (Option Json)
  kept f o = option_and_then some_there (option_and_then (λ j. if_meets d (f j) j) o)

  ruled_value : (f : Json → Bool) (r : Reads Json) → value_in w (there (ruled d f r)) ≡ kept f (value_in w r)
  unfolding value_in
  ruled_value f r =
      value_in-continued Cell Json Json (Option Json) w (ruled d f r) (λ v. pure (Some v))
      ∙ ap (option_and_then some_there)
      (value_in-continued Cell Json Json Json w r (λ j. done (if_meets d (f j) j)))

  plain_value : (c : Cell) (r : Reads Json) → is_state c ≡ false → raw d c ≡ Some r
      → value_in w (plain d c) ≡ kept (rule d c) (value_in w r)
  plain_value c r s e =
      ap (value_in w) (plain_is c s ∙ ap (λ o. there_if (option_map (ruled d (rule d c)) o)) e)
      ∙ ruled_value (rule d c) r

  by_rule : (c : Cell) (r : Reads Json) (j : Json) (b : Bool) → rule d c j ≡ b → value_in w r ≡ Some j
      → option_and_then some_there (if_meets d b j) ≡ Some (w c) → HasValue d w c r
  by_rule c r j true m e h =
      let f : Some j ≡ w c = cc in record { value = j; is_read = e; meets = m; has = sym f }
  by_rule c r j false m e h = let f : None ≡ Some (w c) = h in absurd (cc)

  by_value : (c : Cell) (r : Reads Json) (o : Option Json) → value_in w r ≡ o → kept (rule d c) o ≡ Some (w c)
      → HasValue d w c r
  by_value c r None e h = let f : None ≡ Some (w c) = h in absurd (cc)
  by_value c r (Some j) e h = by_rule c r j (rule d c j) refl e h

  -- what a cell is in a world where its parent admits it
  admitted_value : IsWorld (meaning d) w → (c : Cell) → is_admitted w c ≡ true → value_in w (plain d c) ≡ Some (w c)
  unfolding meaning
  admitted_value h c a =
      sym (guarded_value w c (plain d c) ∙ ap (λ b. if b then value_in w (plain d c) else Some None) a) ∙ h c

  pub valued : IsWorld (meaning d) w → (c : Cell) → is_state c ≡ false → IsValued d w c
  valued h c s r e a = by_value c r (value_in w r) refl (sym (plain_value c r s e) ∙ admitted_value h c a)

  none_is : (o : Option Json) → Some None ≡ Some o → o ≡ None
  none_is o e = cc

  undeclared : IsWorld (meaning d) w → (c : Cell) → raw d c ≡ None → is_state c ≡ false → is_admitted w c ≡ true
      → w c ≡ None
  unfolding value_in
  undeclared h c e s a =
      none_is (w c) (sym (ap (value_in w) (plain_is c s ∙ ap (λ o. there_if (option_map (ruled d (rule d c)) o)) e))
      ∙ admitted_value h c a)

  pub not_admitted : IsWorld (meaning d) w → (c : Cell) → is_admitted w c ≡ false → w c ≡ None
  unfolding meaning
  not_admitted h c a =
      none_is (w c) (sym (guarded_value w c (plain d c)
      ∙ ap (λ b. if b then value_in w (plain d c) else Some None) a) ∙ h c)

  pub by_admitted : IsWorld (meaning d) w → (c : Cell) → raw d c ≡ None → is_state c ≡ false → (b : Bool)
      → is_admitted w c ≡ b → w c ≡ None
  by_admitted h c e s true a = undeclared h c e s a
  by_admitted h c e s false a = not_admitted h c a

  scope_raw : (p : Position) (s : Step) (n : Nested) → nested_of d.template p s ≡ Some n
      → raw d (deployments (s ∷ p)) ≡ Some (listing_value (s ∷ p) (nested_numbers n.template))
  unfolding raw template_at
  scope_raw p s n e =
      ap (λ o. option_map (λ t. listing_value (s ∷ p) (nested_numbers t))
      (option_map (λ (x : Nested). x.template) o)) e

  scope_there : IsWorld (meaning d) w → (p : Position) (s : Step) → HasScope d w p s
  scope_there h p s n e i =
      let v = valued h (deployments (s ∷ p)) refl (listing_value (s ∷ p) (nested_numbers n.template))
      (scope_raw p s n e) (ap is_true i) in (v.value, v.has)

  -- the value of a cell that has one
  has_plain : (c : Cell) (r : Reads Json) → is_state c ≡ false → raw d c ≡ Some r → (v : HasValue d w c r)
      → value_in w (plain d c) ≡ Some (w c)
  has_plain c r s e v =
      plain_value c r s e ∙ ap (kept (rule d c)) v.is_read
      ∙ ap (λ b. option_and_then some_there (if_meets d b v.value)) v.meets ∙ ap (λ o. Some o) (sym v.has)

  none_plain : (c : Cell) → is_state c ≡ false → raw d c ≡ None → w c ≡ None → value_in w (plain d c) ≡ Some (w c)
  unfolding value_in
  none_plain c s e n =
      ap (value_in w) (plain_is c s ∙ ap (λ o. there_if (option_map (ruled d (rule d c)) o)) e)
      ∙ ap (λ o. Some o) (sym n)

module _ (d : Deployment) (held : List HeldResource) (w : World) where
  pub forth : Satisfies d held w → HasParts d held w
  forth h =
      let v = valued d w h.is_world in record {
        parameters = λ p x. v (parameter p x) refl;
        variables = λ p x. v (variable p x) refl;
        counts = λ p r. v (count p r) refl;
        conditions = λ p s. v (included p s) refl;
        names = λ p s. v (name p s) refl;
        have_bodies = h.have_bodies;
        scopes = scope_there d w h.is_world;
        deployments_listed = λ p. v (deployments p) refl;
        outputs_offered = λ p x. v (offered p x) refl;
        outputs = λ p x. v (output p x) refl;
        resources_differ = h.resources_differ;
        deployments_differ = h.deployments_differ;
        others_are_held = h.others_are_held;
        undeclared = λ c e s. by_admitted d w h.is_world c e s (is_admitted w c) refl;
        not_admitted = not_admitted d w h.is_world;
      }

  module _ (h : HasParts d held w) where
    all_valued : (c : Cell) → is_state c ≡ false → IsValued d w c
    all_valued (parameter p x) e = h.parameters p x
    all_valued (variable p x) e = h.variables p x
    all_valued (offered p x) e = h.outputs_offered p x
    all_valued (output p x) e = h.outputs p x
    all_valued (count p r) e = h.counts p r
    all_valued (included p s) e = h.conditions p s
    all_valued (name p s) e = h.names p s
    all_valued (deployments p) e = h.deployments_listed p
    all_valued (state k) e = absurd (true≢false e)

    by_raw : (c : Cell) → is_state c ≡ false → is_admitted w c ≡ true → (o : Option (Reads Json)) → raw d c ≡ o
        → value_in w (plain d c) ≡ Some (w c)
    by_raw c s a None e = none_plain d w c s e (h.undeclared c e s)
    by_raw c s a (Some r) e = has_plain d w c r s e (all_valued c s r e a)

    state_plain : (c : Cell) → is_state c ≡ true → value_in w (plain d c) ≡ Some (w c)
    unfolding plain value_in
    state_plain (state k) e = refl
    state_plain (parameter p x) e = absurd (true≢false (sym e))
    state_plain (variable p x) e = absurd (true≢false (sym e))
    state_plain (offered p x) e = absurd (true≢false (sym e))
    state_plain (output p x) e = absurd (true≢false (sym e))
    state_plain (count p r) e = absurd (true≢false (sym e))
    state_plain (included p s) e = absurd (true≢false (sym e))
    state_plain (name p s) e = absurd (true≢false (sym e))
    state_plain (deployments p) e = absurd (true≢false (sym e))

    by_state : (c : Cell) → is_admitted w c ≡ true → (b : Bool) → is_state c ≡ b → value_in w (plain d c) ≡ Some (w c)
    by_state c a true s = state_plain c s
    by_state c a false s = by_raw c s a (raw d c) refl

    by_parent : (c : Cell) (b : Bool) → is_admitted w c ≡ b
        → (if b then value_in w (plain d c) else Some None) ≡ Some (w c)
    by_parent c true a = by_state c a (is_state c) refl
    by_parent c false a = ap (λ o. Some o) (sym (h.not_admitted c a))

    is_world : IsWorld (meaning d) w
    unfolding meaning
    is_world c = guarded_value w c (plain d c) ∙ by_parent c (is_admitted w c) refl

  pub back : HasParts d held w → Satisfies d held w
  back h = record {
    is_world = is_world h;
    have_bodies = h.have_bodies;
    resources_differ = h.resources_differ;
    deployments_differ = h.deployments_differ;
    others_are_held = h.others_are_held;
  }
