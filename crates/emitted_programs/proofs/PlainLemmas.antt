-- A cell that both read alike, with the same rule, is the same.
use Rattle.std.proofs.Common.{◌≡◌, Bool, true, false, true≢false, Option, Some, None, refl, sym, ap, ◌∙◌}
use Rattle.std.specs.Prelude.{option_map, option_and_then}
use Rattle.arm_value.specs.Json.{Json}
use Rattle.reading.specs.Reading.{done, pure}
use Rattle.reading.specs.World.{value_in}
use Rattle.reading.proofs.Parts.{value_in-continued}
use Rattle.deploy_cells.specs.Cells.{Cell, parameter, variable, offered, output, count, included, name, deployments}
use Rattle.deploy_cells.specs.Cells.{state, World}
use Rattle.deploy_cells.specs.Guarded.{Reads, there, there_if}
use Rattle.plan_cells.specs.Desired.{is_state}
use Rattle.plan_cells.specs.Meaning as template
use Rattle.plan_cells.specs.Meaning.{Deployment}
use Rattle.bicep_meaning.specs.Instances as program
use Rattle.bicep_meaning.specs.Instances.{SourceProgram}
use Rattle.emitted_sites.proofs.SourceLemmas as source
use Rattle.emitted_programs.proofs.OptionLemmas.{Side, Same, value_seen}

module _ (t : Deployment) (d : SourceProgram) (x y : Side) where
  abbrev v : World
  v = x.world

  abbrev w : World
  w = y.world

  template_plain : (e : Cell) → is_state e ≡ false
      → template.plain t e ≡ there_if (option_map (template.ruled t (template.rule t e)) (template.raw t e))
  unfolding template.plain
  template_plain (parameter p x) e = refl
  template_plain (variable p x) e = refl
  template_plain (offered p x) e = refl
  template_plain (output p x) e = refl
  template_plain (count p r) e = refl
  template_plain (included p s) e = refl
  template_plain (name p s) e = refl
  template_plain (deployments p) e = refl
  template_plain (state k) e = absurd (true≢false e)

  abbrev some_there : Json → Option (Option Json)
  some_there j = Some (Some j)

  abbrev kept : (Json → Bool) → Option Json → Option (Option Json)
  kept f o = option_and_then some_there (option_and_then (λ j. template.if_meets t (f j) j) o)

  ruled_value : (f : Json → Bool) (r : Reads Json) → value_in v (there (template.ruled t f r)) ≡ kept f (value_in v r)
  unfolding value_in
  ruled_value f r =
      value_in-continued Cell Json Json (Option Json) v (template.ruled t f r) (λ j. pure (Some j))
      ∙ ap (option_and_then some_there)
      (value_in-continued Cell Json Json Json v r (λ j. done (template.if_meets t (f j) j)))

  meets_same : (b : Bool) (j : Json)
      → option_and_then some_there (template.if_meets t b j) ≡ option_and_then some_there (program.if_meets b j)
  meets_same true j = refl
  meets_same false j = refl

  kept_same : (f g : Json → Bool) (o : Option Json) → ((j : Json) → f j ≡ g j) → kept f o ≡ source.kept d w g o
  kept_same f g None h = refl
  kept_same f g (Some j) h =
      ap (λ b. option_and_then some_there (template.if_meets t b j)) (h j) ∙ meets_same (g j) j

  by_raw : (f g : Json → Bool) (a b : Option (Reads Json)) → Same x y a b → ((j : Json) → f j ≡ g j)
      → value_in v (there_if (option_map (template.ruled t f) a))
      ≡ value_in w (there_if (option_map (program.ruled g) b))
  unfolding value_in
  by_raw f g None None h k = refl
  by_raw f g None (Some s) h k = absurd h
  by_raw f g (Some r) None h k = absurd h
  by_raw f g (Some r) (Some s) h k =
      ruled_value f r ∙ ap (kept f) (value_seen x y r s h) ∙ kept_same f g (value_in w s) k
      ∙ sym (source.ruled_value d w g s)

  pub plain_same : (c e : Cell) → is_state c ≡ false → is_state e ≡ false
      → Same x y (template.raw t e) (program.raw d c) → ((j : Json) → template.rule t e j ≡ program.rule d c j)
      → value_in v (template.plain t e) ≡ value_in w (program.plain d c)
  plain_same c e h k s rules =
      ap (value_in v) (template_plain e k)
      ∙ by_raw (template.rule t e) (program.rule d c) (template.raw t e) (program.raw d c) s rules
      ∙ sym (ap (value_in w) (source.plain_is d w c h))
