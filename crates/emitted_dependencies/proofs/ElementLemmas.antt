-- Elements of `dependsOn`, by declarations.
use Rattle.std.proofs.Common.{◌≡◌, ◌≤◌, ℕ, Bool, true, false, List, [], ◌∷◌, Some, refl, ap, ◌∙◌, arith}
use Rattle.std.specs.Prelude.{is_some, option_and_then}
use Rattle.arm_value.specs.Json.{Json, nesting}
use Rattle.template_parts.specs.declared.mode.Form.{Form}
use Rattle.template_parts.specs.declared.mode.Form.TheVariants.{One, Two}
use Rattle.bicep_declared.specs.Declarations.{BodyTree, DeclaredTree}
use Rattle.bicep_meaning.specs.Declared.{body_of}
use Rattle.bicep_meaning.specs.Files.{SourceFile, declaration}
use Rattle.emitted_files.specs.Files.{id_by, element_by, name_element, dependency, AreElements}
use Rattle.emitted_trees.specs.Templates as t
use Rattle.emitted_trees.specs.Written.{tree_json}
use Rattle.emitted_files.specs.Needs.{is_looped}
use Rattle.emitted_dependencies.specs.Elements.{element_json, elements, ElementsAreWithin}

-- whether a declaration has a loop
abbrev pub has_loop : DeclaredTree → Bool
has_loop d = is_some (option_and_then (λ (b : BodyTree). b.each) (body_of d))

module _ (files : List SourceFile) (f : SourceFile) where
  flat_by : (z : Form) (looped : Bool) (n : ℕ) → nesting (tree_json (element_by files f z looped n)) ≡ 0
  flat_by Two looped n = refl
  flat_by One true n = refl
  flat_by One false n = refl

  -- an element is a text
  pub flat : (z : Form) (n : ℕ) (j : Json) → j ≡ element_json files f z n → nesting j ≤ 119
  flat z n j e =
      let none = ap nesting e ∙ flat_by z (is_looped f n) n in
      omega (arith, none)

  pub elements_are : (z : Form) (ns : List ℕ) → ElementsAreWithin files f z ns
      → AreElements files f z ns (elements files f z ns)
  elements_are z [] h = tt
  elements_are z (n ∷ ns) h = (record { is = refl; is_within = h.0 }, elements_are z ns h.1)

  module _ (n : ℕ) (d : DeclaredTree) (is : declaration f n ≡ Some d) where
    looped_is : is_looped f n ≡ has_loop d
    looped_is = ap (λ o. is_some (option_and_then (λ (b : BodyTree). b.each) (option_and_then body_of o))) is

    -- that of a loop, and that of one without a loop
    pub of_loop : has_loop d ≡ true → dependency files f One n ≡ name_element files f n
    of_loop e = ap (λ b. element_by files f One b n) (looped_is ∙ e)

    pub of_one : has_loop d ≡ false → dependency files f One n ≡ t.expression (id_by files f n (Some d))
    of_one e =
        ap (λ b. element_by files f One b n) (looped_is ∙ e)
        ∙ ap (λ o. t.expression (id_by files f n o)) is
