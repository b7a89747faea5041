-- Elements of `dependsOn` that are built and measured one after another.
use Rattle.std.proofs.Common.{◌≡◌, ℕ, Bool, true, false, List, [], ◌∷◌, ◌++◌, Some, None, Result, Ok, Err}
use Rattle.std.proofs.Common.{refl, ap, sym, subst, ◌∙◌, arith, max}
use Rattle.std.proofs.lemmas.List.{append-nil, append_assoc}
use Rattle.std.specs.declared.alloc.AllocError.{AllocError}
use Rattle.std.specs.Prelude.{IfOk, is_some, if◌then◌else◌}
use Rattle.arm_value.specs.Json.{Json}
use Rattle.template_parts.specs.declared.mode.Form.{Form}
use Rattle.bicep_declared.specs.Declarations.{DeclaredTree}
use Rattle.bicep_meaning.specs.Files.{SourceFile, declaration}
use Rattle.bicep_meaning.specs.Instances.{put_by}
use Rattle.measured_trees.specs.Extremes.{nothing, joined, enclosed}
use Rattle.measured_trees.specs.Measures.{IsOf}
use Rattle.measured_trees.specs.declared.measure.Measure.{Measure}
use Rattle.source_worlds.specs.Numbers.{is_put}
use Rattle.emitted_dependencies.specs.Elements.{element_json, elements, put_among, put_element, IsPutAt}
use Rattle.emitted_dependencies.specs.Elements.{element_extremes, elements_extremes, put_extremes}

-- ---- the declaration of a number

module _ (f : SourceFile) (n : ℕ) where
  pub is_none : declaration f n ≡ None → is_put f n ≡ false
  is_none is = ap (λ o. is_some (put_by f n o)) is

  pub is_other : (d : DeclaredTree) → declaration f n ≡ Some d → is_some (put_by f n (Some d)) ≡ false
      → is_put f n ≡ false
  is_other d is e = ap (λ o. is_some (put_by f n o)) is ∙ e

  pub is_put_at : (d : DeclaredTree) → declaration f n ≡ Some d → is_some (put_by f n (Some d)) ≡ true
      → IsPutAt f n (Some d)
  is_put_at d is e = (is, ap (λ o. is_some (put_by f n o)) is ∙ e)

-- ---- elements

module _ (files : List SourceFile) (f : SourceFile) (z : Form) where
  pub left_out : (js : List Json) (n : ℕ) → is_put f n ≡ false → js ≡ js ++ put_element files f z n
  left_out js n e =
      sym (append-nil js) ∙ sym (ap (λ b. js ++ (if b then element_json files f z n ∷ [] else [])) e)

  pub put_last : (js : List Json) (n : ℕ) → is_put f n ≡ true → (r : Result (List Json) AllocError)
      → IfOk r (λ more. more ≡ js ++ element_json files f z n ∷ [])
      → IfOk r (λ more. more ≡ js ++ put_element files f z n)
  put_last js n e (Err x) h = tt
  put_last js n e (Ok more) h =
      h ∙ sym (ap (λ b. js ++ (if b then element_json files f z n ∷ [] else [])) e)

  next_by : (b : Bool) (n : ℕ) (ns : List ℕ)
      → elements files f z (if b then n ∷ ns else ns)
      ≡ (if b then element_json files f z n ∷ [] else []) ++ elements files f z ns
  next_by true n ns = refl
  next_by false n ns = refl

  -- one more number is looked at
  pub one_more : (js more whole : List Json) (left rest : List ℕ) (n : ℕ) → left ≡ n ∷ rest
      → more ≡ js ++ put_element files f z n → js ++ elements files f z (put_among f left) ≡ whole
      → more ++ elements files f z (put_among f rest) ≡ whole
  one_more js more whole left rest n e m h =
      ap (λ xs. xs ++ elements files f z (put_among f rest)) m
      ∙ append_assoc js (put_element files f z n) (elements files f z (put_among f rest))
      ∙ ap (λ xs. js ++ xs) (sym (next_by (is_put f n) n (put_among f rest)))
      ∙ ap (λ ns. js ++ elements files f z (put_among f ns)) (sym e)
      ∙ h

  pub none_left : (js whole : List Json) (left : List ℕ) → left ≡ []
      → js ++ elements files f z (put_among f left) ≡ whole → js ≡ whole
  none_left js whole left e h =
      sym (append-nil js) ∙ ap (λ ns. js ++ elements files f z (put_among f ns)) (sym e) ∙ h

  -- ---- what they take

  pub takes : (m : Measure) (n : ℕ) → is_put f n ≡ true → IsOf (enclosed (element_extremes files f z n)) m
      → IsOf (put_extremes files f z n) m
  takes m n e h = subst (λ b. IsOf (if b then enclosed (element_extremes files f z n) else nothing) m) (sym e) h

  pub takes_nothing : (m : Measure) (n : ℕ) → is_put f n ≡ false → IsOf nothing m → IsOf (put_extremes files f z n) m
  takes_nothing m n e h = subst (λ b. IsOf (if b then enclosed (element_extremes files f z n) else nothing) m) (sym e) h

  measured_by : (b : Bool) (n : ℕ) (ns : List ℕ)
      → elements_extremes files f z (if b then n ∷ ns else ns)
      ≡ joined (if b then enclosed (element_extremes files f z n) else nothing) (elements_extremes files f z ns)
  measured_by true n ns = refl
  measured_by false n ns =
      let x = elements_extremes files f z ns in
      λ i. record { longest = some x.longest i; deepest = some x.deepest i; depth = some x.depth i }
    where
      some : (x : ℕ) → x ≡ max 0 x
      some x = omega arith

  pub first_measured : (left rest : List ℕ) (n : ℕ) → left ≡ n ∷ rest
      → elements_extremes files f z (put_among f left)
      ≡ joined (put_extremes files f z n) (elements_extremes files f z (put_among f rest))
  first_measured left rest n e =
      ap (λ ns. elements_extremes files f z (put_among f ns)) e
      ∙ measured_by (is_put f n) n (put_among f rest)

  pub none_measured : (left : List ℕ) → left ≡ [] → elements_extremes files f z (put_among f left) ≡ nothing
  none_measured left e = ap (λ ns. elements_extremes files f z (put_among f ns)) e
