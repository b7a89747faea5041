-- Numbers of the declarations of a file, and their order.
use Rattle.std.proofs.Common.{◌≡◌, ◌≤◌, ◌<◌, ◌+◌, ◌-◌, ℕ, zero, suc, Bool, true, false, List, [], ◌∷◌, ◌++◌, length}
use Rattle.std.proofs.Common.{Option, Some, None, refl, sym, ap, ◌∙◌, arith}
use Rattle.std.proofs.lemmas.List.{append-nil, append_assoc}
use Rattle.std.specs.Prelude.{is_some, option_and_then, if◌then◌else◌}
use Rattle.template_parts.specs.declared.mode.Form.TheVariants.{One, Two}
use Rattle.bicep_declared.specs.Declarations.{DeclaredTree}
use Rattle.bicep_declared.specs.Declarations as d
use Rattle.bicep_meaning.specs.Files.{SourceFile, declaration}
use Rattle.bicep_meaning.specs.Declared.{body_of}
use Rattle.bicep_meaning.specs.Instances.{put_by}
use Rattle.source_worlds.specs.Numbers.{passing, is_put, is_resource, by_name, in_template}
use Rattle.template_numbers.specs.Listed.{is_listed_by, is_listed, with_number, listed}

-- ---- numbers that pass a test

module _ (test : ℕ → Bool) (size : ℕ) where
  abbrev left : ℕ → List ℕ
  left k = passing test k (size - k)

  -- those that are found, with those that are left, are all
  abbrev pub AreFound : ℕ → List ℕ → Type 0
  AreFound k ns = ns ++ left k ≡ passing test 0 size

  pub none_found : (ns : List ℕ) → ns ≡ [] → AreFound 0 ns
  none_found ns e = ap (λ xs. xs ++ left 0) e ∙ ap (passing test 0) (all_left size)
    where
      all_left : (n : ℕ) → n - 0 ≡ n
      all_left n = omega arith

  left_by : (k : ℕ) (b : Bool) → k < size → test k ≡ b → left k ≡ (if b then k ∷ left (k + 1) else left (k + 1))
  left_by k b l e =
      let m = size - (k + 1) in
      ap (passing test k) (one_less k size l)
      ∙ ap (λ c. if c then k ∷ passing test (suc k) m else passing test (suc k) m) e
      ∙ ap (λ j. if b then k ∷ passing test j m else passing test j m) (next_number k)
    where
      one_less : (n count : ℕ) → n < count → count - n ≡ suc (count - (n + 1))
      one_less n count l = omega (arith, l)

      next_number : (n : ℕ) → suc n ≡ n + 1
      next_number n = omega arith

  pub one_found : (k : ℕ) (ns more : List ℕ) (b : Bool) → k < size → test k ≡ b → more ≡ with_number b ns k
      → AreFound k ns → AreFound (k + 1) more
  one_found k ns more true l e m h =
      ap (λ xs. xs ++ left (k + 1)) m
      ∙ append_assoc ns (k ∷ []) (left (k + 1))
      ∙ ap (λ xs. ns ++ xs) (sym (left_by k true l e))
      ∙ h
  one_found k ns more false l e m h =
      ap (λ xs. xs ++ left (k + 1)) m ∙ ap (λ xs. ns ++ xs) (sym (left_by k false l e)) ∙ h

  pub all_found : (k : ℕ) (ns : List ℕ) → size ≤ k → AreFound k ns → ns ≡ passing test 0 size
  all_found k ns l h =
      sym (append-nil ns) ∙ ap (λ m. ns ++ passing test k m) (sym (nothing_left k size l)) ∙ h
    where
      nothing_left : (n count : ℕ) → count ≤ n → count - n ≡ 0
      nothing_left n count l = omega (arith, l)

-- ---- those of a file

same_test : (p q : ℕ → Bool) → ((n : ℕ) → p n ≡ q n) → (j k : ℕ) → passing p j k ≡ passing q j k
same_test p q e j zero = refl
same_test p q e j (suc k) =
    ap (λ b. if b then j ∷ passing p (suc j) k else passing p (suc j) k) (e j)
    ∙ ap (λ ns. if q j then j ∷ ns else ns) (same_test p q e (suc j) k)

module _ (f : SourceFile) where
  put_is : (n : ℕ) (o : Option DeclaredTree) → is_listed_by One o ≡ is_some (put_by f n o)
  put_is n None = refl
  put_is n (Some (d.parameter at t)) = refl
  put_is n (Some (d.parameter_with at t e)) = refl
  put_is n (Some (d.variable at v)) = refl
  put_is n (Some (d.a_resource at q true b)) = refl
  put_is n (Some (d.a_resource at q false b)) = refl
  put_is n (Some (d.a_module at b)) = refl

  resource_by : (n : ℕ) (o : Option DeclaredTree) → declaration f n ≡ o → is_listed_by Two o ≡ is_resource f n
  resource_by n o e = by_declaration o ∙ ap (λ p. is_some (option_and_then body_of p)) (sym e)
    where
      by_declaration : (o : Option DeclaredTree) → is_listed_by Two o ≡ is_some (option_and_then body_of o)
      by_declaration None = refl
      by_declaration (Some (d.parameter at t)) = refl
      by_declaration (Some (d.parameter_with at t e)) = refl
      by_declaration (Some (d.variable at v)) = refl
      by_declaration (Some (d.a_resource at q true b)) = refl
      by_declaration (Some (d.a_resource at q false b)) = refl
      by_declaration (Some (d.a_module at b)) = refl

  -- in the first form those are all, and in the second they are put in order
  pub listed_first : (ds : List DeclaredTree) → ds ≡ f.declared.declarations → listed One ds ≡ in_template One f
  listed_first ds e =
      ap (listed One) e
      ∙ same_test (is_listed One f.declared.declarations) (is_put f) (λ n. put_is n (declaration f n)) 0
      (length f.declared.declarations)

  pub listed_second : (ds : List DeclaredTree) → ds ≡ f.declared.declarations
      → by_name f (listed Two ds) ≡ in_template Two f
  listed_second ds e =
      ap (λ xs. by_name f (listed Two xs)) e
      ∙ ap (by_name f)
      (same_test (is_listed Two f.declared.declarations) (is_resource f) (λ n. resource_by n (declaration f n) refl) 0
      (length f.declared.declarations))
