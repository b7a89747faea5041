-- The parameters of symbols, one after another.
use Rattle.std.proofs.Common.{◌≡◌, ◌<◌, ◌≤◌, ◌+◌, ℕ, zero, suc, List, [], ◌∷◌, ◌++◌, length, Option, None}
use Rattle.std.proofs.Common.{◌⊎◌, inl, inr, Ok, Err, refl, sym, ap, ◌∙◌, subst, arith}
use Rattle.std.proofs.lemmas.Option.{slice_get_past}
use Rattle.std.specs.Prelude.{slice_get, slice_index_or, option_map, Result, IfOk}
use Rattle.std.specs.declared.alloc.AllocError.{AllocError}
use Rattle.std.specs.declared.alloc.Global.{Global}
use Rattle.std.specs.declared.vec.Vec.{Vec}
use Rattle.std.proofs.lemmas.Bool.{cases_lt}
use Rattle.foundation.proofs.Comparisons.{lt_or_is}
use Rattle.template_parts.specs.declared.parameter.Parameter.{Parameter}
use Rattle.bicep_tree.specs.Tree.{DecoratorTrees, FileTree}
use Rattle.bicep_symbols.specs.Entries.{Symbol}
use Rattle.bicep_declared.specs.Declarations.{DeclaredTree}
use Rattle.bicep_meaning.specs.Files.{SourceFile}
use Rattle.symbol_decorators.specs.Decorators.{decorators_of}
use Rattle.parameter_rules.specs.Files.{IsTyped, IsParameter, IsParameterAt}
use Rattle.parameter_rules.specs.Rules.{type_of, or_no}

old_read : {A : Type 0} (d x : A) (xs : List A) (k : ℕ) → k < length xs
    → slice_index_or (xs ++ x ∷ []) k d ≡ slice_index_or xs k d
old_read d x [] k h = absurd (omega (arith, h))
old_read d x (y ∷ ys) zero h = refl
old_read d x (y ∷ ys) (suc k) h = old_read d x ys k (omega (arith, h))

new_read : {A : Type 0} (d x : A) (xs : List A) → slice_index_or (xs ++ x ∷ []) (length xs) d ≡ x
new_read d x [] = refl
new_read d x (y ∷ ys) = new_read d x ys

past_read : {A : Type 0} (d : A) (xs : List A) (k : ℕ) → length xs ≤ k → slice_index_or xs k d ≡ d
past_read d [] k h = refl
past_read d (y ∷ ys) zero h = absurd (omega (arith, h))
past_read d (y ∷ ys) (suc k) h = past_read d ys k (omega (arith, h))

module _ (ss : List Symbol) (ds : List DeclaredTree) (xs : List DecoratorTrees) where
  -- the symbols before a number have their parameters
  pub record Goes (number : ℕ) (done : List (Option Parameter)) : Type 0 where
    pub each : (n : ℕ) → n < number → IsParameter ss ds xs n (slice_index_or done n None)
    pub count : length done ≡ number

  pub begins : Goes 0 []
  begins = record { each = λ n h. absurd (omega (arith, h)); count = refl }

  pub goes_on : (number : ℕ) (done more : List (Option Parameter)) (o : Option Parameter)
      → IsParameter ss ds xs number o → more ≡ done ++ o ∷ [] → Goes number done → Goes (number + 1) more
  goes_on number done more o h e g = record {
    each = λ n less.
        subst (λ l. IsParameter ss ds xs n (slice_index_or l n None)) (sym e) (by n (lt_or_is n number less));
    count = let c = g.count in let l = ap length e in let k = longer done in omega (arith, c, l, k);
  }
    where
      longer : (l : List (Option Parameter)) → length (l ++ o ∷ []) ≡ length l + 1
      longer [] = refl
      longer (y ∷ ys) = let r = longer ys in omega (arith, r)

      by : (n : ℕ) → (n < number) ⊎ (n ≡ number) → IsParameter ss ds xs n (slice_index_or (done ++ o ∷ []) n None)
      by n (inl less) =
          let c = g.count in
          subst (IsParameter ss ds xs n) (sym (old_read None o done n (omega (arith, less, c)))) (g.each n less)
      by n (inr same) =
          subst (IsParameter ss ds xs n)
          (sym (ap (λ k. slice_index_or (done ++ o ∷ []) k None) (same ∙ sym g.count) ∙ new_read None o done))
          (subst (λ k. IsParameter ss ds xs k o) (sym same) h)

  -- what has no declaration is no parameter
  none_there : (n : ℕ) → length ds ≤ n → IsParameter ss ds xs n None
  none_there n h =
      subst (λ d. IsTyped (option_map (λ s. s.1) (slice_get ss n)) (type_of d) (or_no (slice_get xs n)) None)
      (sym (slice_get_past ds n h)) tt

  pub ends : (number : ℕ) (done : List (Option Parameter)) → length ds ≤ number → Goes number done → (n : ℕ)
      → IsParameter ss ds xs n (slice_index_or done n None)
  ends number done h g n = by (cases_lt n number)
    where
      by : (n < number) ⊎ (number ≤ n) → IsParameter ss ds xs n (slice_index_or done n None)
      by (inl less) = g.each n less
      by (inr more) =
          let c = g.count in
          subst (IsParameter ss ds xs n) (sym (past_read None done n (omega (arith, more, c))))
          (none_there n (omega (arith, more, h)))

-- the parameters of the symbols of a file
pub of_file : (t : FileTree) (f : SourceFile) (ss : List Symbol) (ds : List DeclaredTree) (xs : List DecoratorTrees)
    → f.symbols ≡ ss → f.declared.declarations ≡ ds → xs ≡ decorators_of t
    → (r : Result (Vec (Option Parameter) Global) AllocError)
    → IfOk r (λ v. (n : ℕ) → IsParameter ss ds xs n (slice_index_or v.items n None))
    → IfOk r (λ v. (n : ℕ) → IsParameterAt t f n (slice_index_or v.items n None))
of_file t f ss ds xs p q e (Ok v) h = λ n.
    subst (λ ys. IsParameter f.symbols f.declared.declarations ys n (slice_index_or v.items n None)) e
    (subst (λ cs. IsParameter f.symbols cs xs n (slice_index_or v.items n None)) (sym q)
    (subst (λ ys. IsParameter ys ds xs n (slice_index_or v.items n None)) (sym p) (h n)))
of_file t f ss ds xs p q e (Err x) h = tt
