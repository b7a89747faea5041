-- Metadata one after another.
use Rattle.std.proofs.Common.{◌≡◌, ◌<◌, ◌≤◌, ◌+◌, ℕ, zero, suc, List, [], ◌∷◌, ◌++◌, length, get_or, drop, map, refl}
use Rattle.std.proofs.Common.{sym, ap, ◌∙◌, append_assoc, append-nil, subst, Option, None, Some}
use Rattle.std.proofs.lemmas.List.{drop_all}
use Rattle.std.proofs.lemmas.Option.{slice_get-map, slice_get-get_or}
use Rattle.std.specs.Prelude.{slice_index_or, option_map, Result, IfOk}
use Rattle.std.specs.declared.alloc.AllocError.{AllocError}
use Rattle.std.specs.declared.alloc.Global.{Global}
use Rattle.std.specs.declared.vec.Vec.{Vec}
use Rattle.foundation.proofs.Lists.{next_item}
use Rattle.arm_value.specs.View.{json}
use Rattle.arm_value.specs.declared.value.Value.{Value}
use Rattle.bicep_tree.specs.Nesting.{deepest_decorator}
use Rattle.bicep_tree.specs.Tree.{DecoratorTrees}
use Rattle.symbol_decorators.specs.View.{decorators_at}
use Rattle.symbol_decorators.specs.declared.listing.Decorated.{Decorated}
use Rattle.parameter_rules.specs.Files.{AllNest}
use Rattle.parameter_rules.specs.Metadata.{metadata_of}
use Rattle.parameter_rules.specs.Rules.{or_no}
use Rattle.parameter_rules.proofs.DepthLemmas.{nests_at}
use Rattle.file_metadata.specs.Files.{AreOf, metadata_in}

-- ---- lists

values_read : (vs : List (Option Value)) (n : ℕ)
    → option_map json (slice_index_or vs n None) ≡ slice_index_or (map (option_map json) vs) n None
values_read [] n = refl
values_read (v ∷ vs) zero = refl
values_read (v ∷ vs) (suc n) = values_read vs n

metadata_read : (xs : List DecoratorTrees) (n : ℕ) → slice_index_or (map metadata_of xs) n None ≡ metadata_in xs n
metadata_read [] n = refl
metadata_read (x ∷ xs) zero = refl
metadata_read (x ∷ xs) (suc n) = metadata_read xs n

-- ---- one after another

-- the metadata so far and that of what is left are all
abbrev pub Goes : List Decorated → ℕ → List (Option Value) → Type 0
Goes all i done =
    map metadata_of (map decorators_at all)
    ≡ map (option_map json) done ++ map metadata_of (map decorators_at (drop i all))

one_more : (done : List (Option Value)) (v : Option Value)
    → map (option_map json) (done ++ v ∷ []) ≡ map (option_map json) done ++ option_map json v ∷ []
one_more [] v = refl
one_more (d ∷ done) v = ap (λ xs. option_map json d ∷ xs) (one_more done v)

module _ (all : List Decorated) where
  pub begins : Goes all 0 []
  begins = refl

  pub goes_on : (i : ℕ) (done more : List (Option Value)) (x : Decorated) (v : Option Value) → i < length all
      → x ≡ get_or all i x → option_map json v ≡ metadata_of (decorators_at x) → more ≡ done ++ v ∷ []
      → Goes all i done → Goes all (i + 1) more
  goes_on i done more x v h e is n before =
      let rest = map metadata_of (map decorators_at (drop (i + 1) all)) in
      let m = metadata_of (decorators_at x) in
      let step : map metadata_of (map decorators_at (drop i all)) ≡ m ∷ rest =
      ap (λ (l : List Decorated). map metadata_of (map decorators_at l)) (next_item all i x h e) in
      let grown : map (option_map json) more ≡ map (option_map json) done ++ m ∷ [] =
      ap (map (option_map json)) n ∙ one_more done v ∙ ap (λ c. map (option_map json) done ++ c ∷ []) is in
      before ∙ ap (λ l. map (option_map json) done ++ l) step
      ∙ sym (append_assoc (map (option_map json) done) (m ∷ []) rest) ∙ ap (λ l. l ++ rest) (sym grown)

  pub ends : (i : ℕ) (done : List (Option Value)) → length all ≤ i → Goes all i done
      → AreOf (metadata_in (map decorators_at all)) done
  ends i done h g n =
      let xs = map decorators_at all in
      let whole : map metadata_of xs ≡ map (option_map json) done =
      g ∙ ap (λ (l : List Decorated). map (option_map json) done ++ map metadata_of (map decorators_at l))
      (drop_all i all h)
      ∙ append-nil (map (option_map json) done) in
      values_read done n ∙ ap (λ l. slice_index_or l n None) (sym whole) ∙ metadata_read xs n

  -- the decorators of one in the list nest no deeper
  pub nests : AllNest (map decorators_at all) → (i : ℕ) (x : Decorated) → i < length all → x ≡ get_or all i x
      → deepest_decorator (decorators_at x) ≤ 119
  nests h i x l e =
      subst (λ o. deepest_decorator (or_no o) ≤ 119)
      (slice_get-map decorators_at all i
      ∙ ap (option_map decorators_at) (slice_get-get_or all i x l ∙ ap Some (sym e)))
      (nests_at (map decorators_at all) i h)

-- the same of other decorators that are these
pub of_file : (xs ys : List DecoratorTrees) → xs ≡ ys → (r : Result (Vec (Option Value) Global) AllocError)
    → IfOk r (λ v. AreOf (metadata_in xs) v.items) → IfOk r (λ v. AreOf (metadata_in ys) v.items)
of_file xs ys e r h = subst (λ zs. IfOk r (λ v. AreOf (metadata_in zs) v.items)) e h
