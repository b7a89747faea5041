-- The batches of symbols, one after another.
use Rattle.std.proofs.Common.{◌≡◌, ◌<◌, ◌≤◌, ◌+◌, ℕ, zero, suc, List, [], ◌∷◌, ◌++◌, length, get_or, drop, map, refl}
use Rattle.std.proofs.Common.{sym, ap, ◌∙◌, append_assoc, append-nil, subst, Some, Ok, Err}
use Rattle.std.proofs.lemmas.List.{drop_all}
use Rattle.std.proofs.lemmas.Option.{slice_get-map, slice_get-get_or}
use Rattle.std.specs.Prelude.{slice_index_or, option_map, option_and_then, Result, IfOk}
use Rattle.std.specs.declared.alloc.Global.{Global}
use Rattle.std.specs.declared.vec.Vec.{Vec}
use Rattle.foundation.proofs.Lists.{next_item}
use Rattle.template_parts.specs.declared.looping.Batches.{Batches}
use Rattle.template_parts.specs.declared.looping.Batches.TheVariants.{Parallel}
use Rattle.bicep_tree.specs.Tree.{DecoratorTrees}
use Rattle.symbol_decorators.specs.Batches.{size_in, batches_by, batches_at}
use Rattle.symbol_decorators.specs.Limits.{IsSmall, AreTheBatches}
use Rattle.symbol_decorators.specs.View.{decorators_at}
use Rattle.symbol_decorators.specs.declared.fault.BatchFault.{BatchFault}
use Rattle.symbol_decorators.specs.declared.listing.Decorated.{Decorated}

abbrev pub batches_in : DecoratorTrees → Batches
batches_in ds = batches_by (size_in ds)

abbrev pub AllSmall : List Batches → Type 0
AllSmall [] = Unit {0}
AllSmall (b ∷ bs) = IsSmall b × AllSmall bs

small_more : (bs : List Batches) (b : Batches) → AllSmall bs → IsSmall b → AllSmall (bs ++ b ∷ [])
small_more [] b h s = (s, tt)
small_more (c ∷ bs) b h s = (h.0, small_more bs b h.1 s)

read : (xs : List DecoratorTrees) (n : ℕ) → slice_index_or (map batches_in xs) n Parallel ≡ batches_at xs n
read [] n = refl
read (x ∷ xs) zero = refl
read (x ∷ xs) (suc n) = read xs n

small_read : (xs : List DecoratorTrees) → AllSmall (map batches_in xs) → (n : ℕ) → IsSmall (batches_at xs n)
small_read [] h n = tt
small_read (x ∷ xs) h zero = h.0
small_read (x ∷ xs) h (suc n) = small_read xs h.1 n

-- the batches so far and those of what is left are all, and none so far is too large
pub record Goes (symbols : List Decorated) (i : ℕ) (done : List Batches) : Type 0 where
  pub all : map batches_in (map decorators_at symbols)
      ≡ done ++ map batches_in (map decorators_at (drop i symbols))
  pub small : AllSmall done

module _ (symbols : List Decorated) where
  pub begins : Goes symbols 0 []
  begins = record { all = refl; small = tt }

  pub goes_on : (i : ℕ) (done more : List Batches) (x : Decorated) (b : Batches) → i < length symbols
      → x ≡ get_or symbols i x → b ≡ batches_in (decorators_at x) → IsSmall (batches_in (decorators_at x))
      → more ≡ done ++ b ∷ [] → Goes symbols i done → Goes symbols (i + 1) more
  goes_on i done more x b h e is s n before =
      let rest = map batches_in (map decorators_at (drop (i + 1) symbols)) in
      let step : map batches_in (map decorators_at (drop i symbols)) ≡ batches_in (decorators_at x) ∷ rest =
      ap (λ (l : List Decorated). map batches_in (map decorators_at l)) (next_item symbols i x h e) in
      let grown : more ≡ done ++ batches_in (decorators_at x) ∷ [] = n ∙ ap (λ c. done ++ c ∷ []) is in
      record {
        all = before.all ∙ ap (λ l. done ++ l) step
            ∙ sym (append_assoc done (batches_in (decorators_at x) ∷ []) rest) ∙ ap (λ l. l ++ rest) (sym grown);
        small = subst AllSmall (sym grown) (small_more done (batches_in (decorators_at x)) before.small s);
      }

  pub ends : (i : ℕ) (done : List Batches) → length symbols ≤ i → Goes symbols i done
      → AreTheBatches (map decorators_at symbols) done
  ends i done h g =
      let xs = map decorators_at symbols in
      let all : map batches_in xs ≡ done =
      g.all ∙ ap (λ (l : List Decorated). done ++ map batches_in (map decorators_at l)) (drop_all i symbols h)
      ∙ append-nil done in
      record {
        are = λ n. ap (λ (l : List Batches). slice_index_or l n Parallel) (sym all) ∙ read xs n;
        small = small_read xs (subst AllSmall (sym all) g.small);
      }

  -- a symbol of the list has the batches of its number
  pub at_number : (i : ℕ) (x : Decorated) → i < length symbols → x ≡ get_or symbols i x
      → batches_at (map decorators_at symbols) i ≡ batches_in (decorators_at x)
  at_number i x h e =
      ap (λ o. batches_by (option_and_then size_in o))
      (slice_get-map decorators_at symbols i
      ∙ ap (option_map decorators_at) (slice_get-get_or symbols i x h ∙ ap Some (sym e)))

-- ---- of a file

pub all_of : (xs ys : List DecoratorTrees) → xs ≡ ys → (r : Result (Vec Batches Global) BatchFault)
    → IfOk r (λ v. AreTheBatches xs v.items)
    → IfOk r (λ v. (n : ℕ) → slice_index_or v.items n Parallel ≡ batches_at ys n)
all_of xs ys e (Ok v) h = λ n. h.are n ∙ ap (λ zs. batches_at zs n) e
all_of xs ys e (Err x) h = tt

pub none_large : (xs ys : List DecoratorTrees) → xs ≡ ys → (r : Result (Vec Batches Global) BatchFault)
    → IfOk r (λ v. AreTheBatches xs v.items) → IfOk r (λ v. (n : ℕ) → IsSmall (batches_at ys n))
none_large xs ys e (Ok v) h = λ n. subst (λ zs. IsSmall (batches_at zs n)) e (h.small n)
none_large xs ys e (Err x) h = tt
