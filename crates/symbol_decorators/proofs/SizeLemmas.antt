-- Batches of loops whose decorators are not bad are not empty.
use Rattle.std.proofs.Common.{◌≡◌, ◌≤◌, ℕ, zero, suc, pos, negsuc, Bool, true, false, List, [], ◌∷◌, ◌++◌, Option, Some}
use Rattle.std.proofs.Common.{None, refl, ap, subst}
use Rattle.std.specs.Prelude.{◌&&◌, int_le, not, option_and_then, slice_get, if◌then◌else◌}
use Rattle.foundation.specs.Options.{or_else}
use Rattle.foundation.proofs.Comparisons.{le_of_true}
use Rattle.foundation.proofs.Options.{same_some}
use Rattle.foundation.proofs.TruthValues.{both}
use Rattle.template_parts.specs.declared.looping.Batches.{Batches}
use Rattle.template_parts.specs.declared.looping.Batches.TheVariants.{Parallel, Serial}
use Rattle.bicep_tree.specs.declared.leaf.Literal.{Literal}
use Rattle.bicep_tree.specs.declared.leaf.Literal.TheVariants as l
use Rattle.bicep_tree.specs.Tree.{Trees, none, more, DecoratorTree, decorator, DecoratorTrees, no_decorator}
use Rattle.bicep_tree.specs.Tree.{and_decorator, FileTree}
use Rattle.bicep_decorators.specs.Decorators.{decorator_named, function_text, decorator_name, decorator_at, admits}
use Rattle.bicep_decorators.specs.Decorators.{is_allowed, is_among, is_fine, bad_from, bad_in_file, on_loop, is_end}
use Rattle.bicep_decorators.specs.Decorators.{is_positive, is_positive_literal}
use Rattle.bicep_decorators.specs.Literals.{literal_in}
use Rattle.bicep_decorators.specs.declared.kind.DecoratorKind.{DecoratorKind}
use Rattle.bicep_decorators.specs.declared.kind.DecoratorKind.TheVariants as k
use Rattle.bicep_decorators.specs.declared.place.Place.{Place}
use Rattle.symbol_decorators.specs.Batches.{number_in, size_by, size_of, size_in, batches_by, batches_of}
use Rattle.symbol_decorators.specs.Decorators.{decorators_of}
use Rattle.symbol_decorators.proofs.FineLemmas.{AreFine, all_fine}

-- ---- one decorator

positive : (n : ℕ) → int_le (pos 1) (pos n) ≡ true → 1 ≤ n
positive n e = le_of_true 1 n e

literal_positive : (o : Option Literal) (m : ℕ) → is_positive_literal o ≡ true → number_in o ≡ Some m → 1 ≤ m
literal_positive None m a s = absurd cc
literal_positive (Some (l.Number (pos n))) m a s = subst (λ k. 1 ≤ k) (same_some s) (positive n a)
literal_positive (Some (l.Number (negsuc n))) m a s = absurd cc
literal_positive (Some (l.Text t)) m a s = absurd cc
literal_positive (Some l.True) m a s = absurd cc
literal_positive (Some l.False) m a s = absurd cc
literal_positive (Some l.Null) m a s = absurd cc

by_kind : (p : Place) (o : Option DecoratorKind) (es : Trees) (m : ℕ) → admits p o es ≡ true
    → size_by o es ≡ Some m → 1 ≤ m
by_kind p None es m a s = absurd cc
by_kind p (Some k.Description) es m a s = absurd cc
by_kind p (Some k.Metadata) es m a s = absurd cc
by_kind p (Some k.Allowed) es m a s = absurd cc
by_kind p (Some k.Secure) es m a s = absurd cc
by_kind p (Some k.MinLength) es m a s = absurd cc
by_kind p (Some k.MaxLength) es m a s = absurd cc
by_kind p (Some k.MinValue) es m a s = absurd cc
by_kind p (Some k.MaxValue) es m a s = absurd cc
by_kind p (Some k.BatchSize) none m a s = absurd cc
by_kind p (Some k.BatchSize) (more e es) m a s =
    let takes = (both (on_loop p) (is_end es && is_positive e) a).1 in
    literal_positive (literal_in e) m (both (is_end es) (is_positive e) takes).1 s

decorator_positive : (p : Place) (d : DecoratorTree) (m : ℕ) → is_allowed p d ≡ true → size_of d ≡ Some m → 1 ≤ m
decorator_positive p (decorator at g es) m a s = by_kind p (decorator_named (function_text g)) es m a s

-- ---- those of a symbol

by_size : (p : Place) (d : DecoratorTree) (ds : DecoratorTrees) (m : ℕ) (o : Option ℕ) → is_allowed p d ≡ true
    → size_of d ≡ o → (size_in ds ≡ Some m → 1 ≤ m) → or_else o (size_in ds) ≡ Some m → 1 ≤ m
by_size p d ds m None a g later s = later s
by_size p d ds m (Some n) a g later s = subst (λ k. 1 ≤ k) (same_some s) (decorator_positive p d n a g)

by_fine : (p : Place) (before : List (List ℕ)) (d : DecoratorTree) (ds : DecoratorTrees) (m : ℕ) (b : Bool)
    → is_fine p before d ≡ b
    → (bad_from p (before ++ decorator_name d ∷ []) ds ≡ None → size_in ds ≡ Some m → 1 ≤ m)
    → (if b then bad_from p (before ++ decorator_name d ∷ []) ds else Some (decorator_at d)) ≡ None
    → or_else (size_of d) (size_in ds) ≡ Some m → 1 ≤ m
by_fine p before d ds m true g later r s =
    by_size p d ds m (size_of d) (both (is_allowed p d) (not (is_among before (decorator_name d))) g).0 refl (later r) s
by_fine p before d ds m false g later r s = absurd cc

positive_from : (p : Place) (before : List (List ℕ)) (ds : DecoratorTrees) (m : ℕ) → bad_from p before ds ≡ None
    → size_in ds ≡ Some m → 1 ≤ m
positive_from p before no_decorator m e s = absurd cc
positive_from p before (and_decorator d ds) m e s =
    by_fine p before d ds m (is_fine p before d) refl (positive_from p (before ++ decorator_name d ∷ []) ds m) e s

symbol_positive : (xs : List DecoratorTrees) (n m : ℕ) → AreFine xs
    → option_and_then size_in (slice_get xs n) ≡ Some m → 1 ≤ m
symbol_positive [] zero m h s = absurd cc
symbol_positive [] (suc n) m h s = absurd cc
symbol_positive (ds ∷ xs) zero m h s = positive_from h.0.0 [] ds m h.0.1 s
symbol_positive (ds ∷ xs) (suc n) m h s = symbol_positive xs n m h.1 s

-- ---- batches

abbrev size_or_none : Batches → ℕ
size_or_none Parallel = 0
size_or_none (Serial n) = n

by_batches : (o : Option ℕ) (m : ℕ) → batches_by o ≡ Serial m → o ≡ Some m
by_batches None m e = absurd cc
by_batches (Some n) m e = ap (λ (b : Batches). Some (size_or_none b)) e

pub not_empty : (f : FileTree) → bad_in_file f ≡ None → (n m : ℕ) → batches_of f n ≡ Serial m → 1 ≤ m
not_empty f e n m g =
    symbol_positive (decorators_of f) n m (all_fine f e)
    (by_batches (option_and_then size_in (slice_get (decorators_of f) n)) m g)
