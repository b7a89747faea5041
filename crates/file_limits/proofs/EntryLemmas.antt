-- What variables take by their entries.
use Rattle.std.proofs.Common.{◌≡◌, ℕ, List, Option, Some, None, Result, sym, subst}
use Rattle.std.specs.Prelude.{IfOk}
use Rattle.std.specs.declared.alloc.AllocError.{AllocError}
use Rattle.bicep_resolved.specs.Source.{ValueTree}
use Rattle.bicep_meaning.specs.Files.{symbol_name}
use Rattle.emitted_templates.specs.Lists.{entry_at}
use Rattle.emitted_templates.specs.Seen.{Shape, file_in}
use Rattle.measured_trees.specs.Extremes.{nothing}
use Rattle.measured_trees.specs.Measures.{IsOf}
use Rattle.measured_trees.specs.declared.measure.Measure.{Measure}
use Rattle.file_limits.specs.Extremes.{named_extremes, entry_extremes, variable_extremes}

module _ (s : Shape) (n : ℕ) where
  pub entry_there : (v : ValueTree) → entry_at s n ≡ Some v → (x : Option (List ℕ)) → x ≡ symbol_name (file_in s) n
      → (r : Result Measure AllocError) → IfOk r (IsOf (named_extremes s x v))
      → IfOk r (IsOf (variable_extremes s n))
  entry_there v e x named r h =
      subst (λ o. IfOk r (IsOf (entry_extremes s (symbol_name (file_in s) n) o))) (sym e)
      (subst (λ y. IfOk r (IsOf (named_extremes s y v))) named h)

  pub entry_missing : entry_at s n ≡ None → (m : Measure) → IsOf nothing m → IsOf (variable_extremes s n) m
  entry_missing e m h = subst (λ o. IsOf (entry_extremes s (symbol_name (file_in s) n) o) m) (sym e) h
