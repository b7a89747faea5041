-- Batches of at most 800 instances.
use Rattle.std.specs.Prelude.{◌≡◌, ◌<◌, ◌≤◌, ℕ, List, Result, Ok, Err, slice_index_or}
use Rattle.template_parts.specs.declared.looping.Batches.{Batches}
use Rattle.template_parts.specs.declared.looping.Batches.TheVariants.{Parallel, Serial}
use Rattle.bicep_tree.specs.Tree.{DecoratorTrees, FileTree}
use Rattle.symbol_decorators.specs.Batches.{batches_at}
use Rattle.symbol_decorators.specs.Decorators.{decorators_of}
use Rattle.symbol_decorators.specs.declared.fault.BatchFault.{BatchFault}
use Rattle.symbol_decorators.specs.declared.fault.BatchFault.TheVariants as fault

abbrev pub IsSmall : Batches → Type 0
IsSmall Parallel = Unit {0}
IsSmall (Serial n) = n ≤ 800

-- the batches, or the size of one that is too large
abbrev pub AreBatches : Batches → Result Batches ℕ → Type 0
AreBatches b (Ok x) = (x ≡ b) × IsSmall b
AreBatches b (Err n) = (b ≡ Serial n) × (800 < n)

-- of symbols with these decorators one has a batch that is too large, of that size; or memory was refused
abbrev pub IsFaultOf : List DecoratorTrees → BatchFault → Type 0
IsFaultOf xs (fault.TooLarge size) = (n : ℕ) × ((batches_at xs n ≡ Serial size) × (800 < size))
IsFaultOf xs fault.OutOfMemory = Unit {0}

abbrev pub IsFault : FileTree → BatchFault → Type 0
IsFault f x = IsFaultOf (decorators_of f) x

-- the batches of the symbol of each number, none of which is too large
pub record AreTheBatches (xs : List DecoratorTrees) (bs : List Batches) : Type 0 where
  pub are : (n : ℕ) → slice_index_or bs n Parallel ≡ batches_at xs n
  pub small : (n : ℕ) → IsSmall (batches_at xs n)
