-- The batches of the loops of a file (Microsoft Learn, "Iterative loops in Bicep").
use Rattle.std.specs.Prelude.{◌≡◌, ℕ, ℤ, pos, negsuc, List, Option, Some, None, option_and_then, slice_get}
use Rattle.foundation.specs.Options.{or_else}
use Rattle.template_parts.specs.declared.looping.Batches.{Batches}
use Rattle.template_parts.specs.declared.looping.Batches.TheVariants.{Parallel, Serial}
use Rattle.bicep_tree.specs.declared.leaf.Literal.{Literal}
use Rattle.bicep_tree.specs.declared.leaf.Literal.TheVariants as l
use Rattle.bicep_tree.specs.Tree.{Trees, none, more, DecoratorTree, decorator, DecoratorTrees, no_decorator}
use Rattle.bicep_tree.specs.Tree.{and_decorator, FileTree}
use Rattle.bicep_decorators.specs.Decorators.{decorator_named, function_text}
use Rattle.bicep_decorators.specs.Literals.{literal_in}
use Rattle.bicep_decorators.specs.declared.kind.DecoratorKind.{DecoratorKind}
use Rattle.bicep_decorators.specs.declared.kind.DecoratorKind.TheVariants as k
use Rattle.bicep_meaning.specs.Files.{SourceFile}
use Rattle.symbol_decorators.specs.Decorators.{decorators_of}

-- a number that is not negative
abbrev pub natural : ℤ → Option ℕ
natural (pos n) = Some n
natural (negsuc n) = None

abbrev pub number_in : Option Literal → Option ℕ
number_in (Some (l.Number z)) = natural z
number_in o = None

-- the number that is the first argument
abbrev pub first_number : Trees → Option ℕ
first_number none = None
first_number (more e es) = number_in (literal_in e)

abbrev pub size_by : Option DecoratorKind → Trees → Option ℕ
size_by (Some k.BatchSize) es = first_number es
size_by o es = None

-- how large a batch is, where the decorator says it: `@batchSize`
abbrev pub size_of : DecoratorTree → Option ℕ
size_of (decorator at g es) = size_by (decorator_named (function_text g)) es

abbrev pub size_in : DecoratorTrees → Option ℕ
size_in no_decorator = None
size_in (and_decorator d ds) = or_else (size_of d) (size_in ds)

-- without the decorator all begin at once
abbrev pub batches_by : Option ℕ → Batches
batches_by None = Parallel
batches_by (Some n) = Serial n

-- the batches of the symbol of a number, by the decorators of the symbols
abbrev pub batches_at : List DecoratorTrees → ℕ → Batches
batches_at xs n = batches_by (option_and_then size_in (slice_get xs n))

abbrev pub batches_of : FileTree → ℕ → Batches
batches_of f n = batches_at (decorators_of f) n

-- the file has the batches that are written
abbrev pub HasBatches : FileTree → SourceFile → Type 0
HasBatches t f = (n : ℕ) → f.batches n ≡ batches_of t n
