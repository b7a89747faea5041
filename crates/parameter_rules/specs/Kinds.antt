-- The decorators of a kind.
use Rattle.std.specs.Prelude.{ℕ, ◌==◌, Bool, false, Option, Some, None, if◌then◌else◌}
use Rattle.bicep_tree.specs.Tree.{Trees, DecoratorTree, decorator, DecoratorTrees, no_decorator, and_decorator}
use Rattle.bicep_decorators.specs.Decorators.{decorator_named, function_text}
use Rattle.bicep_decorators.specs.declared.kind.DecoratorKind.{DecoratorKind}
use Rattle.bicep_decorators.specs.declared.kind.DecoratorKind.TheVariants as k

-- kinds by numbers
abbrev pub number_of : DecoratorKind → ℕ
number_of k.Description = 0
number_of k.Metadata = 1
number_of k.Allowed = 2
number_of k.Secure = 3
number_of k.MinLength = 4
number_of k.MaxLength = 5
number_of k.MinValue = 6
number_of k.MaxValue = 7
number_of k.BatchSize = 8

abbrev pub is_kind : DecoratorKind → Option DecoratorKind → Bool
is_kind kind None = false
is_kind kind (Some x) = number_of x == number_of kind

abbrev pub is_of : DecoratorKind → DecoratorTree → Bool
is_of kind (decorator at g es) = is_kind kind (decorator_named (function_text g))

abbrev pub arguments : DecoratorTree → Trees
arguments (decorator at g es) = es

-- the arguments of the first decorator of a kind. No kind is given twice
abbrev pub arguments_of : DecoratorKind → DecoratorTrees → Option Trees
arguments_of kind no_decorator = None
arguments_of kind (and_decorator d ds) = if is_of kind d then Some (arguments d) else arguments_of kind ds
