-- What holds of the resources of a template that are built.
use Rattle.std.specs.Prelude.{◌≡◌, ℕ, List, Some, map, option_and_then}
use Rattle.template_parts.specs.declared.mode.Form.{Form}
use Rattle.template_tree.specs.Tree.{Header, template, ResourceTree, trees}
use Rattle.plan_cells.specs.Resources.{Listed, resource_at, nested_numbers}
use Rattle.bicep_meaning.specs.Instances.{Put, put_of}
use Rattle.source_worlds.specs.Numbers.{in_template, number_of, symbol_of}
use Rattle.ordered_emissions.specs.Orders.{IsPaired}
use Rattle.emitted_modules.specs.Files.{IsResource, IsDependent, NoneExist}
use Rattle.emitted_modules.specs.Values.{AreBoth}
use Rattle.emitted_modules.specs.Seen.{Shape, file_in, files_in}
use Rattle.file_resources.specs.Built.{Templates, AreBuilt}
use Rattle.file_resources.specs.Modules.{modules_in}
use Rattle.file_resources.specs.Within.{IsWithin}

-- a template with the resources that are built for a file
abbrev pub HasBuilt : Form → Shape → Templates → List ResourceTree → Type 0
HasBuilt z s us rs = AreBuilt z s us (in_template z (file_in s)) rs

-- a template with these resources has for each number the resource of its symbol
abbrev pub AreOfSymbols : Form → Shape → (Put → Listed → Type 0) → Header → List ResourceTree → Type 0
AreOfSymbols z s R h rs =
    (m : ℕ) → AreBoth R (option_and_then (λ n. put_of n (file_in s)) (symbol_of z (file_in s) m))
    (resource_at (template h (trees rs)) m)

abbrev pub BuiltResourcesAreEmitted : Type 0
BuiltResourcesAreEmitted =
    (z : Form) (s : Shape) (us : Templates) (h : Header) (rs : List ResourceTree) → HasBuilt z s us rs
    → IsPaired (file_in s) → ((n : ℕ) → IsWithin z s n) → AreOfSymbols z s (IsResource (files_in s) (file_in s)) h rs

-- which depends on what the symbol depends on
abbrev pub BuiltResourcesDepend : Type 0
BuiltResourcesDepend =
    (z : Form) (s : Shape) (us : Templates) (h : Header) (rs : List ResourceTree) → HasBuilt z s us rs
    → IsPaired (file_in s) → ((n : ℕ) → IsWithin z s n) → AreOfSymbols z s (IsDependent (files_in s) (file_in s) z) h rs

-- in the first form it has no existing resources
abbrev pub NoneIsExisting : Type 0
NoneIsExisting =
    (z : Form) (s : Shape) (us : Templates) (h : Header) (rs : List ResourceTree) → HasBuilt z s us rs
    → NoneExist (files_in s) (file_in s) z (template h (trees rs))

-- the modules of the file are its nested deployments, in their order
abbrev pub ModulesAreNested : Type 0
ModulesAreNested =
    (z : Form) (s : Shape) (us : Templates) (h : Header) (rs : List ResourceTree) → HasBuilt z s us rs
    → map (number_of z (file_in s)) (modules_in z (file_in s))
    ≡ map (λ m. Some m) (nested_numbers (template h (trees rs)))
