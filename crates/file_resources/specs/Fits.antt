-- When the resources of the template of a file can be built.
use Rattle.std.specs.Prelude.{◌≡◌, ℕ, true, false, length, Bool, List, Option, Some, is_some}
use Rattle.std.specs.BTreeSet.{BTreeSet}
use Rattle.depend_graph.specs.Sets.{keys_of_each}
use Rattle.bicep_declared.specs.Declarations.{BodyTree, DeclaredTree}
use Rattle.bicep_declared.specs.Declarations as d
use Rattle.bicep_dependencies.specs.Dependencies.{AreDependencies}
use Rattle.bicep_meaning.specs.Files.{declaration}
use Rattle.emitted_modules.specs.Sound.{IsSound}
use Rattle.ordered_emissions.specs.Orders.{IsPaired}
use Rattle.emitted_dependencies.specs.Dependencies.{kinds_of}
use Rattle.emitted_modules.specs.Files.{frames_around}
use Rattle.emitted_modules.specs.Seen.{Shape, file_in, whole_in}
use Rattle.emitted_modules.specs.Filled.{IsFilled, emission_sight}
use Rattle.emitted_modules.specs.Limits.{MembersFit, members_at}
use Rattle.emitted_modules.specs.Arguments.{arguments_in, ArgumentsFit}
use Rattle.file_resources.specs.Built.{Templates, template_of}

-- a table of all declarations of a sound file, of which each symbol has one
pub record IsReady (s : Shape) : Type 0 where
  pub filled : IsFilled s
  pub sound : IsSound (file_in s)
  pub paired : IsPaired (file_in s)

-- what each declaration of the file mentions
abbrev pub AreMentioned : Shape → List (BTreeSet ℕ) → Type 0
AreMentioned s sets =
    AreDependencies (kinds_of (file_in s)) (file_in s).declared.declarations (keys_of_each sets)

-- the arguments of the module of a number that has this body
abbrev pub ArgumentsFitAt : Shape → ℕ → BodyTree → Type 0
ArgumentsFitAt s n b =
    ArgumentsFit (emission_sight s) (frames_around (whole_in s) n b.each) (arguments_in b.fields)

-- the members of a resource that is put, or the arguments of a module, are within the limits of templates
abbrev pub FitsBy : Shape → ℕ → Option DeclaredTree → Type 0
FitsBy s n (Some (d.a_resource at q false b)) = MembersFit (members_at s n b)
FitsBy s n (Some (d.a_resource at q true b)) = Unit {0}
FitsBy s n (Some (d.a_module at b)) = ArgumentsFitAt s n b
FitsBy s n o = Unit {0}

-- whether a declaration is that of a resource or of a module
abbrev pub IsResourceBy : Option DeclaredTree → Type 0
IsResourceBy (Some (d.a_resource at q existing b)) = Unit {0}
IsResourceBy (Some (d.a_module at b)) = Unit {0}
IsResourceBy o = ⊥

-- a module has a template
abbrev pub HasTemplate : Option DeclaredTree → Bool → Type 0
HasTemplate (Some (d.a_module at b)) given = given ≡ true
HasTemplate o given = Unit {0}

-- the declaration of a number can be built
pub record MayBeBuilt (s : Shape) (n : ℕ) (given : Bool) : Type 0 where
  pub fits : FitsBy s n (declaration (file_in s) n)
  pub has_template : HasTemplate (declaration (file_in s) n) given

-- each declaration can be built, and the templates of modules are there for all numbers
pub record AllMayBeBuilt (s : Shape) (us : Templates) : Type 0 where
  pub each : (n : ℕ) → MayBeBuilt s n (is_some (template_of us n))
  pub all : length us ≡ length (file_in s).declared.declarations
