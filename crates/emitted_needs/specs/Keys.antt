-- Mentions of what has a key.
use Rattle.std.specs.Prelude.{◌≡◌, ℕ, Bool, true, false, Option, Some}
use Rattle.arm_ids.specs.declared.id.ResourceId.{ResourceId}
use Rattle.template_parts.specs.declared.mode.Form.{Form}
use Rattle.template_parts.specs.declared.mode.Form.TheVariants.{One, Two}
use Rattle.deploy_cells.specs.Cells.{Step, Position, World}
use Rattle.plan_cells.specs.Needs.{started}
use Rattle.plan_cells.specs.Tasks.{Task}
use Rattle.bicep_meaning.specs.Files.{SourceFile}
use Rattle.bicep_meaning.specs.Instances.{SourceProgram, file_at}
use Rattle.source_needs.specs.Dependencies.{is_dependency}
use Rattle.source_needs.specs.Needs.{key_mentioned, is_looped}

abbrev pub HasKey : Option ResourceId → Type 0
HasKey o = (k : ResourceId) × (o ≡ Some k)

-- in the first form a mention of a resource or a module without a loop is by its key, which it has; in the second by
-- its symbol
abbrev pub IsKeyed : Form → SourceProgram → World → Position → SourceFile → ℕ → Type 0
IsKeyed One d w p f n = is_looped f n ≡ false → HasKey (key_mentioned d w p f n)
IsKeyed Two d w p f n = Unit {0}

-- so are all that the declaration of an instance mentions
abbrev pub AreKeyed : Form → SourceProgram → World → Position → Step → Type 0
AreKeyed z d w p s = (f : SourceFile) → file_at d.files p ≡ Some f → (n : ℕ) → is_dependency f s.resource n ≡ true
    → IsKeyed z d w p f n

-- and those of the instance that a task starts, if it starts one
abbrev pub MentionsAreKeyed : Form → SourceProgram → World → Task → Type 0
MentionsAreKeyed z d w x = (p : Position) (s : Step) → started x ≡ Some (p, s) → AreKeyed z d w p s

abbrev pub HasAnswer : Option Bool → Type 0
HasAnswer o = (answer : Bool) × (o ≡ Some answer)
