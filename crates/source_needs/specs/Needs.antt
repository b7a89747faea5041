-- Which task of a program needs which, in a world (Microsoft Learn, "Resource dependencies in Bicep", "Define the order
-- for deploying resources in ARM templates", "Iterative loops in Bicep").
use Rattle.std.specs.Prelude.{◌≡◌, ℕ, suc, ◌/◌, Bool, true, false, [], Option, Some, None, is_some, option_and_then}
use Rattle.std.specs.Prelude.{if◌then◌else◌}
use Rattle.arm_ids.specs.Id.{folded}
use Rattle.arm_ids.specs.declared.id.ResourceId.{ResourceId}
use Rattle.reading.specs.Reading.{done, pure, none, continued}
use Rattle.reading.specs.World.{value_in}
use Rattle.template_parts.specs.declared.looping.Batches.{Batches}
use Rattle.template_parts.specs.declared.looping.Batches.TheVariants.{Parallel, Serial}
use Rattle.template_parts.specs.declared.mode.Form.{Form}
use Rattle.template_parts.specs.declared.mode.Form.TheVariants.{One, Two}
use Rattle.deploy_cells.specs.Cells.{Step, Position, World}
use Rattle.deploy_cells.specs.Guarded.{Reads}
use Rattle.plan_cells.specs.Needs.{started, ended}
use Rattle.plan_cells.specs.Tasks.{Task}
use Rattle.source_worlds.specs.Declarations.{BodyTree, DeclaredTree}
use Rattle.source_worlds.specs.Declarations as d
use Rattle.source_worlds.specs.Around.{Here}
use Rattle.source_worlds.specs.Declared.{body_at, whole}
use Rattle.source_worlds.specs.Files.{SourceFile, declaration}
use Rattle.source_worlds.specs.Instances.{SourceProgram, file_at, place_at, here_in}
use Rattle.source_worlds.specs.Meaning.{module_key}
use Rattle.source_needs.specs.Dependencies.{is_dependency}
use Rattle.source_needs.specs.Given.{key_of, ReadsFrom}
use Rattle.source_needs.specs.Orders.{IsAfter}

-- ---- mentions

-- the key of a resource by its id, and that of a module by its name
abbrev pub key_read : Here → ℕ → Option DeclaredTree → Reads ResourceId
key_read here n (Some (d.a_resource at q existing b)) = continued ((whole here).id n []) (λ i. pure (folded i))
key_read here n (Some (d.a_module at b)) =
    continued ((whole here).name n []) (λ j. done (module_key here.place j))
key_read here n o = none

-- the key of the resource or module of a number, which has no loop, in an instance of its file
abbrev pub key_mentioned : SourceProgram → World → Position → SourceFile → ℕ → Option ResourceId
key_mentioned d w p f n =
    value_in w
    (continued (place_at d.place p) (λ place. key_read (here_in d p f place) n (declaration f n)))

-- whether a resource or a module has a loop
abbrev pub is_looped : SourceFile → ℕ → Bool
is_looped f n = is_some (option_and_then (λ (b : BodyTree). b.each) (body_at f n))

-- the two have a key, and it is the same
pub record HaveOneKey (a b : Option ResourceId) : Type 0 where
  pub key : ResourceId
  pub first : a ≡ Some key
  pub second : b ≡ Some key

-- a mention of a resource or a module of a file means an instance of the same instance of the file: one of its own in
-- the second form, or where it has a loop; else one that has its key
abbrev pub Means : SourceProgram → World → Position → SourceFile → ℕ → Step → Form → Bool → Type 0
Means d w p f n t Two looped = t.resource ≡ n
Means d w p f n t One true = t.resource ≡ n
Means d w p f n t One false = HaveOneKey (key_mentioned d w p f n) (key_of d w p t)

-- the declaration of an instance mentions another instance
pub record IsMention (z : Form) (d : SourceProgram) (w : World) (p : Position) (s t : Step) : Type 0 where
  pub file : SourceFile
  pub is_file : file_at d.files p ≡ Some file
  pub mentioned : ℕ
  pub is_dependency : is_dependency file s.resource mentioned ≡ true
  pub means : Means d w p file mentioned t z (is_looped file mentioned)

-- ---- batches

-- the batches of a declaration of a file: without a loop there is one
abbrev pub batches_by : Option SourceFile → ℕ → Batches
batches_by None n = Parallel
batches_by (Some f) n = if is_looped f n then f.batches n else Parallel

-- those of a declaration of the file of a scope
abbrev pub batches_of : SourceProgram → Position → ℕ → Batches
batches_of d p n = batches_by (file_at d.files p) n

-- an index of a loop is in the batch after that of another
abbrev pub IsBatchAfter : Batches → ℕ → ℕ → Type 0
IsBatchAfter Parallel i j = ⊥
IsBatchAfter (Serial size) i j = i / size ≡ suc (j / size)

-- ---- needs

-- the first task starts the one instance of a scope, and the second ends the other
pub record AreOf (u v : Task) (p : Position) (s t : Step) : Type 0 where
  pub starts : started u ≡ Some (p, s)
  pub ends : ended v ≡ Some (p, t)

-- of two tasks of a program, the first needs the second
pub data SourceNeeds (z : Form) (d : SourceProgram) (w : World) (u v : Task) : Type 0 where
  by_mention : (p : Position) (s t : Step) → AreOf u v p s t → IsMention z d w p s t → SourceNeeds z d w u v
  by_values : ReadsFrom d w u v → SourceNeeds z d w u v
  by_order : IsAfter u v → SourceNeeds z d w u v
  by_batch : (p : Position) (s t : Step) → AreOf u v p s t → s.resource ≡ t.resource
      → IsBatchAfter (batches_of d p s.resource) s.copy t.copy → SourceNeeds z d w u v
