-- The numbers of tags by order, where scopes are given by their numbers.
use Rattle.std.specs.Prelude.{ℕ, suc, ◌/◌, List, [], ◌∷◌, Option, Some, None, slice_get}
use Rattle.template_parts.specs.declared.looping.Batches.{Batches}
use Rattle.template_parts.specs.declared.looping.Batches.TheVariants.{Parallel, Serial}
use Rattle.template_parts.specs.declared.looping.ResourceCopy.{ResourceCopy}
use Rattle.tag_needs.specs.Tags.{Tag}
use Rattle.plan_cells.specs.Resources.{Listed}
use Rattle.plan_table.specs.Opened.{Opened}
use Rattle.plan_needs.specs.declared.batch.Batch.{Batch}
use Rattle.plan_needs.specs.declared.batch.Batch.TheVariants.{Own, Next}

-- a scope is entered, a task is of a scope, and the root is left
abbrev pub entry_code : ℕ → Tag
entry_code f = 0 ∷ f ∷ []

abbrev pub inside_code : ℕ → Tag
inside_code f = 1 ∷ f ∷ []

abbrev pub left_code : Tag
left_code = 3 ∷ []

-- a batch of the loop of a resource
abbrev pub batch_code : ℕ → ℕ → ℕ → Tag
batch_code f r n = 2 ∷ f ∷ r ∷ n ∷ []

abbrev pub number_by : Batch → ℕ → ℕ
number_by Own n = n
number_by Next n = suc n

abbrev pub batch_codes : (ℕ → ℕ) → ℕ → ℕ → ℕ → Batches → List Tag
batch_codes h f r i Parallel = []
batch_codes h f r i (Serial size) = batch_code f r (h (i / size)) ∷ []

-- that of an instance, where its resource has a serial loop
abbrev pub loop_codes : (ℕ → ℕ) → ℕ → ℕ → ℕ → Option ResourceCopy → List Tag
loop_codes h f r i None = []
loop_codes h f r i (Some c) = batch_codes h f r i c.batches

abbrev pub loop_by : Option Listed → Option ResourceCopy
loop_by None = None
loop_by (Some x) = x.declaration.copy

-- the loop of a resource of a scope
abbrev pub loop_at : Opened → ℕ → Option ResourceCopy
loop_at o r = loop_by (slice_get o.resources r)
