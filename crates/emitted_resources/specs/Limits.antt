-- How much of the limits of templates resources take, and when they are within the limits.
use Rattle.std.specs.Prelude.{◌≤◌, ℕ, Option, Some, None}
use Rattle.arm_expr.specs.Tree.{Tree}
use Rattle.bicep_resolved.specs.Source.{LoopTree}
use Rattle.bicep_declared.specs.Declarations.{BodyTree}
use Rattle.emitted_declarations.specs.Declared.{Emission}
use Rattle.emitted_values.specs.Files.{frames_around}
use Rattle.emitted_values.specs.Templates.{TemplateMembers}
use Rattle.emitted_values.specs.Templates as t
use Rattle.emitted_values.specs.Written.{IsWritable, MembersAreWithin}
use Rattle.emitted_values.specs.Each.{MembersAreSmall}
use Rattle.measured_trees.specs.Extremes.{Extremes, nothing, joined, tree_extremes}
use Rattle.emitted_values.specs.Depth.{members_depth}
use Rattle.emitted_values.specs.Seen.{Shape, whole_in}
use Rattle.emitted_values.specs.Filled.{emission_sight}
use Rattle.emitted_bodies.specs.Bodies.{body_members}
use Rattle.emitted_resources.specs.Heads.{whole_name, whole_condition, loop_count}

-- ---- names, conditions and loops

abbrev pub expression_extremes : Tree → Extremes
expression_extremes e = tree_extremes (t.expression e)

-- how often a loop runs, where there is one
abbrev pub count_extremes : Option LoopTree → Tree → Extremes
count_extremes None c = nothing
count_extremes (Some l) c = expression_extremes c

-- a whole name counts as an expression, also where it is a text
abbrev pub head_extremes : Emission → ℕ → Option LoopTree → Extremes
head_extremes e n l =
    joined (joined (expression_extremes (whole_name e n l)) (expression_extremes (whole_condition e n l)))
    (count_extremes l (loop_count e n))

abbrev pub CountIsWritable : Option LoopTree → Tree → Type 0
CountIsWritable None c = Unit {0}
CountIsWritable (Some l) c = IsWritable c

pub record HeadIsWithin (e : Emission) (n : ℕ) (l : Option LoopTree) : Type 0 where
  pub name : IsWritable (whole_name e n l)
  pub condition : IsWritable (whole_condition e n l)
  pub count : CountIsWritable l (loop_count e n)

-- ---- bodies

-- the members that the fields of a resource become
abbrev pub members_at : Shape → ℕ → BodyTree → TemplateMembers
members_at s n b = body_members (emission_sight s) b.fields (frames_around (whole_in s) n b.each)

-- they can be built: each expression is small enough, and the body nests not too deep
pub record MembersFit (ms : TemplateMembers) : Type 0 where
  pub small : MembersAreSmall ms
  pub nests : members_depth ms ≤ 119

abbrev pub resource_extremes : Shape → ℕ → BodyTree → Extremes
resource_extremes s n b = joined (head_extremes (whole_in s) n b.each) (tree_extremes (t.object (members_at s n b)))

-- each expression of the resource is within the limits and can be read back
pub record ResourceIsWithin (s : Shape) (n : ℕ) (b : BodyTree) : Type 0 where
  pub head : HeadIsWithin (whole_in s) n b.each
  pub body : MembersAreWithin (members_at s n b)
