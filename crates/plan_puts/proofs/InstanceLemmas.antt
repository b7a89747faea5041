-- The tags of an instance, by what was found of it.
use Rattle.std.proofs.Common.{◌≡◌, ℕ, zero, suc, ◌<◌, Bool, List, [], ◌∷◌, length, get_or, Option, Some}
use Rattle.std.proofs.Common.{sym, ap, ◌∙◌, arith}
use Rattle.std.specs.Prelude.{is_some, option_map, if◌then◌else◌}
use Rattle.deploy_cells.specs.Cells.{step, Position, included}
use Rattle.deploy_cells.specs.Puts.{Kind}
use Rattle.tag_needs.specs.Tags.{Tag}
use Rattle.plan_cells.specs.Desired.{kinds, kind_of}
use Rattle.plan_cells.specs.Reads.{key_in}
use Rattle.plan_cells.specs.Start.{start_world}
use Rattle.plan_table.specs.declared.line.Line.{Line}
use Rattle.plan_table.specs.declared.table.Table.{Table}
use Rattle.plan_table.specs.Lines.{line_at}
use Rattle.plan_table.specs.Whole.{whole_of}
use Rattle.plan_table.specs.Found.{scope_at}
use Rattle.plan_tasks.specs.declared.instance.Found.TheVariants.{Resource, Scope}
use Rattle.plan_tasks.specs.Start.{start_of, IsStartTable, IsInstance, IsFound}
use Rattle.plan_needs.proofs.InstanceLemmas.{listed_there}
use Rattle.plan_puts.specs.PutTags.{key_tags, unless_nested, cell_tags}

pub line_here : (ls : List Line) (j : ℕ) (x : Line) → j < length ls → x ≡ get_or ls j x → line_at ls j ≡ x
line_here [] j x h e = absurd (omega (arith, h))
line_here (l ∷ ls) zero x h e = sym e
line_here (l ∷ ls) (suc j) x h e = line_here ls j x (omega (arith, h)) e

module _ (t : Table) (f r i : ℕ) (start : IsStartTable t) (h : IsInstance t f r i) where
  abbrev p : Position
  p = (scope_at t f).position

  abbrev keys : List Tag
  keys = key_tags (key_in (whole_of t) (start_world (start_of t)) p (step r i))

  kind_there : kinds (whole_of t) p r ≡ Some (kind_of h.number.listed)
  kind_there = ap (option_map kind_of) (listed_there t f r i start h)

  pub of_resource : IsFound t f r i h.number.listed Resource → (ts : List Tag) → ts ≡ keys
      → ts ≡ cell_tags (whole_of t) (start_of t) (included p (step r i))
  of_resource g ts e =
      e ∙ sym (ap (λ (b : Bool). if b then unless_nested (kinds (whole_of t) p r) keys else []) g.0
      ∙ ap (λ (m : Option Kind). unless_nested m keys) kind_there
      ∙ ap (λ (b : Bool). if b then [] else keys) (ap is_some g.1))

  pub of_scope : (g : ℕ) → IsFound t f r i h.number.listed (Scope g)
      → cell_tags (whole_of t) (start_of t) (included p (step r i)) ≡ []
  of_scope g s =
      ap (λ (b : Bool). if b then unless_nested (kinds (whole_of t) p r) keys else []) s.0
      ∙ ap (λ (m : Option Kind). unless_nested m keys) kind_there
      ∙ ap (λ (b : Bool). if b then [] else keys) (ap is_some s.1.1.0)
