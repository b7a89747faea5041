-- The symbolic names of the scopes of a table.
use Rattle.std.specs.Prelude.{◌≡◌, List, [], ◌∷◌, map, Option, Some, None}
use Rattle.reading.specs.World.{Each}
use Rattle.arm_eval.specs.Titles as titles
use Rattle.template_tree.specs.Tree.{TemplateTree}
use Rattle.plan_sight.specs.Scopes.{template_at}
use Rattle.plan_sight.specs.Sites.{symbols_in, listed_at_scope}
use Rattle.plan_table.specs.Opened.{Opened, step_of}
use Rattle.plan_table.specs.Whole.{whole_of}
use Rattle.plan_sight.specs.Ready.{IsReady}
use Rattle.plan_telling.specs.declared.symbols.Symbolic.{Symbolic}
use Rattle.plan_telling.specs.declared.register.Kept.{Kept}
use Rattle.plan_telling.specs.declared.register.Register.{Register}

-- a resource by its symbolic name
abbrev pub symbolic : Symbolic → titles.Listed
symbolic s = record { symbol = s.symbol; copy = s.copy }

-- those of one resource
abbrev pub if_symbolic : Option Symbolic → List titles.Listed
if_symbolic None = []
if_symbolic (Some s) = symbolic s ∷ []

abbrev pub symbols_at : Opened → List titles.Listed
symbols_at o = symbols_in o.resources

-- what is kept is of the scope
pub record AreKept (k : Kept) (o : Opened) : Type 0 where
  pub position : map step_of k.position.items ≡ o.position
  pub symbols : map symbolic k.symbols.items ≡ symbols_at o

-- what is kept is what the scope at its position has
abbrev pub IsOfScope : TemplateTree → Kept → Type 0
IsOfScope t k = map symbolic k.symbols.items ≡ symbols_in (listed_at_scope (template_at t
    (map step_of k.position.items)))

-- the table may be asked, and what is kept is what scopes have
pub record IsComplete (r : Register) : Type 0 where
  pub ready : IsReady r.table
  pub kept : Each (IsOfScope (whole_of r.table).template) r.kept.items
