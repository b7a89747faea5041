-- The titles of a scope, as they are kept.
use Rattle.std.specs.Prelude.{◌&&◌, ℕ, Bool, List, [], ◌∷◌, ◌++◌, Option, Some, None, is_some, if◌then◌else◌}
use Rattle.std.specs.List.{list_any}
use Rattle.arm_eval.specs.Titles.{number_from}
use Rattle.template_parts.specs.declared.declaration.Declaration.{Declaration}
use Rattle.plan_cells.specs.Resources.{Listed}
use Rattle.plan_table.specs.Opened.{Opened}
use Rattle.name_tags.specs.Loops.{loop_titles}
use Rattle.plan_faults.specs.Dependencies.{is_indexed}
use Rattle.dependency_titles.specs.declared.titles.ScopeTitles.{ScopeTitles}

abbrev pub symbol_title : Option (List ℕ) → List (List ℕ)
symbol_title None = []
symbol_title (Some x) = x ∷ []

-- the symbolic names of resources
abbrev pub symbol_titles : List Listed → List (List ℕ)
symbol_titles [] = []
symbol_titles (r ∷ rs) = symbol_title r.declaration.symbol ++ symbol_titles rs

-- the symbolic name of an existing resource that has a loop
abbrev pub looped_title : Declaration → List (List ℕ)
looped_title d = if d.existing && is_some d.copy then symbol_title d.symbol else []

abbrev pub looped_titles : List Listed → List (List ℕ)
looped_titles [] = []
looped_titles (r ∷ rs) = looped_title r.declaration ++ looped_titles rs

-- of these resources the names of loops, the symbolic names, and those of existing resources that have a loop
abbrev pub titles_in : List Listed → ScopeTitles
titles_in rs = record { loops = loop_titles rs; symbols = symbol_titles rs; looped = looped_titles rs }

abbrev pub scope_titles : Opened → ScopeTitles
scope_titles o = titles_in o.resources

-- whether the text is one of these with an index
abbrev pub is_any_indexed : List (List ℕ) → List ℕ → Bool
is_any_indexed xs t = list_any (λ x. is_indexed t (number_from None t) (Some x)) xs
