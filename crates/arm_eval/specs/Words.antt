-- The meaning of the code's types for texts and trees.
use Rattle.std.specs.Prelude.{◌<◌, ℕ, List, [], ◌∷◌, map, Option, Some, None, option_map, option_and_then, ◌&&◌}
use Rattle.std.specs.Prelude.{if◌then◌else◌}
use Rattle.arm_value.specs.Json.{Json, array, object, row, pairs, items, Member, put_each, nesting}
use Rattle.arm_value.specs.View.{json}
use Rattle.arm_value.specs.declared.value.Value.{Value}
use Rattle.arm_value.specs.declared.value.Field.{Field}
use Rattle.reading.specs.Reading.{joined}
use Rattle.arm_env.specs.Look.{Looking, Surroundings}
use Rattle.arm_env.specs.Part.{kept}
use Rattle.arm_eval.specs.Trees.{Part, Copy, tree_value, own_member, copied, copy_in, concat, names_of, are_new}
use Rattle.arm_eval.specs.Trees.{differ}
use Rattle.arm_eval.specs.Outputs as outputs
use Rattle.arm_eval.specs.declared.outputs.Content.{Content}
use Rattle.arm_eval.specs.declared.outputs.Content.TheVariants as content
use Rattle.arm_eval.specs.Titles as titles
use Rattle.arm_eval.specs.declared.symbols.Listed.{Listed}
use Rattle.arm_eval.specs.declared.symbols.Title.{Title}
use Rattle.arm_eval.specs.declared.titles.Titles.{Titles}
use Rattle.arm_eval.specs.declared.copying.Copying.{Copying}
use Rattle.arm_eval.specs.declared.whole.Own.{Own}
use Rattle.arm_eval.specs.declared.whole.Own.TheVariants as own
use Rattle.arm_expr.specs.Brackets.{is_copy}

-- the loop that the code's parts are
abbrev pub copying_of : Copying → Copy
copying_of c =
    record { name = c.name.now; count = tree_value (json c.count.now); input = tree_value (json c.input.now) }

-- its count and its input nest less than this
abbrev pub NestsBelow : ℕ → Copying → Type 0
NestsBelow n c = (nesting (json c.count.now) < n) × (nesting (json c.input.now) < n)

abbrev pub tree_in : Part → Json
tree_in p = p.tree

-- what trees, members and loops of the code give
abbrev pub values_of : Surroundings → List Value → List (Looking Json)
values_of here vs = map (λ v. tree_value (json v) here) vs

abbrev pub owns_of : Surroundings → List Field → List (Looking (List Member))
owns_of here fs = map (λ f. own_member f.name (tree_value (json f.value) here)) fs

abbrev pub copies_of : Surroundings → List Value → List (Looking Member)
copies_of here vs = map (λ v. copied here (copy_in (json v))) vs

-- the members that an object's own member is
abbrev pub own_of : List ℕ → Own → List Member
own_of name own.Nothing = []
own_of name (own.Value v) = (name, json v) ∷ []

-- own members, put in their order
abbrev pub put_all : List (List Member) → List Member
put_all mss = put_each [] (concat mss)

-- the members with more put among them, where all are there
abbrev pub with_each : Option (List Member) → Option (List Member) → Option (List Member)
with_each ms ns = option_map (λ p. put_each p.0 p.1) (joined ms ns)

-- the array of values that are all there
abbrev pub kept_array : Option (List Json) → Option Json
kept_array js = option_and_then (λ js. kept (array (row js))) js

-- the object of own members and of given ones, whose names are new and differ
abbrev pub kept_object : List Member → List Member → Option Json
kept_object own given = kept (object (pairs (put_each own given)))

abbrev pub whole_object : List (List ℕ) → Option (List Member) → List Member → Option Json
whole_object names own given =
    option_and_then (λ own. if are_new names (names_of given) && differ (names_of given) then kept_object own given
    else None) own

-- the trees of an array
abbrev pub trees_in : Json → Option (List Json)
trees_in (array js) = Some (items js)
trees_in _ = None

-- the tree of the first member `copy`
abbrev pub copy_tree : List Member → Option Json
copy_tree [] = None
copy_tree (m ∷ ms) = if is_copy m.0 then Some m.1 else copy_tree ms

-- what gives an output of the code its value
abbrev pub content_of : Content → outputs.Content
content_of (content.Tree j) = outputs.a_tree (json j.now)
content_of (content.Copy count input) = outputs.a_copy (record { count = json count.now; input = json input.now })

-- a symbol of the code, and what a text means
abbrev pub listed_in : Listed → titles.Listed
listed_in l = record { symbol = l.symbol.now; copy = option_map (λ n. n.now) l.copy }

abbrev pub title_in : Title → titles.Title
title_in t = record { listed = listed_in t.listed; index = t.index }

abbrev pub titles_in : Titles → titles.Titles
titles_in ts = record { symbols = map listed_in ts.symbols.now; loops = ts.loops.now }
