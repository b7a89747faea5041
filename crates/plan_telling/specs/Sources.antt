-- What gives a cell its value, and where its expressions are.
use Rattle.arm_value.specs.Json.{Json}
use Rattle.arm_value.specs.View.{json}
use Rattle.arm_ids.specs.declared.id.Place.{Place}
use Rattle.arm_env.specs.Look.{Looking, Surroundings}
use Rattle.arm_eval.specs.Trees.{tree_value}
use Rattle.arm_eval.specs.Looped.{looped}
use Rattle.arm_eval.specs.Outputs.{content_value, a_copy}
use Rattle.template_tree.specs.View.{template_tree}
use Rattle.deploy_cells.specs.Guarded.{Reads}
use Rattle.deploy_cells.specs.Followed.{followed}
use Rattle.plan_sight.specs.Sites as sites
use Rattle.plan_sight.specs.Sites.{looked_up, reading_at, reading_in}
use Rattle.plan_table.specs.declared.table.Table.{Table}
use Rattle.plan_table.specs.Whole.{whole_of}
use Rattle.plan_table.specs.Found.{scope_at}
use Rattle.plan_sights.specs.Seats.{Seat, site_of}
use Rattle.plan_telling.specs.declared.source.Source.{Source}
use Rattle.plan_telling.specs.declared.source.Source.TheVariants as source
use Rattle.plan_telling.specs.declared.site.Texts.{Texts}
use Rattle.plan_telling.specs.declared.site.Texts.TheVariants as texts
use Rattle.plan_telling.specs.declared.site.Site.{Site}

-- what a source gives
abbrev pub meaning_of : Source → Surroundings → Looking Json
meaning_of (source.Tree v) = tree_value (json v.now)
meaning_of (source.Loop x n input) = looped x.now (json n.now) (json input.now)
meaning_of (source.Output n input) =
    content_value (a_copy (record { count = json n.now; input = json input.now }))

abbrev pub texts_in : Texts → sites.Texts
texts_in texts.IdsAlone = sites.ids_alone
texts_in texts.Names = sites.names
texts_in texts.Symbols = sites.symbols

-- where an expression of a table is
abbrev pub site_in : Table → Site → sites.Site
site_in t s = record { at = (scope_at t s.frame).position; loops = s.loops.now; texts = texts_in s.texts }

-- the reading of a source at a site of a table, and in a place
abbrev pub read_at : Table → sites.Site → Source → Reads Json
read_at t e s = reading_at (whole_of t).template t.place.now e (meaning_of s)

abbrev pub read_in : Table → sites.Site → Source → Place → Reads Json
read_in t e s place = reading_in (whole_of t).template e (meaning_of s) place

-- what follows the readings in the places of the cells that an expression sees
abbrev pub followed_in : {A : Type 0} → Seat → Looking A → Reads A
followed_in s r = followed (looked_up (template_tree s.0.1) s.1.0.1 (site_of s)) r
