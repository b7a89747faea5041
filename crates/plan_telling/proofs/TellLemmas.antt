-- What is told of what an expression sees of a table.
use Rattle.std.proofs.Common.{◌≡◌, ℕ, ◌<◌, Bool, true, false, List, length, get_or, Option, Some}
use Rattle.std.proofs.Common.{Result, refl, sym, ap, subst, ◌∙◌}
use Rattle.std.specs.Prelude.{option_map}
use Rattle.arm_value.specs.Json.{Json}
use Rattle.arm_ids.specs.declared.id.Place.{Place}
use Rattle.arm_ids.specs.declared.id.ResourceId.{ResourceId}
use Rattle.arm_env.specs.declared.env.Looping.{Looping}
use Rattle.arm_env.specs.Look as look
use Rattle.arm_env.specs.Look.{Look, Fact, Looking}
use Rattle.arm_eval.specs.Titles as titles
use Rattle.arm_eval.specs.Titles.{titled}
use Rattle.reading.specs.Reading.{pure, through}
use Rattle.reading.specs.Knowledge.{Told, value, no_value, waits, told, by_entry, and_then}
use Rattle.reading.proofs.Parts.{told-continued}
use Rattle.template_tree.specs.Tree.{TemplateTree}
use Rattle.template_tree.specs.View.{template_tree}
use Rattle.deploy_cells.specs.Cells.{Position, Cell, state}
use Rattle.deploy_cells.specs.Followed.{followed}
use Rattle.deploy_cells.specs.Guarded.{Reads}
use Rattle.plan_sight.specs.Scopes.{template_at, owner, own_place}
use Rattle.plan_sight.specs.Sites as sites
use Rattle.plan_sight.specs.Sites.{value_of, looked_up, listed_at_scope, symbols_in, titles_at, surroundings, reading_at}
use Rattle.plan_table.specs.Rows.{status_of, table, known_by}
use Rattle.plan_table.specs.declared.table.Table.{Table}
use Rattle.plan_table.specs.declared.frame.Frame.{Frame}
use Rattle.plan_table.specs.declared.line.Line.{Line}
use Rattle.plan_table.specs.Opened.{Opened}
use Rattle.plan_table.specs.Whole.{whole_of, scopes_of, rows_in}
use Rattle.plan_table.specs.Found.{scope_at}
use Rattle.plan_sight.specs.declared.lack.Lack.{Lack}
use Rattle.plan_sight.specs.declared.lack.Lack.TheVariants as lack
use Rattle.plan_sight.specs.Ready.{IsReady, told_in}
use Rattle.plan_sight.specs.Seen.{Lacks, Stops, Yields}
use Rattle.plan_sight.proofs.LookLemmas.{scope_is, scopes_there}
use Rattle.plan_places.proofs.SeekLemmas.{read_stops}
use Rattle.plan_sights.specs.Resolved.{stop_of, IsResolved}
use Rattle.plan_sights.specs.Seats.{Seat, seat_of, site_of, seen_in, known_in}
use Rattle.plan_sights.proofs.FollowLemmas.{resolved}
use Rattle.plan_telling.specs.declared.source.Source.{Source}
use Rattle.plan_telling.specs.declared.site.Site.{Site}
use Rattle.plan_telling.specs.declared.site.Texts.{Texts}
use Rattle.plan_telling.specs.declared.site.Texts.TheVariants as texts
use Rattle.plan_telling.specs.Sources.{meaning_of, texts_in, site_in, read_at, read_in, followed_in}
use Rattle.plan_telling.specs.Symbols.{symbols_at}
use Rattle.plan_sights.proofs.SightLemmas.{no_state}

-- the loops of a frame that was read
pub loops_here : (t : Table) (f : ℕ) (fr : Frame) → f < length t.frames.items → fr ≡ get_or t.frames.items f fr
    → fr.loops.items ≡ (scope_at t f).loops
loops_here t f fr h e = ap (λ (o : Opened). o.loops) (sym (scope_is t f fr h e))

-- ---- what a lack is to a reading

-- what is missing to a reading that needs what a look lacks
abbrev pub stop_by : Lack → Lack
stop_by lack.NotThere = lack.NoValue
stop_by lack.NoValue = lack.NoValue
stop_by (lack.Line j) = lack.Line j
stop_by (lack.State k) = lack.State k
stop_by lack.OutOfMemory = lack.OutOfMemory

lack_stops : (t : Table) (e : Lack) (u : Told Cell (Option Fact)) → Lacks t e u
    → Stops {A = Json} t (stop_by e) (stop_of u)
lack_stops t lack.NotThere u h = ap stop_of h
lack_stops t lack.NoValue u h = ap stop_of h
lack_stops t (lack.Line j) u h = (h.0, ap stop_of h.1)
lack_stops t (lack.State k) u h = ap stop_of h
lack_stops t lack.OutOfMemory u h = tt

-- by the lack as it was read
pub stopped : (t : Table) (e f : Lack) (u : Told Cell (Option Fact)) → stop_by e ≡ f → Lacks t e u
    → Stops {A = Json} t f (stop_of u)
stopped t e f u q h = subst (λ x. Stops {A = Json} t x (stop_of u)) q (lack_stops t e u h)

-- what was found stops no reading
pub found_stops : {X : Type 0} (view : X → Fact) (t : Table) (x : X) (u : Told Cell (Option Fact))
    → u ≡ value (Some (view x)) → Stops {A = Json} t lack.NoValue (stop_of u)
found_stops view t x u h = ap stop_of h

-- ---- what the evaluator returned

module _ (t : Table) (f : ℕ) (place : Place) (loops : List Looping) (b : Bool) (r : Looking Json) where
  abbrev seat : Seat
  seat = seat_of t f place loops b

  resolved_here : IsResolved (seen_in seat) (told (known_in seat) r) (told_in t (followed_in seat r))
  resolved_here =
      resolved Look Cell Fact Json Json (table (status_of (rows_in t)))
      (looked_up (template_tree t.template.now) place (site_of seat)) r

  by_told : (u : Told Look Json) → told (known_in seat) r ≡ u
      → IsResolved (seen_in seat) u (told_in t (followed_in seat r))
  by_told u e = subst (λ x. IsResolved (seen_in seat) x (told_in t (followed_in seat r))) e resolved_here

  pub value_told : (j : Json) → told (known_in seat) r ≡ value j → told_in t (followed_in seat r) ≡ value j
  value_told j e = by_told (value j) e

  pub nothing_told : told (known_in seat) r ≡ no_value → told_in t (followed_in seat r) ≡ no_value
  nothing_told e = by_told no_value e

  pub cell_stops : (c : Look) (e : Lack) → told (known_in seat) r ≡ waits c
      → Stops {A = Json} t e (stop_of (seen_in seat c)) → Stops t e (told_in t (followed_in seat r))
  cell_stops c e h s = subst (Stops t e) (sym (by_told (waits c) h)) s

-- ---- states

pub state_waits : (t : Table) (k : ResourceId) → told_in t (value_of (state k)) ≡ waits (state k)
unfolding told
state_waits t k =
    ap (λ o. by_entry (state k) (λ v. told (table (status_of (rows_in t))) (next v)) (known_by o))
    (no_state (scopes_of t) t.lines.items k)
  where
    next : Option Json → Reads (Option Fact)
    next v = pure (option_map look.a_value v)

-- ---- texts

looks_same : (t : TemplateTree) (place : Place) (p : Position) (ls : List Looping) (c : Look)
    → looked_up t place (record { at = p; loops = ls; texts = sites.symbols }) c
    ≡ looked_up t place (record { at = p; loops = ls; texts = sites.ids_alone }) c
looks_same t place p ls (look.parameter x) = refl
looks_same t place p ls (look.variable x) = refl
looks_same t place p ls (look.output k x) = refl
looks_same t place p ls (look.state k) = refl
looks_same t place p ls (look.named x) = refl
looks_same t place p ls (look.deployment k) = refl
looks_same t place p ls (look.outputs k) = refl

module _ (t : Table) (e : Site) (s : Source) (place : Place) where
  abbrev tree : TemplateTree
  tree = (whole_of t).template

  abbrev at : Position
  at = (scope_at t e.frame).position

  abbrev looking : Looking Json
  looking = meaning_of s (surroundings (site_in t e) place)

  with_texts : (x : Texts) → e.texts ≡ x → read_in t (site_in t e) s place
      ≡ read_in t (record { at = at; loops = e.loops.now; texts = texts_in x }) s place
  with_texts x q =
      ap (λ y. read_in t (record { at = at; loops = e.loops.now; texts = texts_in y }) s place) q

  pub by_ids : e.texts ≡ texts.IdsAlone
      → read_in t (site_in t e) s place ≡ followed_in (seat_of t e.frame place e.loops.now false) looking
  by_ids q = with_texts texts.IdsAlone q

  pub by_names : e.texts ≡ texts.Names
      → read_in t (site_in t e) s place ≡ followed_in (seat_of t e.frame place e.loops.now true) looking
  by_names q = with_texts texts.Names q

  pub by_symbols : e.texts ≡ texts.Symbols → read_in t (site_in t e) s place
      ≡ followed_in (seat_of t e.frame place e.loops.now false) (through (titled (titles_at tree at) place) looking)
  by_symbols q =
      with_texts texts.Symbols q
      ∙ (λ i. followed (λ c. looks_same tree place at e.loops.now c i)
      (through (titled (titles_at tree at) place) looking))

-- the symbolic names of a scope
pub titles_here : (t : Table) (f : ℕ) (ss : List titles.Listed) (ls : List Looping) → IsReady t
    → f < length t.frames.items → ss ≡ symbols_at (scope_at t f) → ls ≡ (scope_at t f).loops
    → record { symbols = ss; loops = ls } ≡ titles_at (whole_of t).template (scope_at t f).position
titles_here t f ss ls ready h e q =
    let kept = ready.laid.kept f (scopes_there t f h) in
    let here : ss ≡ symbols_in (listed_at_scope (template_at (whole_of t).template (scope_at t f).position)) =
    e ∙ ap symbols_in kept.resources ∙ ap (λ o. symbols_in (listed_at_scope o)) (sym kept.template) in
    let around = q ∙ kept.loops in λ i. record { symbols = here i; loops = around i }

-- ---- places

module _ (t : Table) (e : sites.Site) (s : Source) where
  abbrev placed : Reads Place
  placed = own_place t.place.now (owner (whole_of t).template e.at)

  reads_on : told_in t (read_at t e s) ≡ and_then (told_in t placed) (λ p. told_in t (read_in t e s p))
  unfolding reading_at
  reads_on = told-continued Cell Json Place Json (table (status_of (rows_in t))) placed (λ p. read_in t e s p)

  pub place_goes : {X : Type 0} (view : X → Json) (r : Result X Lack) (p : Place) → told_in t placed ≡ value p
      → Yields view t r (told_in t (read_in t e s p)) → Yields view t r (told_in t (read_at t e s))
  place_goes view r p h y =
      subst (Yields view t r) (sym (reads_on ∙ ap (λ u. and_then u (λ p. told_in t (read_in t e s p))) h)) y

  pub place_stops : (l : Lack) → Stops t l (told_in t placed) → Stops t l (told_in t (read_at t e s))
  unfolding reading_at
  place_stops l h = read_stops t l placed (λ p. read_in t e s p) h
