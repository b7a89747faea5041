-- What is told at a point of what an expression sees.
use Rattle.std.proofs.Common.{◌≡◌, ℕ, Bool, true, false, List}
use Rattle.std.proofs.Common.{Result, refl, sym, ap, subst, ◌∙◌}
use Rattle.arm_value.specs.Json.{Json}
use Rattle.arm_ids.specs.declared.id.Place.{Place}
use Rattle.arm_ids.specs.declared.id.ResourceId.{ResourceId}
use Rattle.arm_env.specs.declared.env.Looping.{Looping}
use Rattle.arm_env.specs.Look as look
use Rattle.arm_env.specs.Look.{Look, Fact, Looking}
use Rattle.arm_eval.specs.Titles.{titled}
use Rattle.reading.specs.Reading.{pure, through}
use Rattle.reading.specs.Knowledge.{Told, value, no_value, waits, told, and_then}
use Rattle.reading.proofs.Parts.{told-continued}
use Rattle.template_tree.specs.Tree.{TemplateTree}
use Rattle.template_tree.specs.View.{template_tree}
use Rattle.deploy_cells.specs.Cells.{Position, Cell}
use Rattle.deploy_cells.specs.Followed.{followed}
use Rattle.deploy_cells.specs.Guarded.{Reads}
use Rattle.plan_cells.specs.Scopes.{owner, own_place, visible}
use Rattle.plan_cells.specs.Sites as sites
use Rattle.plan_cells.specs.Sites.{value_of, looked_up, listed_at_scope, symbols_in, titles_at, surroundings}
use Rattle.plan_cells.specs.Sites.{reading_at, named_at, seek, truth_of_found}
use Rattle.plan_filling.specs.Rows.{status_of, table}
use Rattle.plan_table.specs.declared.table.Table.{Table}
use Rattle.plan_table.specs.Whole.{whole_of, rows_in}
use Rattle.plan_table.specs.Found.{scope_at}
use Rattle.plan_sight.specs.declared.lack.Lack.{Lack}
use Rattle.plan_sight.specs.Ready.{told_in}
use Rattle.plan_sight.specs.Seen.{Shows, Stops, Yields}
use Rattle.plan_telling.specs.Resolved.{stop_of, IsResolved}
use Rattle.plan_telling.specs.Seats.{Seat, site_of, seen_in, known_in}
use Rattle.plan_telling.proofs.FollowLemmas.{resolved}
use Rattle.plan_telling.specs.declared.source.Source.{Source}
use Rattle.plan_telling.specs.declared.site.Site.{Site}
use Rattle.plan_telling.specs.declared.site.Texts.{Texts}
use Rattle.plan_telling.specs.declared.site.Texts.TheVariants as texts
use Rattle.plan_telling.specs.Sources.{meaning_of, texts_in, site_in, read_at, read_in, followed_in}
use Rattle.plan_listing.specs.Hits.{is_at}
use Rattle.point_rows.specs.declared.later.Later.{Later}
use Rattle.point_rows.specs.Rows.{known_now, told_now}
use Rattle.point_rows.proofs.FixedLemmas.{AsksFixed, continued_fixed, told_fixed, seek_fixed, named_fixed, place_fixed}
use Rattle.point_rows.proofs.ToldNowLemmas.{fixed_known}
use Rattle.point_rows.proofs.SeenNowLemmas.{stop_goes}
use Rattle.point_sights.specs.PointSeats.{seat_now}

-- ---- what the evaluator returned

module _ (t : Table) (l : Later) (f : ℕ) (place : Place) (loops : List Looping) (b : Bool) (r : Looking Json) where
  abbrev seat : Seat
  seat = seat_now t l f place loops b

  resolved_here : IsResolved (seen_in seat) (told (known_in seat) r) (told_now t l (followed_in seat r))
  resolved_here =
      resolved Look Cell Fact Json Json (known_now t l)
      (looked_up (template_tree t.template.now) place (site_of seat)) r

  by_told : (u : Told Look Json) → told (known_in seat) r ≡ u
      → IsResolved (seen_in seat) u (told_now t l (followed_in seat r))
  by_told u e = subst (λ x. IsResolved (seen_in seat) x (told_now t l (followed_in seat r))) e resolved_here

  pub value_told : (j : Json) → told (known_in seat) r ≡ value j → told_now t l (followed_in seat r) ≡ value j
  value_told j e = by_told (value j) e

  pub nothing_told : told (known_in seat) r ≡ no_value → told_now t l (followed_in seat r) ≡ no_value
  nothing_told e = by_told no_value e

  pub cell_stops : (c : Look) (e : Lack) → told (known_in seat) r ≡ waits c
      → Stops {A = Json} t e (stop_of (seen_in seat c)) → Stops t e (told_now t l (followed_in seat r))
  cell_stops c e h s = subst (Stops t e) (sym (by_told (waits c) h)) s

-- ---- texts

looks_same : (t : TemplateTree) (place : Place) (p : Position) (ls : List Looping) (c : Look)
    → looked_up t place (record { at = p; loops = ls; texts = sites.symbols }) c
    ≡ looked_up t place (record { at = p; loops = ls; texts = sites.ids_alone }) c
looks_same t place p ls (look.parameter x) = refl
looks_same t place p ls (look.variable x) = refl
looks_same t place p ls (look.output k x) = refl
looks_same t place p ls (look.state k) = refl
looks_same t place p ls (look.named x) = refl
looks_same t place p ls (look.deployment k) = refl
looks_same t place p ls (look.outputs k) = refl

module _ (t : Table) (l : Later) (e : Site) (s : Source) (place : Place) where
  abbrev tree : TemplateTree
  tree = (whole_of t).template

  abbrev at : Position
  at = (scope_at t e.frame).position

  abbrev looking : Looking Json
  looking = meaning_of s (surroundings (site_in t e) place)

  with_texts : (x : Texts) → e.texts ≡ x → read_in t (site_in t e) s place
      ≡ read_in t (record { at = at; loops = e.loops.now; texts = texts_in x }) s place
  with_texts x q =
      ap (λ y. read_in t (record { at = at; loops = e.loops.now; texts = texts_in y }) s place) q

  pub by_ids : e.texts ≡ texts.IdsAlone
      → read_in t (site_in t e) s place ≡ followed_in (seat_now t l e.frame place e.loops.now false) looking
  by_ids q = with_texts texts.IdsAlone q

  pub by_names : e.texts ≡ texts.Names
      → read_in t (site_in t e) s place ≡ followed_in (seat_now t l e.frame place e.loops.now true) looking
  by_names q = with_texts texts.Names q

  pub by_symbols : e.texts ≡ texts.Symbols → read_in t (site_in t e) s place
      ≡ followed_in (seat_now t l e.frame place e.loops.now false) (through (titled (titles_at tree at) place) looking)
  by_symbols q =
      with_texts texts.Symbols q
      ∙ (λ i. followed (λ c. looks_same tree place at e.loops.now c i)
      (through (titled (titles_at tree at) place) looking))

-- ---- places

module _ (t : Table) (l : Later) (e : sites.Site) (s : Source) where
  abbrev placed : Reads Place
  placed = own_place t.place.now (owner (whole_of t).template e.at)

  reads_on : told_now t l (read_at t e s) ≡ and_then (told_now t l placed) (λ p. told_now t l (read_in t e s p))
  unfolding reading_at
  reads_on = told-continued Cell Json Place Json (known_now t l) placed (λ p. read_in t e s p)

  -- the place is told as it is at the start
  place_now : told_in t placed ≡ told_now t l placed
  place_now =
      told_fixed (table (status_of (rows_in t))) (known_now t l) (λ c i. fixed_known t l c i) placed
      (place_fixed t.place.now (owner (whole_of t).template e.at))

  pub place_goes : {X : Type 0} (view : X → Json) (r : Result X Lack) (p : Place) → told_in t placed ≡ value p
      → Yields view t r (told_now t l (read_in t e s p)) → Yields view t r (told_now t l (read_at t e s))
  place_goes view r p h y =
      subst (Yields view t r) (sym (reads_on ∙ ap (λ u. and_then u (λ p. told_now t l (read_in t e s p))) (sym
      place_now ∙ h))) y

  pub place_stops : (e1 : Lack) → Stops t e1 (told_in t placed) → Stops t e1 (told_now t l (read_at t e s))
  place_stops e1 h =
      subst (Stops t e1) (sym reads_on)
      (stop_goes t e1 (told_now t l placed) (λ p. told_now t l (read_in t e s p)) (subst (Stops t e1) place_now h))

-- ---- what is known as it is at the start

module _ (t : Table) (l : Later) (place : Place) where
  same_told : {A : Type 0} (r : Reads A) → AsksFixed r → told_in t r ≡ told_now t l r
  same_told r a = told_fixed (table (status_of (rows_in t))) (known_now t l) (λ c i. fixed_known t l c i) r a

  pub named_now : {X : Type 0} (p : Position) (x : List ℕ) (view : X → Fact) (r : Result X Lack)
      → Shows view t r (told_in t (named_at (whole_of t).template place p x))
      → Shows view t r (told_now t l (named_at (whole_of t).template place p x))
  named_now p x view r h =
      subst (Shows view t r) (same_told (named_at (whole_of t).template place p x)
      (named_fixed (whole_of t).template place p x)) h

  pub deployment_now : {X : Type 0} (e : sites.Site) (k : ResourceId) (view : X → Fact) (r : Result X Lack)
      → Shows view t r (told_in t (looked_up (whole_of t).template place e (look.deployment k)))
      → Shows view t r (told_now t l (looked_up (whole_of t).template place e (look.deployment k)))
  deployment_now e k view r h =
      subst (Shows view t r) (same_told (looked_up (whole_of t).template place e (look.deployment k))
      (continued_fixed (seek (whole_of t).template (is_at k place) (visible (whole_of t).template e.at))
      (λ f. pure (truth_of_found f))
      (seek_fixed (whole_of t).template (is_at k place) (visible (whole_of t).template e.at)) (λ f. tt))) h
