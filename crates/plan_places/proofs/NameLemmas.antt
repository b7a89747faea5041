-- What is told of the place of a scope.
use Rattle.std.proofs.Common.{◌≡◌, ℕ, ◌<◌, List, [], ◌∷◌, map, length, get_or, Option, None}
use Rattle.std.proofs.Common.{Result, Ok, Err, refl, sym, ap, subst, ◌∙◌, arith}
use Rattle.std.specs.Prelude.{MatchOption}
use Rattle.arm_value.specs.Json.{Json}
use Rattle.arm_value.specs.View.{json}
use Rattle.arm_value.specs.declared.value.Value.{Value}
use Rattle.arm_value.specs.declared.value.Value.TheVariants as values
use Rattle.arm_ids.specs.declared.id.Place.{Place}
use Rattle.reading.specs.Reading.{done, read, continued}
use Rattle.reading.specs.Knowledge.{value, finished}
use Rattle.deploy_cells.specs.Cells.{Step, step, Position, name, count}
use Rattle.deploy_cells.specs.Guarded.{Reads}
use Rattle.plan_sight.specs.Scopes.{owner, own_place, with_deployment}
use Rattle.plan_table.specs.declared.table.Table.{Table}
use Rattle.plan_table.specs.declared.frame.Frame.{Frame}
use Rattle.plan_table.specs.declared.frame.Instance.{Instance}
use Rattle.plan_table.specs.Opened.{Opened, step_of}
use Rattle.plan_table.specs.Lines.{cell_of, line_at}
use Rattle.plan_table.specs.Whole.{whole_of, scopes_of}
use Rattle.plan_table.specs.Found.{scope_at, IsLineOf, Counts, state_at}
use Rattle.plan_sight.specs.declared.lack.Lack.{Lack}
use Rattle.plan_sight.specs.declared.lack.Lack.TheVariants as lack
use Rattle.plan_sight.specs.Ready.{IsReady, told_in}
use Rattle.plan_sight.specs.Seen.{Stops, Yields}
use Rattle.plan_sight.proofs.LookLemmas.{scope_is, scopes_there, frames_there, owner_is_of, found_none}
use Rattle.plan_nested.proofs.SeekLemmas.{read_goes, read_stops}
use Rattle.plan_places.specs.Places.{Forms, IsNamed}
use Rattle.plan_places.proofs.PlaceLemmas.{around_there, position_around, name_there}
use Rattle.plan_sight.proofs.ToldLemmas.{told_pure, told_done}

pub no_place : (place : Place) (v : Value) → ((s : List ℕ) → v ≡ values.Text s → ⊥)
    → with_deployment place (json v) ≡ None
no_place place values.Null h = refl
no_place place (values.Bool b) h = refl
no_place place (values.Int z) h = refl
no_place place (values.Text s) h = absurd (h s refl)
no_place place (values.Array js) h = refl
no_place place (values.Object ms) h = refl

pub root_told : (t : Table) (place : Place) → told_in t (own_place place []) ≡ value place
root_told t place = told_pure t place

-- ---- by the name of an instance

module _ (t : Table) (f : ℕ) (s : Step) (at : ℕ)
    (l : IsLineOf t f (name (scope_at t f).position (step s.resource s.copy)) at) where
  abbrev pub named : Reads Place
  named =
      continued (read (name (scope_at t f).position (step s.resource s.copy)))
      (λ n. done (with_deployment t.place.now n))

  by_name : (j : Json) → told_in t (read (cell_of (scopes_of t) (line_at t.lines.items at).spot)) ≡ value j
      → told_in t named ≡ finished (with_deployment t.place.now j)
  by_name j e =
      read_goes t (read (name (scope_at t f).position (step s.resource s.copy)))
      (λ n. done (with_deployment t.place.now n)) j (ap (λ c. told_in t (read c)) (sym l.is) ∙ e)
      ∙ told_done t (with_deployment t.place.now j)

  pub place_formed : (j : Json) (r : Result Place Lack)
      → told_in t (read (cell_of (scopes_of t) (line_at t.lines.items at).spot)) ≡ value j
      → Forms (with_deployment t.place.now j) r → Yields (λ p. p) t r (told_in t named)
  place_formed j (Ok p) e h = by_name j e ∙ ap finished h
  place_formed j (Err lack.NotThere) e h = absurd h
  place_formed j (Err lack.NoValue) e h = by_name j e ∙ ap finished h
  place_formed j (Err (lack.Line k)) e h = absurd h
  place_formed j (Err (lack.State k)) e h = absurd h
  place_formed j (Err lack.OutOfMemory) e h = tt

  pub place_stops : (e : Lack)
      → Stops t e (told_in t (read (cell_of (scopes_of t) (line_at t.lines.items at).spot)))
      → Stops t e (told_in t named)
  place_stops e h =
      read_stops t e (read (name (scope_at t f).position (step s.resource s.copy)))
      (λ n. done (with_deployment t.place.now n)) (subst (λ c. Stops t e (told_in t (read c))) l.is h)

pub line_named : (t : Table) (f : ℕ) (s : Step) (o : Option ℕ) → IsNamed t f s → o ≡ None
    → MatchOption o ((j : ℕ) → IsLineOf t f (count (scope_at t f).position s.resource) j → Counts s.copy (state_at t j)
    → ⊥) (λ _. Unit {0}) → ⊥
line_named t f s o n e m = n (found_none _ o e m)

-- ---- by the position of the scope

empty_is : (xs : List Instance) → length xs ≡ 0 → xs ≡ []
empty_is [] e = refl
empty_is (x ∷ xs) e = absurd (omega (arith, e))

pub some_there : (xs : List Instance) → (length xs ≡ 0 → ⊥) → 0 < length xs
some_there [] h = absurd (h refl)
some_there (x ∷ xs) h = omega arith

first_is : (xs : List Instance) (i : Instance) → (length xs ≡ 0 → ⊥) → i ≡ get_or xs 0 i
    → (p : Position) × (map step_of xs ≡ step_of i ∷ p)
first_is [] i h e = absurd (h refl)
first_is (x ∷ xs) i h e = (map step_of xs, ap (λ y. step_of y ∷ map step_of xs) (sym e))

module _ (t : Table) (f : ℕ) (ready : IsReady t) (h : f < length t.frames.items) (fr : Frame)
    (e : fr ≡ get_or t.frames.items f fr) (xs : List Instance) (q : xs ≡ fr.position.items) where
  position_is : (scope_at t f).position ≡ map step_of xs
  position_is = ap (λ (o : Opened). o.position) (scope_is t f fr h e) ∙ ap (map step_of) (sym q)

  pub at_root : (r : Result Place Lack) → length xs ≡ 0
      → Yields (λ p. p) t r (told_in t (own_place t.place.now []))
      → Yields (λ p. p) t r (told_in t (own_place t.place.now (scope_at t f).position))
  at_root r n y =
      subst (λ p. Yields (λ x. x) t r (told_in t (own_place t.place.now p)))
      (sym (position_is ∙ ap (map step_of) (empty_is xs n))) y

  around_read : (scope_at t f).around ≡ fr.around
  around_read = ap (λ (o : Opened). o.around) (scope_is t f fr h e)

  module _ (i : Instance) (some : length xs ≡ 0 → ⊥) (g : i ≡ get_or xs 0 i) where
    abbrev rest : Position
    rest = (first_is xs i some g).0

    inside : (scope_at t f).position ≡ step_of i ∷ rest
    inside = position_is ∙ (first_is xs i some g).1

    pub around_within : fr.around < length t.frames.items
    around_within =
        frames_there t fr.around
        (subst (λ a. a < length (scopes_of t)) around_read
        (around_there t f ready (scopes_there t f h) (step_of i) rest inside))

    pub around_named : IsNamed t fr.around (step_of i)
    around_named =
        subst (λ a. IsNamed t a (step_of i)) around_read
        (name_there t f ready (scopes_there t f h) (step_of i) rest inside)

    position_there : (scope_at t fr.around).position ≡ rest
    position_there =
        ap (λ a. (scope_at t a).position) (sym around_read)
        ∙ position_around t f ready (scopes_there t f h) (step_of i) rest inside

    pub at_inside : (r : Result Place Lack)
        → Yields (λ p. p) t r (told_in t (continued (read (name (scope_at t fr.around).position (step_of i)))
        (λ n. done (with_deployment t.place.now n))))
        → Yields (λ p. p) t r (told_in t (own_place t.place.now (scope_at t f).position))
    at_inside r y =
        subst (λ p. Yields (λ x. x) t r (told_in t (own_place t.place.now p))) (sym inside)
        (subst (λ p. Yields (λ x. x) t r (told_in t (continued (read (name p (step_of i)))
        (λ n. done (with_deployment t.place.now n))))) position_there y)

-- the scope whose place it is
pub of_owner : (t : Table) (f : ℕ) (fr : Frame) (r : Result Place Lack) → IsReady t → f < length t.frames.items
    → fr ≡ get_or t.frames.items f fr
    → Yields (λ p. p) t r (told_in t (own_place t.place.now (scope_at t fr.owner).position))
    → Yields (λ p. p) t r (told_in t (own_place t.place.now (owner (whole_of t).template (scope_at t f).position)))
of_owner t f fr r ready h e y =
    subst (λ p. Yields (λ x. x) t r (told_in t (own_place t.place.now p)))
    (ap (λ o. (scope_at t o).position) (owner_is_of t f fr h e) ∙ (ready.laid.kept f (scopes_there t f h)).owner) y
