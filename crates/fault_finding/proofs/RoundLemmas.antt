-- Cells that wait for one another: the circle of them.
use Rattle.std.proofs.Common.{◌≡◌, ◌⊎◌, inl, inr, ℕ, ◌<◌, ◌≤◌, true, false, List, [], ◌∷◌, ◌++◌, map}
use Rattle.std.proofs.Common.{length}
use Rattle.std.proofs.Common.{drop, refl, sym, ap, subst, ◌∙◌}
use Rattle.std.proofs.lemmas.Bool.{cases_lt, cases_eq}
use Rattle.arm_ids.specs.Held.{HeldResource}
use Rattle.reading.specs.World.{Each}
use Rattle.template_parts.specs.declared.mode.Mode.{Mode}
use Rattle.deploy_cells.specs.Cells.{Cell}
use Rattle.plan_cells.specs.Meaning.{Deployment}
use Rattle.plan_cells.specs.Desired.{is_state}
use Rattle.plan_cells.specs.Children.{Has, roots}
use Rattle.plan_cells.proofs.ChildLemmas.{root_is, child_is}
use Rattle.plan_filling.specs.Rows.{Row, row_at, status_of, table}
use Rattle.plan_filling.specs.Sound.{Sound, IsOpenedBy}
use Rattle.plan_filling.specs.Steps.{WaitsFor, IsChain, IsCircle}
use Rattle.plan_refusals.specs.Refusals.{is_needed, is_titled, AreTitled}
use Rattle.plan_tasks.specs.Answered.{is_asked}
use Rattle.plan_paths.specs.CellPaths.{cell_path}
use Rattle.plan_faults.specs.declared.fault.PlanFault.TheVariants as fault
use Rattle.fault_finding.specs.Circles.{place_in, AreRowsWaiting, IsRound}
use Rattle.plan_faults.specs.Faults.{AreWaiting, IsFault}
use Rattle.lack_faults.proofs.RowLemmas.{known_rows, listed}
use Rattle.fault_finding.proofs.AskLemmas.{titled_by}
use Rattle.fault_finding.proofs.LineLemmas.{asked_needed}
use Rattle.fault_finding.proofs.PlaceLemmas.{place_here, place_later, past}

module _ (d : Deployment) (rows : List Row) where
  abbrev W : ℕ → ℕ → Type 0
  W i j = WaitsFor d rows i j

  waits_from : (i : ℕ) (xs : List ℕ) (last back : ℕ) → IsChain d rows (i ∷ (xs ++ last ∷ [])) → W last back
      → AreRowsWaiting d rows i (xs ++ last ∷ []) back
  waits_from i [] last back c w = (c.0, w)
  waits_from i (x ∷ xs) last back c w = (c.0, waits_from x xs last back c.1 w)

  chain_tail : (p : ℕ) (ps : List ℕ) (last : ℕ) → IsChain d rows (p ∷ (ps ++ last ∷ []))
      → IsChain d rows (ps ++ last ∷ [])
  chain_tail p [] last c = tt
  chain_tail p (x ∷ xs) last c = c.1

  from_here : (back p : ℕ) (xs : List ℕ) → p ≡ back → AreRowsWaiting d rows p xs back
      → IsRound d rows (drop (place_in back (p ∷ xs)) (p ∷ xs))
  from_here back p xs e w =
      subst (λ (k : ℕ). IsRound d rows (drop k (p ∷ xs))) (sym (place_here back p xs e)) (record {
        first = p;
        others = xs;
        are = refl;
        are_waiting = subst (AreRowsWaiting d rows p xs) (sym e) w;
      })

  -- from the place for which the last waits
  round_from : (ps : List ℕ) (last back : ℕ) → IsChain d rows (ps ++ last ∷ []) → W last back
      → Has back (ps ++ last ∷ []) → IsRound d rows (drop (place_in back (ps ++ last ∷ [])) (ps ++ last ∷ []))
  round_from [] last back c w (inl e) = from_here back last [] e w
  round_from [] last back c w (inr h) = absurd h
  round_from (p ∷ ps) last back c w h =
      by_case (cases_eq p back) h (λ g. round_from ps last back (chain_tail p ps last c) w g)
    where
      by_case : (p ≡ back) ⊎ (p ≡ back → ⊥) → Has back (p ∷ (ps ++ last ∷ []))
          → (Has back (ps ++ last ∷ [])
          → IsRound d rows (drop (place_in back (ps ++ last ∷ [])) (ps ++ last ∷ [])))
          → IsRound d rows (drop (place_in back (p ∷ (ps ++ last ∷ []))) (p ∷ (ps ++ last ∷ [])))
      by_case (inl e) g later = from_here back p (ps ++ last ∷ []) e (waits_from p ps last back c w)
      by_case (inr n) (inl e) later = absurd (n e)
      by_case (inr n) (inr g) later =
          subst (λ (k : ℕ). IsRound d rows (drop k (p ∷ (ps ++ last ∷ []))))
          (sym (place_later back p (ps ++ last ∷ []) n)) (later g)

  pub round_is : (ps all : List ℕ) (last back k : ℕ) → IsCircle d rows ps last back → all ≡ ps ++ last ∷ []
      → k ≡ place_in back all → IsRound d rows (drop k all)
  round_is ps all last back k c e g =
      subst (λ (n : ℕ). IsRound d rows (drop n all)) (sym g)
      (subst (λ xs. IsRound d rows (drop (place_in back xs) xs)) (sym e)
      (round_from ps last back c.chain c.closes c.has))

  -- ---- the cells

  abbrev cell : ℕ → Cell
  cell i = (row_at rows i).cell

  abbrev cells : List ℕ → List Cell
  cells is = map cell is

  are_waiting : (i : ℕ) (js : List ℕ) (end : ℕ) → AreRowsWaiting d rows i js end
      → AreWaiting d (table (status_of rows)) (cell i) (cells js) (cell end)
  are_waiting i [] end w = w
  are_waiting i (j ∷ js) end w = (w.0, are_waiting j js end w.1)

  has_cell : (i : ℕ) (is : List ℕ) → Has i is → Has (cell i) (cells is)
  has_cell i (j ∷ js) (inl e) = inl (ap cell e)
  has_cell i (j ∷ js) (inr h) = inr (has_cell i js h)
  has_cell i [] h = absurd h

  -- no cell of a row is a state
  module _ (sound : Sound d rows) where
    origin_state : (c : Cell) → Has c (roots d) ⊎ IsOpenedBy d (status_of rows) c → is_state c ≡ false
    origin_state c (inl r) = (root_is d c r).1
    origin_state c (inr o) = (child_is d o.0 o.1.0 c o.1.1.1).no_state

    no_state : (i : ℕ) → is_state (cell i) ≡ false
    no_state i = by_place (cases_lt i (length rows))
      where
        by_place : (i < length rows) ⊎ (length rows ≤ i) → is_state (cell i) ≡ false
        by_place (inl h) =
            origin_state (cell i) (sound.good.is_there (cell i) (row_at rows i).status (listed d rows sound i h))
        by_place (inr h) = ap (λ (r : Row). is_state r.cell) (past rows i h)

    titled : (i : ℕ) (js : List ℕ) (end : ℕ) → AreRowsWaiting d rows i js end
        → Each (λ j. is_asked (cell j) ≡ false) (i ∷ js) → is_asked (cell end) ≡ false
        → AreTitled (cell i ∷ cells js)
    titled i [] end w a b =
        (titled_by d (table (status_of rows)) (cell i) (cell end) (no_state i) w a.0 b, tt)
    titled i (j ∷ js) end w a b = (
      titled_by d (table (status_of rows)) (cell i) (cell j) (no_state i) w.0 a.0 a.1.0,
      titled j js end w.1 a.1 b,
    )

    each_titled : (is : List ℕ) → AreTitled (cells is) → Each (λ j. is_titled (cell j) ≡ true) is
    each_titled [] a = tt
    each_titled (i ∷ is) a = (a.0, each_titled is a.1)

    round_titled : (is : List ℕ) → IsRound d rows is → Each (λ j. is_asked (cell j) ≡ false) is
        → AreTitled (cells is)
    round_titled is r a =
        let b : Each (λ j. is_asked (cell j) ≡ false) (r.first ∷ r.others) =
        subst (Each (λ j. is_asked (cell j) ≡ false)) r.are a in
        subst (λ xs. AreTitled (cells xs)) (sym r.are) (titled r.first r.others r.first r.are_waiting b b.0)

    pub round_each_titled : (is : List ℕ) → IsRound d rows is → Each (λ j. is_asked (cell j) ≡ false) is
        → Each (λ j. is_titled (cell j) ≡ true) is
    round_each_titled is r a = each_titled is (round_titled is r a)

    -- ---- the faults

    pub circle_is : (is : List ℕ) (paths : List (List ℕ)) (mode : Mode) (held : List HeldResource)
        → IsRound d rows is → Each (λ j. is_asked (cell j) ≡ false) is
        → paths ≡ map (λ j. cell_path d.template (cell j)) is → IsFault d mode held (fault.Circle paths)
    circle_is is paths mode held r a e = (
      table (status_of rows),
      (
        known_rows d rows sound,
        record {
          first = cell r.first;
          others = cells r.others;
          is_circle = are_waiting r.first r.others r.first r.are_waiting;
          are_titled = subst (λ xs. AreTitled (cells xs)) r.are (round_titled is r a);
          have_paths = sym (each_path (r.first ∷ r.others))
              ∙ ap (map (λ j. cell_path d.template (cell j))) (sym r.are) ∙ sym e;
        },
      ),
    )
      where
        each_path : (js : List ℕ) → map (λ j. cell_path d.template (cell j)) js
            ≡ map (cell_path d.template) (cells js)
        each_path [] = refl
        each_path (j ∷ js) = ap (λ xs. cell_path d.template (cell j) ∷ xs) (each_path js)

    pub asked_is : (is : List ℕ) (i : ℕ) (path : List ℕ) (mode : Mode) (held : List HeldResource)
        → IsRound d rows is → Has i is → is_asked (cell i) ≡ true → path ≡ cell_path d.template (cell i)
        → IsFault d mode held (fault.NoValue path)
    asked_is is i path mode held r h a e = (
      table (status_of rows),
      (
        known_rows d rows sound,
        inr (inr (record {
          first = cell r.first;
          others = cells r.others;
          is_circle = are_waiting r.first r.others r.first r.are_waiting;
          cell = cell i;
          is_one = subst (λ xs. Has (cell i) (cells xs)) r.are (has_cell i is h);
          is_needed = asked_needed (cell i) a;
          has_path = sym e;
        })),
      ),
    )
