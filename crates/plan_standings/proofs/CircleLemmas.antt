-- Parameters and variables of a scope that wait for one another are never known.
use Rattle.std.proofs.Common.{◌≡◌, inl, inr, ℕ, zero, suc, ◌<◌, List, [], ◌∷◌, length, Option, Some, None, refl}
use Rattle.std.proofs.Common.{sym, ap, subst, ◌∙◌, arith}
use Rattle.arm_value.specs.Json.{Json}
use Rattle.reading.specs.Knowledge.{Known, known, absent, missing, Told, value, no_value, waits, told, Means}
use Rattle.reading.specs.Knowledge.{IsToldStill}
use Rattle.reading.proofs.Completion.{told_means}
use Rattle.reading.proofs.Growth.{told_still}
use Rattle.deploy_cells.specs.Cells.{Position, Cell, parent, parameter, variable, opener}
use Rattle.deploy_cells.specs.Guarded.{Reads}
use Rattle.plan_cells.specs.Known as knowledge
use Rattle.plan_cells.specs.Known.{by_others, outright, entry_of, entry_told, IsKnown, is_outright, is_told}
use Rattle.plan_cells.specs.Meaning.{Deployment, meaning}
use Rattle.plan_cells.specs.Start.{at_point}
use Rattle.plan_cells.specs.Children.{Has, parameter_names, variable_names}
use Rattle.plan_table.specs.declared.table.Table.{Table}
use Rattle.plan_table.specs.declared.line.Spot.{Spot}
use Rattle.plan_table.specs.declared.line.Spot.TheVariants.{Parameter, Variable}
use Rattle.plan_table.specs.Lines.{name_at, cell_of, line_at, IsAt}
use Rattle.plan_table.specs.Opened.{opened_of}
use Rattle.std.proofs.lemmas.List.{length-map}
use Rattle.plan_table.specs.Whole.{whole_of, scopes_of}
use Rattle.plan_table.specs.Found.{scope_at}
use Rattle.plan_sight.specs.Ready.{IsReady}
use Rattle.deploy_histories.specs.Planned.{Planned, basis}
use Rattle.deploy_histories.specs.Events.{Progress}
use Rattle.deploy_histories.specs.Points.{IsKnownThen, point}
use Rattle.history_laws.specs.Past.{StaysDone}
use Rattle.history_replays.proofs.Later.{known_later}
use Rattle.point_rows.specs.declared.later.Later.{Later}
use Rattle.point_rows.specs.Rows.{known_now, told_now}
use Rattle.scope_faults.specs.Entries.{plain_now, own_of}
use Rattle.scope_faults.proofs.OwnLemmas.{OwnCell, own_cell}
use Rattle.scope_faults.proofs.ThereNowLemmas.{line_there}
use Rattle.task_standings.proofs.Agreement.{joined, AreOne, grows_left, grows_right, one_known}

-- ---- the meaning of a parameter or a variable that is there is told

name_number : (xs : List (List ℕ)) (x : List ℕ) → Has x xs → (n : ℕ) × ((n < length xs) × (name_at xs n ≡ x))
name_number [] x h = absurd h
name_number (y ∷ ys) x (inl e) = (zero, (omega arith, e))
name_number (y ∷ ys) x (inr h) =
    let m = name_number ys x h in
    let l = m.1.0 in
    (suc m.0, (omega (arith, l), m.1.1))

module _ (t : Table) (l : Later) (f : ℕ) (ready : IsReady t) (there : f < length t.frames.items) where
  abbrev p : Position
  p = (scope_at t f).position

  frame_listed : f < length (scopes_of t)
  frame_listed = let m = length-map t.frames.items opened_of in omega (arith, m, there)

  of_spot : (s : Spot) (c : Cell) → IsAt t.lines.items s → parent (cell_of (scopes_of t) s) ≡ opener p
      → cell_of (scopes_of t) s ≡ c → told_now t l (meaning (whole_of t) c) ≡ plain_now t l c
  of_spot s c at has e =
      let is : cell_of (scopes_of t) (line_at t.lines.items at.line).spot ≡ cell_of (scopes_of t) s
      = ap (cell_of (scopes_of t)) at.is in
      subst (λ (b : Cell). told_now t l (meaning (whole_of t) b) ≡ plain_now t l b) (is ∙ e)
      (line_there t l at.line p ready at.listed (ap parent is ∙ has))

  by_cell : (c : Cell) → OwnCell t f ready there c → told_now t l (meaning (whole_of t) c) ≡ plain_now t l c
  by_cell c (own, inl q) =
      let n = name_number (parameter_names (scope_at t f).template) q.0 q.1.0 in
      of_spot (Parameter f n.0) c (ready.laid.cells f frame_listed (Parameter f n.0) refl tt (own, n.1.0)) refl
      (ap (parameter p) n.1.1 ∙ q.1.1)
  by_cell c (own, inr q) =
      let n = name_number (variable_names (scope_at t f).template) q.0 q.1.0 in
      of_spot (Variable f n.0) c (ready.laid.cells f frame_listed (Variable f n.0) refl tt (own, n.1.0)) refl
      (ap (variable p) n.1.1 ∙ q.1.1)

  pub own_told : (c : Cell) → Has c (own_of t f) → told_now t l (meaning (whole_of t) c) ≡ plain_now t l c
  own_told c h = by_cell c (own_cell t f ready there c h)

  -- it is known by others at each point
  cell_by_others : (x : Planned) (q : Progress) (c : Cell) → OwnCell t f ready there c
      → at_point (basis x) (point x q.status) c ≡ by_others
  cell_by_others x q c (own, inl a) =
      subst (λ (b : Cell). at_point (basis x) (point x q.status) b ≡ by_others) a.1.1 refl
  cell_by_others x q c (own, inr a) =
      subst (λ (b : Cell). at_point (basis x) (point x q.status) b ≡ by_others) a.1.1 refl

  pub own_by_others : (x : Planned) (q : Progress) (c : Cell) → Has c (own_of t f)
      → at_point (basis x) (point x q.status) c ≡ by_others
  own_by_others x q c h = cell_by_others x q c (own_cell t f ready there c h)

-- ---- what waits for what is never known

still_entry : (q : knowledge.Table) (m : Reads (Option Json)) (o : Option Json) (z : Told Cell (Option Json))
    → IsToldStill q m z → entry_told z ≡ entry_of o → entry_told (told q m) ≡ entry_of o
still_entry q m o (value u) s e = ap entry_told s ∙ e
still_entry q m o no_value s e = ap entry_told s ∙ e
still_entry q m (Some v) (waits d) s e = absurd (cc)
still_entry q m None (waits d) s e = absurd (cc)

no_entry : (o : Option Json) → missing ≡ entry_of o → ⊥
no_entry (Some v) e = cc
no_entry None e = cc

entry_cases : (e : Known Json) → ((u : Option Json) → e ≡ entry_of u → ⊥) → (e ≡ missing → ⊥) → ⊥
entry_cases (known v) some none = some (Some v) refl
entry_cases absent some none = some None refl
entry_cases missing some none = none refl

-- by two tables that agree, a cell waits by the one and is told by the other
waits_still : (k s : knowledge.Table) → AreOne k s → (m : Reads (Option Json)) (o : Option Json) (d : Cell)
    → told k m ≡ waits d → s d ≡ missing → entry_told (told s m) ≡ entry_of o → ⊥
waits_still k s one m o d e n g =
    let is_missing : k d ≡ missing
    = (subst (Means k m) e (told_means Cell Json (Option Json) k m)).is_missing in
    let both : joined k s d ≡ missing = ap (λ z. by_first z (s d)) is_missing ∙ n in
    let still : told (joined k s) m ≡ waits d
    = subst (IsToldStill (joined k s) m) e
    (told_still Cell Json (Option Json) k (joined k s) (grows_left k s) m) both in
    no_entry o
    (ap entry_told (sym still)
    ∙ still_entry (joined k s) m o (told s m)
    (told_still Cell Json (Option Json) s (joined k s) (grows_right k s one) m) g)
  where
    by_first : Known Json → Known Json → Known Json
    by_first (known v) f = known v
    by_first absent f = absent
    by_first missing f = f

module _ (x : Planned) (p : Progress) (t : Table) (l : Later) (is : x.deployment ≡ whole_of t)
    (known_then : IsKnownThen x p (known_now t l)) (f : ℕ) (ready : IsReady t) (there : f < length t.frames.items)
    (cells : List Cell) (own : (e : Cell) → Has e cells → Has e (own_of t f))
    (awaits : (e : Cell) → Has e cells → (d : Cell) × (Has d cells × (plain_now t l e ≡ waits d))) where
  abbrev k : knowledge.Table
  k = known_now t l

  told_waits : (c : Cell) (h : Has c cells) → told k (meaning x.deployment c) ≡ waits (awaits c h).0
  told_waits c h =
      subst (λ (d : Deployment). told k (meaning d c) ≡ waits (awaits c h).0) (sym is)
      (own_told t l f ready there c (own c h) ∙ (awaits c h).1.1)

  not_outright : (o : Option Json) → by_others ≡ outright o → ⊥
  not_outright o e = cc

  pub never : (q : Progress) → StaysDone p.status q.status → (c : Cell) (o : Option Json)
      → IsKnown (meaning x.deployment) (at_point (basis x) (point x q.status)) c o → Has c cells → ⊥
  never q more c o (is_outright _ _ e) h =
      not_outright o (sym (own_by_others t l f ready there x q c (own c h)) ∙ e)
  never q more c o (is_told _ _ s b all g) h =
      let d = (awaits c h).0 in
      entry_cases (s d) (λ u e. never q more d u (all d u e) (awaits c h).1.0)
      (λ n. waits_still k s
      (λ a v u i j. one_known (meaning x.deployment) (at_point (basis x) (point x q.status)) a v u
      (known_later x p q k more known_then a v i) (all a u j))
      (meaning x.deployment c) o d (told_waits c h) n g)
