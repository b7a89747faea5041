-- What is told of the outputs of a nested deployment.
use Rattle.std.proofs.Common.{◌≡◌, inl, inr, ℕ, zero, suc, ◌+◌, ◌<◌, ◌≤◌, Bool, true, false, List, [], ◌∷◌, ◌++◌}
use Rattle.std.proofs.Common.{map, drop, length, get_or, Option}
use Rattle.std.proofs.Common.{Some, None, Result, Ok, Err, refl, sym, ap, subst, ◌∙◌, arith, append-nil, append_assoc}
use Rattle.std.proofs.Common.{IfOk}
use Rattle.std.specs.Prelude.{is_some, if◌then◌else◌}
use Rattle.std.proofs.lemmas.List.{drop_more, drop_all}
use Rattle.arm_value.specs.Json.{Json}
use Rattle.arm_value.specs.Look.{fold}
use Rattle.arm_value.specs.View.{json}
use Rattle.arm_value.specs.declared.value.Value.{Value}
use Rattle.arm_ids.specs.declared.id.Place.{Place}
use Rattle.arm_ids.specs.declared.id.ResourceId.{ResourceId}
use Rattle.arm_env.specs.Look as look
use Rattle.arm_env.specs.Look.{Fact, a_list}
use Rattle.arm_env.specs.Sight.{declared_of}
use Rattle.arm_env.specs.declared.entries.Declared.{Declared}
use Rattle.reading.specs.Reading.{ask, pure, continued}
use Rattle.reading.specs.Knowledge.{Known, known, absent, missing, Told, value, no_value, waits, told, by_entry}
use Rattle.reading.specs.Knowledge.{and_then}
use Rattle.reading.proofs.Parts.{told-continued}
use Rattle.template_parts.specs.declared.output.Output.{Output}
use Rattle.template_tree.specs.Tree.{TemplateTree}
use Rattle.deploy_cells.specs.Cells.{Step, Position, Cell, offered, output}
use Rattle.deploy_cells.specs.Guarded.{Reads}
use Rattle.plan_sight.specs.Resources.{header_in}
use Rattle.plan_sight.specs.Scopes.{template_at, visible}
use Rattle.plan_sight.specs.Sites as sites
use Rattle.plan_sight.specs.Sites.{Site, value_of, declared_value, declares, output_named, output_at, outputs_at, offered_outputs, outputs_in, declared_output, seek, truth_of_found}
use Rattle.plan_sight.specs.Children.{Has, output_names}
use Rattle.plan_sight.proofs.ListLemmas.{not_named}
use Rattle.plan_table.specs.Rows.{Status, status_of, table, known_by}
use Rattle.plan_table.specs.declared.table.Table.{Table}
use Rattle.plan_table.specs.declared.line.State.{State}
use Rattle.plan_table.specs.declared.line.State.TheVariants as how
use Rattle.plan_table.specs.Lines.{status_in}
use Rattle.plan_table.specs.Whole.{whole_of, rows_in}
use Rattle.plan_table.specs.Found.{scope_at, IsLineOf, IsTrueLine, state_at}
use Rattle.plan_sight.specs.declared.lack.Lack.{Lack}
use Rattle.plan_sight.specs.declared.lack.Lack.TheVariants as lack
use Rattle.plan_sight.specs.Ready.{IsReady, told_in}
use Rattle.plan_sight.specs.Seen.{Lacks, Shows, Stops, Yields}
use Rattle.plan_sight.proofs.LookLemmas.{cell_at, status_at, IsOpen, entry_waits, listed_row, cell_of_row, named, scope_is}
use Rattle.plan_table.specs.declared.frame.Frame.{Frame}
use Rattle.plan_table.specs.Opened.{Opened, opened_of}
use Rattle.plan_listing.specs.Hits.{is_at}
use Rattle.plan_nested.specs.Sighted.{IsInside, instance_at, found_of}
use Rattle.plan_nested.specs.declared.seeking.Sighting.{Sighting}
use Rattle.plan_nested.proofs.SeekLemmas.{read_stops, stop_goes}
use Rattle.arm_value.specs.Kinds.{is_true}
use Rattle.plan_sight.proofs.ToldLemmas.{told_pure}

-- ---- the condition of an output

abbrev pub truth_told : Table → Cell → Told Cell Bool
truth_told t c = told_in t (ask c (λ v. pure (is_true v)))

told_truth : (t : Table) (c : Cell) (s : Status) → status_of (rows_in t) c ≡ Some s
    → truth_told t c ≡ by_entry c (λ v. value (is_true v)) (known_by (Some s))
unfolding told
told_truth t c s e = ap (λ o. by_entry c (λ v. value (is_true v)) (known_by o)) e

by_state : (t : Table) (j : ℕ) (x : State) → IsReady t → j < length t.lines.items → state_at t j ≡ x
    → truth_told t (cell_at t j) ≡ by_entry (cell_at t j) (λ v. value (is_true v)) (known_by (Some (status_in x)))
by_state t j x ready h e =
    told_truth t (cell_at t j) (status_in (state_at t j)) (status_at t j ready h)
    ∙ ap (λ y. by_entry (cell_at t j) (λ v. value (is_true v)) (known_by (Some (status_in y)))) e

pub truth_value : (t : Table) (j : ℕ) (v : Value) → IsReady t → j < length t.lines.items → state_at t j ≡ how.Value v
    → truth_told t (cell_at t j) ≡ value (is_true (Some (json v)))
truth_value t j v ready h e = by_state t j (how.Value v) ready h e

pub truth_none : (t : Table) (j : ℕ) → IsReady t → j < length t.lines.items → state_at t j ≡ how.Empty
    → truth_told t (cell_at t j) ≡ value false
truth_none t j ready h e = by_state t j how.Empty ready h e

pub truth_waits : (t : Table) (j : ℕ) (x : State) → IsReady t → j < length t.lines.items → state_at t j ≡ x
    → IsOpen x → Stops t (lack.Line j) (truth_told t (cell_at t j))
truth_waits t j x ready h e o = (
  listed_row t j h,
  by_state t j x ready h e
      ∙ entry_waits (cell_at t j) (λ v. value (is_true v)) x o ∙ ap waits (cell_of_row t j h),
)

pub line_true : (t : Table) (j : ℕ) (v : Value) (b : Bool) → state_at t j ≡ how.Value v
    → b ≡ is_true (Some (json v)) → b ≡ true → IsTrueLine (state_at t j)
line_true t j v b e i h = subst IsTrueLine (sym e) (sym i ∙ h)

-- what goes on by the truth of a cell
split_entry : {A : Type 0} (q : Cell → Known Json) (c : Cell) (k : Bool → Reads A) (e : Known Json)
    → by_entry c (λ v. told q (k (is_true v))) e
    ≡ and_then (by_entry c (λ v. value (is_true v)) e) (λ b. told q (k b))
split_entry q c k (known v) = refl
split_entry q c k absent = refl
split_entry q c k missing = refl

pub split_truth : {A : Type 0} (t : Table) (c : Cell) (k : Bool → Reads A)
    → told_in t (ask c (λ v. k (is_true v))) ≡ and_then (truth_told t c) (λ b. told_in t (k b))
unfolding told
split_truth t c k = split_entry (table (status_of (rows_in t))) c k (table (status_of (rows_in t)) c)

pub lacks_stopped : {A : Type 0} (t : Table) (e : Lack) (u : Told Cell (Option A)) → Stops t e u → Lacks t e u
lacks_stopped t lack.NotThere u h = absurd h
lacks_stopped t lack.NoValue u h = h
lacks_stopped t (lack.Line j) u h = h
lacks_stopped t (lack.State k) u h = h
lacks_stopped t lack.OutOfMemory u h = tt

pub nothing_told : {A : Type 0} (t : Table) → told_in t (pure {A = Option A} None) ≡ value None
unfolding told
nothing_told t = refl

-- ---- the output of a scope inside

module _ (t : Table) (g : ℕ) (x : List ℕ) (ready : IsReady t) (inside : IsInside t g) where
  abbrev d : TemplateTree
  d = (whole_of t).template

  abbrev p : Position
  p = (scope_at t g).position

  abbrev u : TemplateTree
  u = (scope_at t g).template

  template_is : template_at d p ≡ Some u
  template_is = (ready.laid.kept g inside.there).template

  -- the reading of the output, by whether the scope declares it
  abbrev reading_by : Bool → Reads (Option Fact)
  reading_by b =
      if b then ask (offered p x) (λ v. declared_value (is_true v) (output p x)) else pure None

  at_position : (q : Position) (s : Step) (pos : Position) → pos ≡ s ∷ q
      → output_at d x (instance_at pos)
      ≡ (if declares (output_named x) (template_at d pos)
      then ask (offered pos x) (λ v. declared_value (is_true v) (output pos x)) else pure None)
  at_position q s pos e = rw e refl

  output_is : (b : Bool) → is_some (output_named x u) ≡ b → output_at d x (instance_at p) ≡ reading_by b
  output_is b e =
      at_position inside.around inside.step p inside.position
      ∙ ap (λ o. if declares (output_named x) o
      then ask (offered p x) (λ v. declared_value (is_true v) (output p x)) else pure None) template_is
      ∙ ap reading_by e

  declared_is : Has x (output_names u) → is_some (output_named x u) ≡ true
  declared_is h = named (λ o. o.name) x (header_in u).outputs h

  pub undeclared_told : (Has x (output_names u) → ⊥) → told_in t (output_at d x (instance_at p)) ≡ value None
  undeclared_told h =
      ap (told_in t) (output_is false (ap is_some (not_named (λ o. o.name) x (header_in u).outputs h))) ∙ nothing_told t

  declared_told : Has x (output_names u)
      → told_in t (output_at d x (instance_at p))
      ≡ and_then (truth_told t (offered p x)) (λ b. told_in t (declared_value b (output p x)))
  declared_told h =
      ap (told_in t) (output_is true (declared_is h))
      ∙ split_truth t (offered p x) (λ b. declared_value b (output p x))

  module _ (j : ℕ) (l : IsLineOf t g (offered p x) j) where
    by_line : told_in t (output_at d x (instance_at p))
        ≡ and_then (truth_told t (cell_at t j)) (λ b. told_in t (declared_value b (output p x)))
    by_line = declared_told l.has
        ∙ ap (λ c. and_then (truth_told t c) (λ b. told_in t (declared_value b (output p x)))) (sym l.is)

    pub output_shown : truth_told t (cell_at t j) ≡ value true
        → told_in t (output_at d x (instance_at p)) ≡ told_in t (value_of (output p x))
    output_shown e = by_line ∙ ap (λ r. and_then r (λ b. told_in t (declared_value b (output p x)))) e

    pub output_hidden : truth_told t (cell_at t j) ≡ value false
        → told_in t (output_at d x (instance_at p)) ≡ value None
    output_hidden e =
        by_line ∙ ap (λ r. and_then r (λ b. told_in t (declared_value b (output p x)))) e ∙ nothing_told t

    pub output_stops : (e : Lack) → Stops t e (truth_told t (cell_at t j))
        → Lacks t e (told_in t (output_at d x (instance_at p)))
    output_stops e h =
        lacks_stopped t e (told_in t (output_at d x (instance_at p)))
        (subst (Stops t e) (sym by_line)
        (stop_goes t e (truth_told t (cell_at t j)) (λ b. told_in t (declared_value b (output p x))) h))

-- ---- what was sought

module _ (t : Table) (place : Place) (k : ResourceId) (f : ℕ) (e : Site) (at : e.at ≡ (scope_at t f).position) where
  abbrev whole : TemplateTree
  whole = (whole_of t).template

  abbrev search : Position → Reads sites.Found
  search p = seek whole (is_at k place) (visible whole p)

  -- what goes on with what was found
  pub found_goes : {A : Type 0} (r : sites.Found → Reads A) (s : Sighting)
      → told_in t (search (scope_at t f).position) ≡ value (found_of t s)
      → told_in t (continued (search e.at) r) ≡ told_in t (r (found_of t s))
  found_goes {A} r s h =
      ap (λ p. told_in t (continued (search p) r)) at
      ∙ told-continued Cell Json sites.Found A (table (status_of (rows_in t))) (search (scope_at t f).position) r
      ∙ ap (λ v. and_then v (λ y. told_in t (r y))) h

  pub found_stops : {A : Type 0} (r : sites.Found → Reads (Option A)) (l : Lack)
      → Stops t l (told_in t (search (scope_at t f).position))
      → Lacks t l (told_in t (continued (search e.at) r))
  found_stops r l h =
      lacks_stopped t l (told_in t (continued (search e.at) r))
      (subst (λ p. Stops t l (told_in t (continued (search p) r))) (sym at)
      (read_stops t l (search (scope_at t f).position) r h))

pub shows_as : {X A : Type 0} (view : X → A) (t : Table) (r : Result X Lack) (u w : Told Cell (Option A)) → w ≡ u
    → Shows view t r u → Shows view t r w
shows_as view t r u w e h = subst (Shows view t r) (sym e) h

-- ---- all outputs

module _ (t : Table) (p : Position) where
  -- the outputs that are listed, and those that are left to list
  abbrev pub listed_rest : List look.Declared → List Output → Told Cell (List look.Declared)
  listed_rest done os = and_then (told_in t (offered_outputs p os)) (λ xs. value (done ++ xs))

  abbrev pub added : Bool → Output → List look.Declared
  added b o = if b then declared_output o ∷ [] else []

  kept_after : (done : List look.Declared) (b : Bool) (o : Output) (xs : List look.Declared)
      → done ++ (if b then declared_output o ∷ xs else xs) ≡ (done ++ added b o) ++ xs
  kept_after done true o xs = sym (append_assoc done (declared_output o ∷ []) xs)
  kept_after done false o xs = ap (λ ys. ys ++ xs) (sym (append-nil done))

  next_told : (done : List look.Declared) (b : Bool) (o : Output) (u : Told Cell (List look.Declared))
      → and_then (and_then u (λ xs. told_in t (pure (if b then declared_output o ∷ xs else xs))))
      (λ ys. value (done ++ ys))
      ≡ and_then u (λ xs. value ((done ++ added b o) ++ xs))
  next_told done b o (value xs) =
      ap (λ v. and_then v (λ ys. value (done ++ ys))) (told_pure t (if b then declared_output o ∷ xs else xs))
      ∙ ap value (kept_after done b o xs)
  next_told done b o no_value = refl
  next_told done b o (waits c) = refl

  abbrev rest_by : Bool → Output → List Output → Reads (List look.Declared)
  rest_by b o os = continued (offered_outputs p os) (λ xs. pure (if b then declared_output o ∷ xs else xs))

  first_told : (o : Output) (os : List Output)
      → told_in t (offered_outputs p (o ∷ os))
      ≡ and_then (truth_told t (offered p (fold o.name))) (λ b. told_in t (rest_by b o os))
  first_told o os = split_truth t (offered p (fold o.name)) (λ b. rest_by b o os)

  listed_next : (done : List look.Declared) (o : Output) (os : List Output) (b : Bool)
      → truth_told t (offered p (fold o.name)) ≡ value b
      → listed_rest done (o ∷ os) ≡ listed_rest (done ++ added b o) os
  listed_next done o os b h =
      ap (λ v. and_then v (λ ys. value (done ++ ys)))
      (first_told o os ∙ ap (λ v. and_then v (λ b. told_in t (rest_by b o os))) h
      ∙ told-continued Cell Json (List look.Declared) (List look.Declared) (table (status_of (rows_in t)))
      (offered_outputs p os) (λ xs. pure (if b then declared_output o ∷ xs else xs)))
      ∙ next_told done b o (told_in t (offered_outputs p os))

  pub listed_more : (done more : List look.Declared) (os : List Output) (i : ℕ) (o : Output) (b : Bool)
      (all : Told Cell (List look.Declared)) → i < length os → o ≡ get_or os i o
      → truth_told t (offered p (fold o.name)) ≡ value b → more ≡ done ++ added b o
      → listed_rest done (drop i os) ≡ all → listed_rest more (drop (i + 1) os) ≡ all
  listed_more done more os i o b all h e v m before =
      let next : drop i os ≡ o ∷ drop (i + 1) os =
      drop_more os i o h ∙ ap (λ y. y ∷ drop (i + 1) os) (sym e) in
      ap (λ xs. listed_rest xs (drop (i + 1) os)) m ∙ sym (listed_next done o (drop (i + 1) os) b v)
      ∙ ap (listed_rest done) (sym next) ∙ before

  pub listed_stops : (done : List look.Declared) (os : List Output) (i : ℕ) (o : Output) (l : Lack)
      (all : Told Cell (List look.Declared)) → i < length os → o ≡ get_or os i o
      → Stops t l (truth_told t (offered p (fold o.name)))
      → listed_rest done (drop i os) ≡ all → Stops t l all
  listed_stops done os i o l all h e s before =
      let next : drop i os ≡ o ∷ drop (i + 1) os =
      drop_more os i o h ∙ ap (λ y. y ∷ drop (i + 1) os) (sym e) in
      subst (Stops t l) (ap (listed_rest done) (sym next) ∙ before)
      (stop_goes t l (told_in t (offered_outputs p (o ∷ drop (i + 1) os))) (λ ys. value (done ++ ys))
      (subst (Stops t l) (sym (first_told o (drop (i + 1) os)))
      (stop_goes t l (truth_told t (offered p (fold o.name))) (λ b. told_in t (rest_by b o (drop (i + 1) os))) s)))

  begins : (u : Told Cell (List look.Declared)) → and_then u (λ xs. value ([] ++ xs)) ≡ u
  begins (value xs) = refl
  begins no_value = refl
  begins (waits c) = refl

  pub listed_begins : (os : List Output) → listed_rest [] os ≡ told_in t (offered_outputs p os)
  listed_begins os = begins (told_in t (offered_outputs p os))

  pub listed_ends : (done : List look.Declared) (os : List Output) (i : ℕ) (all : Told Cell (List look.Declared))
      → length os ≤ i → listed_rest done (drop i os) ≡ all → all ≡ value done
  listed_ends done os i all h before =
      sym before ∙ ap (listed_rest done) (drop_all i os h)
      ∙ ap (λ v. and_then v (λ xs. value (done ++ xs))) (told_pure t []) ∙ ap value (append-nil done)

pub has_output : (os : List Output) (i : ℕ) (o : Output) → i < length os → o ≡ get_or os i o
    → Has (fold o.name) (map (λ o. fold o.name) os)
has_output [] i o h e = absurd (omega (arith, h))
has_output (y ∷ os) zero o h e = inl (ap (λ o. fold o.name) (sym e))
has_output (y ∷ os) (suc i) o h e = inr (has_output os i o (omega (arith, h)) e)

-- ---- what was found

pub seen_inside : (t : Table) (g : ℕ) → IsInside t g
    → told_in t (pure (truth_of_found (instance_at (scope_at t g).position))) ≡ value (Some (look.a_truth true))
seen_inside t g i =
    ap (λ q. told_in t (pure (truth_of_found (instance_at q)))) i.position ∙ told_pure t (Some (look.a_truth true))

pub pushed_there : {A E : Type 0} (old new x : List A) (b : Bool) (r : Result (Unit {0}) E) → b ≡ true
    → IfOk r (λ _. new ≡ old ++ x) → IfOk r (λ _. new ≡ old ++ (if b then x else []))
pushed_there old new x b r e h = subst (λ c. IfOk r (λ _. new ≡ old ++ (if c then x else []))) (sym e) h

pub pushed_not : {A : Type 0} (old x : List A) (b : Bool) → b ≡ false → old ≡ old ++ (if b then x else [])
pushed_not old x b e = sym (append-nil old) ∙ ap (λ c. old ++ (if c then x else [])) (sym e)

module _ (t : Table) (g : ℕ) (ready : IsReady t) (i : IsInside t g) where
  abbrev pub all_of : Reads (List look.Declared)
  all_of = offered_outputs (scope_at t g).position (outputs_in (Some (scope_at t g).template))

  outputs_are : outputs_at (whole_of t).template (instance_at (scope_at t g).position)
      ≡ continued all_of (λ xs. pure (Some (a_list xs)))
  outputs_are =
      ap (λ q. outputs_at (whole_of t).template (instance_at q)) i.position
      ∙ ap (λ q. continued (offered_outputs q (outputs_in (template_at (whole_of t).template q)))
      (λ xs. pure (Some (a_list xs)))) (sym i.position)
      ∙ ap (λ u. continued (offered_outputs (scope_at t g).position (outputs_in u)) (λ xs. pure (Some (a_list xs))))
      (ready.laid.kept g i.there).template

  pub outputs_shown : {X : Type 0} (view : X → List look.Declared) (r : Result X Lack) → Yields view t r (told_in t
      all_of)
      → Shows (λ x. a_list (view x)) t r
      (told_in t (outputs_at (whole_of t).template (instance_at (scope_at t g).position)))
  outputs_shown view (Ok x) h =
      ap (told_in t) outputs_are
      ∙ told-continued Cell Json (List look.Declared) (Option Fact) (table (status_of (rows_in t))) all_of
      (λ xs. pure (Some (a_list xs)))
      ∙ ap (λ v. and_then v (λ xs. told_in t (pure (Some (a_list xs))))) h
      ∙ told_pure t (Some (a_list (view x)))
  outputs_shown view (Err e) h =
      lacks_stopped t e (told_in t (outputs_at (whole_of t).template (instance_at (scope_at t g).position)))
      (subst (λ u. Stops t e (told_in t u)) (sym outputs_are)
      (read_stops t e all_of (λ xs. pure (Some (a_list xs))) h))

-- the outputs of a scope, by the frame that was read
pub outputs_here : (t : Table) (f : ℕ) (fr : Frame) (os : List Output) → f < length t.frames.items
    → fr ≡ get_or t.frames.items f fr → os ≡ (header_in (opened_of fr).template).outputs
    → os ≡ outputs_in (Some (scope_at t f).template)
outputs_here t f fr os h e q =
    q ∙ ap (λ (s : Opened). (header_in s.template).outputs) (sym (scope_is t f fr h e))

pub output_named_here : (t : Table) (f : ℕ) (os : List Output) → os ≡ outputs_in (Some (scope_at t f).template)
    → (i : ℕ) (o : Output) → i < length os → o ≡ get_or os i o
    → Has (fold o.name) (output_names (scope_at t f).template)
output_named_here t f os e i o h q =
    subst (λ xs. Has (fold o.name) (map (λ (y : Output). fold y.name) xs)) e (has_output os i o h q)

pub outputs_begin : (t : Table) (f : ℕ) (os : List Output) (ls : List Declared) → ls ≡ []
    → os ≡ outputs_in (Some (scope_at t f).template)
    → listed_rest t (scope_at t f).position (map declared_of ls) (drop 0 os)
    ≡ told_in t (offered_outputs (scope_at t f).position (outputs_in (Some (scope_at t f).template)))
outputs_begin t f os ls e q =
    ap (λ xs. listed_rest t (scope_at t f).position (map declared_of xs) os) e
    ∙ listed_begins t (scope_at t f).position os
    ∙ ap (λ xs. told_in t (offered_outputs (scope_at t f).position xs)) q
