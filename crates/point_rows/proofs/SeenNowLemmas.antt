-- What an expression sees at a point of parameters, variables and outputs.
use Rattle.std.proofs.Common.{◌≡◌, ℕ, ◌+◌, ◌<◌, ◌≤◌, Bool, true, false, List, [], ◌∷◌, ◌++◌, map, drop, length}
use Rattle.std.proofs.Common.{get_or, Option, Some, None, Result, Ok, Err, refl, sym, ap, subst, ◌∙◌, append-nil}
use Rattle.std.proofs.Common.{append_assoc, arith}
use Rattle.std.specs.Prelude.{is_some, if◌then◌else◌}
use Rattle.std.proofs.lemmas.List.{drop_more, drop_all}
use Rattle.arm_value.specs.Json.{Json}
use Rattle.arm_value.specs.Kinds.{is_true}
use Rattle.arm_value.specs.Look.{fold}
use Rattle.arm_ids.specs.declared.id.Place.{Place}
use Rattle.arm_ids.specs.declared.id.ResourceId.{ResourceId}
use Rattle.arm_env.specs.Look as look
use Rattle.arm_env.specs.Look.{Fact, a_list}
use Rattle.arm_env.specs.Sight.{declared_of}
use Rattle.arm_env.specs.declared.entries.Declared.{Declared}
use Rattle.reading.specs.Reading.{ask, pure, continued}
use Rattle.reading.specs.Knowledge.{Known, known, absent, missing, Told, value, no_value, waits, told, by_entry}
use Rattle.reading.specs.Knowledge.{and_then}
use Rattle.template_parts.specs.declared.output.Output.{Output}
use Rattle.template_tree.specs.Tree.{TemplateTree}
use Rattle.deploy_cells.specs.Cells.{Position, Cell, parameter, variable, offered, output}
use Rattle.deploy_cells.specs.Guarded.{Reads}
use Rattle.plan_cells.specs.Resources.{header_in}
use Rattle.plan_cells.specs.Scopes.{template_at, owner, visible}
use Rattle.plan_cells.specs.Sites as sites
use Rattle.plan_cells.specs.Sites.{Site, value_of, declared_value, declares, looked_up, parameter_named, variable_named}
use Rattle.plan_cells.specs.Sites.{output_named, output_at, outputs_at, offered_outputs, outputs_in, declared_output}
use Rattle.plan_cells.specs.Sites.{seek}
use Rattle.plan_cells.specs.Meaning.{Deployment, is_own}
use Rattle.plan_cells.specs.Children.{Has, output_names}
use Rattle.plan_cells.proofs.ListLemmas.{not_named}
use Rattle.plan_filling.specs.Rows.{status_of, table}
use Rattle.plan_table.specs.declared.table.Table.{Table}
use Rattle.plan_table.specs.declared.frame.Frame.{Frame}
use Rattle.plan_table.specs.Opened.{IsKept}
use Rattle.plan_table.specs.Whole.{whole_of, scopes_of, rows_in}
use Rattle.plan_table.specs.Found.{scope_at, HasCell, IsLineOf}
use Rattle.plan_sight.specs.declared.lack.Lack.{Lack}
use Rattle.plan_sight.specs.declared.lack.Lack.TheVariants as lack
use Rattle.plan_sight.specs.Ready.{IsReady, told_in}
use Rattle.plan_sight.specs.Seen.{Lacks, Shows, Stops, Yields}
use Rattle.plan_sight.proofs.LookLemmas.{cell_at, named, own_owner, owner_is_of, scopes_there}
use Rattle.plan_listing.specs.Hits.{is_at}
use Rattle.plan_nested.specs.declared.seeking.Sighting.{Sighting}
use Rattle.plan_nested.specs.Sighted.{IsInside, instance_at, found_of}
use Rattle.plan_nested.proofs.OutputLemmas.{lacks_stopped}
use Rattle.point_rows.specs.declared.later.Later.{Later}
use Rattle.point_rows.specs.Rows.{told_now, known_now}
use Rattle.point_rows.proofs.FixedLemmas.{told_fixed, seek_fixed}
use Rattle.point_rows.proofs.ToldNowLemmas.{told_pure, goes, fixed_known}

-- ---- parameters and variables

module _ (t : Table) (l : Later) (f : ℕ) (x : List ℕ) (fr : Frame) (ready : IsReady t) (h : f < length t.frames.items)
    (read : fr ≡ get_or t.frames.items f fr) where
  abbrev d : Deployment
  d = whole_of t

  abbrev o : ℕ
  o = (scope_at t f).owner

  same : fr.owner ≡ o
  same = owner_is_of t f fr h read

  kept_here : IsKept d (scopes_of t) f (scope_at t f)
  kept_here = ready.laid.kept f (scopes_there t f h)

  kept_owner : IsKept d (scopes_of t) o (scope_at t o)
  kept_owner =
      ready.laid.kept o (let i = scopes_there t f h in let k = kept_here.owner_listed in omega (arith, k, i))

  module _ (e : Site) (here : e.at ≡ (scope_at t f).position) where
    owner_is : owner d.template e.at ≡ (scope_at t o).position
    owner_is = ap (owner d.template) here ∙ sym kept_here.owner

    owner_own : (scope_at t o).is_own ≡ true
    owner_own = kept_owner.own ∙ ap (is_own d) (sym owner_is) ∙ own_owner d e.at

    declared_by : {A : Type 0} (g : TemplateTree → Option A) (b : Bool) → is_some (g (scope_at t o).template) ≡ b
        → (c : Position → Cell)
        → declared_value (declares g (template_at d.template (owner d.template e.at))) (c (owner d.template e.at))
        ≡ declared_value b (c (scope_at t o).position)
    declared_by g b q c =
        ap (λ p. declared_value (declares g (template_at d.template p)) (c p)) owner_is
        ∙ ap (λ u. declared_value (declares g u) (c (scope_at t o).position)) kept_owner.template
        ∙ ap (λ y. declared_value y (c (scope_at t o).position)) q

    parameter_seen : (place : Place) (j : ℕ) → IsLineOf t o (parameter (scope_at t o).position x) j
        → looked_up d.template place e (look.parameter x) ≡ value_of (cell_at t j)
    parameter_seen place j i =
        declared_by (parameter_named x) true
        (named (λ p. p.name) x (header_in (scope_at t o).template).parameters i.has.1)
        (λ p. parameter p x) ∙ ap value_of (sym i.is)

    parameter_unseen : (place : Place) → (HasCell (scope_at t o) (parameter (scope_at t o).position x) → ⊥)
        → looked_up d.template place e (look.parameter x) ≡ pure None
    parameter_unseen place n =
        declared_by (parameter_named x) false
        (ap is_some (not_named (λ p. p.name) x (header_in (scope_at t o).template).parameters
        (λ y. n (owner_own, y)))) (λ p. parameter p x)

    variable_seen : (place : Place) (j : ℕ) → IsLineOf t o (variable (scope_at t o).position x) j
        → looked_up d.template place e (look.variable x) ≡ value_of (cell_at t j)
    variable_seen place j i =
        declared_by (variable_named x) true
        (named (λ p. p.name) x (header_in (scope_at t o).template).variables i.has.1)
        (λ p. variable p x) ∙ ap value_of (sym i.is)

    variable_unseen : (place : Place) → (HasCell (scope_at t o) (variable (scope_at t o).position x) → ⊥)
        → looked_up d.template place e (look.variable x) ≡ pure None
    variable_unseen place n =
        declared_by (variable_named x) false
        (ap is_some (not_named (λ p. p.name) x (header_in (scope_at t o).template).variables
        (λ y. n (owner_own, y)))) (λ p. variable p x)

  pub parameter_shown : {X : Type 0} (view : X → Fact) (r : Result X Lack) (at : ℕ)
      → IsLineOf t fr.owner (parameter (scope_at t fr.owner).position x) at
      → Shows view t r (told_now t l (value_of (cell_at t at)))
      → (place : Place) (e : Site) → e.at ≡ (scope_at t f).position
      → Shows view t r (told_now t l (looked_up (whole_of t).template place e (look.parameter x)))
  parameter_shown view r at i s place e here =
      subst (λ u. Shows view t r (told_now t l u))
      (sym (parameter_seen e here place at
      (subst (λ o. IsLineOf t o (parameter (scope_at t o).position x) at) same i))) s

  pub parameter_hidden : (HasCell (scope_at t fr.owner) (parameter (scope_at t fr.owner).position x) → ⊥)
      → (place : Place) (e : Site) → e.at ≡ (scope_at t f).position
      → told_now t l (looked_up (whole_of t).template place e (look.parameter x)) ≡ value None
  parameter_hidden n place e here =
      ap (told_now t l) (parameter_unseen e here place
      (subst (λ o. HasCell (scope_at t o) (parameter (scope_at t o).position x) → ⊥) same n)) ∙ told_pure t l None

  pub variable_shown : {X : Type 0} (view : X → Fact) (r : Result X Lack) (at : ℕ)
      → IsLineOf t fr.owner (variable (scope_at t fr.owner).position x) at
      → Shows view t r (told_now t l (value_of (cell_at t at)))
      → (place : Place) (e : Site) → e.at ≡ (scope_at t f).position
      → Shows view t r (told_now t l (looked_up (whole_of t).template place e (look.variable x)))
  variable_shown view r at i s place e here =
      subst (λ u. Shows view t r (told_now t l u))
      (sym (variable_seen e here place at
      (subst (λ o. IsLineOf t o (variable (scope_at t o).position x) at) same i))) s

  pub variable_hidden : (HasCell (scope_at t fr.owner) (variable (scope_at t fr.owner).position x) → ⊥)
      → (place : Place) (e : Site) → e.at ≡ (scope_at t f).position
      → told_now t l (looked_up (whole_of t).template place e (look.variable x)) ≡ value None
  variable_hidden n place e here =
      ap (told_now t l) (variable_unseen e here place
      (subst (λ o. HasCell (scope_at t o) (variable (scope_at t o).position x) → ⊥) same n)) ∙ told_pure t l None

-- ---- what was sought

-- what stops a reading stops what goes on from it
pub stop_goes : {A B : Type 0} (t : Table) (e : Lack) (u : Told Cell A) (f : A → Told Cell B) → Stops t e u
    → Stops t e (and_then u f)
stop_goes t e u f h = stops_on e h
  where
    stops_on : (e : Lack) → Stops t e u → Stops t e (and_then u f)
    stops_on lack.NotThere h = absurd h
    stops_on lack.NoValue h = ap (λ v. and_then v f) h
    stops_on (lack.Line j) h = (h.0, ap (λ v. and_then v f) h.1)
    stops_on (lack.State k) h = ap (λ v. and_then v f) h
    stops_on lack.OutOfMemory h = tt

module _ (t : Table) (l : Later) (place : Place) (k : ResourceId) (f : ℕ) (e : Site)
    (at : e.at ≡ (scope_at t f).position) where
  abbrev whole : TemplateTree
  whole = (whole_of t).template

  abbrev search : Position → Reads sites.Found
  search p = seek whole (is_at k place) (visible whole p)

  search_now : (p : Position) → told_in t (search p) ≡ told_now t l (search p)
  search_now p =
      told_fixed (table (status_of (rows_in t))) (known_now t l) (λ c i. fixed_known t l c i) (search p)
      (seek_fixed whole (is_at k place) (visible whole p))

  -- what goes on with what was found
  pub found_goes : {A : Type 0} (r : sites.Found → Reads A) (s : Sighting)
      → told_in t (search (scope_at t f).position) ≡ value (found_of t s)
      → told_now t l (continued (search e.at) r) ≡ told_now t l (r (found_of t s))
  found_goes r s h =
      ap (λ p. told_now t l (continued (search p) r)) at
      ∙ goes t l (search (scope_at t f).position) r
      ∙ ap (λ v. and_then v (λ y. told_now t l (r y))) (sym (search_now (scope_at t f).position) ∙ h)

  pub found_stops : {A : Type 0} (r : sites.Found → Reads (Option A)) (e1 : Lack)
      → Stops t e1 (told_in t (search (scope_at t f).position))
      → Lacks t e1 (told_now t l (continued (search e.at) r))
  found_stops r e1 h =
      lacks_stopped t e1 (told_now t l (continued (search e.at) r))
      (subst (λ p. Stops t e1 (told_now t l (continued (search p) r))) (sym at)
      (subst (Stops t e1) (sym (goes t l (search (scope_at t f).position) r))
      (stop_goes t e1 (told_now t l (search (scope_at t f).position)) (λ y. told_now t l (r y))
      (subst (Stops t e1) (search_now (scope_at t f).position) h))))

-- ---- the output of a scope inside

pub nothing_told : {A : Type 0} (t : Table) (l : Later) → told_now t l (pure {A = Option A} None) ≡ value None
nothing_told t l = told_pure t l None

module _ (t : Table) (l : Later) (g : ℕ) (x : List ℕ) (ready : IsReady t) (inside : IsInside t g) where
  abbrev d1 : TemplateTree
  d1 = (whole_of t).template

  abbrev p : Position
  p = (scope_at t g).position

  abbrev u : TemplateTree
  u = (scope_at t g).template

  template_is : template_at d1 p ≡ Some u
  template_is = (ready.laid.kept g inside.there).template

  -- the reading of the output, by whether the scope declares it
  abbrev reading_by : Bool → Reads (Option Fact)
  reading_by b =
      if b then ask (offered p x) (λ v. declared_value (is_true v) (output p x)) else pure None

  output_is : (b : Bool) → is_some (output_named x u) ≡ b → output_at d1 x (instance_at p) ≡ reading_by b
  output_is b e =
      inside_is p inside.position
      ∙ ap (λ o. if declares (output_named x) o
      then ask (offered p x) (λ v. declared_value (is_true v) (output p x)) else pure None) template_is
      ∙ ap reading_by e
    where
      inside_is : (pos : Position) → pos ≡ inside.step ∷ inside.around
          → output_at d1 x (instance_at pos)
          ≡ (if declares (output_named x) (template_at d1 pos)
          then ask (offered pos x) (λ v. declared_value (is_true v) (output pos x)) else pure None)
      inside_is pos e = rw e refl

  pub undeclared_told : (Has x (output_names u) → ⊥) → told_now t l (output_at d1 x (instance_at p)) ≡ value None
  undeclared_told h =
      ap (told_now t l) (output_is false (ap is_some (not_named (λ o. o.name) x (header_in u).outputs h)))
      ∙ nothing_told t l

  pub declared_is : Has x (output_names u)
      → output_at d1 x (instance_at p) ≡ ask (offered p x) (λ v. declared_value (is_true v) (output p x))
  declared_is h = output_is true (named (λ o. o.name) x (header_in u).outputs h)

-- ---- all outputs

module _ (t : Table) (l : Later) where
  abbrev pub truth_told : Cell → Told Cell Bool
  truth_told c = told_now t l (ask c (λ v. pure (is_true v)))

  split_entry : {A : Type 0} (c : Cell) (k : Bool → Reads A) (e : Known Json)
      → by_entry c (λ v. told_now t l (k (is_true v))) e
      ≡ and_then (by_entry c (λ v. told_now t l (pure (is_true v))) e) (λ b. told_now t l (k b))
  split_entry c k (known v) = ap (λ z. and_then z (λ b. told_now t l (k b))) (sym (told_pure t l (is_true (Some v))))
  split_entry c k absent = ap (λ z. and_then z (λ b. told_now t l (k b))) (sym (told_pure t l (is_true None)))
  split_entry c k missing = refl

  split_truth : {A : Type 0} (c : Cell) (k : Bool → Reads A)
      → told_now t l (ask c (λ v. k (is_true v))) ≡ and_then (truth_told c) (λ b. told_now t l (k b))
  unfolding told
  split_truth c k = split_entry c k (known_now t l c)

  module _ (p : Position) where
    -- the outputs that are listed, and those that are left to list
    abbrev pub listed_rest : List look.Declared → List Output → Told Cell (List look.Declared)
    listed_rest done os = and_then (told_now t l (offered_outputs p os)) (λ xs. value (done ++ xs))

    abbrev pub added : Bool → Output → List look.Declared
    added b o = if b then declared_output o ∷ [] else []

    kept_after : (done : List look.Declared) (b : Bool) (o : Output) (xs : List look.Declared)
        → done ++ (if b then declared_output o ∷ xs else xs) ≡ (done ++ added b o) ++ xs
    kept_after done true o xs = sym (append_assoc done (declared_output o ∷ []) xs)
    kept_after done false o xs = ap (λ ys. ys ++ xs) (sym (append-nil done))

    next_told : (done : List look.Declared) (b : Bool) (o : Output) (u : Told Cell (List look.Declared))
        → and_then (and_then u (λ xs. told_now t l (pure (if b then declared_output o ∷ xs else xs))))
        (λ ys. value (done ++ ys))
        ≡ and_then u (λ xs. value ((done ++ added b o) ++ xs))
    next_told done b o (value xs) =
        ap (λ v. and_then v (λ ys. value (done ++ ys))) (told_pure t l (if b then declared_output o ∷ xs else xs))
        ∙ ap value (kept_after done b o xs)
    next_told done b o no_value = refl
    next_told done b o (waits c) = refl

    abbrev rest_by : Bool → Output → List Output → Reads (List look.Declared)
    rest_by b o os = continued (offered_outputs p os) (λ xs. pure (if b then declared_output o ∷ xs else xs))

    first_told : (o : Output) (os : List Output)
        → told_now t l (offered_outputs p (o ∷ os))
        ≡ and_then (truth_told (offered p (fold o.name))) (λ b. told_now t l (rest_by b o os))
    first_told o os = split_truth (offered p (fold o.name)) (λ b. rest_by b o os)

    listed_next : (done : List look.Declared) (o : Output) (os : List Output) (b : Bool)
        → truth_told (offered p (fold o.name)) ≡ value b
        → listed_rest done (o ∷ os) ≡ listed_rest (done ++ added b o) os
    listed_next done o os b h =
        ap (λ v. and_then v (λ ys. value (done ++ ys)))
        (first_told o os ∙ ap (λ v. and_then v (λ b. told_now t l (rest_by b o os))) h
        ∙ goes t l (offered_outputs p os) (λ xs. pure (if b then declared_output o ∷ xs else xs)))
        ∙ next_told done b o (told_now t l (offered_outputs p os))

    pub listed_more : (done more : List look.Declared) (os : List Output) (i : ℕ) (o : Output) (b : Bool)
        (all : Told Cell (List look.Declared)) → i < length os → o ≡ get_or os i o
        → truth_told (offered p (fold o.name)) ≡ value b → more ≡ done ++ added b o
        → listed_rest done (drop i os) ≡ all → listed_rest more (drop (i + 1) os) ≡ all
    listed_more done more os i o b all h e v m before =
        let next : drop i os ≡ o ∷ drop (i + 1) os =
        drop_more os i o h ∙ ap (λ y. y ∷ drop (i + 1) os) (sym e) in
        ap (λ xs. listed_rest xs (drop (i + 1) os)) m ∙ sym (listed_next done o (drop (i + 1) os) b v)
        ∙ ap (listed_rest done) (sym next) ∙ before

    pub listed_stops : (done : List look.Declared) (os : List Output) (i : ℕ) (o : Output) (e1 : Lack)
        (all : Told Cell (List look.Declared)) → i < length os → o ≡ get_or os i o
        → Stops t e1 (truth_told (offered p (fold o.name)))
        → listed_rest done (drop i os) ≡ all → Stops t e1 all
    listed_stops done os i o e1 all h e s before =
        let next : drop i os ≡ o ∷ drop (i + 1) os =
        drop_more os i o h ∙ ap (λ y. y ∷ drop (i + 1) os) (sym e) in
        subst (Stops t e1) (ap (listed_rest done) (sym next) ∙ before)
        (stop_goes t e1 (told_now t l (offered_outputs p (o ∷ drop (i + 1) os))) (λ ys. value (done ++ ys))
        (subst (Stops t e1) (sym (first_told o (drop (i + 1) os)))
        (stop_goes t e1 (truth_told (offered p (fold o.name))) (λ b. told_now t l (rest_by b o (drop (i + 1) os))) s)))

    begins : (u : Told Cell (List look.Declared)) → and_then u (λ xs. value ([] ++ xs)) ≡ u
    begins (value xs) = refl
    begins no_value = refl
    begins (waits c) = refl

    listed_begins : (os : List Output) → listed_rest [] os ≡ told_now t l (offered_outputs p os)
    listed_begins os = begins (told_now t l (offered_outputs p os))

    pub listed_ends : (done : List look.Declared) (os : List Output) (i : ℕ) (all : Told Cell (List look.Declared))
        → length os ≤ i → listed_rest done (drop i os) ≡ all → all ≡ value done
    listed_ends done os i all h before =
        sym before ∙ ap (listed_rest done) (drop_all i os h)
        ∙ ap (λ v. and_then v (λ xs. value (done ++ xs))) (told_pure t l []) ∙ ap value (append-nil done)

  pub outputs_begin : (f : ℕ) (os : List Output) (ls : List Declared) → ls ≡ []
      → os ≡ outputs_in (Some (scope_at t f).template)
      → listed_rest (scope_at t f).position (map declared_of ls) (drop 0 os)
      ≡ told_now t l (offered_outputs (scope_at t f).position (outputs_in (Some (scope_at t f).template)))
  outputs_begin f os ls e q =
      ap (λ xs. listed_rest (scope_at t f).position (map declared_of xs) os) e
      ∙ listed_begins (scope_at t f).position os
      ∙ ap (λ xs. told_now t l (offered_outputs (scope_at t f).position xs)) q

module _ (t : Table) (l : Later) (g : ℕ) (ready : IsReady t) (i : IsInside t g) where
  abbrev pub all_of : Reads (List look.Declared)
  all_of = offered_outputs (scope_at t g).position (outputs_in (Some (scope_at t g).template))

  outputs_are : outputs_at (whole_of t).template (instance_at (scope_at t g).position)
      ≡ continued all_of (λ xs. pure (Some (a_list xs)))
  outputs_are =
      ap (λ q. outputs_at (whole_of t).template (instance_at q)) i.position
      ∙ ap (λ q. continued (offered_outputs q (outputs_in (template_at (whole_of t).template q)))
      (λ xs. pure (Some (a_list xs)))) (sym i.position)
      ∙ ap (λ u. continued (offered_outputs (scope_at t g).position (outputs_in u)) (λ xs. pure (Some (a_list xs))))
      (ready.laid.kept g i.there).template

  pub outputs_shown : {X : Type 0} (view : X → List look.Declared) (r : Result X Lack)
      → Yields view t r (told_now t l all_of)
      → Shows (λ x. a_list (view x)) t r
      (told_now t l (outputs_at (whole_of t).template (instance_at (scope_at t g).position)))
  outputs_shown view (Ok x) h =
      ap (told_now t l) outputs_are
      ∙ goes t l all_of (λ xs. pure (Some (a_list xs)))
      ∙ ap (λ v. and_then v (λ xs. told_now t l (pure (Some (a_list xs))))) h
      ∙ told_pure t l (Some (a_list (view x)))
  outputs_shown view (Err e) h =
      lacks_stopped t e (told_now t l (outputs_at (whole_of t).template (instance_at (scope_at t g).position)))
      (subst (λ u. Stops t e (told_now t l u)) (sym outputs_are)
      (subst (Stops t e) (sym (goes t l all_of (λ xs. pure (Some (a_list xs)))))
      (stop_goes t e (told_now t l all_of) (λ xs. told_now t l (pure (Some (a_list xs)))) h)))
