-- What a task needs, and its fault, by the table of all that is known at the end of a deployment.
use Rattle.std.proofs.Common.{◌≡◌, ◌⊎◌, inl, inr, ℕ, Bool, true, false, List, [], ◌∷◌, Option, Some, None}
use Rattle.std.proofs.Common.{refl, sym, ap, subst, ◌∙◌, true≢false}
use Rattle.std.specs.Prelude.{◌||◌, slice_get, option_map}
use Rattle.std.specs.List.{list_any}
use Rattle.std.proofs.lemmas.Bool.{or_right, or_cases}
use Rattle.foundation.proofs.Choices.{if_false}
use Rattle.arm_value.specs.Json.{Json}
use Rattle.reading.specs.World.{reads_in, Each}
use Rattle.reading.specs.Knowledge.{Known, known, absent, missing, Told, value, no_value, waits, told, blanked}
use Rattle.reading.specs.Knowledge.{and_then}
use Rattle.reading.specs.Knowledge.{Stays, Grows, IsThere, Means, Holds, Completes, IsToldStill, known_value}
use Rattle.reading.specs.Knowledge as reading
use Rattle.reading.proofs.Completion.{told_means}
use Rattle.reading.proofs.Growth.{told_still}
use Rattle.reading.proofs.Parts.{told-continued}
use Rattle.template_parts.specs.declared.fault.BindFault.{BindFault}
use Rattle.deploy_cells.specs.Cells.{Position, Cell, parameter, variable, output, state}
use Rattle.deploy_cells.specs.Guarded.{Reads, there, there_if, not_there}
use Rattle.reading.specs.Reading.{done, pure}
use Rattle.plan_cells.specs.Children.{Has}
use Rattle.plan_cells.specs.Known as knowledge
use Rattle.plan_cells.specs.Meaning.{Deployment, plain, raw, rule, ruled, if_meets}
use Rattle.plan_cells.specs.Start.{start_world}
use Rattle.plan_cells.specs.Tasks.{Task}
use Rattle.plan_cells.specs.Reads.{is_given_by}
use Rattle.plan_filling.specs.Rows.{row_at}
use Rattle.plan_table.specs.declared.table.Table.{Table}
use Rattle.plan_table.specs.Whole.{rows_in}
use Rattle.plan_sight.specs.declared.lack.Lack.{Lack}
use Rattle.plan_sight.specs.declared.lack.Lack.TheVariants as lack
use Rattle.plan_paths.specs.CellPaths.{cell_path}
use Rattle.deploy_histories.specs.Planned.{Planned}
use Rattle.deploy_histories.specs.Events.{Progress, done_status, IsDone}
use Rattle.deploy_histories.specs.Points.{IsTableOf}
use Rattle.deploy_histories.specs.Values.{TaskValue, a_cell, task_values, reads_from, needs_by_values}
use Rattle.deploy_histories.specs.Readiness.{Fault, lacks, breaks, cell_fault, fault_of_cell, needs_first, needs_now}
use Rattle.deploy_histories.specs.Readiness.{first_fault, fault_or}
use Rattle.deploy_histories.proofs.ReadinessLemmas.{table_grows}
use Rattle.point_values.specs.Seen.{IsSeen}
use Rattle.task_standings.proofs.Agreement.{awaited_is_read}
use Rattle.scope_faults.specs.Circles.{IsAwait}
use Rattle.scope_faults.specs.Faults.{broken_by, said_of}
use Rattle.plan_standings.specs.Tells.{SaysFault}
use Rattle.plan_standings.proofs.FailLemmas.{any_there, given_done}

-- ---- tests of lists

any_read : (f : Cell → Bool) (c : Cell) (cs : List Cell) → reading.Has c cs → f c ≡ true → list_any f cs ≡ true
any_read f c [] h e = absurd h
any_read f c (d ∷ ds) (inl q) e = by (f d) (ap f q ∙ e)
  where
    by : (b : Bool) → b ≡ true → (b || list_any f ds) ≡ true
    by true g = refl
    by false g = absurd (true≢false (sym g))
any_read f c (d ∷ ds) (inr h) e = or_right (f d) (list_any f ds) (any_read f c ds h e)

any_value : (f : TaskValue → Bool) (a : TaskValue) (vs : List TaskValue) → Has a vs → f a ≡ true
    → list_any f vs ≡ true
any_value f a [] h e = absurd h
any_value f a (b ∷ bs) (inl q) e = by (f b) (ap f q ∙ e)
  where
    by : (c : Bool) → c ≡ true → (c || list_any f bs) ≡ true
    by true g = refl
    by false g = absurd (true≢false (sym g))
any_value f a (b ∷ bs) (inr h) e = or_right (f b) (list_any f bs) (any_value f a bs h e)

value_there : (f : TaskValue → Bool) (vs : List TaskValue) → list_any f vs ≡ true
    → (a : TaskValue) × (Has a vs × (f a ≡ true))
value_there f [] e = absurd (true≢false (sym e))
value_there f (a ∷ vs) e = by (or_cases (f a) (list_any f vs) e) (value_there f vs)
  where
    by : (f a ≡ true) ⊎ (list_any f vs ≡ true)
        → (list_any f vs ≡ true → (b : TaskValue) × (Has b vs × (f b ≡ true)))
        → (b : TaskValue) × (Has b (a ∷ vs) × (f b ≡ true))
    by (inl g) later = (a, (inl refl, g))
    by (inr g) later = let b = later g in (b.0, (inr b.1.0, b.1.1))

-- ---- two tables, where the one has that some cells are absent which are never known

-- the same, but for some cells that are missing in the one and absent in the other, and in the table of all that is
-- known are missing; no task gives these
pub record IsBetween (x : Planned) (s m a : knowledge.Table) : Type 0 where
  pub cells : (c : Cell) → (m c ≡ s c)
      ⊎ ((s c ≡ missing) × ((m c ≡ absent) × ((a c ≡ missing)
      × ((task : Task) → is_given_by x.deployment (start_world x.known) task c ≡ true → ⊥))))

pub between_itself : (x : Planned) (s a : knowledge.Table) → IsBetween x s s a
between_itself x s a = record { cells = λ c. inl refl }

stays_itself : (e : Known Json) → Stays e e
stays_itself (known v) = refl
stays_itself absent = refl
stays_itself missing = tt

holds_more : (e f : Known Json) → Stays e f → Holds (known_value f) e
holds_more (known v) f s = ap known_value s
holds_more absent f s = ap known_value s
holds_more missing f s = tt

module _ (x : Planned) (p : Progress) (s m a : knowledge.Table) (seen : IsSeen x p s) (all : IsTableOf x p a)
    (between : IsBetween x s m a) where
  grows_all : Grows s a
  grows_all = table_grows x p s a seen.known_then all

  grows_between : Grows s m
  grows_between c =
      elim (between.cells c) [
        | inl q ↦ subst (λ z. Stays (s c) z) (sym q) (stays_itself (s c))
        | inr q ↦ subst (λ z. Stays z (m c)) (sym q.0) tt
      ]

  completes : Completes m (blanked a)
  completes c =
      elim (between.cells c) [
        | inl q ↦ subst (Holds (blanked a c)) (sym q) (holds_more (s c) (a c) (grows_all c))
        | inr q ↦ subst (Holds (blanked a c)) (sym q.1.0) (ap known_value q.1.1.0)
      ]

  -- what is awaited in the other table is missing in the one
  pub awaited_missing : (r : Reads (Option Json)) (c : Cell) → told m r ≡ waits c → s c ≡ missing
  awaited_missing r c e =
      let gone : m c ≡ missing
      = (subst (Means m r) e (told_means Cell Json (Option Json) m r)).is_missing in
      elim (between.cells c) [
        | inl q ↦ sym q ∙ gone
        | inr q ↦ q.0
      ]

  -- what a value waits for it needs
  pub value_needs : (task other : Task) (v : TaskValue) → Has v (task_values x.deployment task) → (c : Cell)
      → told m v.reading ≡ waits c → is_given_by x.deployment (start_world x.known) other c ≡ true
      → needs_now x a task other ≡ true
  value_needs task other v is_value c e given =
      or_right (needs_first x task other) (needs_by_values x a task other)
      (any_value (reads_from x a other) v (task_values x.deployment task) is_value
      (any_read (is_given_by x.deployment (start_world x.known) other) c (reads_in (blanked a) v.reading)
      (awaited_is_read (Option Json) m (blanked a) completes v.reading c e) given))

  -- ---- what is read for a value that waits for nothing was given by tasks that are done

  final_by : (r : Reads (Option Json)) (u : Told Cell (Option Json)) → Means m r u → ((c : Cell) → u ≡ waits c → ⊥)
      → Each (λ c. IsThere (m c)) (reads_in (blanked a) r)
  final_by r (value o) f n =
      subst (λ (cs : List Cell). Each (λ c. IsThere (m c)) cs) (sym (f.everywhere (blanked a) completes).1) f.complete
  final_by r no_value f n =
      subst (λ (cs : List Cell). Each (λ c. IsThere (m c)) cs) (sym (f.everywhere (blanked a) completes).1) f.complete
  final_by r (waits c) f n = absurd (n c refl)

  given_there : (v : ℕ) (other : Task) → slice_get x.tasks v ≡ Some other → (c : Cell)
      → is_given_by x.deployment (start_world x.known) other c ≡ true → IsThere (m c) → IsDone p v
  given_there v other is c given h =
      elim (between.cells c) [
        | inl q ↦
            given_done x p s seen v other is c given (subst IsThere q h) (done_status (p.status v)) refl
        | inr q ↦ absurd (q.1.1.1 other given)
      ]

  read_done : (r : Reads (Option Json)) → ((c : Cell) → told m r ≡ waits c → ⊥) → (v : ℕ) (other : Task)
      → slice_get x.tasks v ≡ Some other
      → list_any (λ c. is_given_by x.deployment (start_world x.known) other c) (reads_in (blanked a) r) ≡ true
      → IsDone p v
  read_done r never v other is e =
      let c = any_there (λ c. is_given_by x.deployment (start_world x.known) other c) (λ c. IsThere (m c))
      (reads_in (blanked a) r) e (final_by r (told m r) (told_means Cell Json (Option Json) m r) never) in
      given_there v other is c.0 c.1.0 c.1.1

  pub none_needed : (task : Task)
      → ((v : ℕ) (other : Task) → slice_get x.tasks v ≡ Some other → needs_first x task other ≡ true → IsDone p v)
      → ((w : TaskValue) → Has w (task_values x.deployment task) → (c : Cell) → told m w.reading ≡ waits c → ⊥)
      → (v : ℕ) (other : Task) → slice_get x.tasks v ≡ Some other → needs_now x a task other ≡ true → IsDone p v
  none_needed task first never v other is e =
      elim (or_cases (needs_first x task other) (needs_by_values x a task other) e) [
        | inl b ↦ first v other is b
        | inr b ↦
            let w = value_there (reads_from x a other) (task_values x.deployment task) b in
            read_done w.0.reading (never w.0 w.1.0) v other is w.1.1
      ]

  -- ---- what is told by all that is known

  pub value_by_all : {A : Type 0} (r : Reads A) (o : A) → told s r ≡ value o → told a r ≡ value o
  value_by_all {A} r o e =
      subst (λ (z : Told Cell A). IsToldStill a r z) e (told_still Cell Json A s a grows_all r)

  pub none_by_all : {A : Type 0} (r : Reads A) → told s r ≡ no_value → told a r ≡ no_value
  none_by_all {A} r e =
      subst (λ (z : Told Cell A). IsToldStill a r z) e (told_still Cell Json A s a grows_all r)

  pub waits_by_all : {A : Type 0} (r : Reads A) (c : Cell) → told s r ≡ waits c → a c ≡ missing → told a r ≡ waits c
  waits_by_all {A} r c e h =
      subst (λ (z : Told Cell A). IsToldStill a r z) e (told_still Cell Json A s a grows_all r) h

  -- what waits by the one and not by the other waits for what is never known
  pub never_known : (r : Reads (Option Json)) (c : Cell) → told s r ≡ waits c → ((d : Cell) → told m r ≡ waits d → ⊥)
      → a c ≡ missing
  never_known r c e never =
      let gone : s c ≡ missing
      = (subst (Means s r) e (told_means Cell Json (Option Json) s r)).is_missing in
      elim (between.cells c) [
        | inl q ↦
            absurd (never c
            ((subst (λ (z : Told Cell (Option Json)). IsToldStill m r z) e
            (told_still Cell Json (Option Json) s m grows_between r)) (q ∙ gone)))
        | inr q ↦ q.1.1.0
      ]

-- ---- the fault of a cell

-- a value is told of the cell that breaks its rule, and this is how; or none is told
abbrev pub BrokenIn : Deployment → knowledge.Table → Cell → Option BindFault → Type 0
BrokenIn d s c None = (j : Json) → told s (there_if (raw d c)) ≡ value (Some j) → ⊥
BrokenIn d s c (Some b) =
    (j : Json) × ((told s (there_if (raw d c)) ≡ value (Some j)) × ((rule d c j ≡ false) × (broken_by d c j ≡ Some b)))

abbrev there_value : Json → Told Cell (Option Json)
there_value j = value (Some j)

told_there : (s : knowledge.Table) (j : Json) → told s (pure (Some j)) ≡ there_value j
unfolding told
told_there s j = refl

told_nowhere : (s : knowledge.Table) → told s not_there ≡ value None
unfolding told
told_nowhere s = refl

there_is : (s : knowledge.Table) (r : Reads Json) → told s (there r) ≡ and_then (told s r) (λ j. told s (pure (Some j)))
there_is s r = told-continued Cell Json Json (Option Json) s r (λ j. pure (Some j))

-- the fault of the cell
abbrev pub fault_by : (d : Deployment) (s : knowledge.Table) (c : Cell) (o : Option BindFault) → BrokenIn d s c o
    → Fault
fault_by d s c None b = lacks (a_cell c)
fault_by d s c (Some y) b = breaks c b.0

-- what is said of it
pub fault_says : (x : Planned) (s : knowledge.Table) (c : Cell) (task : Task) (o : Option BindFault)
    (b : BrokenIn x.deployment s c o)
    → SaysFault x task (fault_by x.deployment s c o b) (said_of (cell_path x.deployment.template c) o)
fault_says x s c task None b = refl
fault_says x s c task (Some y) b = (y, (b.1.1.1, refl))

module _ (x : Planned) (p : Progress) (s a : knowledge.Table) (seen : IsSeen x p s) (all : IsTableOf x p a) (c : Cell)
  where
    abbrev d : Deployment
    d = x.deployment

    abbrev same : IsBetween x s s a
    same = between_itself x s a

    with_value : (r : Reads Json) (j : Json) → told s r ≡ value j → told s (there r) ≡ there_value j
    with_value r j e = there_is s r ∙ ap (λ u. and_then u (λ j. told s (pure (Some j)))) e ∙ told_there s j

    same_value : (j i : Json) → there_value j ≡ there_value i → j ≡ i
    same_value j i e = cc

    fault_is : (w : Option (Reads Json)) → raw d c ≡ w
        → fault_of_cell d a c ≡ cell_fault (rule d) c (option_map (told a) w)
    fault_is w e = ap (λ z. cell_fault (rule d) c (option_map (told a) z)) e

    module _ (r : Reads Json) (is : raw d c ≡ Some r)
        (never : (e : Cell) → told s (there r) ≡ waits e → a e ≡ missing) where
      told_is : (u : Told Cell Json) → told a r ≡ u → fault_of_cell d a c ≡ cell_fault (rule d) c (Some u)
      told_is u e = fault_is (Some r) is ∙ ap (λ z. cell_fault (rule d) c (Some z)) e

      by_value : (j : Json) → told s r ≡ value j → (o : Option BindFault) (b : BrokenIn d s c o)
          → fault_of_cell d a c ≡ fault_by d s c o b
      by_value j e None b =
          absurd (b j (subst (λ z. told s (there_if z) ≡ there_value j) (sym is) (with_value r j e)))
      by_value j e (Some y) b =
          let same_j : j ≡ b.0
          = same_value j b.0 (sym (with_value r j e) ∙ ap (λ z. told s (there_if z)) (sym is) ∙ b.1.0) in
          told_is (value j) (value_by_all x p s s a seen all same r j e)
          ∙ ap (λ (i : Json). cell_fault (rule d) c (Some (value i))) same_j
          ∙ if_false (rule d c b.0) (lacks (a_cell c)) (breaks c b.0) b.1.1.0

      no_raw : (u : Told Cell (Option Json)) → told s (there r) ≡ u → ((j : Json) → u ≡ there_value j → ⊥)
          → (y : BindFault) → BrokenIn d s c (Some y) → ⊥
      no_raw u e n y b = n b.0 (sym e ∙ ap (λ z. told s (there_if z)) (sym is) ∙ b.1.0)

      by_none : told s r ≡ no_value → (o : Option BindFault) (b : BrokenIn d s c o)
          → fault_of_cell d a c ≡ fault_by d s c o b
      by_none e None b = told_is no_value (none_by_all x p s s a seen all same r e)
      by_none e (Some y) b =
          absurd (no_raw no_value (there_is s r ∙ ap (λ u. and_then u (λ j. told s (pure (Some j)))) e)
          (λ j g. let no : no_value ≡ there_value j = g in cc) y b)

      by_waits : (e : Cell) → told s r ≡ waits e → (o : Option BindFault) (b : BrokenIn d s c o)
          → fault_of_cell d a c ≡ fault_by d s c o b
      by_waits e h None b =
          told_is (waits e)
          (waits_by_all x p s s a seen all same r e h
          (never e (there_is s r ∙ ap (λ u. and_then u (λ j. told s (pure (Some j)))) h)))
      by_waits e h (Some y) b =
          absurd (no_raw (waits e) (there_is s r ∙ ap (λ u. and_then u (λ j. told s (pure (Some j)))) h)
          (λ j g. let no : waits e ≡ there_value j = g in cc) y b)

      by_told : (u : Told Cell Json) → told s r ≡ u → (o : Option BindFault) (b : BrokenIn d s c o)
          → fault_of_cell d a c ≡ fault_by d s c o b
      by_told (value j) e o b = by_value j e o b
      by_told no_value e o b = by_none e o b
      by_told (waits i) e o b = by_waits i e o b

    by_raw : (w : Option (Reads Json)) → raw d c ≡ w
        → ((e : Cell) → told s (there_if (raw d c)) ≡ waits e → a e ≡ missing) → (o : Option BindFault)
        (b : BrokenIn d s c o) → fault_of_cell d a c ≡ fault_by d s c o b
    by_raw None is never None b = fault_is None is
    by_raw None is never (Some y) b =
        absurd (let no : value None ≡ there_value b.0
        = sym (told_nowhere s) ∙ ap (λ z. told s (there_if z)) (sym is) ∙ b.1.0 in cc)
    by_raw (Some r) is never o b =
        by_told r is (λ e h. never e (ap (λ z. told s (there_if z)) is ∙ h)) (told s r) refl o b

    pub cell_fault_is : ((e : Cell) → told s (there_if (raw d c)) ≡ waits e → a e ≡ missing) → (o : Option BindFault)
        (b : BrokenIn d s c o) → fault_of_cell d a c ≡ fault_by d s c o b
    cell_fault_is never o b = by_raw (raw d c) refl never o b

-- ---- a cell whose reading waits waits

abbrev pub with_rule : Deployment → Cell → Option (Reads Json) → Reads (Option Json)
with_rule d c w = there_if (option_map (ruled d (rule d c)) w)

abbrev awaited : Cell → Told Cell (Option Json)
awaited b = waits b

module _ (d : Deployment) (s : knowledge.Table) (c : Cell) where
  ruled_waits : (r : Reads Json) (i : Cell) → told s r ≡ waits i → told s (there (ruled d (rule d c) r)) ≡ waits i
  ruled_waits r i e =
      there_is s (ruled d (rule d c) r)
      ∙ ap (λ u. and_then u (λ j. told s (pure (Some j))))
      (told-continued Cell Json Json Json s r (λ j. done (if_meets d (rule d c j) j))
      ∙ ap (λ u. and_then u (λ j. told s (done (if_meets d (rule d c j) j)))) e)

  waits_by : (r : Reads Json) (u : Told Cell Json) → told s r ≡ u → (i : Cell) → told s (there r) ≡ waits i
      → told s (there (ruled d (rule d c) r)) ≡ waits i
  waits_by r (value j) e i h =
      absurd (let no : there_value j ≡ waits i
      = sym (there_is s r ∙ ap (λ u. and_then u (λ j. told s (pure (Some j)))) e ∙ told_there s j) ∙ h in cc)
  waits_by r no_value e i h =
      absurd (let no : no_value ≡ waits i
      = sym (there_is s r ∙ ap (λ u. and_then u (λ j. told s (pure (Some j)))) e) ∙ h in cc)
  waits_by r (waits k) e i h =
      let same_cell : awaited k ≡ awaited i
      = sym (there_is s r ∙ ap (λ u. and_then u (λ j. told s (pure (Some j)))) e) ∙ h in
      ruled_waits r i (e ∙ ap waits (let g : k ≡ i = cc in g))

  by_reading : (w : Option (Reads Json)) (i : Cell) → told s (there_if w) ≡ waits i → told s (with_rule d c w) ≡ waits i
  by_reading None i h = absurd (let no : value None ≡ waits i = sym (told_nowhere s) ∙ h in cc)
  by_reading (Some r) i h = waits_by r (told s r) refl i h

  pub plain_waits : plain d c ≡ with_rule d c (raw d c) → (i : Cell) → told s (there_if (raw d c)) ≡ waits i
      → told s (plain d c) ≡ waits i
  plain_waits e i h = ap (told s) e ∙ by_reading (raw d c) i h

pub plain_parameter : (d : Deployment) (q : Position) (y : List ℕ)
    → plain d (parameter q y) ≡ with_rule d (parameter q y) (raw d (parameter q y))
unfolding plain
plain_parameter d q y = refl

pub plain_variable : (d : Deployment) (q : Position) (y : List ℕ)
    → plain d (variable q y) ≡ with_rule d (variable q y) (raw d (variable q y))
unfolding plain
plain_variable d q y = refl

pub plain_output : (d : Deployment) (q : Position) (y : List ℕ)
    → plain d (output q y) ≡ with_rule d (output q y) (raw d (output q y))
unfolding plain
plain_output d q y = refl

-- ---- the first value that is not known

pub none_first : (d : Deployment) (s : knowledge.Table) (vs : List TaskValue)
    → ((w : TaskValue) → Has w vs → (o : Option Json) × (told s w.reading ≡ value o)) → first_fault d s vs ≡ None
none_first d s [] h = refl
none_first d s (w ∷ ws) h =
    let v = h w (inl refl) in
    ap (λ z. fault_or d s w.part z (first_fault d s ws)) v.1 ∙ none_first d s ws (λ b i. h b (inr i))

-- what a lack waits for
pub await_cell : (t : Table) (z : Lack) (u : Told Cell (Option Json)) → IsAwait {A = Option Json} t z u
    → (e : Cell) × ((u ≡ waits e) × IsAwait {A = Json} t z (waits e))
await_cell t (lack.Line j) u h = ((row_at (rows_in t) j).cell, (h.1, (h.0, refl)))
await_cell t (lack.State k) u h = (state k, (h, refl))
await_cell t lack.NotThere u h = absurd h
await_cell t lack.NoValue u h = absurd h
await_cell t lack.OutOfMemory u h = absurd h
