-- Each cell has a value, or is known not to be there, once every task is done.
use Rattle.std.proofs.Common.{◌≡◌, ℕ, Bool, true, false, true≢false, List, [], ◌∷◌, map}
use Rattle.std.proofs.Common.{Option, Some, None, refl, sym, ap, subst, ◌∙◌, arith}
use Rattle.std.specs.Prelude.{option_map, option_and_then, if◌then◌else◌}
use Rattle.std.specs.List.{list_any}
use Rattle.std.proofs.lemmas.Option.{same_Some}
use Rattle.std.proofs.lemmas.Bool.{or_right}
use Rattle.arm_value.specs.Json.{Json}
use Rattle.arm_value.specs.Kinds.{is_true}
use Rattle.arm_ids.specs.declared.id.ResourceId.{ResourceId}
use Rattle.reading.specs.World.{value_in}
use Rattle.reading.specs.Knowledge.{Known, known, known_value, absent, missing, Told, value, told, by_entry, Holds}
use Rattle.reading.specs.Knowledge.{Completes, Stays, Grows}
use Rattle.reading.specs.Knowledge.{IsToldStill}
use Rattle.reading.proofs.Growth.{told_still}
use Rattle.template_parts.specs.declared.output.Output.{Output}
use Rattle.template_parts.specs.declared.parameter.Parameter.{Parameter}
use Rattle.template_parts.specs.declared.variable.Variable.{Variable}
use Rattle.template_tree.specs.Tree.{TemplateTree}
use Rattle.deploy_cells.specs.Cells.{Step, Position, Cell, parameter, variable, offered, output, count, included}
use Rattle.deploy_cells.specs.Cells.{name}
use Rattle.deploy_cells.specs.Cells.{deployments, state, World, opener, parent, admits}
use Rattle.deploy_cells.specs.Guarded.{Reads, there_if, told_where, told_by}
use Rattle.deploy_cells.specs.Same.{same, same_id}
use Rattle.deploy_cells.proofs.CellLemmas.{guarded_told, guarded_value}
use Rattle.deploy_cells.proofs.SameLemmas.{cell_is, cell_same, id_same, position_same}
use Rattle.plan_cells.specs.Scopes.{template_at}
use Rattle.plan_cells.specs.Sites.{parameter_named, variable_named, output_named}
use Rattle.plan_cells.specs.Meaning.{Deployment, meaning, plain, raw, rule, ruled, is_own, of_scope, parameter_value}
use Rattle.plan_cells.specs.Meaning.{variable_value, offered_value}
use Rattle.plan_cells.specs.Desired.{kinds, held_state}
use Rattle.plan_cells.specs.Children.{Has, parameter_names, variable_names, output_names, own_cells}
use Rattle.plan_cells.specs.Known.{outright, by_others, Table, entry_of, entry_told, IsKnown, is_outright, is_told}
use Rattle.plan_cells.specs.Start as start
use Rattle.plan_cells.specs.Start.{start_world, where_stored, is_there, if_seen, IsSo, at_point}
use Rattle.plan_cells.specs.Tasks.{Task, enter, leave, put, key_by, deletes_in}
use Rattle.plan_cells.specs.Reads.{of_template, entry_cells, key_in, is_state_at}
use Rattle.plan_cells.proofs.KnownLemmas.{told_so, same_entry}
use Rattle.plan_cells.proofs.ListLemmas.{has_left, has_right, has_map}
use Rattle.deploy_histories.specs.Planned.{Planned, IsPlanned, IsAnswered, is_asked_first, is_leave_of, puts_at}
use Rattle.deploy_histories.specs.Planned.{putter}
use Rattle.deploy_histories.specs.Planned.{leaver, basis}
use Rattle.deploy_histories.specs.Events.{Progress, is_done}
use Rattle.deploy_histories.specs.Points.{point, is_done_at}
use Rattle.deploy_histories.specs.Values.{where_offered, entry_value, leave_value, outputs_of}
use Rattle.deploy_histories.specs.Legal.{AllDone}
use Rattle.deploy_histories.specs.Outcome.{MayAnswer}
use Rattle.deploy_histories.proofs.ReadinessLemmas.{first_is, none_is}
use Rattle.history_laws.specs.Past.{WasReady, IsLeft, IsKept}
use Rattle.history_laws.proofs.Steps.{done_of}
use Rattle.history_laws.proofs.Puts.{key_has_put, any_has}
use Rattle.history_laws.proofs.Included.{first_entry}
use Rattle.history_laws.proofs.Way.{put_with, still_stored}
use Rattle.history_laws.proofs.OneWorld.{named_parameter, named_variable, named_output, told_demanded, ToldOutput}
use Rattle.history_laws.proofs.OneWorld.{told_output}
use Rattle.history_laws.proofs.OneWorld.{has_number}
use Rattle.history_replays.proofs.Later.{known_later}
use Rattle.history_worlds.proofs.Consistent.{one_known}
use Rattle.history_starts.proofs.Listed.{entered_listed, left_listed}
use Rattle.deploy_histories.proofs.StartLemmas.{seen_now}
use Rattle.history_starts.proofs.Start.{value_entry, sound_start, the_list, entry_told_of, opened, there}

-- ---- tables joined of two

-- the first entry, or else the second
abbrev pick : Known Json → Known Json → Known Json
pick (known v) b = known v
pick absent b = absent
pick missing b = b

picked : (K : Option Json → Type 0) (a b : Known Json) → ((o : Option Json) → a ≡ entry_of o → K o)
    → ((o : Option Json) → b ≡ entry_of o → K o) → (o : Option Json) → pick a b ≡ entry_of o → K o
picked K (known v) b f g o e = f o e
picked K absent b f g o e = f o e
picked K missing b f g o e = g o e

stays_picked : (a b : Known Json) → ((o u : Option Json) → a ≡ entry_of o → b ≡ entry_of u → o ≡ u)
    → Stays b (pick a b)
stays_picked a missing h = tt
stays_picked (known v) (known w) h = ap entry_of (h (Some v) (Some w) refl refl)
stays_picked absent (known w) h = ap entry_of (h None (Some w) refl refl)
stays_picked missing (known w) h = refl
stays_picked (known v) absent h = ap entry_of (h (Some v) None refl refl)
stays_picked absent absent h = refl
stays_picked missing absent h = refl

pick_entry : (o : Option Json) (b : Known Json) → pick (entry_of o) b ≡ entry_of o
pick_entry (Some v) b = refl
pick_entry None b = refl

-- the table of one entry
abbrev one_entry : Cell → Option Json → Table
one_entry c o e = if same c e then entry_of o else missing

no_entry : (o : Option Json) → missing ≡ entry_of o → ⊥
no_entry (Some v) e = cc
no_entry None e = cc

by_same : (K : Cell → Option Json → Type 0) (c e : Cell) (o u : Option Json) (b : Bool) → same c e ≡ b → K c o
    → (if b then entry_of o else missing) ≡ entry_of u → K e u
by_same K c e o u true s h g =
    subst (λ (z : Cell). K z u) (cell_is c e s) (subst (λ (z : Option Json). K c z) (same_entry o u g) h)
by_same K c e o u false s h g = absurd (no_entry u g)

holds_by : (a : Option Json) (k : Known Json) → ((u : Option Json) → k ≡ entry_of u → a ≡ u) → Holds a k
holds_by a (known v) h = h (Some v) refl
holds_by a absent h = h None refl
holds_by a missing h = tt

entry_goes : (e : Cell) (k : Option Json → Told Cell (Option Json)) (o : Option Json)
    → by_entry e k (entry_of o) ≡ k o
entry_goes e k (Some v) = refl
entry_goes e k None = refl

module _ (may : MayAnswer) (x : Planned) (planned : IsPlanned x) (p : Progress) (kept : IsKept may x p.status)
    (all : AllDone x p) (lists : (q : Position) → IsAnswered x (deployments q)) where
  abbrev d : Deployment
  d = x.deployment

  abbrev w : World
  w = start_world x.known

  abbrev Knows : Cell → Option Json → Type 0
  Knows c o = IsKnown (meaning d) (at_point (basis x) (point x p.status)) c o

  abbrev Sound : Table → Type 0
  Sound t = (c : Cell) (o : Option Json) → t c ≡ entry_of o → Knows c o

  -- the cell is known to have this, and its reading has it in each world in which all that is known is so
  pub record HasValue (c : Cell) (o : Option Json) : Type 0 where
    pub is_known : Knows c o
    pub so : (u : World) → ((e : Cell) (r : Option Json) → Knows e r → u e ≡ r) → value_in u (meaning d c) ≡ Some o

  abbrev pub Valued : Cell → Type 0
  Valued c = (o : Option Json) × HasValue c o

  completed : (t : Table) → Sound t → (u : World) → ((e : Cell) (r : Option Json) → Knows e r → u e ≡ r)
      → Completes t u
  completed t s u h e = holds_by (u e) (t e) (λ r i. h e r (s e r i))

  so_value : (u : World) (r : Reads (Option Json)) (z : Told Cell (Option Json)) (o : Option Json) → IsSo u r z
      → z ≡ value o → value_in u r ≡ Some o
  so_value u r z o s e = subst (λ (y : Told Cell (Option Json)). IsSo u r y) e s

  by_table : (c : Cell) → at_point (basis x) (point x p.status) c ≡ by_others → (t : Table) → Sound t
      → (o : Option Json) → told t (meaning d c) ≡ value o → HasValue c o
  by_table c n t s o e = record {
    is_known = is_told c o t n (λ f u i. s f u i) (ap entry_told e);
    so = λ u h.
        so_value u (meaning d c) (told t (meaning d c)) o
        (told_so (Option Json) u t (completed t s u h) (meaning d c)) e;
  }

  -- ---- by what is known at the start

  start_sound : Sound x.known
  start_sound c o e = sound_start x planned p.status c o e

  of_start : (c : Cell) (o : Option Json) → start.start c ≡ by_others → told x.known (meaning d c) ≡ value o
      → HasValue c o
  of_start c o b e =
      by_table c (seen_now x planned p.status c o b (entry_told_of x planned c o b e)) x.known start_sound o e

  answered : (c : Cell) → start.start c ≡ by_others → IsAnswered x c → Valued c
  answered c b a = (a.answer, of_start c a.answer b a.is_told)

  -- ---- by its parent

  abbrev joined : Table → Table → Table
  joined s t c = pick (s c) (t c)

  joined_sound : (s t : Table) → Sound s → Sound t → Sound (joined s t)
  joined_sound s t a b c o e = picked (λ (u : Option Json). Knows c u) (s c) (t c) (a c) (b c) o e

  one_sound : (c : Cell) (o : Option Json) → Knows c o → Sound (one_entry c o)
  one_sound c o k e u h = by_same (λ (f : Cell) (r : Option Json). Knows f r) c e o u (same c e) refl k h

  joined_grows : (s t : Table) → Sound s → Sound t → Grows t (joined s t)
  joined_grows s t a b c =
      stays_picked (s c) (t c) (λ o u e f.
      one_known (meaning d) (at_point (basis x) (point x p.status)) c o u (a c o e) (b c u f))

  still_by : (t : Table) (r : Reads (Option Json)) (z : Told Cell (Option Json)) (o : Option Json) → IsToldStill t r z
      → z ≡ value o → told t r ≡ value o
  still_by t r z o h e = subst (λ (y : Told Cell (Option Json)). IsToldStill t r y) e h

  still : (s t : Table) → Sound s → Sound t → (r : Reads (Option Json)) (o : Option Json) → told t r ≡ value o
      → told (joined s t) r ≡ value o
  still s t a b r o e =
      still_by (joined s t) r (told t r) o
      (told_still Cell Json (Option Json) t (joined s t) (joined_grows s t a b) r) e

  same_here : (e : Cell) (b : Option Json) → one_entry e b e ≡ entry_of b
  same_here e b = ap (λ (z : Bool). if z then entry_of b else missing) (cell_same e)

  -- what is told of a cell, by what is known of its parent
  told_under : (c e : Cell) → parent c ≡ Some e → (t : Table) (b : Option Json) → t e ≡ entry_of b
      → told t (meaning d c) ≡ told_where (admits c b) (told t (plain d c))
  unfolding meaning
  told_under c e up t b h =
      guarded_told t c (plain d c)
      ∙ (ap (λ (o : Option Cell). told_by t c o (told t (plain d c))) up
      ∙ (ap (λ (k : Known Json). by_entry e (λ v. told_where (admits c v) (told t (plain d c))) k) h
      ∙ entry_goes e (λ v. told_where (admits c v) (told t (plain d c))) b))

  told_top : (c : Cell) → parent c ≡ None → (t : Table) → told t (meaning d c) ≡ told t (plain d c)
  unfolding meaning
  told_top c up t =
      guarded_told t c (plain d c) ∙ ap (λ (o : Option Cell). told_by t c o (told t (plain d c))) up

  -- its parent does not admit it
  not_there_by : (c e : Cell) → parent c ≡ Some e → at_point (basis x) (point x p.status) c ≡ by_others
      → (b : Option Json) → Knows e b → admits c b ≡ false → HasValue c None
  not_there_by c e up n b k a =
      by_table c n (one_entry e b) (one_sound e b k) None
      (told_under c e up (one_entry e b) b (same_here e b)
      ∙ ap (λ (z : Bool). told_where z (told (one_entry e b) (plain d c))) a)

  -- its parent admits it, and its own reading is told
  there_by : (c e : Cell) → parent c ≡ Some e → at_point (basis x) (point x p.status) c ≡ by_others
      → (b : Option Json) → Knows e b → admits c b ≡ true → (t : Table) → Sound t → (o : Option Json)
      → told t (plain d c) ≡ value o → HasValue c o
  there_by c e up n b k a t s o h =
      by_table c n (joined (one_entry e b) t) (joined_sound (one_entry e b) t (one_sound e b k) s) o
      (told_under c e up (joined (one_entry e b) t) b (ap (λ (z : Known Json). pick z (t e)) (same_here e b)
      ∙ pick_entry b (t e))
      ∙ (ap (λ (z : Bool). told_where z (told (joined (one_entry e b) t) (plain d c))) a
      ∙ still (one_entry e b) t (one_sound e b k) s (plain d c) o h))

  -- ---- tasks

  record WasTask (t : Task) : Type 0 where
    number : ℕ
    body : Json
    was_ready : WasReady x p.status number t body

  was_task : (t : Task) → Has t x.tasks → WasTask t
  was_task t h =
      let n = has_number x.tasks t h in
      let o = done_of (p.status n.0) (all n.0 t n.1) in
      let k = kept.done n.0 o.0 o.1 in
      record {
        number = n.0;
        body = k.body;
        was_ready =
            subst (λ (s : Task). WasReady x p.status n.0 s k.body) (same_Some k.task t (sym k.is_task ∙ n.1)) k.was_ready;
      }

  was_sound : (t : Task) (k : WasTask t) → Sound k.was_ready.known
  was_sound t k = known_later x k.was_ready.earlier p k.was_ready.known k.was_ready.stays k.was_ready.is_known

  entry_task : (q : Position) (t : TemplateTree) → template_at d.template q ≡ Some t → opened x planned q ≡ true
      → WasTask (enter q)
  entry_task q t at o =
      let l = the_list x planned in
      was_task (enter q) (subst (λ (ts : List Task). Has (enter q) ts) (sym l.joined)
      (has_left (enter q) l.scopes (deletes_in x.mode d.place x.keys x.held)
      (entered_listed w d.template q l.scopes (there x planned q t at o) l.is_read)))

  leave_listed : (q : Position) (t : TemplateTree) → template_at d.template q ≡ Some t → opened x planned q ≡ true
      → Has (leave q) x.tasks
  leave_listed q t at o =
      let l = the_list x planned in
      subst (λ (ts : List Task). Has (leave q) ts) (sym l.joined)
      (has_left (leave q) l.scopes (deletes_in x.mode d.place x.keys x.held)
      (left_listed w d.template q l.scopes (there x planned q t at o) l.is_read))

  -- ---- what is asked first

  first_value : (c : Cell) (a : is_asked_first c ≡ true) → start.start c ≡ by_others → Valued c
  first_value c a b = answered c b (planned.answered c a)

  -- ---- cells of a scope

  -- the cell by whose value the scope is there
  opener_known : (q : Position) (s : Step) → Knows (included q s) (w (included q s))
  opener_known q s =
      let e = first_entry x planned (included q s) refl in
      let same : w (included q s) ≡ e.0 = ap known_value e.1 ∙ value_entry e.0 in
      subst (λ (o : Option Json). Knows (included q s) o) (sym same) (start_sound (included q s) e.0 e.1)

  opener_entry : (q : Position) (s : Step) → x.known (included q s) ≡ entry_of (w (included q s))
  opener_entry q s =
      let e = first_entry x planned (included q s) refl in
      e.1 ∙ ap entry_of (sym (ap known_value e.1 ∙ value_entry e.0))

  -- a cell of a scope that is not there
  shut : (q : Position) (c : Cell) → parent c ≡ opener q → ((o : Option Json) → admits c o ≡ is_true o)
      → opened x planned q ≡ false → told x.known (meaning d c) ≡ value None
  shut [] c up same o = absurd (true≢false o)
  shut (s ∷ q) c up same o =
      told_under c (included q s) up x.known (w (included q s)) (opener_entry q s)
      ∙ ap (λ (z : Bool). told_where z (told x.known (plain d c))) (same (w (included q s)) ∙ o)

  where_none : (b : Bool) → told_where b (value None) ≡ value None
  where_none true = refl
  where_none false = refl

  -- a cell of a scope that is not declared
  undeclared : (q : Position) (c : Cell) → parent c ≡ opener q → told x.known (plain d c) ≡ value None
      → told x.known (meaning d c) ≡ value None
  undeclared [] c up e = told_top c up x.known ∙ e
  undeclared (s ∷ q) c up e =
      told_under c (included q s) up x.known (w (included q s)) (opener_entry q s)
      ∙ (ap (told_where (admits c (w (included q s)))) e ∙ where_none (admits c (w (included q s))))

  -- a cell of a scope that is there, by what was told when the scope was entered or left
  told_then : (q : Position) (c : Cell) → parent c ≡ opener q → ((o : Option Json) → admits c o ≡ is_true o)
      → opened x planned q ≡ true → at_point (basis x) (point x p.status) c ≡ by_others → (t : Table) → Sound t
      → (o : Option Json) → told t (plain d c) ≡ value o → HasValue c o
  told_then [] c up same a n t s o e = by_table c n t s o (told_top c up t ∙ e)
  told_then (r ∷ q) c up same a n t s o e =
      there_by c (included q r) up n (w (included q r)) (opener_known q r) (same (w (included q r)) ∙ a) t s o e

  entry_value_of : (q : Position) (t : TemplateTree) (c : Cell) → template_at d.template q ≡ Some t
      → parent c ≡ opener q → ((o : Option Json) → admits c o ≡ is_true o)
      → at_point (basis x) (point x p.status) c ≡ by_others → start.start c ≡ by_others → Has c (entry_cells d q)
      → Valued c
  entry_value_of q t c at up same n b listed = by_open (opened x planned q) refl
    where
      by_open : (z : Bool) → opened x planned q ≡ z → Valued c
      by_open false o = (None, of_start c None b (shut q c up same o))
      by_open true o =
          let k = entry_task q t at o in
          let m = k.was_ready.is_ready.has_values (entry_value d c)
          (has_map (entry_value d) c (entry_cells d q) listed) in
          let u = told_demanded k.was_ready.known (plain d c) m.0 m.1 in
          (u.0, told_then q c up same o n k.was_ready.known (was_sound (enter q) k) u.0 u.1)

  in_entry : (q : Position) (t : TemplateTree) (c : Cell) → template_at d.template q ≡ Some t → is_own d q ≡ true
      → Has c (own_cells true q t) → Has c (entry_cells d q)
  in_entry q t c at own h =
      subst (λ (o : Option TemplateTree). Has c (of_template (own_cells (is_own d q) q) o)) (sym at)
      (subst (λ (b : Bool). Has c (own_cells b q t)) (sym own) h)

  -- parameters
  no_parameter : (q : Position) (y : List ℕ) → raw d (parameter q y) ≡ None → Valued (parameter q y)
  unfolding plain told
  no_parameter q y e = (
    None,
    of_start (parameter q y) None refl
        (undeclared q (parameter q y) refl
        (ap
        (λ (o : Option (Reads Json)). told x.known (there_if (option_map (ruled d (rule d (parameter q y))) o))) e)),
  )

  parameter_by : (q : Position) (y : List ℕ) (b : Bool) → is_own d q ≡ b → (o : Option TemplateTree)
      → template_at d.template q ≡ o → Valued (parameter q y)
  unfolding raw
  parameter_by q y false own o at =
      no_parameter q y
      (ap (λ (b : Bool). if b then of_scope d q (parameter_named y) (parameter_value d q y) else None) own)
  parameter_by q y true own None at =
      no_parameter q y
      (ap (λ (b : Bool). if b then of_scope d q (parameter_named y) (parameter_value d q y) else None) own
      ∙ ap (λ (u : Option TemplateTree). option_and_then (parameter_value d q y)
      (option_and_then (parameter_named y) u)) at)
  parameter_by q y true own (Some t) at = by_name (parameter_named y t) refl
    where
      by_name : (o : Option Parameter) → parameter_named y t ≡ o → Valued (parameter q y)
      by_name None e =
          no_parameter q y
          (ap (λ (b : Bool). if b then of_scope d q (parameter_named y) (parameter_value d q y) else None) own
          ∙ (ap (λ (u : Option TemplateTree). option_and_then (parameter_value d q y)
          (option_and_then (parameter_named y) u)) at ∙ ap (option_and_then (parameter_value d q y)) e))
      by_name (Some z) e =
          entry_value_of q t (parameter q y) at refl (λ o. refl) refl refl
          (in_entry q t (parameter q y) at own
          (has_left (parameter q y) (map (parameter q) (parameter_names t)) (map (variable q) (variable_names t))
          (has_map (parameter q) y (parameter_names t) (named_parameter t y z e))))

  -- variables
  no_variable : (q : Position) (y : List ℕ) → raw d (variable q y) ≡ None → Valued (variable q y)
  unfolding plain told
  no_variable q y e = (
    None,
    of_start (variable q y) None refl
        (undeclared q (variable q y) refl
        (ap (λ (o : Option (Reads Json)). told x.known (there_if (option_map (ruled d (rule d (variable q y))) o))) e)),
  )

  variable_by : (q : Position) (y : List ℕ) (b : Bool) → is_own d q ≡ b → (o : Option TemplateTree)
      → template_at d.template q ≡ o → Valued (variable q y)
  unfolding raw
  variable_by q y false own o at =
      no_variable q y
      (ap (λ (b : Bool). if b then of_scope d q (variable_named y) (λ z. Some (variable_value d q z)) else None) own)
  variable_by q y true own None at =
      no_variable q y
      (ap (λ (b : Bool). if b then of_scope d q (variable_named y) (λ z. Some (variable_value d q z)) else None) own
      ∙ ap (λ (u : Option TemplateTree). option_and_then (λ z. Some (variable_value d q z))
      (option_and_then (variable_named y) u)) at)
  variable_by q y true own (Some t) at = by_name (variable_named y t) refl
    where
      by_name : (o : Option Variable) → variable_named y t ≡ o → Valued (variable q y)
      by_name None e =
          no_variable q y
          (ap (λ (b : Bool). if b then of_scope d q (variable_named y) (λ z. Some (variable_value d q z)) else None) own
          ∙ (ap (λ (u : Option TemplateTree). option_and_then (λ z. Some (variable_value d q z))
          (option_and_then (variable_named y) u)) at ∙ ap (option_and_then (λ z. Some (variable_value d q z))) e))
      by_name (Some z) e =
          entry_value_of q t (variable q y) at refl (λ o. refl) refl refl
          (in_entry q t (variable q y) at own
          (has_right (variable q y) (map (parameter q) (parameter_names t)) (map (variable q) (variable_names t))
          (has_map (variable q) y (variable_names t) (named_variable t y z e))))

  -- ---- outputs

  -- an output without a condition is not there
  no_outputs : (q : Position) (y : List ℕ) → told x.known (meaning d (offered q y)) ≡ value None
      → Valued (offered q y) × Valued (output q y)
  no_outputs q y e = (
    (None, of_start (offered q y) None refl e),
    (
      None,
      of_start (output q y) None refl
          (told_under (output q y) (offered q y) refl x.known None
          (entry_told_of x planned (offered q y) None refl e)),
    ),
  )

  undeclared_outputs : (q : Position) (y : List ℕ) → raw d (offered q y) ≡ None
      → Valued (offered q y) × Valued (output q y)
  unfolding plain told
  undeclared_outputs q y e =
      no_outputs q y
      (undeclared q (offered q y) refl
      (ap (λ (o : Option (Reads Json)). told x.known (there_if (option_map (ruled d (rule d (offered q y))) o))) e))

  leaver_done : (q : Position) → Has (leave q) x.tasks → (o : Option ℕ) → leaver x q ≡ o
      → is_done_at p.status o ≡ true
  leaver_done q h None e =
      let n = has_number x.tasks (leave q) h in
      absurd (true≢false (sym (position_same q) ∙ none_is (λ i t. is_leave_of q t) x.tasks e n.0 (leave q) n.1))
  leaver_done q h (Some u) e =
      let f = first_is (λ i t. is_leave_of q t) x.tasks u e in all u f.found f.has

  -- an output of a scope that was left can be seen
  seen_left : (q : Position) (c : Cell) → Has (leave q) x.tasks
      → start.output_access (basis x) (point x p.status) q c ≡ by_others
  seen_left [] c h = refl
  seen_left (s ∷ q) c h =
      ap if_seen (or_right (is_there (x.known c)) (is_done_at p.status (leaver x (s ∷ q)))
      (leaver_done (s ∷ q) h (leaver x (s ∷ q)) refl))

  left_outputs : (q : Position) (t : TemplateTree) (y : List ℕ) → template_at d.template q ≡ Some t
      → Has y (output_names t) → opened x planned q ≡ true → Valued (offered q y) × Valued (output q y)
  left_outputs q t y at listed o =
      ((r.condition, mine), by_condition (is_true r.condition) refl)
    where
      in_list : Has (leave q) x.tasks
      in_list = leave_listed q t at o

      k : WasTask (leave q)
      k = was_task (leave q) in_list

      m : (z : Option Json) × ToldOutput k.was_ready.known (plain d (offered q y)) (plain d (output q y)) z
      m = let n = k.was_ready.is_ready.has_values (leave_value d q y)
          (subst (λ (u : Option TemplateTree). Has (leave_value d q y) (outputs_of (leave_value d q) u)) (sym at)
          (has_map (leave_value d q) y (output_names t) listed)) in
          (n.0, told_output k.was_ready.known (plain d (offered q y)) (plain d (output q y)) n.0 n.1)

      r : ToldOutput k.was_ready.known (plain d (offered q y)) (plain d (output q y)) m.0
      r = m.1

      mine : HasValue (offered q y) r.condition
      mine =
          told_then q (offered q y) refl (λ u. refl) o (seen_left q (offered q y) in_list) k.was_ready.known
          (was_sound (leave q) k) r.condition r.is_told

      by_condition : (b : Bool) → is_true r.condition ≡ b → Valued (output q y)
      by_condition false e = (
        None,
        not_there_by (output q y) (offered q y) refl (seen_left q (output q y) in_list) r.condition
            mine.is_known e,
      )
      by_condition true e = (
        m.0,
        there_by (output q y) (offered q y) refl (seen_left q (output q y) in_list) r.condition
            mine.is_known e k.was_ready.known (was_sound (leave q) k) m.0
            (ap (λ (b : Bool). told k.was_ready.known (where_offered b (plain d (output q y)))) (sym e) ∙ r.rest),
      )

  listed_outputs : (q : Position) (t : TemplateTree) (y : List ℕ) → template_at d.template q ≡ Some t
      → Has y (output_names t) → (b : Bool) → opened x planned q ≡ b → Valued (offered q y) × Valued (output q y)
  listed_outputs q t y at listed false o = no_outputs q y (shut q (offered q y) refl (λ u. refl) o)
  listed_outputs q t y at listed true o = left_outputs q t y at listed o

  outputs_by : (q : Position) (y : List ℕ) (o : Option TemplateTree) → template_at d.template q ≡ o
      → Valued (offered q y) × Valued (output q y)
  unfolding raw
  outputs_by q y None at =
      undeclared_outputs q y
      (ap (λ (u : Option TemplateTree). option_and_then (λ z. Some (offered_value d q z))
      (option_and_then (output_named y) u)) at)
  outputs_by q y (Some t) at = by_name (output_named y t) refl
    where
      by_name : (o : Option Output) → output_named y t ≡ o → Valued (offered q y) × Valued (output q y)
      by_name None e =
          undeclared_outputs q y
          (ap (λ (u : Option TemplateTree). option_and_then (λ z. Some (offered_value d q z))
          (option_and_then (output_named y) u)) at ∙ ap (option_and_then (λ z. Some (offered_value d q z))) e)
      by_name (Some z) e =
          listed_outputs q t y at (named_output t y z e) (opened x planned q) refl

  -- ---- states

  state_so : (k : ResourceId) (o : Option Json) → at_point (basis x) (point x p.status) (state k) ≡ outright o
      → HasValue (state k) o
  unfolding meaning plain value_in
  state_so k o e = record {
    is_known = is_outright (state k) o e;
    so = λ u h. guarded_value u (state k) (plain d (state k)) ∙ ap Some (h (state k) o (is_outright (state k) o e));
  }

  -- the put at a key of the plan
  pub a_putter : (k : ResourceId) → Has k x.keys → (t : Task) × (Has t x.tasks × (puts_at x k t ≡ true))
  a_putter k h =
      let l = the_list x planned in
      let i = key_has_put d w k l.scopes x.keys l.has_keys h in
      let key : key_in d w i.at i.instance ≡ Some k
      = ap (option_and_then (key_by d.place (kinds d i.at i.instance.resource))) i.has_name ∙ i.is_key in (
        put i.at i.instance,
        (
          subst (λ (ts : List Task). Has (put i.at i.instance) ts) (sym l.joined)
              (has_left (put i.at i.instance) l.scopes (deletes_in x.mode d.place x.keys x.held) i.listed),
          ap (λ (o : Option ResourceId). is_state_at o (state k)) key ∙ id_same k,
        ),
      )

  stored_of : (k : ResourceId) (o : Option ℕ) → putter x k ≡ o → Has k x.keys
      → (j : Json) × ((point x p.status).stored k ≡ Some j)
  stored_of k None e h =
      let t = a_putter k h in
      let n = has_number x.tasks t.0 t.1.0 in
      absurd (true≢false (sym t.1.1 ∙ none_is (λ n t. puts_at x k t) x.tasks e n.0 t.0 n.1))
  stored_of k (Some u) e h =
      let f = first_is (λ n t. puts_at x k t) x.tasks u e in
      let o = done_of (p.status u) (all u f.found f.has) in
      let z = kept.done u o.0 o.1 in
      let q = put_with x k f.found f.passes in
      let is : z.task ≡ put q.at q.instance = same_Some z.task f.found (sym z.is_task ∙ f.has) ∙ q.is in
      let left = subst (λ (t : Task). IsLeft may x t z.body o.0) is z.is_left in
      (left.0, still_stored x p.status k u left.0 e (o.1 ∙ ap is_done left.1.0))

  pub stored_at : (k : ResourceId) → list_any (same_id k) x.keys ≡ true
      → (j : Json) × ((point x p.status).stored k ≡ Some j)
  stored_at k e = stored_of k (putter x k) refl (any_has k x.keys e)

  pub put_value : (k : ResourceId) (j : Json) → list_any (same_id k) x.keys ≡ true
      → (point x p.status).stored k ≡ Some j → HasValue (state k) (Some j)
  put_value k j e s =
      state_so k (Some j)
      (ap (λ (b : Bool). if b then where_stored ((point x p.status).stored k) else outright (held_state x.held k)) e
      ∙ ap where_stored s)

  pub held_value : (k : ResourceId) → list_any (same_id k) x.keys ≡ false
      → HasValue (state k) (held_state x.held k)
  held_value k e =
      state_so k (held_state x.held k)
      (ap (λ (b : Bool). if b then where_stored ((point x p.status).stored k) else outright (held_state x.held k)) e)

  state_by : (k : ResourceId) (b : Bool) → list_any (same_id k) x.keys ≡ b → Valued (state k)
  state_by k true e = let s = stored_at k e in (Some s.0, put_value k s.0 e s.1)
  state_by k false e = (held_state x.held k, held_value k e)

  -- ---- all cells

  pub valued : (c : Cell) → Valued c
  valued (parameter q y) = parameter_by q y (is_own d q) refl (template_at d.template q) refl
  valued (variable q y) = variable_by q y (is_own d q) refl (template_at d.template q) refl
  valued (offered q y) = (outputs_by q y (template_at d.template q) refl).0
  valued (output q y) = (outputs_by q y (template_at d.template q) refl).1
  valued (count q r) = first_value (count q r) refl refl
  valued (included q s) = first_value (included q s) refl refl
  valued (name q s) = first_value (name q s) refl refl
  valued (deployments q) = answered (deployments q) refl (lists q)
  valued (state k) = state_by k (list_any (same_id k) x.keys) refl

  -- ---- the world of all that is known

  pub the_world : World
  the_world c = (valued c).0

  pub known_so : (c : Cell) (o : Option Json) → Knows c o → the_world c ≡ o
  unfolding the_world
  known_so c o k =
      one_known (meaning d) (at_point (basis x) (point x p.status)) c (valued c).0 o (valued c).1.is_known k

  pub is_world : (c : Cell) → value_in the_world (meaning d c) ≡ Some (the_world c)
  unfolding the_world
  is_world c = (valued c).1.so the_world known_so
