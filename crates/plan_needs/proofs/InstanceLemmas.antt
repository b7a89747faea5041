-- What the table has of an instance: its resource, its index, its name and its key.
use Rattle.std.proofs.Common.{◌≡◌, ℕ, suc, ◌<◌, Bool, true, false, true≢false, List, [], ◌∷◌, ◌++◌, map, length, get_or}
use Rattle.std.proofs.Common.{Option, Some, None}
use Rattle.std.proofs.Common.{refl, sym, ap, subst, ◌∙◌, arith}
use Rattle.std.proofs.lemmas.List.{length-map, get_or-map}
use Rattle.std.specs.Prelude.{slice_get, option_map, option_and_then, if◌then◌else◌}
use Rattle.std.proofs.lemmas.Option.{same_Some}
use Rattle.foundation.proofs.Comparisons.{lt_true}
use Rattle.arm_value.specs.Json.{Json, null, bool, int, text, array, object}
use Rattle.arm_ids.specs.declared.id.Place.{Place}
use Rattle.arm_ids.specs.declared.id.ResourceId.{ResourceId}
use Rattle.tag_needs.specs.Tags.{Tag}
use Rattle.reading.specs.Reading.{done, pure, continued}
use Rattle.reading.specs.Knowledge.{Known, known, absent, missing, Told, value, no_value, waits, known_value, told}
use Rattle.reading.specs.Knowledge.{finished, and_then, by_entry}
use Rattle.reading.proofs.Parts.{told-continued}
use Rattle.deploy_cells.specs.Cells.{Step, step, Position, Cell, count, name, parent, admits, copies}
use Rattle.deploy_cells.specs.Guarded.{Reads, there_if, told_by, told_where}
use Rattle.deploy_cells.specs.Puts.{key_at}
use Rattle.deploy_cells.proofs.CellLemmas.{guarded_told}
use Rattle.template_tree.specs.Tree.{TemplateTree}
use Rattle.plan_cells.specs.Known as knowing
use Rattle.plan_cells.specs.Resources.{Listed, resource_at, resources_in, unless_existing}
use Rattle.plan_cells.specs.Scopes.{template_at, resource_of}
use Rattle.plan_cells.specs.Sites.{form_at}
use Rattle.plan_cells.specs.Meaning.{Deployment, raw, plain, meaning, rule, ruled, if_meets, is_name, name_value}
use Rattle.plan_cells.specs.Desired.{kind_of, kinds}
use Rattle.plan_cells.specs.Reads.{key_in}
use Rattle.plan_cells.specs.Start.{start_world}
use Rattle.plan_cells.specs.Tasks.{put, key_by}
use Rattle.plan_filling.specs.Rows.{Status, New, Open, Value, Empty, Late, status_of, table, known_by}
use Rattle.plan_filling.specs.Final.{or_unlisted}
use Rattle.plan_table.specs.declared.frame.Frame.{Frame}
use Rattle.plan_table.specs.declared.listed.Listed as code
use Rattle.plan_table.specs.declared.line.Spot.{Spot}
use Rattle.plan_table.specs.declared.line.Spot.TheVariants.{Count}
use Rattle.plan_table.specs.declared.line.State.{State}
use Rattle.plan_table.specs.declared.line.State.TheVariants as how
use Rattle.plan_table.specs.declared.table.Table.{Table}
use Rattle.plan_table.specs.Listed.{listed_of}
use Rattle.plan_table.specs.Opened.{Opened, blank, opened_of, IsKept}
use Rattle.plan_table.specs.Lines.{frame_of, cell_of, status_in, line_at, IsPlaced}
use Rattle.plan_table.specs.Laid.{OpensBy}
use Rattle.plan_table.specs.Whole.{whole_of, scopes_of, rows_in}
use Rattle.plan_table.specs.Found.{scope_at, IsLineOf, state_at, Counts}
use Rattle.plan_table.proofs.FrameLemmas.{frame_is}
use Rattle.plan_tasks.specs.InOrder.{copies_in}
use Rattle.plan_tasks.specs.Start.{start_of, IsStartTable, IsInstance}
use Rattle.plan_tasks.proofs.TableLemmas.{line_known}
use Rattle.plan_tasks.proofs.AnswerLemmas.{cells_answered}
use Rattle.plan_needs.proofs.NumberLemmas.{number_at}
use Rattle.plan_tasks.proofs.BodyLemmas.{listed_is}
use Rattle.name_tags.specs.NameCodes.{names_of, values_ask}
use Rattle.name_tags.specs.TaskCodes.{title_in, listed_names, instance_names, instance_asks, task_tags, task_asks}
use Rattle.name_tags.specs.Loops.{loop_titles}
use Rattle.plan_needs.specs.Numbers.{number_in}
use Rattle.plan_needs.specs.Order.{entry_code, inside_code, loop_codes, loop_by, loop_at}
use Rattle.plan_needs.specs.Needs.{scope_loops}
use Rattle.plan_needs.proofs.OrderLemmas.{end_is, start_is}

-- ---- a name that is known is a text

and_value : {A B : Type 0} (t : Told Cell A) (f : A → Told Cell B) (y : B) → and_then t f ≡ value y
    → (x : A) × ((t ≡ value x) × (f x ≡ value y))
and_value (value x) f y e = (x, (refl, e))
and_value no_value f y e = absurd (cc)
and_value (waits c) f y e = absurd (cc)

module _ (q : Cell → Known Json) where
  went : {A B : Type 0} (r : Reads A) (f : A → Reads B) (y : B) → told q (continued r f) ≡ value y
      → (x : A) × ((told q r ≡ value x) × (told q (f x) ≡ value y))
  went {A} {B} r f y e =
      and_value (told q r) (λ x. told q (f x)) y (sym (told-continued Cell Json A B q r f) ∙ e)

  finished_is : {A : Type 0} (o : Option A) (x : A) → finished {C = Cell} o ≡ value x → o ≡ Some x
  finished_is (Some y) x e = cc
  finished_is None x e = absurd (cc)

  done_is : {A : Type 0} (o : Option A) (x : A) → told q (done o) ≡ value x → o ≡ Some x
  unfolding told
  done_is o x e = finished_is o x e

  meets_by : (d : Deployment) (f : Json → Bool) (j v : Json) (b : Bool) → f j ≡ b → if_meets d b j ≡ Some v
      → f v ≡ true
  meets_by d f j v true e h = ap f (sym (same_Some j v h)) ∙ e
  meets_by d f j v false e h = absurd (cc)

  -- a value that was ruled meets the rule
  rule_met : (d : Deployment) (f : Json → Bool) (o : Option (Reads Json)) (v : Json)
      → told q (there_if (option_map (ruled d f) o)) ≡ value (Some v) → f v ≡ true
  rule_met d f None v e =
      let no : Some None ≡ Some (Some v) = done_is (Some None) (Some v) e in absurd (cc)
  rule_met d f (Some r) v e =
      let a = went (ruled d f r) (λ x. pure (Some x)) (Some v) e in
      let same : a.0 ≡ v = same_Some a.0 v (same_Some (Some a.0) (Some v) (done_is (Some (Some a.0)) (Some v) a.1.1)) in
      let b = went r (λ j. done (if_meets d (f j) j)) a.0 a.1.0 in
      meets_by d f b.0 v (f b.0) refl (done_is (if_meets d (f b.0) b.0) a.0 b.1.1 ∙ ap Some same)

  by_admitted : (c : Cell) (b : Bool) (t : Told Cell (Option Json)) (v : Json)
      → told_where b t ≡ value (Some v) → t ≡ value (Some v)
  by_admitted c true t v e = e
  by_admitted c false t v e = absurd (cc)

  by_gate : (c e : Cell) (t : Told Cell (Option Json)) (v : Json) (u : Known Json)
      → by_entry e (λ o. told_where (admits c o) t) u ≡ value (Some v) → t ≡ value (Some v)
  by_gate c e t v (known j) h = by_admitted c (admits c (Some j)) t v h
  by_gate c e t v absent h = by_admitted c (admits c None) t v h
  by_gate c e t v missing h = absurd (cc)

  unguarded : (c : Cell) (o : Option Cell) (t : Told Cell (Option Json)) (v : Json)
      → told_by q c o t ≡ value (Some v) → t ≡ value (Some v)
  unguarded c None t v e = e
  unguarded c (Some e) t v h = by_gate c e t v (q e) h

  name_rule : (d : Deployment) (p : Position) (s : Step) (v : Json)
      → told q (meaning d (name p s)) ≡ value (Some v)
      → is_name d v (resource_of d.template p s.resource) ≡ true
  unfolding meaning plain
  name_rule d p s v e =
      rule_met d (rule d (name p s)) (raw d (name p s)) v
      (unguarded (name p s) (parent (name p s)) (told q (plain d (name p s))) v
      (sym (guarded_told q (name p s) (plain d (name p s))) ∙ e))

record IsText (v : Json) : Type 0 where
  title : List ℕ
  is : v ≡ text title

name_is_text : (d : Deployment) (v : Json) (o : Option Listed) → is_name d v o ≡ true → IsText v
name_is_text d (text n) o e = record { title = n; is = refl }
name_is_text d null o e = absurd (true≢false (sym e))
name_is_text d (bool b) o e = absurd (true≢false (sym e))
name_is_text d (int z) o e = absurd (true≢false (sym e))
name_is_text d (array js) o e = absurd (true≢false (sym e))
name_is_text d (object ms) o e = absurd (true≢false (sym e))

-- what is known of a name has a row
by_status : (o : Option Status) (v : Json) → known_by o ≡ known v → o ≡ Some (Value v)
by_status (Some (Value w)) v e = let same : w ≡ v = cc in ap (λ x. Some (Value x)) same
by_status (Some New) v e = absurd (cc)
by_status (Some Open) v e = absurd (cc)
by_status (Some Empty) v e = absurd (cc)
by_status (Some (Late k)) v e = absurd (cc)
by_status None v e = absurd (cc)

of_name : (σ : Cell → Option Status) (p : Position) (s : Step) (o : Option Status) (v : Json)
    → or_unlisted σ (name p s) o ≡ known v → o ≡ Some (Value v)
of_name σ p s None v e = absurd (cc)
of_name σ p s (Some u) v e = by_status (Some u) v e

-- a count that lists the instance
counts_by : (i : ℕ) (y : State) → i < copies (known_value (known_by (Some (status_in y)))) → Counts i y
counts_by i (how.Value v) h = h
counts_by i how.New h = absurd (omega (arith, h))
counts_by i how.Open h = absurd (omega (arith, h))
counts_by i how.Empty h = absurd (omega (arith, h))
counts_by i (how.Late k) h = absurd (omega (arith, h))

-- ---- of one instance

module _ (t : Table) (f r i : ℕ) (start : IsStartTable t) (h : IsInstance t f r i) where
  abbrev d : Deployment
  d = whole_of t

  abbrev q : knowing.Table
  q = start_of t

  abbrev p : Position
  p = (scope_at t f).position

  inside : f < length (scopes_of t)
  inside = let n = length-map t.frames.items opened_of in let l = h.there in omega (arith, n, l)

  kept : IsKept d (scopes_of t) f (scope_at t f)
  kept = start.laid.kept f inside

  pub number_is : number_in (scopes_of t) p ≡ f
  number_is = number_at d (scopes_of t) t.index t.lines.items start.laid start.filled.sound.distinct f inside

  pub template_is : template_at d.template p ≡ Some (scope_at t f).template
  template_is = kept.template

  resources_are : (scope_at t f).resources ≡ resources_in (scope_at t f).template
  resources_are = kept.resources

  abbrev x : Listed
  x = h.number.listed

  pub listed_there : resource_of d.template p r ≡ Some x
  unfolding resource_at
  listed_there =
      ap (λ o. option_and_then (λ u. option_and_then unless_existing (slice_get (resources_in u) r)) o) template_is
      ∙ ap (λ xs. option_and_then unless_existing (slice_get xs r)) (sym resources_are)
      ∙ ap (option_and_then unless_existing) h.number.has
      ∙ ap (λ b. if b then None else Some x) h.number.is_put

  kind_there : kinds d p r ≡ Some (kind_of x)
  kind_there = ap (option_map kind_of) listed_there

  name_known : (v : Json) × (q (name p (step r i)) ≡ known v)
  unfolding raw
  name_known =
      cells_answered d _ start.filled start.answered (name p (step r i)) refl (name_value d p (step r i) x)
      (ap (option_map (name_value d p (step r i))) listed_there) (lt_true i (copies_in q p r) h.within)

  name_text : IsText name_known.0
  name_text =
      let v = name_known.0 in
      let has : status_of (rows_in t) (name p (step r i)) ≡ Some (Value v) =
      of_name (status_of (rows_in t)) p (step r i) (status_of (rows_in t) (name p (step r i))) v name_known.1 in
      name_is_text d v (resource_of d.template p r)
      (name_rule (table (status_of (rows_in t))) d p (step r i) v
      (start.filled.sound.good.tells_value (name p (step r i)) v has))

  pub title : List ℕ
  title = name_text.title

  pub name_there : q (name p (step r i)) ≡ known (text title)
  unfolding title
  name_there = name_known.1 ∙ ap known name_text.is

  pub key_there : key_in d (start_world q) p (step r i) ≡ Some (key_at d.place x.type title)
  key_there =
      ap (λ o. option_and_then (key_by d.place o) (known_value (q (name p (step r i))))) kind_there
      ∙ ap (λ k. option_and_then (key_by d.place (Some (kind_of x))) (known_value k)) name_there

  pub form_is : (fr : Frame) → fr ≡ get_or t.frames.items f fr
      → form_at (template_at d.template p) ≡ fr.template.now.form
  form_is fr e =
      ap form_at template_is ∙ ap (λ (o : Opened). form_at (Some o.template)) (frame_is t.frames.items f fr h.there e)

  -- an index is below 800
  of_count : (g : ℕ) (y : State) → OpensBy (scopes_of t) t.lines.items g (Count f r) y → Counts i y → i < 800
  of_count g (how.Value v) o c =
      let a = (o i c).0 in
      let placed = start.laid.placed a.line a.listed in
      (subst (λ (s : Spot). IsPlaced (scopes_of t) s) a.is placed).declared.1
  of_count g how.New o c = absurd c
  of_count g how.Open o c = absurd c
  of_count g how.Empty o c = absurd c
  of_count g (how.Late k) o c = absurd c

  pub few : i < 800
  few =
      let a = start.laid.cells f inside (Count f r) refl tt h.number in
      let l : IsLineOf t f (count p r) a.line = record {
        listed = a.listed;
        frame = ap frame_of a.is;
        is = ap (cell_of (scopes_of t)) a.is;
        has = h.number;
      } in
      of_count (line_at t.lines.items a.line).opened (state_at t a.line)
      (subst (λ (s : Spot). OpensBy (scopes_of t) t.lines.items (line_at t.lines.items a.line).opened s
      (state_at t a.line)) a.is (start.laid.opens a.line a.listed))
      (counts_by i (state_at t a.line)
      (subst (λ n. i < n) (ap (λ k. copies (known_value k))
      (line_known t f (count p r) a.line start.filled.sound.distinct l)) h.within))

  -- ---- what the code reads and lists

  listed_same : (fr : Frame) (l : code.Listed) → fr ≡ get_or t.frames.items f fr → l ≡ get_or fr.resources.items r l
      → x ≡ listed_of l
  listed_same fr l e g = listed_is t f r fr l x h.there e g h.number.has

  pub loop_is : (fr : Frame) (l : code.Listed) → fr ≡ get_or t.frames.items f fr → l ≡ get_or fr.resources.items r l
      → l.declaration.now.copy ≡ loop_at (scope_at t f) r
  loop_is fr l e g =
      sym (ap loop_by h.number.has ∙ ap (λ (y : Listed). y.declaration.copy) (listed_same fr l e g))

  names_are : (fr : Frame) → fr ≡ get_or t.frames.items f fr
      → instance_names d (number_in (scopes_of t)) q (Some (p, step r i))
      ≡ names_of f fr.template.now.form d.place x i title
  names_are fr e =
      ap (λ k. listed_names d (number_in (scopes_of t)) p (step r i) (title_in k) (resource_of d.template p r))
      name_there
      ∙ ap (listed_names d (number_in (scopes_of t)) p (step r i) title) listed_there
      ∙ ap (λ n. names_of n (form_at (template_at d.template p)) d.place x i title) number_is
      ∙ ap (λ m. names_of f m d.place x i title) (form_is fr e)

  pub names_listed : (fr : Frame) (l : code.Listed) (key : ResourceId) (old new : List Tag)
      → fr ≡ get_or t.frames.items f fr → l ≡ get_or fr.resources.items r l
      → key_in d (start_world q) p (step r i) ≡ Some key
      → ((place : Place) (n : List ℕ) → key ≡ key_at place l.kind n
      → new ≡ old ++ names_of f fr.template.now.form place (listed_of l) i n)
      → new ≡ old ++ instance_names d (number_in (scopes_of t)) q (Some (p, step r i))
  names_listed fr l key old new e g k a =
      let same = listed_same fr l e g in
      let two : Some key ≡ Some (key_at d.place x.type title) = sym k ∙ key_there in
      let one : key ≡ key_at d.place x.type title = cc in
      a d.place title (one ∙ ap (λ (y : Listed). key_at d.place y.type title) same)
      ∙ ap (λ (y : Listed). old ++ names_of f fr.template.now.form d.place y i title) (sym same)
      ∙ ap (λ ts. old ++ ts) (sym (names_are fr e))

  pub no_key : key_in d (start_world q) p (step r i) ≡ None → ⊥
  no_key e = let f : None ≡ Some (key_at d.place x.type title) = sym e ∙ key_there in cc

  pub asks_listed : (fr : Frame) (vs : List Json) (loops : List (List (List ℕ))) (own : List (List ℕ))
      (old new : List Tag) → fr ≡ get_or t.frames.items f fr → loops ≡ map scope_loops (scopes_of t)
      → own ≡ get_or loops f own
      → ((u : TemplateTree) → own ≡ loop_titles (resources_in u)
      → new ≡ old ++ values_ask f fr.template.now.form (Some u) vs)
      → new ≡ old ++ instance_asks d (number_in (scopes_of t)) (Some (p, step r i)) vs
  asks_listed fr vs loops own old new e g k a =
      a (scope_at t f).template
      (k ∙ ap (λ ls. get_or ls f own) g ∙ get_or-map scope_loops (scopes_of t) f blank own inside
      ∙ ap loop_titles resources_are)
      ∙ ap (λ o. old ++ values_ask f fr.template.now.form o vs) (sym template_is)
      ∙ ap (λ m. old ++ values_ask f m (template_at d.template p) vs) (sym (form_is fr e))
      ∙ ap (λ n. old ++ values_ask n (form_at (template_at d.template p)) (template_at d.template p) vs)
      (sym number_is)

  -- the tags one after another
  pub end_made : (a b c e : List Tag) → a ≡ [] → b ≡ a ++ inside_code f ∷ []
      → c ≡ b ++ loop_codes (λ n. suc n) f r i (loop_at (scope_at t f) r)
      → e ≡ c ++ instance_names d (number_in (scopes_of t)) q (Some (p, step r i))
      → e ≡ task_tags d (number_in (scopes_of t)) q (put p (step r i))
  end_made a b c e h1 h2 h3 h4 =
      let names = instance_names d (number_in (scopes_of t)) q (Some (p, step r i)) in
      let loops = loop_codes (λ n. suc n) f r i (loop_at (scope_at t f) r) in
      h4 ∙ ap (λ ts. ts ++ names) (h3 ∙ ap (λ ts. ts ++ loops) (h2 ∙ ap (λ ts. ts ++ inside_code f ∷ []) h1))
      ∙ ap (λ n. inside_code n ∷ (loop_codes (λ m. suc m) n r i (loop_at (scope_at t f) r) ++ names)) (sym number_is)
      ∙ ap (λ o. inside_code (number_in (scopes_of t) p) ∷ (loop_codes (λ m. suc m) (number_in (scopes_of t) p) r i
      (loop_by o) ++ names)) h.number.has
      ∙ sym (end_is d (number_in (scopes_of t)) q p (step r i) x listed_there)

  pub start_made : (vs : List Json) (a b c e : List Tag) → a ≡ [] → b ≡ a ++ entry_code f ∷ []
      → c ≡ b ++ loop_codes (λ n. n) f r i (loop_at (scope_at t f) r)
      → e ≡ c ++ instance_asks d (number_in (scopes_of t)) (Some (p, step r i)) vs
      → e ≡ task_asks d (number_in (scopes_of t)) (put p (step r i)) vs
  start_made vs a b c e h1 h2 h3 h4 =
      let asks = instance_asks d (number_in (scopes_of t)) (Some (p, step r i)) vs in
      let loops = loop_codes (λ n. n) f r i (loop_at (scope_at t f) r) in
      h4 ∙ ap (λ ts. ts ++ asks) (h3 ∙ ap (λ ts. ts ++ loops) (h2 ∙ ap (λ ts. ts ++ entry_code f ∷ []) h1))
      ∙ ap (λ n. entry_code n ∷ (loop_codes (λ m. m) n r i (loop_at (scope_at t f) r) ++ asks)) (sym number_is)
      ∙ ap (λ o. entry_code (number_in (scopes_of t) p) ∷ (loop_codes (λ m. m) (number_in (scopes_of t) p) r i
      (loop_by o) ++ asks)) h.number.has
      ∙ sym (start_is d (number_in (scopes_of t)) p (step r i) vs x listed_there)
