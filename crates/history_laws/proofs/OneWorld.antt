-- Two desired states that have the states which a history has stored are one, where every task of it is done.
use Rattle.std.proofs.Common.{◌≡◌, inl, inr, ℕ, zero, suc, Bool, true, false, true≢false, List, [], ◌∷◌, map}
use Rattle.std.proofs.Common.{Option, Some, None, refl, sym, ap, subst, ◌∙◌}
use Rattle.std.specs.Prelude.{slice_get, option_map, option_and_then, bytes_eq, if◌then◌else◌}
use Rattle.std.specs.List.{list_any}
use Rattle.std.proofs.lemmas.Option.{same_Some}
use Rattle.deploy_histories.proofs.TaskLemmas.{some_true}
use Rattle.arm_value.specs.Json.{Json, null, bool, int, text, array, object}
use Rattle.arm_value.specs.Kinds.{is_true}
use Rattle.arm_value.specs.Look.{fold}
use Rattle.arm_ids.specs.declared.id.ResourceId.{ResourceId}
use Rattle.foundation.proofs.Words.{eq_word}
use Rattle.reading.specs.Reading.{done, pure, continued}
use Rattle.reading.specs.World.{value_in}
use Rattle.reading.specs.Knowledge.{Told, value, no_value, waits, told, and_then}
use Rattle.reading.proofs.Parts.{told-continued}
use Rattle.template_parts.specs.declared.output.Output.{Output}
use Rattle.template_parts.specs.declared.parameter.Parameter.{Parameter}
use Rattle.template_parts.specs.declared.variable.Variable.{Variable}
use Rattle.template_tree.specs.Tree.{TemplateTree}
use Rattle.deploy_cells.specs.Cells.{Step, Position, Cell, parameter, variable, offered, output, count, included, name}
use Rattle.deploy_cells.specs.Cells.{deployments, state, World, opener, parent, admits, admitted, is_admitted}
use Rattle.deploy_cells.specs.Guarded.{Reads, there, there_if}
use Rattle.deploy_cells.specs.Puts.{IsPutAt}
use Rattle.deploy_cells.specs.Same.{same_id}
use Rattle.deploy_cells.proofs.CellLemmas.{guarded_value}
use Rattle.deploy_cells.proofs.SameLemmas.{id_same}
use Rattle.deploy_histories.specs.Resources.{Nested, nested_numbers, header_in}
use Rattle.deploy_histories.specs.Scopes.{template_at, nested_of}
use Rattle.deploy_histories.specs.Sites.{first_with, parameter_named, variable_named, output_named}
use Rattle.deploy_histories.specs.Meaning.{Deployment, raw, rule, ruled, plain, meaning, is_own, of_scope, parameter_value, variable_value, offered_value, output_value, if_meets}
use Rattle.deploy_cells.specs.Listing.{listing_value}
use Rattle.deploy_histories.specs.Desired.{kinds, Satisfies, is_state}
use Rattle.deploy_histories.specs.Children.{Has, parameter_names, variable_names, output_names, own_cells}
use Rattle.deploy_histories.specs.Known.{Table}
use Rattle.deploy_histories.specs.Start.{start_world}
use Rattle.deploy_histories.specs.Tasks.{Task, enter, leave, put, key_by, deletes_in}
use Rattle.deploy_histories.specs.TaskOf.{IsScope, IsTask}
use Rattle.deploy_histories.specs.Reads.{of_template, entry_cells, key_in, is_state_at}
use Rattle.deploy_histories.proofs.DesiredLemmas.{by_admitted}
use Rattle.deploy_histories.proofs.KnownLemmas.{told_so}
use Rattle.deploy_histories.proofs.ListLemmas.{has_left, has_right, has_map}
use Rattle.deploy_histories.specs.Planned.{Planned, IsPlanned, is_asked_first, puts_at, putter}
use Rattle.deploy_histories.specs.Points.{point}
use Rattle.deploy_histories.proofs.ReadinessLemmas.{first_is, none_is}
use Rattle.deploy_histories.specs.Events.{Progress, is_done}
use Rattle.deploy_histories.specs.Values.{demanded, where_offered, entry_value, leave_value, outputs_of}
use Rattle.deploy_histories.specs.Legal.{AllDone}
use Rattle.deploy_histories.specs.Outcome.{MayAnswer}
use Rattle.history_laws.specs.Past.{WasReady, IsLeft, IsKept}
use Rattle.history_laws.proofs.Puts.{key_has_put, any_has}
use Rattle.history_laws.proofs.Steps.{done_of}
use Rattle.history_laws.proofs.Included.{the_works, keys_listed, start_so, start_is}
use Rattle.history_laws.proofs.Way.{StoredIsSo, known_so, earlier_so, so_value, put_with}
use Rattle.history_laws.proofs.Way.{still_stored}
use Rattle.history_laws.proofs.ReadingOnly.{AsksFirst, continued_first, same_first, listing_first}

-- ---- what is declared

pub first_has : {A : Type 0} (test : A → Bool) (xs : List A) (a : A) → first_with test xs ≡ Some a
    → Has a xs × (test a ≡ true)
first_has test [] a e = let f : None ≡ Some a = e in absurd (cc)
first_has test (x ∷ xs) a e = by_test (test x) refl e (λ f. first_has test xs a f)
  where
    by_test : (b : Bool) → test x ≡ b → (if b then Some x else first_with test xs) ≡ Some a
        → (first_with test xs ≡ Some a → Has a xs × (test a ≡ true)) → Has a (x ∷ xs) × (test a ≡ true)
    by_test true t f more = let g = same_Some x a f in (inl g, ap test (sym g) ∙ t)
    by_test false t f more = let h = more f in (inr h.0, h.1)

pub named_parameter : (t : TemplateTree) (x : List ℕ) (q : Parameter) → parameter_named x t ≡ Some q
    → Has x (parameter_names t)
named_parameter t x q e =
    let h = first_has (λ p. bytes_eq x (fold p.name)) (header_in t).parameters q e in
    subst (λ (n : List ℕ). Has n (parameter_names t)) (sym (eq_word x (fold q.name) h.1))
    (has_map (λ (p : Parameter). fold p.name) q (header_in t).parameters h.0)

pub named_variable : (t : TemplateTree) (x : List ℕ) (q : Variable) → variable_named x t ≡ Some q
    → Has x (variable_names t)
named_variable t x q e =
    let h = first_has (λ p. bytes_eq x (fold p.name)) (header_in t).variables q e in
    subst (λ (n : List ℕ). Has n (variable_names t)) (sym (eq_word x (fold q.name) h.1))
    (has_map (λ (p : Variable). fold p.name) q (header_in t).variables h.0)

pub named_output : (t : TemplateTree) (x : List ℕ) (q : Output) → output_named x t ≡ Some q → Has x (output_names t)
named_output t x q e =
    let h = first_has (λ p. bytes_eq x (fold p.name)) (header_in t).outputs q e in
    subst (λ (n : List ℕ). Has n (output_names t)) (sym (eq_word x (fold q.name) h.1))
    (has_map (λ (p : Output). fold p.name) q (header_in t).outputs h.0)

-- ---- what was told of the values of a task

pub told_demanded : (t : Table) (r : Reads (Option Json)) (o : Option Json) → told t (demanded r) ≡ value o
    → (v : Option Json) × (told t r ≡ value v)
told_demanded t r o e =
    by_told (told t r) refl (sym (told-continued Cell Json (Option Json) (Option Json) t r
    (λ u. done (option_map Some u))) ∙ e)
  where
    by_told : (z : Told Cell (Option Json)) → told t r ≡ z
        → and_then z (λ u. told t (done (option_map Some u))) ≡ value o → (v : Option Json) × (told t r ≡ value v)
    by_told (value v) h f = (v, h)
    by_told no_value h f = cc
    by_told (waits c) h f = cc

-- of an output: its condition, and its value where that is true
pub record ToldOutput (t : Table) (c r : Reads (Option Json)) (o : Option Json) : Type 0 where
  pub condition : Option Json
  pub is_told : told t c ≡ value condition
  pub rest : told t (where_offered (is_true condition) r) ≡ value o

pub told_output : (t : Table) (c r : Reads (Option Json)) (o : Option Json)
    → told t (continued c (λ v. where_offered (is_true v) r)) ≡ value o → ToldOutput t c r o
told_output t c r o e =
    by_told (told t c) refl (sym (told-continued Cell Json (Option Json) (Option Json) t c
    (λ v. where_offered (is_true v) r)) ∙ e)
  where
    by_told : (z : Told Cell (Option Json)) → told t c ≡ z
        → and_then z (λ v. told t (where_offered (is_true v) r)) ≡ value o → ToldOutput t c r o
    by_told (value v) h f = record { condition = v; is_told = h; rest = f }
    by_told no_value h f = cc
    by_told (waits d) h f = cc

pub has_number : (ts : List Task) (t : Task) → Has t ts → (u : ℕ) × (slice_get ts u ≡ Some t)
has_number [] t h = absurd h
has_number (s ∷ ts) t h = elim h [
  | inl e ↦ (zero, ap Some e)
  | inr i ↦ (let g = has_number ts t i in (suc g.0, g.1))
]

true_is : (j : Json) → is_true (Some j) ≡ true → j ≡ bool true
true_is (bool true) e = refl
true_is (bool false) e = absurd (true≢false (sym e))
true_is null e = absurd (true≢false (sym e))
true_is (int z) e = absurd (true≢false (sym e))
true_is (text t) e = absurd (true≢false (sym e))
true_is (array js) e = absurd (true≢false (sym e))
true_is (object ms) e = absurd (true≢false (sym e))

-- ---- two worlds

module _ (may : MayAnswer) (x : Planned) (planned : IsPlanned x) (p : Progress) (kept : IsKept may x p.status)
    (all : AllDone x p) (w v : World) (sat : Satisfies x.deployment x.held w)
    (vat : Satisfies x.deployment x.held v) (so : StoredIsSo x w p.status) (vo : StoredIsSo x v p.status) where
  abbrev d : Deployment
  d = x.deployment

  first_same : (c : Cell) → is_asked_first c ≡ true → w c ≡ v c
  first_same c e =
      sym (start_is x planned w (start_so x planned w sat.is_world) c e)
      ∙ start_is x planned v (start_so x planned v vat.is_world) c e

  -- where the parents are the same, both admit the cell or neither does
  by_parent : (c : Cell) (o : Option Cell) → ((e : Cell) → o ≡ Some e → w e ≡ v e) → admitted w c o ≡ admitted v c o
  by_parent c None h = refl
  by_parent c (Some e) h = ap (admits c) (h e refl)

  parents_same : (c : Cell) → ((e : Cell) → parent c ≡ Some e → w e ≡ v e) → is_admitted w c ≡ is_admitted v c
  parents_same c h = by_parent c (parent c) h

  world_is : (u : World) → Satisfies d x.held u → (c : Cell) (b : Bool) → is_admitted u c ≡ b
      → (if b then value_in u (plain d c) else Some None) ≡ Some (u c)
  unfolding meaning
  world_is u s c b e =
      ap (λ (a : Bool). if a then value_in u (plain d c) else Some None) (sym e)
      ∙ (sym (guarded_value u c (plain d c)) ∙ s.is_world c)

  same_by : (c : Cell) (b : Bool) → is_admitted w c ≡ b → is_admitted v c ≡ b
      → (b ≡ true → value_in w (plain d c) ≡ value_in v (plain d c)) → w c ≡ v c
  same_by c true e f h = same_Some (w c) (v c) (sym (world_is w sat c true e) ∙ (h refl ∙ world_is v vat c true f))
  same_by c false e f h = same_Some (w c) (v c) (sym (world_is w sat c false e) ∙ world_is v vat c false f)

  same_value : (c : Cell) → ((e : Cell) → parent c ≡ Some e → w e ≡ v e)
      → (is_admitted w c ≡ true → value_in w (plain d c) ≡ value_in v (plain d c)) → w c ≡ v c
  same_value c parents h = same_by c (is_admitted w c) refl (sym (parents_same c parents)) h

  opener_first : (q : Position) (e : Cell) → opener q ≡ Some e → is_asked_first e ≡ true
  opener_first [] e f = let g : None ≡ Some e = f in absurd (cc)
  opener_first (s ∷ q) e f =
      subst (λ (c : Cell). is_asked_first c ≡ true) (same_Some (included q s) e f) refl

  opener_same : (q : Position) (e : Cell) → opener q ≡ Some e → w e ≡ v e
  opener_same q e f = first_same e (opener_first q e f)

  undeclared_same : (c : Cell) → raw d c ≡ None → is_state c ≡ false → w c ≡ v c
  undeclared_same c e s =
      by_admitted d w sat.is_world c e s (is_admitted w c) refl
      ∙ sym (by_admitted d v vat.is_world c e s (is_admitted v c) refl)

  -- ---- scopes

  abbrev opened : Option Cell → Bool
  opened None = true
  opened (Some e) = is_true (w e)

  by_nested : (q : Position) (s : Step) (t : TemplateTree) (o : Option Nested) → nested_of d.template q s ≡ o
      → option_map (λ (n : Nested). n.template) o ≡ Some t → is_true (w (included q s)) ≡ true
      → IsScope d w (s ∷ q)
  by_nested q s t None e f a = let g : None ≡ Some t = f in absurd (cc)
  by_nested q s t (Some n) e f a = record { nested = n; is_nested = e; is_included = some_true (w (included q s)) a }

  scope_there : (q : Position) (t : TemplateTree) → template_at d.template q ≡ Some t → opened (opener q) ≡ true
      → IsScope d w q
  unfolding template_at
  scope_there [] t e a = tt
  scope_there (s ∷ q) t e a = by_nested q s t (nested_of d.template q s) refl e a

  -- a task of a scope was ready
  record WasTask (t : Task) : Type 0 where
    number : ℕ
    body : Json
    was_ready : WasReady x p.status number t body

  was_task : (t : Task) → Has t x.tasks → WasTask t
  was_task t h =
      let n = has_number x.tasks t h in
      let o = done_of (p.status n.0) (all n.0 t n.1) in
      let k = kept.done n.0 o.0 o.1 in
      record {
        number = n.0;
        body = k.body;
        was_ready =
            subst (λ (s : Task). WasReady x p.status n.0 s k.body)
            (same_Some k.task t (sym k.is_task ∙ n.1)) k.was_ready;
      }

  scope_task : (t : Task) → IsTask d w t → Has t x.tasks
  scope_task t i =
      let works = the_works x planned w sat.is_world in
      subst (λ (ts : List Task). Has t ts) (sym works.joined)
      (has_left t works.scopes (deletes_in x.mode d.place x.keys x.held) (works.are_tasks.all t i))

  -- what was told then of a reading is so in both
  told_both : (t : Task) (k : WasTask t) (r : Reads (Option Json)) (o : Option Json)
      → told k.was_ready.known r ≡ value o → value_in w r ≡ value_in v r
  told_both t k r o e =
      let ww = known_so x planned w sat k.was_ready.earlier k.was_ready.known k.was_ready.is_known
      (earlier_so x planned w sat k.was_ready.earlier.status p.status k.was_ready.stays so) in
      let vv = known_so x planned v vat k.was_ready.earlier k.was_ready.known k.was_ready.is_known
      (earlier_so x planned v vat k.was_ready.earlier.status p.status k.was_ready.stays vo) in
      so_value x planned w sat r (told k.was_ready.known r) o (told_so (Option Json) w k.was_ready.known ww r) e
      ∙ sym (so_value x planned v vat r (told k.was_ready.known r) o (told_so (Option Json) v k.was_ready.known vv r) e)

  -- and of a condition in the first
  told_first : (t : Task) (k : WasTask t) (r : Reads (Option Json)) (o : Option Json)
      → told k.was_ready.known r ≡ value o → value_in w r ≡ Some o
  told_first t k r o e =
      let ww = known_so x planned w sat k.was_ready.earlier k.was_ready.known k.was_ready.is_known
      (earlier_so x planned w sat k.was_ready.earlier.status p.status k.was_ready.stays so) in
      so_value x planned w sat r (told k.was_ready.known r) o (told_so (Option Json) w k.was_ready.known ww r) e

  -- ---- parameters and variables

  entry_same : (q : Position) (t : TemplateTree) (c : Cell) → template_at d.template q ≡ Some t
      → parent c ≡ opener q → (is_admitted w c ≡ true → opened (opener q) ≡ true) → Has c (entry_cells d q) → w c ≡ v c
  entry_same q t c at up there listed =
      same_value c (λ e f. opener_same q e (sym up ∙ f)) (λ a. by_entry a)
    where
      by_entry : is_admitted w c ≡ true → value_in w (plain d c) ≡ value_in v (plain d c)
      by_entry a =
          let k = was_task (enter q) (scope_task (enter q) (scope_there q t at (there a))) in
          let m = k.was_ready.is_ready.has_values (entry_value d c)
          (has_map (entry_value d) c (entry_cells d q) listed) in
          let u = told_demanded k.was_ready.known (plain d c) m.0 m.1 in
          told_both (enter q) k (plain d c) u.0 u.1

  in_entry : (q : Position) (t : TemplateTree) (c : Cell) → template_at d.template q ≡ Some t → is_own d q ≡ true
      → Has c (own_cells true q t) → Has c (entry_cells d q)
  in_entry q t c at own h =
      subst (λ (o : Option TemplateTree). Has c (of_template (own_cells (is_own d q) q) o)) (sym at)
      (subst (λ (b : Bool). Has c (own_cells b q t)) (sym own) h)

  parameter_by : (q : Position) (y : List ℕ) (b : Bool) → is_own d q ≡ b → (o : Option TemplateTree)
      → template_at d.template q ≡ o → w (parameter q y) ≡ v (parameter q y)
  unfolding raw
  parameter_by q y false own o at =
      undeclared_same (parameter q y)
      (ap (λ (b : Bool). if b then of_scope d q (parameter_named y) (parameter_value d q y) else None) own) refl
  parameter_by q y true own None at =
      undeclared_same (parameter q y)
      (ap (λ (b : Bool). if b then of_scope d q (parameter_named y) (parameter_value d q y) else None) own
      ∙ ap (λ (u : Option TemplateTree). option_and_then (parameter_value d q y)
      (option_and_then (parameter_named y) u)) at) refl
  parameter_by q y true own (Some t) at = by_name (parameter_named y t) refl
    where
      up : (q : Position) → is_admitted w (parameter q y) ≡ true → opened (opener q) ≡ true
      up [] a = refl
      up (s ∷ q) a = a

      by_name : (o : Option Parameter) → parameter_named y t ≡ o → w (parameter q y) ≡ v (parameter q y)
      by_name None e =
          undeclared_same (parameter q y)
          (ap (λ (b : Bool). if b then of_scope d q (parameter_named y) (parameter_value d q y) else None) own
          ∙ (ap (λ (u : Option TemplateTree). option_and_then (parameter_value d q y)
          (option_and_then (parameter_named y) u)) at ∙ ap (option_and_then (parameter_value d q y)) e)) refl
      by_name (Some z) e =
          entry_same q t (parameter q y) at refl (up q)
          (in_entry q t (parameter q y) at own
          (has_left (parameter q y) (map (parameter q) (parameter_names t)) (map (variable q) (variable_names t))
          (has_map (parameter q) y (parameter_names t) (named_parameter t y z e))))

  variable_by : (q : Position) (y : List ℕ) (b : Bool) → is_own d q ≡ b → (o : Option TemplateTree)
      → template_at d.template q ≡ o → w (variable q y) ≡ v (variable q y)
  unfolding raw
  variable_by q y false own o at =
      undeclared_same (variable q y)
      (ap (λ (b : Bool). if b then of_scope d q (variable_named y) (λ z. Some (variable_value d q z)) else None) own)
      refl
  variable_by q y true own None at =
      undeclared_same (variable q y)
      (ap (λ (b : Bool). if b then of_scope d q (variable_named y) (λ z. Some (variable_value d q z)) else None) own
      ∙ ap (λ (u : Option TemplateTree). option_and_then (λ z. Some (variable_value d q z))
      (option_and_then (variable_named y) u)) at) refl
  variable_by q y true own (Some t) at = by_name (variable_named y t) refl
    where
      up : (q : Position) → is_admitted w (variable q y) ≡ true → opened (opener q) ≡ true
      up [] a = refl
      up (s ∷ q) a = a

      by_name : (o : Option Variable) → variable_named y t ≡ o → w (variable q y) ≡ v (variable q y)
      by_name None e =
          undeclared_same (variable q y)
          (ap (λ (b : Bool). if b then of_scope d q (variable_named y) (λ z. Some (variable_value d q z)) else None) own
          ∙ (ap (λ (u : Option TemplateTree). option_and_then (λ z. Some (variable_value d q z))
          (option_and_then (variable_named y) u)) at ∙ ap (option_and_then (λ z. Some (variable_value d q z))) e)) refl
      by_name (Some z) e =
          entry_same q t (variable q y) at refl (up q)
          (in_entry q t (variable q y) at own
          (has_right (variable q y) (map (parameter q) (parameter_names t)) (map (variable q) (variable_names t))
          (has_map (variable q) y (variable_names t) (named_variable t y z e))))

  -- ---- outputs

  up_offered : (q : Position) (y : List ℕ) → is_admitted w (offered q y) ≡ true → opened (opener q) ≡ true
  up_offered [] y a = refl
  up_offered (s ∷ q) y a = a

  -- what was told of an output when its scope was left
  output_told : (q : Position) (t : TemplateTree) (y : List ℕ) → template_at d.template q ≡ Some t
      → Has y (output_names t) → (k : WasTask (leave q))
      → (o : Option Json) × ToldOutput k.was_ready.known (plain d (offered q y)) (plain d (output q y)) o
  output_told q t y at listed k =
      let m = k.was_ready.is_ready.has_values (leave_value d q y)
      (subst (λ (o : Option TemplateTree). Has (leave_value d q y) (outputs_of (leave_value d q) o)) (sym at)
      (has_map (leave_value d q) y (output_names t) listed)) in
      (m.0, told_output k.was_ready.known (plain d (offered q y)) (plain d (output q y)) m.0 m.1)

  left_task : (q : Position) (t : TemplateTree) → template_at d.template q ≡ Some t → opened (opener q) ≡ true
      → WasTask (leave q)
  left_task q t at a = was_task (leave q) (scope_task (leave q) (scope_there q t at a))

  offered_listed : (q : Position) (t : TemplateTree) (y : List ℕ) → template_at d.template q ≡ Some t
      → Has y (output_names t) → w (offered q y) ≡ v (offered q y)
  offered_listed q t y at listed =
      same_value (offered q y) (λ e f. opener_same q e f) (λ a.
      let k = left_task q t at (up_offered q y a) in
      let o = (output_told q t y at listed k).1 in
      told_both (leave q) k (plain d (offered q y)) o.condition o.is_told)

  -- a condition that is true in the world is the one that was told
  condition_is : (q : Position) (y : List ℕ) (k : WasTask (leave q)) (c : Option Json)
      → told k.was_ready.known (plain d (offered q y)) ≡ value c → is_admitted w (offered q y) ≡ true
      → w (offered q y) ≡ c
  condition_is q y k c e a =
      same_Some (w (offered q y)) c
      (sym (world_is w sat (offered q y) true a) ∙ told_first (leave q) k (plain d (offered q y)) c e)

  not_admitted_false : (q : Position) (y : List ℕ) (b : Bool) → is_admitted w (offered q y) ≡ b
      → is_true (w (offered q y)) ≡ true → is_admitted w (offered q y) ≡ true
  not_admitted_false q y true e t = e
  not_admitted_false q y false e t =
      absurd (true≢false (sym t
      ∙ ap is_true (same_Some (w (offered q y)) None (sym (world_is w sat (offered q y) false e)))))

  output_listed : (q : Position) (t : TemplateTree) (y : List ℕ) → template_at d.template q ≡ Some t
      → Has y (output_names t) → w (output q y) ≡ v (output q y)
  output_listed q t y at listed =
      same_value (output q y)
      (λ e f. subst (λ (c : Cell). w c ≡ v c) (same_Some (offered q y) e f) (offered_listed q t y at listed))
      (λ a. by_condition a (not_admitted_false q y (is_admitted w (offered q y)) refl a))
    where
      by_condition : is_true (w (offered q y)) ≡ true → is_admitted w (offered q y) ≡ true
          → value_in w (plain d (output q y)) ≡ value_in v (plain d (output q y))
      by_condition a b =
          let k = left_task q t at (up_offered q y b) in
          let o = output_told q t y at listed k in
          let c : is_true o.1.condition ≡ true
          = ap is_true (sym (condition_is q y k o.1.condition o.1.is_told b)) ∙ a in
          told_both (leave q) k (plain d (output q y)) o.0
          (ap (λ (b : Bool). told k.was_ready.known (where_offered b (plain d (output q y)))) (sym c) ∙ o.1.rest)

  offered_by : (q : Position) (y : List ℕ) (o : Option TemplateTree) → template_at d.template q ≡ o
      → (w (offered q y) ≡ v (offered q y)) × (w (output q y) ≡ v (output q y))
  unfolding raw
  offered_by q y None at = (
    undeclared_same (offered q y)
        (ap (λ (u : Option TemplateTree). option_and_then (λ z. Some (offered_value d q z))
        (option_and_then (output_named y) u)) at) refl,
    undeclared_same (output q y)
        (ap (λ (u : Option TemplateTree). option_and_then (λ z. Some (output_value d q z))
        (option_and_then (output_named y) u)) at) refl,
  )
  offered_by q y (Some t) at = by_name (output_named y t) refl
    where
      by_name : (o : Option Output) → output_named y t ≡ o
          → (w (offered q y) ≡ v (offered q y)) × (w (output q y) ≡ v (output q y))
      by_name None e = (
        undeclared_same (offered q y)
            (ap (λ (u : Option TemplateTree). option_and_then (λ z. Some (offered_value d q z))
            (option_and_then (output_named y) u)) at ∙ ap (option_and_then (λ z. Some (offered_value d q z))) e) refl,
        undeclared_same (output q y)
            (ap (λ (u : Option TemplateTree). option_and_then (λ z. Some (output_value d q z))
            (option_and_then (output_named y) u)) at ∙ ap (option_and_then (λ z. Some (output_value d q z))) e) refl,
      )
      by_name (Some z) e =
          let listed = named_output t y z e in (offered_listed q t y at listed, output_listed q t y at listed)

  -- ---- lists of nested deployments

  asks_ruled : (f : Json → Bool) (r : Reads Json) → AsksFirst r → AsksFirst (there (ruled d f r))
  asks_ruled f r a =
      continued_first (ruled d f r) (λ j. pure (Some j))
      (continued_first r (λ j. done (if_meets d (f j) j)) a (λ j. tt)) (λ j. tt)

  asks_plain : (q : Position) (o : Option TemplateTree)
      → AsksFirst (there_if (option_map (ruled d (rule d (deployments q)))
      (option_map (λ t. listing_value q (nested_numbers t)) o)))
  asks_plain q None = tt
  asks_plain q (Some t) =
      asks_ruled (rule d (deployments q)) (listing_value q (nested_numbers t)) (listing_first q (nested_numbers t))

  deployments_same : (q : Position) → w (deployments q) ≡ v (deployments q)
  unfolding plain raw
  deployments_same q =
      same_value (deployments q) (λ e f. opener_same q e f)
      (λ a. same_first w v first_same (plain d (deployments q)) (asks_plain q (template_at d.template q)))

  -- ---- states

  not_put : (k : ResourceId) → list_any (same_id k) x.keys ≡ false → (u : World) → Satisfies d x.held u
      → IsPutAt d.place (kinds d) u k → ⊥
  not_put k e u s i = true≢false (sym (keys_listed x planned u s.is_world k i) ∙ e)

  -- the task that puts at a key of the plan has stored a state there
  a_putter : (k : ResourceId) → Has k x.keys → (t : Task) × (Has t x.tasks × (puts_at x k t ≡ true))
  a_putter k h =
      let works = the_works x planned w sat.is_world in
      let i = key_has_put d w k works.scopes x.keys works.has_keys h in
      let n : start_world x.known (name i.at i.instance) ≡ Some i.title
      = start_is x planned w (start_so x planned w sat.is_world) (name i.at i.instance) refl ∙ i.has_name in
      let key : key_in d (start_world x.known) i.at i.instance ≡ Some k
      = ap (option_and_then (key_by d.place (kinds d i.at i.instance.resource))) n ∙ i.is_key in (
        put i.at i.instance,
        (
          subst (λ (ts : List Task). Has (put i.at i.instance) ts) (sym works.joined)
              (has_left (put i.at i.instance) works.scopes (deletes_in x.mode d.place x.keys x.held) i.listed),
          ap (λ (o : Option ResourceId). is_state_at o (state k)) key ∙ id_same k,
        ),
      )

  stored_of : (k : ResourceId) (o : Option ℕ) → putter x k ≡ o → Has k x.keys
      → (j : Json) × ((point x p.status).stored k ≡ Some j)
  stored_of k None e h =
      let t = a_putter k h in
      let n = has_number x.tasks t.0 t.1.0 in
      absurd (true≢false (sym t.1.1 ∙ none_is (λ n t. puts_at x k t) x.tasks e n.0 t.0 n.1))
  stored_of k (Some u) e h =
      let f = first_is (λ n t. puts_at x k t) x.tasks u e in
      let o = done_of (p.status u) (all u f.found f.has) in
      let z = kept.done u o.0 o.1 in
      let q = put_with x k f.found f.passes in
      let is : z.task ≡ put q.at q.instance = same_Some z.task f.found (sym z.is_task ∙ f.has) ∙ q.is in
      let left = subst (λ (t : Task). IsLeft may x t z.body o.0) is z.is_left in
      (left.0, still_stored x p.status k u left.0 e (o.1 ∙ ap is_done left.1.0))

  state_by : (k : ResourceId) (b : Bool) → list_any (same_id k) x.keys ≡ b → w (state k) ≡ v (state k)
  state_by k false e =
      sat.others_are_held k (not_put k e w sat) ∙ sym (vat.others_are_held k (not_put k e v vat))
  state_by k true e =
      let s = stored_of k (putter x k) refl (any_has k x.keys e) in so k s.0 s.1 ∙ sym (vo k s.0 s.1)

  pub one_world : (c : Cell) → w c ≡ v c
  one_world (parameter q y) = parameter_by q y (is_own d q) refl (template_at d.template q) refl
  one_world (variable q y) = variable_by q y (is_own d q) refl (template_at d.template q) refl
  one_world (offered q y) = (offered_by q y (template_at d.template q) refl).0
  one_world (output q y) = (offered_by q y (template_at d.template q) refl).1
  one_world (count q r) = first_same (count q r) refl
  one_world (included q s) = first_same (included q s) refl
  one_world (name q s) = first_same (name q s) refl
  one_world (deployments q) = deployments_same q
  one_world (state k) = state_by k (list_any (same_id k) x.keys) refl
