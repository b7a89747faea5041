-- The keys of instances, and those at which tasks put.
use Rattle.std.proofs.Common.{◌≡◌, ℕ, zero, suc, ◌+◌, ◌<◌, ◌≤◌, false, List, [], ◌∷◌, ◌++◌, map, length, drop}
use Rattle.std.proofs.Common.{get_or, Option, Some, None, refl, sym, ap, subst, ◌∙◌, arith, append_assoc}
use Rattle.std.proofs.lemmas.List.{length-map, append-nil}
use Rattle.std.specs.Prelude.{slice_get, option_map, option_and_then, if◌then◌else◌}
use Rattle.foundation.proofs.Comparisons.{lt_true}
use Rattle.foundation.proofs.Lists.{next_item, nothing_left}
use Rattle.arm_value.specs.Json.{Json}
use Rattle.arm_ids.specs.declared.id.ResourceId.{ResourceId}
use Rattle.reading.specs.World.{Each}
use Rattle.reading.specs.Reading.{done, onward, pure, read, continued}
use Rattle.reading.specs.Knowledge.{Told, value, no_value, waits, known, known_value, told, finished, and_then}
use Rattle.reading.specs.Knowledge.{by_entry}
use Rattle.reading.proofs.Parts.{told-continued}
use Rattle.template_tree.specs.Tree.{TemplateTree}
use Rattle.deploy_cells.specs.Cells.{Step, step, Position, Cell, name}
use Rattle.deploy_cells.specs.Guarded.{Reads}
use Rattle.deploy_cells.specs.Puts.{Kind}
use Rattle.plan_cells.specs.Known as knowing
use Rattle.plan_cells.specs.Resources as cells
use Rattle.plan_cells.specs.Resources.{resources_in, resource_at, unless_existing}
use Rattle.plan_cells.specs.Scopes.{resource_of}
use Rattle.plan_cells.specs.Meaning.{Deployment, raw, name_value}
use Rattle.plan_cells.specs.Desired.{kind_of, kinds}
use Rattle.plan_cells.specs.Start.{start_world}
use Rattle.plan_cells.specs.Tasks.{Task, put, key_by, put_keys}
use Rattle.plan_cells.specs.Reads.{key_in}
use Rattle.plan_table.specs.Rows.{known_by}
use Rattle.plan_table.specs.declared.frame.Frame.{Frame}
use Rattle.plan_table.specs.declared.listed.Listed.{Listed}
use Rattle.plan_table.specs.declared.line.Line.{Line}
use Rattle.plan_table.specs.declared.table.Table.{Table}
use Rattle.plan_table.specs.Opened.{opened_of, opened_at, IsKept}
use Rattle.plan_table.specs.Lines.{status_in}
use Rattle.plan_table.specs.Whole.{whole_of, scopes_of}
use Rattle.plan_table.specs.Found.{scope_at, IsLineOf, state_at}
use Rattle.plan_tasks.specs.declared.task.ScopeTask.{ScopeTask}
use Rattle.plan_tasks.specs.declared.task.ScopeTask.TheVariants.{Enter, Put, Leave}
use Rattle.plan_tasks.specs.Start.{start_of, IsStartTable, task_of, IsInstance, IsTaskOf}
use Rattle.plan_tasks.proofs.TableLemmas.{line_known, line_is}
use Rattle.plan_tasks.proofs.BodyLemmas.{listed_is}
use Rattle.plan_tasks.specs.InOrder.{copies_in}
use Rattle.plan_tasks.proofs.AnswerLemmas.{cells_answered}

-- ---- of one instance

resource_is : (u : TemplateTree) (xs : List cells.Listed) (r : ℕ) (x : cells.Listed) → xs ≡ resources_in u
    → slice_get xs r ≡ Some x → x.declaration.existing ≡ false → resource_at u r ≡ Some x
unfolding resource_at
resource_is u xs r x e h p =
    ap (λ ys. option_and_then unless_existing (slice_get ys r)) (sym e)
    ∙ ap (option_and_then unless_existing) h ∙ ap (λ b. if b then None else Some x) p

kind_is : (t : Table) (f r i : ℕ) → IsStartTable t → IsInstance t f r i → (x : cells.Listed)
    → slice_get (scope_at t f).resources r ≡ Some x
    → kinds (whole_of t) (scope_at t f).position r ≡ Some (kind_of x)
kind_is t f r i s h x e =
    let m = length-map t.frames.items opened_of in
    let there = h.there in
    let kept : IsKept (whole_of t) (scopes_of t) f (opened_at (scopes_of t) f) =
    s.laid.kept f (omega (arith, there, m)) in
    let same : h.number.listed ≡ x = one (sym h.number.has ∙ e) in
    let put : x.declaration.existing ≡ false =
    ap (λ (y : cells.Listed). y.declaration.existing) (sym same) ∙ h.number.is_put in
    ap (λ o. option_map kind_of (option_and_then (λ u. resource_at u r) o)) kept.template
    ∙ ap (option_map kind_of) (resource_is (scope_at t f).template (scope_at t f).resources r x kept.resources e put)
  where
    one : {a b : cells.Listed} → Some a ≡ Some b → a ≡ b
    one e = cc

-- the key by the line of the name
pub key_found : (t : Table) (f r i j : ℕ) (o : Option ResourceId) → IsStartTable t → IsInstance t f r i
    → IsLineOf t f (name (scope_at t f).position (step r i)) j → (x : cells.Listed)
    → slice_get (scope_at t f).resources r ≡ Some x
    → option_and_then (key_by (whole_of t).place (Some (kind_of x)))
    (known_value (known_by (Some (status_in (state_at t j))))) ≡ o
    → key_in (whole_of t) (start_world (start_of t)) (scope_at t f).position (step r i) ≡ o
key_found t f r i j o s h l x e k =
    ap (λ y. option_and_then (key_by (whole_of t).place y)
    (known_value (start_of t (name (scope_at t f).position (step r i))))) (kind_is t f r i s h x e)
    ∙ ap (λ y. option_and_then (key_by (whole_of t).place (Some (kind_of x))) (known_value y))
    (line_known t f (name (scope_at t f).position (step r i)) j s.filled.sound.distinct l) ∙ k

-- the key by the line that was found
pub key_by_line : (t : Table) (f r i j : ℕ) (o : Option ResourceId) (fr : Frame) (p : Listed) (l : Line)
    → IsStartTable t
    → IsInstance t f r i → IsLineOf t f (name (scope_at t f).position (step r i)) j → fr ≡ get_or t.frames.items f fr
    → p ≡ get_or fr.resources.items r p → l ≡ get_or t.lines.items j l
    → ((k : Kind) → k.type ≡ p.kind
    → option_and_then (key_by (whole_of t).place (Some k)) (known_value (known_by (Some (status_in l.state)))) ≡ o)
    → key_in (whole_of t) (start_world (start_of t)) (scope_at t f).position (step r i) ≡ o
key_by_line t f r i j o fr p l s h k e g m a =
    let x = h.number.listed in
    key_found t f r i j o s h k x h.number.has
    (ap (λ (n : Line). option_and_then (key_by (whole_of t).place (Some (kind_of x)))
    (known_value (known_by (Some (status_in n.state))))) (line_is t.lines.items j l k.listed m)
    ∙ a (kind_of x) (ap (λ (y : cells.Listed). y.type) (listed_is t f r fr p x h.there e g h.number.has)))

-- ---- of tasks

module _ (d : Deployment) (q : knowing.Table) where
  one_then : {A B : Type 0} (r : Reads A) (f : A → Reads B)
      → told q (continued r f) ≡ and_then (told q r) (λ x. told q (f x))
  one_then {A} {B} r f = told-continued Cell Json A B q r f

  is_pure : {A : Type 0} (x : A) → told q (pure {C = Cell} {J = Json} x) ≡ value x
  unfolding told
  is_pure x = refl

  is_done : {A : Type 0} (o : Option A) → told q (let r : Reads A = done o in r) ≡ finished o
  unfolding told
  is_done o = refl

  read_then : {A : Type 0} (c : Cell) (v : Json) (f : Json → Reads A) → q c ≡ known v
      → told q (continued (read c) f) ≡ told q (f v)
  unfolding told continued
  read_then c v f e = ap (by_entry c (λ o. told q (onward o f))) e

  abbrev with_key : Option ResourceId → Told Cell (List ResourceId) → Told Cell (List ResourceId)
  with_key None t = no_value
  with_key (Some k) t = and_then t (λ ks. value (k ∷ ks))

  key_first : (o : Option ResourceId) (ts : List Task)
      → told q (continued (done o) (λ k. continued (put_keys d ts) (λ ks. pure (k ∷ ks))))
      ≡ with_key o (told q (put_keys d ts))
  unfolding told
  key_first None ts =
      one_then (done None) (λ k. continued (put_keys d ts) (λ ks. pure (k ∷ ks)))
      ∙ ap (λ t. and_then t (λ k. told q (continued (put_keys d ts) (λ ks. pure (k ∷ ks))))) (is_done None)
  key_first (Some k) ts =
      one_then (done (Some k)) (λ k. continued (put_keys d ts) (λ ks. pure (k ∷ ks)))
      ∙ ap (λ t. and_then t (λ k. told q (continued (put_keys d ts) (λ ks. pure (k ∷ ks))))) (is_done (Some k))
      ∙ one_then (put_keys d ts) (λ ks. pure (k ∷ ks))

  -- the key of a put, where its name is known
  put_then : (p : Position) (s : Step) (v : Json) (ts : List Task) → q (name p s) ≡ known v
      → told q (put_keys d (put p s ∷ ts)) ≡ with_key (key_in d (start_world q) p s) (told q (put_keys d ts))
  put_then p s v ts e =
      read_then (name p s) v (λ j. continued (done (key_by d.place (kinds d p s.resource) j)) (λ k.
      continued (put_keys d ts) (λ ks. pure (k ∷ ks)))) e
      ∙ key_first (key_by d.place (kinds d p s.resource) v) ts
      ∙ ap (λ o. with_key o (told q (put_keys d ts)))
      (ap (λ y. option_and_then (key_by d.place (kinds d p s.resource)) (known_value y)) (sym e))

-- ---- one task after another

module _ (t : Table) where
  abbrev d : Deployment
  d = whole_of t

  abbrev q : knowing.Table
  q = start_of t

  abbrev tasks_of : List ScopeTask → List Task
  tasks_of ts = map (task_of (scopes_of t)) ts

  name_known : (f r i : ℕ) → IsStartTable t → IsInstance t f r i
      → (v : Json) × (q (name (scope_at t f).position (step r i)) ≡ known v)
  unfolding raw
  name_known f r i s h =
      let m = length-map t.frames.items opened_of in
      let there = h.there in
      let x = h.number.listed in
      let kept : IsKept d (scopes_of t) f (opened_at (scopes_of t) f) = s.laid.kept f (omega (arith, there, m)) in
      let is : resource_of d.template (scope_at t f).position r ≡ Some x =
      ap (option_and_then (λ u. resource_at u r)) kept.template
      ∙ resource_is (scope_at t f).template (scope_at t f).resources r x kept.resources h.number.has h.number.is_put in
      cells_answered d _ s.filled s.answered (name (scope_at t f).position (step r i)) refl
      (name_value d (scope_at t f).position (step r i) x)
      (ap (option_map (name_value d (scope_at t f).position (step r i))) is)
      (lt_true i (copies_in q (scope_at t f).position r) h.within)

  -- the keys of all tasks are these, and those of the tasks from number i on
  abbrev pub KeysLeft : List ScopeTask → ℕ → List ResourceId → Type 0
  KeysLeft all i ks =
      told q (put_keys d (tasks_of all))
      ≡ and_then (told q (put_keys d (tasks_of (drop i all)))) (λ ls. value (ks ++ ls))

  same_after : (x : Told Cell (List ResourceId)) → x ≡ and_then x (λ ls. value ([] ++ ls))
  same_after (value ks) = refl
  same_after no_value = refl
  same_after (waits c) = refl

  pub keys_begin : (all : List ScopeTask) → KeysLeft all 0 []
  keys_begin all = same_after (told q (put_keys d (tasks_of all)))

  moved : (x : Told Cell (List ResourceId)) (k : ResourceId) (ks : List ResourceId)
      → and_then (and_then x (λ ls. value (k ∷ ls))) (λ ls. value (ks ++ ls))
      ≡ and_then x (λ ls. value ((ks ++ k ∷ []) ++ ls))
  moved (value ls) k ks = ap value (sym (append_assoc ks (k ∷ []) ls))
  moved no_value k ks = refl
  moved (waits c) k ks = refl

  each_at : (P : ScopeTask → Type 0) (xs : List ScopeTask) (i : ℕ) (x : ScopeTask) → Each P xs → i < length xs
      → x ≡ get_or xs i x → P x
  each_at P [] i x a h e = absurd (omega (arith, h))
  each_at P (y ∷ ys) zero x a h e = subst P (sym e) a.0
  each_at P (y ∷ ys) (suc i) x a h e = each_at P ys i x a.1 (omega (arith, h)) e

  -- what the keys are from a put on
  put_here : (all : List ScopeTask) (i f r j : ℕ) (ks : List ResourceId) (o : Option ResourceId) → IsStartTable t
      → IsInstance t f r j → i < length all → Put f r j ≡ get_or all i (Put f r j)
      → key_in d (start_world q) (scope_at t f).position (step r j) ≡ o → KeysLeft all i ks
      → told q (put_keys d (tasks_of all))
      ≡ and_then (with_key d q o (told q (put_keys d (tasks_of (drop (i + 1) all))))) (λ ls. value (ks ++ ls))
  put_here all i f r j ks o s n h e k c =
      let v = name_known f r j s n in
      c ∙ ap (λ (xs : List ScopeTask). and_then (told q (put_keys d (tasks_of xs))) (λ ls. value (ks ++ ls)))
      (next_item all i (Put f r j) h e)
      ∙ ap (λ x. and_then x (λ ls. value (ks ++ ls)))
      (put_then d q (scope_at t f).position (step r j) v.0 (tasks_of (drop (i + 1) all)) v.1)
      ∙ ap (λ y. and_then (with_key d q y (told q (put_keys d (tasks_of (drop (i + 1) all)))))
      (λ ls. value (ks ++ ls))) k

  pub keys_put : (all : List ScopeTask) (i f r j : ℕ) (x : ScopeTask) (ks ls : List ResourceId) (k : ResourceId)
      → IsStartTable t → Each (IsTaskOf t) all → i < length all → x ≡ get_or all i x → x ≡ Put f r j
      → key_in d (start_world q) (scope_at t f).position (step r j) ≡ Some k → ls ≡ ks ++ k ∷ []
      → KeysLeft all i ks → KeysLeft all (i + 1) ls
  keys_put all i f r j x ks ls k s a h e p key m c =
      let e2 : Put f r j ≡ get_or all i (Put f r j) = at_put in
      let n : IsInstance t f r j = (subst (IsTaskOf t) p (each_at (IsTaskOf t) all i x a h e)).0 in
      put_here all i f r j ks (Some k) s n h e2 key c
      ∙ moved (told q (put_keys d (tasks_of (drop (i + 1) all)))) k ks
      ∙ ap (λ us. and_then (told q (put_keys d (tasks_of (drop (i + 1) all)))) (λ vs. value (us ++ vs))) (sym m)
    where
      at_put : Put f r j ≡ get_or all i (Put f r j)
      at_put = subst (λ y. y ≡ get_or all i y) p e

  pub keys_none : (all : List ScopeTask) (i f r j : ℕ) (x : ScopeTask) (ks : List ResourceId) → IsStartTable t
      → Each (IsTaskOf t) all → i < length all → x ≡ get_or all i x → x ≡ Put f r j
      → key_in d (start_world q) (scope_at t f).position (step r j) ≡ None → KeysLeft all i ks
      → told q (put_keys d (tasks_of all)) ≡ no_value
  keys_none all i f r j x ks s a h e p key c =
      put_here all i f r j ks None s (subst (IsTaskOf t) p (each_at (IsTaskOf t) all i x a h e)).0 h
      (subst (λ y. y ≡ get_or all i y) p e) key c

  pub keys_enter : (all : List ScopeTask) (i f : ℕ) (x : ScopeTask) (ks : List ResourceId) → i < length all
      → x ≡ get_or all i x → x ≡ Enter f → KeysLeft all i ks → KeysLeft all (i + 1) ks
  keys_enter all i f x ks h e p c =
      c ∙ ap (λ (xs : List ScopeTask). and_then (told q (put_keys d (tasks_of xs))) (λ ls. value (ks ++ ls)))
      (next_item all i x h e ∙ ap (λ (y : ScopeTask). y ∷ drop (i + 1) all) p)

  pub keys_leave : (all : List ScopeTask) (i f : ℕ) (x : ScopeTask) (ks : List ResourceId) → i < length all
      → x ≡ get_or all i x → x ≡ Leave f → KeysLeft all i ks → KeysLeft all (i + 1) ks
  keys_leave all i f x ks h e p c =
      c ∙ ap (λ (xs : List ScopeTask). and_then (told q (put_keys d (tasks_of xs))) (λ ls. value (ks ++ ls)))
      (next_item all i x h e ∙ ap (λ (y : ScopeTask). y ∷ drop (i + 1) all) p)

  pub keys_end : (all : List ScopeTask) (i : ℕ) (ks : List ResourceId) → length all ≤ i → KeysLeft all i ks
      → told q (put_keys d (tasks_of all)) ≡ value ks
  keys_end all i ks h c =
      c ∙ ap (λ (xs : List ScopeTask). and_then (told q (put_keys d (tasks_of xs))) (λ ls. value (ks ++ ls)))
      (nothing_left all i h)
      ∙ ap (λ x. and_then x (λ ls. value (ks ++ ls))) (is_pure d q [])
      ∙ ap value (append-nil ks)

  -- ---- by the item at an index

  item_is : (xs : List ScopeTask) (i : ℕ) (x : ScopeTask) → i < length xs → get_or xs i x ≡ get_or xs i (get_or xs i x)
  item_is [] i x h = absurd (omega (arith, h))
  item_is (y ∷ ys) zero x h = refl
  item_is (y ∷ ys) (suc i) x h = item_is ys i x (omega (arith, h))

  pub put_at : (all : List ScopeTask) (i f r j : ℕ) (x : ScopeTask) (ks ls : List ResourceId) (o : Option ResourceId)
      (k : ResourceId) → IsStartTable t → Each (IsTaskOf t) all → i < length all → get_or all i x ≡ Put f r j
      → key_in d (start_world q) (scope_at t f).position (step r j) ≡ o → o ≡ Some k → ls ≡ ks ++ k ∷ []
      → KeysLeft all i ks → KeysLeft all (i + 1) ls
  put_at all i f r j x ks ls o k s a h p key e m c =
      keys_put all i f r j (get_or all i x) ks ls k s a h (item_is all i x h) p (key ∙ e) m c

  pub none_at : (all : List ScopeTask) (i f r j : ℕ) (x : ScopeTask) (ks : List ResourceId) (o : Option ResourceId)
      → IsStartTable t → Each (IsTaskOf t) all → i < length all → get_or all i x ≡ Put f r j
      → key_in d (start_world q) (scope_at t f).position (step r j) ≡ o → o ≡ None → KeysLeft all i ks
      → told q (put_keys d (tasks_of all)) ≡ no_value
  none_at all i f r j x ks o s a h p key e c =
      keys_none all i f r j (get_or all i x) ks s a h (item_is all i x h) p (key ∙ e) c

  pub enter_at : (all : List ScopeTask) (i f : ℕ) (x : ScopeTask) (ks ls : List ResourceId) → i < length all
      → get_or all i x ≡ Enter f → ls ≡ ks → KeysLeft all i ks → KeysLeft all (i + 1) ls
  enter_at all i f x ks ls h p m c =
      subst (λ us. KeysLeft all (i + 1) us) (sym m)
      (keys_enter all i f (get_or all i x) ks h (item_is all i x h) p c)

  pub leave_at : (all : List ScopeTask) (i f : ℕ) (x : ScopeTask) (ks ls : List ResourceId) → i < length all
      → get_or all i x ≡ Leave f → ls ≡ ks → KeysLeft all i ks → KeysLeft all (i + 1) ls
  leave_at all i f x ks ls h p m c =
      subst (λ us. KeysLeft all (i + 1) us) (sym m)
      (keys_leave all i f (get_or all i x) ks h (item_is all i x h) p c)
