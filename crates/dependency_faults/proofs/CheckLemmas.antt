-- All elements of instances are met where each is.
use Rattle.std.proofs.Common.{◌≡◌, ℕ, zero, suc, ◌+◌, ◌<◌, ◌≤◌, true, false, true≢false, List, [], ◌∷◌, map, length}
use Rattle.std.proofs.Common.{get_or}
use Rattle.std.proofs.Common.{inl, inr, Some, None, refl, sym, ap, subst, ◌∙◌, arith}
use Rattle.std.proofs.lemmas.List.{length-map, get_or-map}
use Rattle.std.specs.Prelude.{slice_get}
use Rattle.std.specs.declared.vec.Vec.{Vec}
use Rattle.std.specs.declared.alloc.Global.{Global}
use Rattle.std.proofs.lemmas.Option.{slice_get_within}
use Rattle.foundation.proofs.Comparisons.{lt_or_is}
use Rattle.foundation.proofs.Options.{same_some}
use Rattle.arm_value.specs.Json.{Json}
use Rattle.arm_value.specs.View.{json}
use Rattle.arm_value.specs.declared.value.Value.{Value}
use Rattle.arm_eval.specs.Trees.{tree_value}
use Rattle.reading.specs.Knowledge.{Told, value, told}
use Rattle.deploy_cells.specs.Cells.{Step, step, Position, Cell}
use Rattle.deploy_cells.specs.Guarded.{Reads}
use Rattle.plan_cells.specs.Known as knowing
use Rattle.plan_cells.specs.Meaning.{Deployment}
use Rattle.plan_cells.specs.Resources.{Listed}
use Rattle.plan_cells.specs.Scopes.{resource_of}
use Rattle.plan_cells.specs.Sites.{reading_at, body_site}
use Rattle.plan_cells.specs.Needs.{started}
use Rattle.plan_cells.specs.Resources.{nested_in}
use Rattle.plan_cells.specs.Tasks.{enter}
use Rattle.plan_codes.specs.TaskCodes.{AreRead, IsDepending, AreDepending}
use Rattle.plan_table.specs.declared.table.Table.{Table}
use Rattle.plan_table.specs.Lines.{line_at}
use Rattle.plan_table.specs.Whole.{whole_of, scopes_of}
use Rattle.plan_table.specs.Found.{scope_at}
use Rattle.plan_table.proofs.SpotLemmas.{got}
use Rattle.plan_tasks.specs.InOrder.{is_in}
use Rattle.plan_tasks.specs.Start.{start_of, task_of, IsInstance, IsFound, IsTaskOf}
use Rattle.plan_tasks.specs.declared.task.ScopeTask.{ScopeTask}
use Rattle.plan_tasks.specs.declared.task.ScopeTask.TheVariants.{Enter, Put}
use Rattle.plan_tasks.specs.declared.instance.Found.{Found}
use Rattle.plan_tasks.specs.declared.instance.Found.TheVariants.{LeftAway, Resource, Scope}
use Rattle.argument_faults.specs.Lists.{values_in}
use Rattle.argument_faults.specs.Needs.{AreElements}
use Rattle.plan_openers.specs.declared.opener.Opener.{Opener}
use Rattle.plan_faults.specs.Known.{IsElementAt}
use Rattle.plan_faults.specs.Dependencies.{is_title_at, IsNamed, IsUnknown, IsAmbiguous}
use Rattle.argument_faults.proofs.LineLemmas.{condition_line}
use Rattle.dependency_faults.specs.Met.{IsMet, AreMet, IsReadAt, IsLineMet}

-- ---- of one instance

-- the value at a number of these is met
abbrev pub IsMetAt : Table → Position → List Json → ℕ → Type 0
IsMetAt t p vs k = (v : Json) → slice_get vs k ≡ Some v → IsMet t p v

abbrev pub MetBefore : Table → Position → List Json → ℕ → Type 0
MetBefore t p vs n = (k : ℕ) → k < n → IsMetAt t p vs k

pub none_before : (t : Table) (p : Position) (vs : List Json) → MetBefore t p vs 0
none_before t p vs k h = absurd (omega (arith, h))

pub met_more : (t : Table) (p : Position) (vs : List Json) (n : ℕ) (v : Json) → slice_get vs n ≡ Some v
    → MetBefore t p vs n → IsMet t p v → MetBefore t p vs (n + 1)
met_more t p vs n v e before m k h w g =
    elim (lt_or_is k n h) [
      | inl l ↦ before k l w g
      | inr same ↦ subst (IsMet t p) (same_some (sym e ∙ ap (slice_get vs) (sym same) ∙ g)) m
    ]

-- an element that is read has its value
record HasRead (d : Deployment) (q : knowing.Table) (p : Position) (s : Step) (j : Json) (vs : List Json) (k : ℕ)
    : Type 0 where
  given : Json
  has : slice_get vs k ≡ Some given
  is : told q (reading_at d.template d.place (body_site d.template p s) (tree_value j)) ≡ value given

read_at : (d : Deployment) (q : knowing.Table) (p : Position) (s : Step) (js vs : List Json) (k : ℕ) (j : Json)
    → AreRead d q p s js vs → slice_get js k ≡ Some j → HasRead d q p s j vs k
read_at d q p s [] [] k j a e = let no : None ≡ Some j = e in absurd (cc)
read_at d q p s [] (v ∷ vs) k j a e = absurd a
read_at d q p s (i ∷ js) [] k j a e = absurd a
read_at d q p s (i ∷ js) (v ∷ vs) zero j a e = record {
  given = v;
  has = refl;
  is =
      subst (λ y. told q (reading_at d.template d.place (body_site d.template p s) (tree_value y)) ≡ value v)
      (same_some e) a.0;
}
read_at d q p s (i ∷ js) (v ∷ vs) (suc k) j a e =
    let r = read_at d q p s js vs k j a.1 e in record { given = r.given; has = r.has; is = r.is }

-- the other way round: what has a value is an element
record IsOfTree (d : Deployment) (q : knowing.Table) (p : Position) (s : Step) (js : List Json) (v : Json) (k : ℕ)
    : Type 0 where
  tree : Json
  has : slice_get js k ≡ Some tree
  is : told q (reading_at d.template d.place (body_site d.template p s) (tree_value tree)) ≡ value v

tree_at : (d : Deployment) (q : knowing.Table) (p : Position) (s : Step) (js vs : List Json) (k : ℕ) (v : Json)
    → AreRead d q p s js vs → slice_get vs k ≡ Some v → IsOfTree d q p s js v k
tree_at d q p s [] [] k v a e = let no : None ≡ Some v = e in absurd (cc)
tree_at d q p s [] (w ∷ vs) k v a e = absurd a
tree_at d q p s (i ∷ js) [] k v a e = absurd a
tree_at d q p s (i ∷ js) (w ∷ vs) zero v a e = record { tree = i; has = refl; is = a.0 ∙ ap value (same_some e) }
tree_at d q p s (i ∷ js) (w ∷ vs) (suc k) v a e =
    let r = tree_at d q p s js vs k v a.1 e in record { tree = r.tree; has = r.has; is = r.is }

-- a value that was read from a list
pub value_read : (vs : List Value) (n : ℕ) (v : Value) → n < length vs → v ≡ get_or vs n v
    → slice_get (map json vs) n ≡ Some (json v)
value_read vs n v h e =
    let l = length-map vs json in
    got (map json vs) n (json v) (omega (arith, l, h)) ∙ ap Some (get_or-map json vs n v (json v) h ∙ ap json (sym e))

pub is_read : (t : Table) (x : Opener) (vs : List Json) (k : ℕ) (v : Json)
    → IsDepending (whole_of t) (start_of t) ((scope_at t x.frame).position, step x.resource x.copy) vs
    → slice_get vs k ≡ Some v → IsReadAt t x k v
is_read t x vs k v a e =
    let r =
    tree_at (whole_of t) (start_of t) (scope_at t x.frame).position (step x.resource x.copy)
    a.listed.declaration.depends_on vs k v a.are_read e in
    record { listed = a.listed; is_listed = a.is_listed; tree = r.tree; has = r.has; is = r.is }

module _ (t : Table) (p : Position) (s : Step) (vs : List Json)
    (a : IsDepending (whole_of t) (start_of t) (p, s) vs) (n : ℕ) (long : length vs ≤ n)
    (met : MetBefore t p vs n) where
  abbrev d : Deployment
  d = whole_of t

  abbrev q : knowing.Table
  q = start_of t

  value_is : (o : Told Cell Json) (v w : Json) → o ≡ value v → o ≡ value w → v ≡ w
  value_is o v w e g = let h : value v ≡ value w = sym e ∙ g in cc

  -- the value of an element of the instance is met
  element_met : (path : List ℕ) (r : Reads Json) (e : IsElementAt d path r) (v : Json) → told q r ≡ value v
      → e.position ≡ p → e.instance ≡ s → IsMet t p v
  element_met path r e v h i j =
      let listed : resource_of d.template p s.resource ≡ Some e.listed =
      subst (λ y. resource_of d.template y s.resource ≡ Some e.listed) i
      (subst (λ (y : Step). resource_of d.template e.position y.resource ≡ Some e.listed) j e.is_listed) in
      let same : a.listed ≡ e.listed = same_some (sym a.is_listed ∙ listed) in
      let has : slice_get a.listed.declaration.depends_on e.number ≡ Some e.tree =
      ap (λ (y : Listed). slice_get y.declaration.depends_on e.number) same ∙ e.has in
      let here = read_at d q p s a.listed.declaration.depends_on vs e.number e.tree a.are_read has in
      let is : told q (reading_at d.template d.place (body_site d.template p s) (tree_value e.tree)) ≡ value v =
      subst (λ y. told q (reading_at d.template d.place (body_site d.template y s) (tree_value e.tree)) ≡ value v) i
      (subst (λ y. told q (reading_at d.template d.place (body_site d.template e.position y) (tree_value e.tree))
      ≡ value v) j (ap (told q) e.is ∙ h)) in
      let within = slice_get_within vs e.number here.given here.has in
      subst (IsMet t p) (value_is _ here.given v here.is is)
      (met e.number (omega (arith, within, long)) here.given here.has)

  pub all_met : AreMet t p s
  all_met = record {
    known = λ path u i j.
        let m = element_met path u.reading u.is_element u.given u.has i j in
        m.some (subst (λ y. is_title_at d q y u.given ≡ false) i u.no_title) (λ w k.
        λ z. u.no_instance w k (subst (λ y. IsNamed d q y u.given w k) (sym i) z));
    one = λ path u i j.
        let m = element_met path u.reading u.is_element u.given u.has i j in
        true≢false
        (sym (m.one (subst (λ y. is_title_at d q y u.given ≡ false) i u.no_title) u.one u.other u.one_key u.other_key
        (subst (λ y. IsNamed d q y u.given u.one u.one_key) i u.is_one)
        (subst (λ y. IsNamed d q y u.given u.other u.other_key) i u.is_other)) ∙ u.differ);
  }

-- an instance that is left away has no such fault
pub left_away_met : (t : Table) (p : Position) (s : Step) → is_in (start_of t) p s ≡ false → AreMet t p s
left_away_met t p s e = record {
  known = λ path u i j. true≢false
      (sym (subst (λ y. is_in (start_of t) y s ≡ true) i
      (subst (λ y. is_in (start_of t) u.is_element.position y ≡ true) j u.is_included)) ∙ e);
  one = λ path u i j. true≢false
      (sym (subst (λ y. is_in (start_of t) y s ≡ true) i
      (subst (λ y. is_in (start_of t) u.is_element.position y ≡ true) j u.is_included)) ∙ e);
}

-- ---- of what one task starts

pub first_read : (t : Table) (u : ScopeTask) (vss : List (Vec Value Global)) (own : Vec Value Global)
    → AreElements t (u ∷ []) (values_in vss) → slice_get vss 0 ≡ Some own
    → AreDepending (whole_of t) (start_of t) (started (task_of (scopes_of t) u)) (map json own.items)
first_read t u [] own a e = absurd a
first_read t u (v ∷ []) own a e =
    subst (λ (w : Vec Value Global). AreDepending (whole_of t) (start_of t) (started (task_of (scopes_of t) u))
    (map json w.items)) (same_some e) a.0
first_read t u (v ∷ w ∷ vss) own a e = absurd a.1

pub none_read : (t : Table) (u : ScopeTask) (vss : List (Vec Value Global)) → AreElements t (u ∷ []) (values_in vss)
    → slice_get vss 0 ≡ None → ⊥
none_read t u [] a e = a
none_read t u (v ∷ vss) a e = let no : Some v ≡ None = e in cc

-- ---- what an instance is

pub put_task : (t : Table) (f r i : ℕ) (h : IsInstance t f r i) (x : Found) → x ≡ Resource
    → IsFound t f r i h.number.listed x → IsTaskOf t (Put f r i)
put_task t f r i h x e a =
    let b = subst (IsFound t f r i h.number.listed) e a in
    (h, λ y g. subst (λ (z : Listed). nested_in z.content ≡ None) (same_some (sym h.number.has ∙ g)) b.1)

pub put_included : (t : Table) (f r i : ℕ) (h : IsInstance t f r i) (x : Found) → x ≡ Resource
    → IsFound t f r i h.number.listed x → is_in (start_of t) (scope_at t f).position (step r i) ≡ true
put_included t f r i h x e a = (subst (IsFound t f r i h.number.listed) e a).0

pub enter_task : (t : Table) (f r i g : ℕ) (h : IsInstance t f r i) (x : Found) → x ≡ Scope g
    → IsFound t f r i h.number.listed x → IsTaskOf t (Enter g)
enter_task t f r i g h x e a = (subst (IsFound t f r i h.number.listed) e a).1.1.1.there

pub enter_included : (t : Table) (f r i g : ℕ) (h : IsInstance t f r i) (x : Found) → x ≡ Scope g
    → IsFound t f r i h.number.listed x → is_in (start_of t) (scope_at t f).position (step r i) ≡ true
enter_included t f r i g h x e a = (subst (IsFound t f r i h.number.listed) e a).0

pub enter_started : (t : Table) (f r i g : ℕ) (h : IsInstance t f r i) (x : Found) → x ≡ Scope g
    → IsFound t f r i h.number.listed x
    → started (task_of (scopes_of t) (Enter g)) ≡ Some ((scope_at t f).position, step r i)
enter_started t f r i g h x e a =
    ap (λ p. started (enter p)) (subst (IsFound t f r i h.number.listed) e a).1.1.1.position

pub left_away : (t : Table) (f r i : ℕ) (h : IsInstance t f r i) (x : Found) → x ≡ LeftAway
    → IsFound t f r i h.number.listed x → AreMet t (scope_at t f).position (step r i)
left_away t f r i h x e a =
    left_away_met t (scope_at t f).position (step r i) (subst (IsFound t f r i h.number.listed) e a)

-- ---- of all lines

abbrev pub LinesMet : Table → ℕ → Type 0
LinesMet t n = (at : ℕ) → at < n → IsLineMet t (line_at t.lines.items at).spot

pub no_lines : (t : Table) → LinesMet t 0
no_lines t at h = absurd (omega (arith, h))

pub one_line : (t : Table) (n : ℕ) → LinesMet t n → IsLineMet t (line_at t.lines.items n).spot → LinesMet t (n + 1)
one_line t n before m at h =
    elim (lt_or_is at n h) [
      | inl l ↦ before at l
      | inr same ↦ subst (λ k. IsLineMet t (line_at t.lines.items k).spot) (sym same) m
    ]

module _ (t : Table) (met : LinesMet t (length t.lines.items)) where
  of_instance : (p : Position) (s : Step) → is_in (start_of t) p s ≡ true → AreMet t p s
  of_instance p s e =
      let l = condition_line t p s e in
      subst (λ y. AreMet t y s) l.at (subst (IsLineMet t) l.is (met l.line l.listed))

  pub none_unknown : (path : List ℕ) → IsUnknown (whole_of t) (start_of t) path → ⊥
  none_unknown path u =
      (of_instance u.is_element.position u.is_element.instance u.is_included).known path u refl refl

  pub none_ambiguous : (path : List ℕ) → IsAmbiguous (whole_of t) (start_of t) path → ⊥
  none_ambiguous path u =
      (of_instance u.is_element.position u.is_element.instance u.is_included).one path u refl refl
