-- What the lines of a filled table say of instances.
use Rattle.std.proofs.Common.{◌≡◌, inl, inr, ℕ, zero, suc, ◌+◌, ◌<◌, Bool, true, false, true≢false, List, [], ◌∷◌}
use Rattle.std.proofs.Common.{length, get_or, Option}
use Rattle.std.proofs.Common.{Some, None, refl, sym, ap, subst, ◌∙◌, arith}
use Rattle.std.proofs.lemmas.List.{length-map, get_or_default}
use Rattle.std.specs.Prelude.{slice_get, option_map, option_and_then, MatchOption, if◌then◌else◌}
use Rattle.reading.specs.Knowledge.{known_value}
use Rattle.template_tree.specs.Tree.{TemplateTree}
use Rattle.deploy_cells.specs.Cells.{Step, step, Position, Cell, count, included, copies}
use Rattle.plan_cells.specs.Resources as cells
use Rattle.plan_cells.specs.Resources.{Nested, nested_in, nested_at, resource_at, resources_in, unless_existing}
use Rattle.plan_cells.specs.Scopes.{template_at}
use Rattle.plan_table.specs.Rows.{Row, row_at, status_of, known_by, AreDistinct}
use Rattle.plan_table.specs.Final.{or_unlisted}
use Rattle.plan_table.proofs.RowLemmas.{status_found}
use Rattle.plan_table.specs.declared.frame.Frame.{Frame}
use Rattle.plan_table.specs.declared.line.Line.{Line}
use Rattle.plan_table.specs.declared.line.Spot.{Spot}
use Rattle.plan_table.specs.declared.line.Spot.TheVariants.{Count, Included}
use Rattle.plan_table.specs.declared.line.Spot.TheVariants as spotted
use Rattle.plan_table.specs.declared.line.State.{State}
use Rattle.plan_table.specs.declared.line.State.TheVariants as how
use Rattle.plan_table.specs.declared.table.Table.{Table}
use Rattle.plan_table.specs.Opened.{Opened, opened_of, opened_at, IsKept, IsAround}
use Rattle.plan_table.specs.Lines.{frame_of, cell_in, cell_of, IsNumber, status_in, row_of, line_at}
use Rattle.plan_table.specs.Laid.{OpensBy, IsOpened}
use Rattle.plan_table.specs.Whole.{whole_of, scopes_of, rows_in}
use Rattle.plan_table.specs.Found.{scope_at, IsLineOf, state_at, Counts}
use Rattle.plan_table.specs.Listed.{listed_of}
use Rattle.plan_table.proofs.FrameLemmas.{frame_is}
use Rattle.plan_table.proofs.LaidLemmas.{row_here, length_rows}
use Rattle.plan_table.proofs.HaltLemmas.{one_scope}
use Rattle.plan_tasks.specs.declared.instance.Found.{Found}
use Rattle.plan_tasks.specs.Answered.{is_answered}
use Rattle.plan_tasks.specs.InOrder.{copies_in, is_in}
use Rattle.plan_tasks.specs.Start.{start_of, IsStartTable, copies_of, IsInstance, IsScopeOf, IsFound, found_by}
use Rattle.foundation.proofs.Comparisons.{lt_or_is}
use Rattle.arm_value.specs.Kinds.{is_true}

-- ---- lines

-- what is known of a cell is what its line says
pub line_known : (t : Table) (f : ℕ) (c : Cell) (j : ℕ) → AreDistinct (rows_in t) → IsLineOf t f c j
    → start_of t c ≡ known_by (Some (status_in (state_at t j)))
line_known t f c j a l =
    let n = length_rows (scopes_of t) t.lines.items in
    let h = l.listed in
    let row : row_at (rows_in t) j ≡ row_of (scopes_of t) (line_at t.lines.items j) =
    row_here (scopes_of t) t.lines.items j h in
    let e : status_of (rows_in t) c ≡ Some (status_in (state_at t j)) =
    ap (status_of (rows_in t)) (sym (ap (λ (r : Row). r.cell) row ∙ l.is))
    ∙ status_found (rows_in t) j a (omega (arith, n, h)) ∙ ap (λ (r : Row). Some r.status) row in
    ap (or_unlisted (status_of (rows_in t)) c) e

one_listed : (xs : List cells.Listed) (r : ℕ) (x y : cells.Listed) → slice_get xs r ≡ Some x → slice_get xs r ≡ Some y
    → x ≡ y
one_listed xs r x y e f = let g : Some x ≡ Some y = sym e ∙ f in cc

-- ---- counts

pub copies_found : (t : Table) (f r j n : ℕ) → IsStartTable t → IsLineOf t f (count (scope_at t f).position r) j
    → n ≡ copies (known_value (known_by (Some (status_in (state_at t j))))) → (x : cells.Listed)
    → slice_get (scope_at t f).resources r ≡ Some x → n ≡ copies_of t f r x
copies_found t f r j n s l e x h =
    let same : x ≡ l.has.listed = one_listed (scope_at t f).resources r x l.has.listed h l.has.has in
    let put : x.declaration.existing ≡ false =
    ap (λ (y : cells.Listed). y.declaration.existing) same ∙ l.has.is_put in
    e ∙ ap (λ k. copies (known_value k)) (sym (line_known t f (count (scope_at t f).position r) j
    s.filled.sound.distinct l))
    ∙ ap (λ b. if b then 0 else copies_in (start_of t) (scope_at t f).position r) (sym put)

pub copies_missing : (t : Table) (f r : ℕ) → (IsNumber (scope_at t f) r → ⊥) → (x : cells.Listed)
    → slice_get (scope_at t f).resources r ≡ Some x → 0 ≡ copies_of t f r x
copies_missing t f r n x h = by_test x.declaration.existing refl
  where
    by_test : (b : Bool) → x.declaration.existing ≡ b
        → 0 ≡ (if b then 0 else copies_in (start_of t) (scope_at t f).position r)
    by_test true e = refl
    by_test false e = absurd (n (record { listed = x; has = h; is_put = e }))

-- an instance is of a resource that is not existing
pub copies_within : (t : Table) (f r n i : ℕ) (x : cells.Listed) → f < length t.frames.items
    → slice_get (scope_at t f).resources r ≡ Some x → n ≡ copies_of t f r x → i < n → IsInstance t f r i
copies_within t f r n i x h s e l = by_test x.declaration.existing refl (e ∙ refl)
  where
    by_test : (b : Bool) → x.declaration.existing ≡ b
        → n ≡ (if x.declaration.existing then 0 else copies_in (start_of t) (scope_at t f).position r)
        → IsInstance t f r i
    by_test true k m =
        let z : n ≡ 0 = m ∙ ap (λ b. if b then 0 else copies_in (start_of t) (scope_at t f).position r) k in
        absurd (omega (arith, z, l))
    by_test false k m =
        let z : n ≡ copies_in (start_of t) (scope_at t f).position r =
        m ∙ ap (λ b. if b then 0 else copies_in (start_of t) (scope_at t f).position r) k in
        record { there = h; number = record { listed = x; has = s; is_put = k }; within = omega (arith, z, l) }

-- ---- the count of an instance

counts_by : (i : ℕ) (x : State) → i < copies (known_value (known_by (Some (status_in x)))) → Counts i x
counts_by i (how.Value v) h = h
counts_by i how.New h = absurd (omega (arith, h))
counts_by i how.Open h = absurd (omega (arith, h))
counts_by i how.Empty h = absurd (omega (arith, h))
counts_by i (how.Late k) h = absurd (omega (arith, h))

pub instance_listed : (t : Table) (f r i : ℕ) → IsStartTable t → IsInstance t f r i
    → ((j : ℕ) → IsLineOf t f (count (scope_at t f).position r) j → Counts i (state_at t j) → ⊥) → ⊥
instance_listed t f r i s h none =
    let there = h.there in
    let m = length-map t.frames.items opened_of in
    let a = s.laid.cells f (omega (arith, there, m)) (Count f r) refl tt h.number in
    let l : IsLineOf t f (count (scope_at t f).position r) a.line = record {
      listed = a.listed;
      frame = ap frame_of a.is;
      is = ap (cell_of (scopes_of t)) a.is;
      has = h.number;
    } in
    let known = line_known t f (count (scope_at t f).position r) a.line s.filled.sound.distinct l in
    none a.line l (counts_by i (state_at t a.line)
    (subst (λ n. i < n) (ap (λ k. copies (known_value k)) known) h.within))

-- ---- conditions

pub step_in : Cell → Step
step_in (included p s) = s
step_in _ = step 0 0

is_spot : (o : Opened) (s : Spot) (f r i : ℕ) → frame_of s ≡ f → cell_in o s ≡ included o.position (step r i)
    → s ≡ Included f r i
unfolding step_in
is_spot o (Included g q k) f r i e c =
    λ j. Included (e j) (ap (λ x. (step_in x).resource) c j) (ap (λ x. (step_in x).copy) c j)
is_spot o (Count g q) f r i e c = cc
is_spot o (spotted.Parameter g n) f r i e c = cc
is_spot o (spotted.Variable g n) f r i e c = cc
is_spot o (spotted.Offered g n) f r i e c = cc
is_spot o (spotted.Output g n) f r i e c = cc
is_spot o (spotted.Name g q k) f r i e c = cc
is_spot o (spotted.Deployments g) f r i e c = cc

-- what a condition that is true opened
opened_by : (os : List Opened) (ls : List Line) (g f r i : ℕ) (x : State) (n : Nested)
    → OpensBy os ls g (Included f r i) x → is_true (known_value (known_by (Some (status_in x)))) ≡ true
    → nested_at (opened_at os f).template r ≡ Some n → IsOpened os g f r i
opened_by os ls g f r i (how.Value v) n o e h = o e n h
opened_by os ls g f r i how.New n o e h = absurd (true≢false (sym e))
opened_by os ls g f r i how.Open n o e h = absurd (true≢false (sym e))
opened_by os ls g f r i how.Empty n o e h = absurd (true≢false (sym e))
opened_by os ls g f r i (how.Late k) n o e h = absurd (true≢false (sym e))

nested_of : (u : TemplateTree) (xs : List cells.Listed) (r : ℕ) (x : cells.Listed) (n : Nested) → xs ≡ resources_in u
    → slice_get xs r ≡ Some x → x.declaration.existing ≡ false → nested_in x.content ≡ Some n
    → nested_at u r ≡ Some n
unfolding resource_at
nested_of u xs r x n e h p c =
    ap (λ ys. option_and_then (λ (y : cells.Listed). nested_in y.content) (option_and_then unless_existing
    (slice_get ys r))) (sym e)
    ∙ ap (λ o. option_and_then (λ (y : cells.Listed). nested_in y.content) (option_and_then unless_existing o)) h
    ∙ ap (λ b. option_and_then (λ (y : cells.Listed). nested_in y.content) (if b then None else Some x)) p ∙ c

template_inside : (u : TemplateTree) (p : Position) (r i : ℕ) (v : TemplateTree) (n : Nested)
    → template_at u p ≡ Some v → nested_at v r ≡ Some n → template_at u (step r i ∷ p) ≡ Some n.template
unfolding template_at
template_inside u p r i v n e h =
    ap (λ o. option_map (λ (m : Nested). m.template) (option_and_then (λ w. nested_at w r) o)) e
    ∙ ap (option_map (λ (m : Nested). m.template)) h

around_by : (os : List Opened) (g : ℕ) (o : Opened) (p q : Position) (r i : ℕ) → IsAround os g o q
    → q ≡ step r i ∷ p → (o.around < g) × ((opened_at os o.around).position ≡ p)
around_by os g o p q r i a e = subst (λ x. IsAround os g o x) e a

scope_found : (t : Table) (f r i j : ℕ) (n : Nested) → IsStartTable t → IsInstance t f r i
    → IsLineOf t f (included (scope_at t f).position (step r i)) j
    → is_true (known_value (known_by (Some (status_in (state_at t j))))) ≡ true
    → nested_at (scope_at t f).template r ≡ Some n → IsScopeOf t f r i (line_at t.lines.items j).opened n
scope_found t f r i j n s h l e c =
    let os = scopes_of t in
    let g = (line_at t.lines.items j).opened in
    let m = length-map t.frames.items opened_of in
    let there = h.there in
    let y : Spot = (line_at t.lines.items j).spot in
    let spot : y ≡ Included f r i = is_spot (scope_at t f) y f r i l.frame
    (ap (λ k. cell_in (scope_at t k) y) (sym l.frame) ∙ l.is) in
    let o : IsOpened os g f r i = opened_by os t.lines.items g f r i (state_at t j) n
    (subst (λ z. OpensBy os t.lines.items g z (state_at t j)) spot (s.laid.opens j l.listed)) e c in
    let inside = o.there in
    let k : IsKept (whole_of t) os g (opened_at os g) = s.laid.kept g inside in
    let a = around_by os g (opened_at os g) (scope_at t f).position (opened_at os g).position r i k.around o.position in
    let less = a.0 in
    let same : (opened_at os g).around ≡ f = one_scope (whole_of t) os t.index t.lines.items s.laid
    s.filled.sound.distinct (opened_at os g).around f (omega (arith, less, inside)) (omega (arith, there, m)) a.1 in
    let up : IsKept (whole_of t) os f (opened_at os f) = s.laid.kept f (omega (arith, there, m)) in
    let two : Some (opened_at os g).template ≡ Some n.template =
    sym k.template ∙ ap (template_at (whole_of t).template) o.position
    ∙ template_inside (whole_of t).template (scope_at t f).position r i (scope_at t f).template n up.template c in
    record {
      there = omega (arith, inside, m);
      later = omega (arith, same, less);
      position = o.position;
      template = cc;
    }

pub is_found : (t : Table) (f r i j : ℕ) (x : cells.Listed) → IsStartTable t → IsInstance t f r i
    → IsLineOf t f (included (scope_at t f).position (step r i)) j
    → is_true (known_value (known_by (Some (status_in (state_at t j))))) ≡ true
    → slice_get (scope_at t f).resources r ≡ Some x
    → IsFound t f r i x (found_by (nested_in x.content) (line_at t.lines.items j).opened)
is_found t f r i j x s h l e a = by_content (nested_in x.content) refl
  where
    known : is_in (start_of t) (scope_at t f).position (step r i) ≡ true
    known =
        ap (λ k. is_true (known_value k)) (line_known t f (included (scope_at t f).position (step r i)) j
        s.filled.sound.distinct l) ∙ e

    kept : IsKept (whole_of t) (scopes_of t) f (scope_at t f)
    kept = s.laid.kept f (let there = h.there in let m = length-map t.frames.items opened_of in omega (arith, there, m))

    put : x.declaration.existing ≡ false
    put =
        ap (λ (y : cells.Listed). y.declaration.existing)
        (one_listed (scope_at t f).resources r x h.number.listed a h.number.has) ∙ h.number.is_put

    by_content : (o : Option Nested) → nested_in x.content ≡ o
        → IsFound t f r i x (found_by o (line_at t.lines.items j).opened)
    by_content None c = (known, c)
    by_content (Some n) c = (
      known,
      (
        n,
        (
          c,
          scope_found t f r i j n s h l e
              (nested_of (scope_at t f).template (scope_at t f).resources r x n kept.resources a put c),
        ),
      ),
    )

pub is_left_away : (t : Table) (f r i j : ℕ) → IsStartTable t
    → IsLineOf t f (included (scope_at t f).position (step r i)) j
    → is_true (known_value (known_by (Some (status_in (state_at t j))))) ≡ false
    → is_in (start_of t) (scope_at t f).position (step r i) ≡ false
is_left_away t f r i j s l e =
    ap (λ k. is_true (known_value k)) (line_known t f (included (scope_at t f).position (step r i)) j
    s.filled.sound.distinct l) ∙ e

-- ---- what the code reads

pub line_there : (P : ℕ → Type 0) (o : Option ℕ) (j : ℕ) → o ≡ Some j → MatchOption o (Unit {0}) P → P j
line_there P o j e h = subst (λ x. MatchOption x (Unit {0}) P) e h

pub no_line : (P : Type 0) (o : Option ℕ) → o ≡ None → MatchOption o P (λ _. Unit {0}) → P
no_line P o e h = subst (λ x. MatchOption x P (λ _. Unit {0})) e h

pub line_is : (ls : List Line) (j : ℕ) (l : Line) → j < length ls → l ≡ get_or ls j l → line_at ls j ≡ l
line_is ls j l h e = get_or_default ls j _ l h ∙ sym e

-- whether the row of a line is answered
pub row_answered : (t : Table) (j : ℕ) (l : Line) (b : Bool) → j < length t.lines.items → l ≡ get_or t.lines.items j l
    → ((os : List Opened) → b ≡ is_answered (row_of os l)) → is_answered (row_at (rows_in t) j) ≡ b
row_answered t j l b h e g =
    ap is_answered (row_here (scopes_of t) t.lines.items j h
    ∙ ap (row_of (scopes_of t)) (line_is t.lines.items j l h e))
    ∙ sym (g (scopes_of t))

-- the count by the line that was found
pub copies_by_line : (t : Table) (f r j n : ℕ) (l : Line) → IsStartTable t
    → IsLineOf t f (count (scope_at t f).position r) j → l ≡ get_or t.lines.items j l
    → n ≡ copies (known_value (known_by (Some (status_in l.state)))) → (x : cells.Listed)
    → slice_get (scope_at t f).resources r ≡ Some x → n ≡ copies_of t f r x
copies_by_line t f r j n l s h e g =
    copies_found t f r j n s h
    (g ∙ ap (λ (m : Line). copies (known_value (known_by (Some (status_in m.state)))))
    (sym (line_is t.lines.items j l h.listed e)))

-- what an instance is by the line of its condition
pub found_by_line : (t : Table) (f r i j : ℕ) (x : cells.Listed) (l m : Line) (a : Found) → IsStartTable t
    → IsInstance t f r i → IsLineOf t f (included (scope_at t f).position (step r i)) j → l ≡ get_or t.lines.items j l
    → m ≡ get_or t.lines.items j m → true ≡ is_true (known_value (known_by (Some (status_in l.state))))
    → slice_get (scope_at t f).resources r ≡ Some x → a ≡ found_by (nested_in x.content) m.opened
    → IsFound t f r i x a
found_by_line t f r i j x l m a s h k e g y z w =
    subst (λ b. IsFound t f r i x b)
    (ap (λ (n : Line). found_by (nested_in x.content) n.opened) (line_is t.lines.items j m k.listed g) ∙ sym w)
    (is_found t f r i j x s h k
    (ap (λ (n : Line). is_true (known_value (known_by (Some (status_in n.state)))))
    (line_is t.lines.items j l k.listed e)
    ∙ sym y) z)

pub left_by_line : (t : Table) (f r i j : ℕ) (l : Line) → IsStartTable t
    → IsLineOf t f (included (scope_at t f).position (step r i)) j → l ≡ get_or t.lines.items j l
    → false ≡ is_true (known_value (known_by (Some (status_in l.state))))
    → is_in (start_of t) (scope_at t f).position (step r i) ≡ false
left_by_line t f r i j l s k e y =
    is_left_away t f r i j s k
    (ap (λ (n : Line). is_true (known_value (known_by (Some (status_in n.state)))))
    (line_is t.lines.items j l k.listed e)
    ∙ sym y)

-- one line more is answered
pub answered_more : (t : Table) (at : ℕ) (l : Line) (b : Bool) → at < length t.lines.items
    → l ≡ get_or t.lines.items at l → ((os : List Opened) → b ≡ is_answered (row_of os l)) → b ≡ true
    → ((i : ℕ) → i < at → is_answered (row_at (rows_in t) i) ≡ true)
    → (i : ℕ) → i < at + 1 → is_answered (row_at (rows_in t) i) ≡ true
answered_more t at l b h e g y a i k =
    elim (lt_or_is i at k) [
      | inl lt ↦ a i lt
      | inr is ↦ ap (λ (j : ℕ). is_answered (row_at (rows_in t) j)) is ∙ row_answered t at l b h e g ∙ y
    ]

-- how many resources the code of a scope has
pub resources_count : (t : Table) (f n : ℕ) (fr : Frame) → f < length t.frames.items → fr ≡ get_or t.frames.items f fr
    → n ≡ length fr.resources.items → n ≡ length (scope_at t f).resources
resources_count t f n fr h e g =
    g ∙ sym (length-map fr.resources.items listed_of)
    ∙ ap (λ (o : Opened). length o.resources) (sym (frame_is t.frames.items f fr h e))
