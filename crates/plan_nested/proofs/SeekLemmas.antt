-- What is found among nested deployments, the scope that it opened, and how scopes lie around one another.
use Rattle.std.proofs.Common.{◌≡◌, ℕ, zero, suc, ◌+◌, ◌<◌, Bool, true, false, not, List, [], ◌∷◌, length, Option, Some}
use Rattle.std.proofs.Common.{None, Result, Ok, Err, refl, sym, ap, subst, ◌∙◌, arith, map, get_or, IfOk}
use Rattle.std.proofs.lemmas.List.{get_or_read}
use Rattle.std.specs.Prelude.{slice_get, option_and_then, is_some, if◌then◌else◌, MatchOption}
use Rattle.foundation.proofs.Options.{some_there}
use Rattle.arm_value.specs.Json.{Json, bool}
use Rattle.arm_value.specs.View.{json}
use Rattle.arm_value.specs.declared.value.Value as values
use Rattle.reading.specs.Reading.{pure, read, continued}
use Rattle.reading.specs.Knowledge.{Known, known, Told, value, told, and_then}
use Rattle.reading.proofs.Parts.{told-continued}
use Rattle.deploy_cells.specs.Cells.{Step, step, Position, Cell, parent, count, included, deployments, copies}
use Rattle.deploy_cells.specs.Guarded.{Reads, told_by}
use Rattle.deploy_cells.specs.Listing as listing
use Rattle.deploy_cells.specs.Listing.{IsListed, IsSought, found, sought, listing_value}
use Rattle.deploy_cells.proofs.CellLemmas.{guarded_told}
use Rattle.deploy_cells.proofs.ListingLemmas.{sought_is}
use Rattle.template_tree.specs.Tree.{TemplateTree}
use Rattle.plan_sight.specs.Resources.{Listed, Nested, nested_in, is_nested, nested_from, nested_numbers, resources_in, resource_at, nested_at, unless_existing}
use Rattle.plan_sight.specs.Scopes.{template_at, visible, is_outer, nested_of}
use Rattle.plan_sight.specs.Sites as sites
use Rattle.plan_sight.specs.Sites.{nested_numbers_at, seek, found_or, instance_of, all_but_first, is_nowhere}
use Rattle.plan_sight.specs.Meaning.{Deployment, meaning, plain, is_own}
use Rattle.plan_table.specs.Rows as rows
use Rattle.plan_table.specs.Rows.{Status, status_of, table, known_by}
use Rattle.plan_table.specs.declared.table.Table.{Table}
use Rattle.plan_table.specs.declared.line.Line.{Line}
use Rattle.plan_table.specs.declared.line.Spot.{Spot}
use Rattle.plan_table.specs.declared.line.Spot.TheVariants.{Parameter, Variable, Offered, Output, Count, Included}
use Rattle.plan_table.specs.declared.line.Spot.TheVariants.{Name, Deployments}
use Rattle.plan_table.specs.declared.line.State.{State}
use Rattle.plan_table.specs.declared.line.State.TheVariants as how
use Rattle.plan_table.specs.declared.frame.Frame.{Frame}
use Rattle.plan_table.specs.declared.listed.Listed as code
use Rattle.plan_table.specs.Listed.{listed_of}
use Rattle.plan_table.specs.Opened.{Opened, IsKept, IsAround}
use Rattle.plan_table.specs.Lines.{frame_of, cell_in, line_at, new_line, status_in, IsNumber, IsAt}
use Rattle.plan_table.specs.Laid.{IsOpened, OpensBy}
use Rattle.plan_table.specs.Whole.{whole_of, scopes_of, rows_in}
use Rattle.plan_table.specs.Found.{scope_at, IsLineOf, state_at, Counts}
use Rattle.plan_sight.specs.declared.lack.Lack.{Lack}
use Rattle.plan_sight.specs.declared.lack.Lack.TheVariants as lack
use Rattle.plan_sight.specs.Ready.{IsReady, told_in}
use Rattle.plan_sight.specs.Seen.{Stops}
use Rattle.plan_sight.proofs.LookLemmas.{cell_at, status_at, scope_is, scopes_there, frames_there}
use Rattle.plan_nested.specs.declared.seeking.Sighting.{Sighting}
use Rattle.plan_nested.specs.declared.seeking.Sighting.TheVariants as sighting
use Rattle.plan_nested.specs.Sighted as sighted
use Rattle.plan_nested.specs.Sighted.{instance_at, found_of, IsThere, HereOr, FindsIn, IsIncluded, IsFound}
use Rattle.plan_nested.specs.Sighted.{Leads}
use Rattle.plan_nested.proofs.InvertLemmas.{none_there, read_known, unguarded, deployments_told, listing_told, all_told}
use Rattle.plan_nested.proofs.InvertLemmas.{resource_told}
use Rattle.arm_value.specs.Kinds.{is_true}

-- ---- numbers of nested deployments

-- a nested deployment, by its place in a list of resources
record IsNestedAt (a : ℕ) (xs : List Listed) (r : ℕ) : Type 0 where
  place : ℕ
  listed : Listed
  number : r ≡ a + place
  has : slice_get xs place ≡ Some listed
  is : is_nested listed ≡ true

later : (a : ℕ) (x : Listed) (xs : List Listed) (r : ℕ) → IsNestedAt (suc a) xs r → IsNestedAt a (x ∷ xs) r
later a x xs r n = record {
  place = suc n.place;
  listed = n.listed;
  number = (let e = n.number in omega (arith, e));
  has = n.has;
  is = n.is;
}

by_nested : (a : ℕ) (x : Listed) (xs : List Listed) (k r : ℕ) (b : Bool) → is_nested x ≡ b
    → slice_get (if b then a ∷ nested_from (suc a) xs else nested_from (suc a) xs) k ≡ Some r
    → ((m : ℕ) → slice_get (nested_from (suc a) xs) m ≡ Some r → IsNestedAt (suc a) xs r) → IsNestedAt a (x ∷ xs) r
by_nested a x xs zero r true e h rest =
    let same : a ≡ r = cc in record { place = 0; listed = x; number = omega (arith, same); has = refl; is = e }
by_nested a x xs (suc k) r true e h rest = later a x xs r (rest k h)
by_nested a x xs k r false e h rest = later a x xs r (rest k h)

nested_place : (a : ℕ) (xs : List Listed) (k r : ℕ) → slice_get (nested_from a xs) k ≡ Some r → IsNestedAt a xs r
nested_place a [] k r h = none_there k r h
nested_place a (x ∷ xs) k r h =
    by_nested a x xs k r (is_nested x) refl h (λ m g. nested_place (suc a) xs m r g)

-- the nested deployment of a number
pub record HasNested (u : TemplateTree) (r : ℕ) : Type 0 where
  pub nested : Nested
  pub is : nested_at u r ≡ Some nested
  pub listed : Listed
  pub has : slice_get (resources_in u) r ≡ Some listed
  pub is_put : listed.declaration.existing ≡ false

by_existing : (x : Listed) (b : Bool) → x.declaration.existing ≡ b
    → (if b then false else is_some (nested_in x.content)) ≡ true
    → (x.declaration.existing ≡ false) × ((n : Nested) × (nested_in x.content ≡ Some n))
by_existing x true e h = absurd (cc)
by_existing x false e h = (e, some_there (nested_in x.content) h)

pub resource_is : (u : TemplateTree) (r : ℕ) (x : Listed) → slice_get (resources_in u) r ≡ Some x
    → x.declaration.existing ≡ false → resource_at u r ≡ Some x
unfolding resource_at
resource_is u r x h e = ap (option_and_then unless_existing) h ∙ ap (λ b. if b then None else Some x) e

has_nested : (u : TemplateTree) (r : ℕ) (x : Listed) → slice_get (resources_in u) r ≡ Some x → is_nested x ≡ true
    → HasNested u r
has_nested u r x h e =
    let n = by_existing x x.declaration.existing refl e in record {
      nested = n.1.0;
      is = ap (option_and_then (λ y. nested_in y.content)) (resource_is u r x h n.0) ∙ n.1.1;
      listed = x;
      has = h;
      is_put = n.0;
    }

pub nested_is : (u : TemplateTree) (k r : ℕ) → slice_get (nested_numbers u) k ≡ Some r → HasNested u r
nested_is u k r h =
    let n = nested_place 0 (resources_in u) k r h in
    let number = n.number in
    let same : n.place ≡ r = omega (arith, number) in
    has_nested u r n.listed (subst (λ m. slice_get (resources_in u) m ≡ Some n.listed) same n.has) n.is

-- what a nested deployment is by
put_of : (x : Listed) (b : Bool) → x.declaration.existing ≡ b → (n : Nested)
    → option_and_then (λ (y : Listed). nested_in y.content) (if b then None else Some x) ≡ Some n → b ≡ false
put_of x true e n h = absurd (cc)
put_of x false e n h = refl

number_of : (u : TemplateTree) (r : ℕ) (o : Option Listed) → slice_get (resources_in u) r ≡ o → (n : Nested)
    → option_and_then (λ (y : Listed). nested_in y.content) (option_and_then unless_existing o) ≡ Some n
    → (x : Listed) × ((slice_get (resources_in u) r ≡ Some x) × (x.declaration.existing ≡ false))
number_of u r None e n h = absurd (cc)
number_of u r (Some x) e n h = (x, (e, put_of x x.declaration.existing refl n h))

pub listed_of_nested : (u : TemplateTree) (r : ℕ) (n : Nested) → nested_at u r ≡ Some n
    → (x : Listed) × ((slice_get (resources_in u) r ≡ Some x) × (x.declaration.existing ≡ false))
unfolding resource_at
listed_of_nested u r n h = number_of u r (slice_get (resources_in u) r) refl n h

-- ---- what is known

pub by_status : (o : Option Status) (v : Json) → known_by o ≡ known v → o ≡ Some (rows.Value v)
by_status (Some (rows.Value w)) v e = let same : w ≡ v = cc in ap (λ x. Some (rows.Value x)) same
by_status (Some rows.New) v e = absurd (cc)
by_status (Some rows.Open) v e = absurd (cc)
by_status (Some rows.Empty) v e = absurd (cc)
by_status (Some (rows.Late k)) v e = absurd (cc)
by_status None v e = absurd (cc)

-- a state with a value
record HasValue (x : State) (v : Json) : Type 0 where
  value : values.Value
  state : x ≡ how.Value value
  is : json value ≡ v

state_value : (x : State) (v : Json) → status_in x ≡ rows.Value v → HasValue x v
state_value (how.Value y) v e = record { value = y; state = refl; is = (let same : json y ≡ v = cc in same) }
state_value how.New v e = absurd (cc)
state_value how.Open v e = absurd (cc)
state_value how.Empty v e = absurd (cc)
state_value (how.Late k) v e = absurd (cc)

numbers_by : (t : TemplateTree) (p : Position) (u : TemplateTree) → template_at t p ≡ Some u
    → nested_numbers_at t p ≡ nested_numbers u
numbers_by t p u e = rw e refl

pub by_guard : (q : Cell → Known Json) (d : Deployment) (c : Cell)
    → told q (meaning d c) ≡ told_by q c (parent c) (told q (plain d c))
unfolding meaning
by_guard q d c = guarded_told q c (plain d c)

instance_spot : (o : Opened) (s : Spot) (f r i : ℕ) → frame_of s ≡ f → cell_in o s ≡ included o.position (step r i)
    → s ≡ Included f r i
instance_spot o (Parameter g n) f r i e c = cc
instance_spot o (Variable g n) f r i e c = cc
instance_spot o (Offered g n) f r i e c = cc
instance_spot o (Output g n) f r i e c = cc
instance_spot o (Count g n) f r i e c = cc
instance_spot o (Included g m j) f r i e c =
    let same : step m j ≡ step r i = cc in
    let a : m ≡ r = ap (λ (s : Step). s.resource) same in let b : j ≡ i = ap (λ (s : Step). s.copy) same in cc
instance_spot o (Name g m j) f r i e c = cc
instance_spot o (Deployments g) f r i e c = cc

module _ (t : Table) (f : ℕ) (ready : IsReady t) (there : f < length (scopes_of t)) where
  abbrev d : Deployment
  d = whole_of t

  abbrev o : Opened
  o = scope_at t f

  abbrev q : Cell → Known Json
  q = table (status_of (rows_in t))

  kept : IsKept d (scopes_of t) f o
  kept = ready.laid.kept f there

  pub listing_here : (j : Json) → told q (read (deployments o.position)) ≡ value j
      → told q (listing_value o.position (nested_numbers o.template)) ≡ value j
  listing_here j e =
      let is : status_of (rows_in t) (deployments o.position) ≡ Some (rows.Value j) =
      by_status (status_of (rows_in t) (deployments o.position)) j (read_known q (deployments o.position) j e) in
      deployments_told q d o.position o.template j kept.template
      (unguarded q (deployments o.position) (parent (deployments o.position))
      (told q (plain d (deployments o.position))) j
      (sym (by_guard q d (deployments o.position))
      ∙ ready.sound.good.tells_value (deployments o.position) j is))

  -- an instance that is found in the listing is included
  pub found_is : (j : Json) (test : List ℕ → Bool) (k i : ℕ) → told q (read (deployments o.position)) ≡ value j
      → sought test j ≡ found k i → IsFound t f k i
  found_is j test k i e s =
      let l = listing_told q o.position (nested_numbers o.template) j (listing_here j e) in
      let is : IsSought test l.0 (found k i) =
      subst (λ z. IsSought test l.0 z) (ap (sought test) (sym l.1.1) ∙ s) (sought_is test l.0) in
      let listed : IsListed l.0 k i is.0 = is.1.0 in
      let a = all_told q o.position (nested_numbers o.template) l.0 k listed.of l.1.0 listed.has in
      let w = resource_told q o.position a.0 i listed.of is.0 a.1.1 listed.is is.1.1 in
      let n = nested_is o.template k a.0 a.1.0 in record {
        number = a.0;
        has = ap (λ ns. slice_get ns k) (numbers_by d.template o.position o.template kept.template) ∙ a.1.0;
        included = record {
          number = w.number;
          counted = w.counted;
          copy = w.copy;
          is_true = w.is_true;
          nested = n.nested;
          is_nested = n.is;
        };
      }

  -- what is known of the cell of a line is its value
  value_at : (c : Cell) (j : ℕ) (v : Json) → IsLineOf t f c j → q c ≡ known v → HasValue (state_at t j) v
  value_at c j v l e =
      let here : status_of (rows_in t) (cell_at t j) ≡ Some (status_in (state_at t j)) =
      status_at t j ready l.listed in
      let has : status_of (rows_in t) (cell_at t j) ≡ Some (rows.Value v) =
      ap (status_of (rows_in t)) l.is ∙ by_status (status_of (rows_in t) c) v e in
      let same : Some (status_in (state_at t j)) ≡ Some (rows.Value v) = sym here ∙ has in
      let is : status_in (state_at t j) ≡ rows.Value v = cc in state_value (state_at t j) v is

  spot_here : (j : ℕ) (c : Cell) → IsLineOf t f c j → cell_in o (line_at t.lines.items j).spot ≡ c
  spot_here j c l = ap (λ g. cell_in (scope_at t g) (line_at t.lines.items j).spot) (sym l.frame) ∙ l.is

  -- the scope that an included instance opened
  pub opened_there : (r i j : ℕ) → IsIncluded t f r i → IsLineOf t f (included o.position (step r i)) j
      → IsOpened (scopes_of t) (line_at t.lines.items j).opened f r i
  opened_there r i j n l =
      let v = value_at (included o.position (step r i)) j (bool true) l n.is_true in
      let spot : (line_at t.lines.items j).spot ≡ Included f r i =
      instance_spot o (line_at t.lines.items j).spot f r i l.frame
      (spot_here j (included o.position (step r i)) l) in
      let by_spot : OpensBy (scopes_of t) t.lines.items (line_at t.lines.items j).opened (Included f r i) (state_at
      t j) =
      subst (λ (s : Spot). OpensBy (scopes_of t) t.lines.items (line_at t.lines.items j).opened s (state_at t j)) spot
      (ready.laid.opens j l.listed) in
      let by_state : OpensBy (scopes_of t) t.lines.items (line_at t.lines.items j).opened (Included f r i)
      (how.Value v.value) =
      subst (λ (x : State). OpensBy (scopes_of t) t.lines.items (line_at t.lines.items j).opened (Included f r i) x)
      v.state by_spot in
      by_state (ap (λ x. is_true (Some x)) v.is) n.nested n.is_nested

  counts_by : (r i : ℕ) (x : State) (v : Json) → HasValue x v → i < copies (Some v) → Counts i x
  counts_by r i x v h l =
      subst (λ (y : State). Counts i y) (sym h.state) (subst (λ w. i < copies (Some w)) (sym h.is) l)

  -- the line of an instance is there, where its count is known
  pub copy_there : (r i : ℕ) → IsNumber o r → (v : Json) → q (count o.position r) ≡ known v → i < copies (Some v)
      → ((j : ℕ) → IsLineOf t f (count o.position r) j → Counts i (state_at t j) → ⊥) → ⊥
  copy_there r i number v e less never =
      let a : IsAt t.lines.items (Count f r) = ready.laid.cells f there (Count f r) refl tt number in
      let l : IsLineOf t f (count o.position r) a.line = record {
        listed = a.listed;
        frame = ap frame_of a.is;
        is = ap (λ s. cell_in (scope_at t (frame_of s)) s) a.is;
        has = number;
      } in
      never a.line l (counts_by r i (state_at t a.line) v (value_at (count o.position r) a.line v l e) less)

  pub line_there : (r i : ℕ) → IsIncluded t f r i
      → ((j : ℕ) → IsLineOf t f (count o.position r) j → Counts i (state_at t j) → ⊥) → ⊥
  line_there r i n never =
      let x = listed_of_nested o.template r n.nested n.is_nested in
      let number : IsNumber o r = record {
        listed = x.0;
        has = ap (λ xs. slice_get xs r) kept.resources ∙ x.1.0;
        is_put = x.1.1;
      } in
      copy_there r i number n.number n.counted n.copy never

  position_is : (g : ℕ) (s : Step) (p : Position) → (scope_at t g).position ≡ s ∷ p
      → instance_at (scope_at t g).position ≡ sites.instance p s
  position_is g s p e = ap instance_at e

  -- where an instance that was found leads
  pub leads : (k i g : ℕ) (n : IsFound t f k i) → IsOpened (scopes_of t) g f n.number i → Leads t f k i g
  leads k i g n h = record {
    inside = record { there = h.there; step = step n.number i; around = o.position; position = h.position };
    is = ap (λ m. instance_of o.position m i) n.has ∙ sym (ap instance_at h.position);
  }

  -- ---- the scopes around

  own_at_root : o.position ≡ [] → o.is_own ≡ true
  own_at_root e = kept.own ∙ ap (is_own d) e

  -- the scope around one that is outer
  pub record IsAroundOuter : Type 0 where
    pub less : o.around < f
    pub within : o.around < length (scopes_of t)
    pub scopes : all_but_first (visible d.template o.position) ≡ visible d.template (scope_at t o.around).position

  outer_rest : (s : Step) (p : Position) (b : Bool) → is_outer (nested_of d.template p s) ≡ b → not b ≡ false
      → (if b then visible d.template p else []) ≡ visible d.template p
  outer_rest s p true e h = refl
  outer_rest s p false e h = absurd (cc)

  visible_outer : (s : Step) (p : Position) → is_own d (s ∷ p) ≡ false
      → all_but_first (visible d.template (s ∷ p)) ≡ visible d.template p
  unfolding visible
  visible_outer s p e = outer_rest s p (is_outer (nested_of d.template p s)) refl e

  by_position : (p : Position) → o.position ≡ p → IsAround (scopes_of t) f o p → o.is_own ≡ false → IsAroundOuter
  by_position [] e a h = let own : true ≡ false = sym (own_at_root e) ∙ h in absurd (cc)
  by_position (s ∷ p) e a h =
      let less : o.around < f = a.0 in record {
        less = less;
        within = omega (arith, less, there);
        scopes = ap (λ x. all_but_first (visible d.template x)) e
            ∙ visible_outer s p (ap (is_own d) (sym e) ∙ sym kept.own ∙ h)
            ∙ ap (visible d.template) (sym a.1);
      }

  pub around_outer : o.is_own ≡ false → IsAroundOuter
  around_outer h = by_position o.position refl kept.around h

  own_rest : (s : Step) (p : Position) (b : Bool) → not b ≡ true → (if b then visible d.template p else []) ≡ []
  own_rest s p true h = absurd (cc)
  own_rest s p false h = refl

  by_own : (p : Position) → is_own d p ≡ true → all_but_first (visible d.template p) ≡ []
  unfolding visible
  by_own [] h = refl
  by_own (s ∷ p) h = own_rest s p (is_outer (nested_of d.template p s)) h

  pub around_own : o.is_own ≡ true → all_but_first (visible d.template o.position) ≡ []
  around_own h = by_own o.position (sym kept.own ∙ h)

  -- what is sought in a scope and in those around it
  pub visible_here : (p : Position) → visible d.template p ≡ p ∷ all_but_first (visible d.template p)
  unfolding visible
  visible_here [] = refl
  visible_here (s ∷ p) = refl

  abbrev here_first : (List ℕ → Bool) → Reads sites.Found → Reads sites.Found
  here_first test rest = continued (read (deployments o.position))
      (λ j. found_or o.position (nested_numbers_at d.template o.position) (sought test j) rest)

  pub seek_here : (test : List ℕ → Bool)
      → seek d.template test (visible d.template o.position)
      ≡ here_first test (seek d.template test (all_but_first (visible d.template o.position)))
  seek_here test = ap (seek d.template test) (visible_here o.position)

  told_pure : {A : Type 0} (x : A) → told q (pure x) ≡ value x
  unfolding told
  told_pure x = refl

  pub seek_nowhere : (test : List ℕ → Bool) → o.is_own ≡ true
      → told q (seek d.template test (all_but_first (visible d.template o.position))) ≡ value is_nowhere
  seek_nowhere test h = ap (λ ps. told q (seek d.template test ps)) (around_own h) ∙ told_pure is_nowhere

  pub seek_outwards : (test : List ℕ → Bool) → o.is_own ≡ false
      → told q (seek d.template test (all_but_first (visible d.template o.position)))
      ≡ told q (seek d.template test (visible d.template (scope_at t o.around).position))
  seek_outwards test h = ap (λ ps. told q (seek d.template test ps)) (around_outer h).scopes

-- what goes on after a value, and what stops before
pub read_goes : {A : Type 0} (t : Table) (r : Reads Json) (k : Json → Reads A) (j : Json) → told_in t r ≡ value j
    → told_in t (continued r k) ≡ told_in t (k j)
read_goes {A} t r k j e =
    told-continued Cell Json Json A (table (status_of (rows_in t))) r k
    ∙ ap (λ u. and_then u (λ x. told_in t (k x))) e

pub stop_goes : {A B : Type 0} (t : Table) (e : Lack) (u : Told Cell A) (k : A → Told Cell B) → Stops t e u
    → Stops t e (and_then u k)
stop_goes t lack.NotThere u k h = absurd h
stop_goes t lack.NoValue u k h = ap (λ v. and_then v k) h
stop_goes t (lack.Line j) u k h = (h.0, ap (λ v. and_then v k) h.1)
stop_goes t (lack.State s) u k h = ap (λ v. and_then v k) h
stop_goes t lack.OutOfMemory u k h = tt

pub read_stops : {A B : Type 0} (t : Table) (e : Lack) (r : Reads A) (k : A → Reads B) → Stops t e (told_in t r)
    → Stops t e (told_in t (continued r k))
read_stops {A} {B} t e r k h =
    subst (Stops t e) (sym (told-continued Cell Json A B (table (status_of (rows_in t))) r k))
    (stop_goes t e (told_in t r) (λ x. told_in t (k x)) h)

-- ---- what the code looked up

-- a look-up that always finds
pub found_always : (P : ℕ → Type 0) (o : Option ℕ) → o ≡ None → MatchOption o ⊥ P → ⊥
found_always P (Some i) e h = absurd (cc)
found_always P None e h = h

pub found_there : (P : ℕ → Type 0) (o : Option ℕ) (j : ℕ) → o ≡ Some j → MatchOption o ⊥ P → P j
found_there P (Some i) j e h = subst P (let same : i ≡ j = cc in same) h
found_there P None j e h = absurd h

-- the line that was read
pub line_read : (t : Table) (j : ℕ) (l : Line) → j < length t.lines.items → l ≡ get_or t.lines.items j l
    → line_at t.lines.items j ≡ l
line_read t j l h e = sym (get_or_read t.lines.items j l h e (new_line (Deployments 0)))

module _ (t : Table) (f : ℕ) (ready : IsReady t) (h : f < length t.frames.items) where
  -- the scope that an included instance opened, by the line of its condition
  pub opened_by : (r i j : ℕ) (l : Line) → IsIncluded t f r i
      → IsLineOf t f (included (scope_at t f).position (step r i)) j → l ≡ get_or t.lines.items j l
      → IsOpened (scopes_of t) l.opened f r i
  opened_by r i j l n m e =
      subst (λ (x : Line). IsOpened (scopes_of t) x.opened f r i) (line_read t j l m.listed e)
      (opened_there t f ready (scopes_there t f h) r i j n m)

  pub no_line : (r i : ℕ) (o : Option ℕ) → IsIncluded t f r i → o ≡ None
      → MatchOption o ((j : ℕ) → IsLineOf t f (count (scope_at t f).position r) j → Counts i (state_at t j) → ⊥)
      (λ _. Unit {0}) → ⊥
  no_line r i (Some j) n e m = absurd (cc)
  no_line r i None n e m = line_there t f ready (scopes_there t f h) r i n m

  -- the numbers of the nested deployments of the scope
  pub numbers_read : (fr : Frame) (rs : List code.Listed) → fr ≡ get_or t.frames.items f fr → rs ≡ fr.resources.items
      → nested_from 0 (map listed_of rs) ≡ nested_numbers_at (whole_of t).template (scope_at t f).position
  numbers_read fr rs e q =
      let kept = ready.laid.kept f (scopes_there t f h) in
      ap (λ xs. nested_from 0 (map listed_of xs)) q
      ∙ ap (λ (s : Opened). nested_from 0 s.resources) (sym (scope_is t f fr h e))
      ∙ ap (nested_from 0) kept.resources
      ∙ sym (numbers_by (whole_of t).template (scope_at t f).position (scope_at t f).template kept.template)

  module _ (fr : Frame) (rs : List code.Listed) (e : fr ≡ get_or t.frames.items f fr) (q : rs ≡ fr.resources.items)
      (k i : ℕ) (n : IsFound t f k i) where
    number_has : slice_get (nested_from 0 (map listed_of rs)) k ≡ Some n.number
    number_has = ap (λ ns. slice_get ns k) (numbers_read fr rs e q) ∙ n.has

    number_is : (r : ℕ) → Some r ≡ slice_get (nested_from 0 (map listed_of rs)) k → n.number ≡ r
    number_is r s = let same : Some n.number ≡ Some r = sym number_has ∙ sym s in cc

    pub included_here : (r : ℕ) → Some r ≡ slice_get (nested_from 0 (map listed_of rs)) k → IsIncluded t f r i
    included_here r s = subst (λ m. IsIncluded t f m i) (number_is r s) n.included

    pub leads_there : {E : Type 0} (r : ℕ) (x : Result ℕ E)
        → Some r ≡ slice_get (nested_from 0 (map listed_of rs)) k
        → IfOk x (λ g. IsOpened (scopes_of t) g f r i) → IfOk x (Leads t f k i)
    leads_there r (Ok g) s o =
        leads t f ready (scopes_there t f h) k i g n
        (subst (λ m. IsOpened (scopes_of t) g f m i) (sym (number_is r s)) o)
    leads_there r (Err x) s o = tt

    pub numbered : None ≡ slice_get (nested_from 0 (map listed_of rs)) k → ⊥
    numbered s = let no : None ≡ Some n.number = s ∙ number_has in absurd (cc)

-- ---- what is found in the listing of a scope

module _ (t : Table) (f : ℕ) where
  abbrev p : Position
  p = (scope_at t f).position

  abbrev ns : List ℕ
  ns = nested_numbers_at (whole_of t).template p

  pub finds_found : (k i g : ℕ) (s : listing.Sought) → found k i ≡ s → Leads t f k i g
      → FindsIn t f s (Some (sighting.Scope g))
  finds_found k i g s e l =
      (l.inside, λ rest. ap (λ z. found_or p ns z rest) (sym e) ∙ ap (λ x. pure x) l.is)

  pub finds_left : (s : listing.Sought) → listing.left_away ≡ s → FindsIn t f s (Some sighting.LeftAway)
  finds_left s e = (tt, λ rest. ap (λ z. found_or p ns z rest) (sym e))

  pub finds_there : (s : listing.Sought) (x : Option Sighting) → FindsIn t f s x
      → MatchOption x (Unit {0}) (IsThere t)
  finds_there s (Some x) h = h.0
  finds_there s None h = tt

  told_pure_in : {A : Type 0} (x : A) → told_in t (pure x) ≡ value x
  unfolding told
  told_pure_in x = refl

  pub here_found : (test : List ℕ → Bool) (j : Json) (x : Option Sighting)
      → told_in t (read (deployments p)) ≡ value j → FindsIn t f (sought test j) x
      → (rest : Reads sites.Found) → HereOr t (Ok x) rest (told_in t (sighted.here_first t f test rest))
  here_found test j (Some x) e h rest =
      read_goes t (read (deployments p)) (λ j. found_or p ns (sought test j) rest) j e
      ∙ ap (told_in t) (h.1 rest) ∙ told_pure_in (found_of t x)
  here_found test j None e h rest =
      read_goes t (read (deployments p)) (λ j. found_or p ns (sought test j) rest) j e
      ∙ ap (λ z. told_in t (found_or p ns z rest)) h

  pub here_stops : (test : List ℕ → Bool) (e : Lack) → Stops t e (told_in t (read (deployments p)))
      → (rest : Reads sites.Found) → HereOr t (Err e) rest (told_in t (sighted.here_first t f test rest))
  here_stops test e h rest =
      read_stops t e (read (deployments p)) (λ j. found_or p ns (sought test j) rest) h

-- ---- outwards

sighted_is : (t : Table) (o : Option Sighting) (s : Sighting) (rest : Reads sites.Found) (u : Told Cell sites.Found)
    → o ≡ Some s → HereOr t (Ok o) rest u → u ≡ value (found_of t s)
sighted_is t (Some x) s rest u e h = let same : x ≡ s = cc in h ∙ ap (λ y. value (found_of t y)) same
sighted_is t None s rest u e h = absurd (cc)

passed_is : (t : Table) (o : Option Sighting) (rest : Reads sites.Found) (u : Told Cell sites.Found)
    → o ≡ None → HereOr t (Ok o) rest u → u ≡ told_in t rest
passed_is t (Some x) rest u e h = absurd (cc)
passed_is t None rest u e h = h

pub there_is : (t : Table) (o : Option Sighting) (s : Sighting) → o ≡ Some s → MatchOption o (Unit {0}) (IsThere t)
    → IsThere t s
there_is t (Some x) s e h = subst (IsThere t) (let same : x ≡ s = cc in same) h
there_is t None s e h = absurd (cc)

module _ (t : Table) (at : ℕ) (test : List ℕ → Bool) (all : Told Cell sites.Found) (ready : IsReady t)
    (h : at < length t.frames.items)
    (before : told_in t (seek (whole_of t).template test (visible (whole_of t).template (scope_at t at).position))
    ≡ all)
  where
    abbrev pub rest_of : Reads sites.Found
    rest_of = seek (whole_of t).template test (all_but_first (visible (whole_of t).template (scope_at t at).position))

    there_at : at < length (scopes_of t)
    there_at = scopes_there t at h

    here_is : told_in t (sighted.here_first t at test rest_of) ≡ all
    here_is = sym (ap (told_in t) (seek_here t at ready there_at test)) ∙ before

    pub ends_here : (o : Option Sighting) (s : Sighting) → o ≡ Some s
        → HereOr t (Ok o) rest_of (told_in t (sighted.here_first t at test rest_of)) → all ≡ value (found_of t s)
    ends_here o s e x = sym here_is ∙ sighted_is t o s rest_of (told_in t (sighted.here_first t at test rest_of)) e x

    pub stops_here : (e : Lack) → Stops t e (told_in t (sighted.here_first t at test rest_of)) → Stops t e all
    stops_here e x = subst (Stops t e) here_is x

    module _ (fr : Frame) (e : fr ≡ get_or t.frames.items at fr) (o : Option Sighting) (none : o ≡ None)
        (x : HereOr t (Ok o) rest_of (told_in t (sighted.here_first t at test rest_of))) where
      own_is : (scope_at t at).is_own ≡ fr.own
      own_is = ap (λ (s : Opened). s.is_own) (scope_is t at fr h e)

      rest_is : told_in t rest_of ≡ all
      rest_is = sym (passed_is t o rest_of (told_in t (sighted.here_first t at test rest_of)) none x) ∙ here_is

      pub ends_nowhere : fr.own ≡ true → all ≡ value is_nowhere
      ends_nowhere w = sym rest_is ∙ seek_nowhere t at ready there_at test (own_is ∙ w)

      module _ (w : fr.own ≡ false) (gr : Frame) (d : gr ≡ get_or t.frames.items at gr) where
        around_is : (scope_at t at).around ≡ gr.around
        around_is = ap (λ (s : Opened). s.around) (scope_is t at gr h d)

        pub goes_out : told_in t (seek (whole_of t).template test
            (visible (whole_of t).template (scope_at t gr.around).position)) ≡ all
        goes_out =
            ap (λ g. told_in t (seek (whole_of t).template test (visible (whole_of t).template (scope_at t
            g).position)))
            (sym around_is)
            ∙ sym (seek_outwards t at ready there_at test (own_is ∙ w)) ∙ rest_is

        pub there_out : gr.around < length t.frames.items
        there_out =
            frames_there t gr.around
            (subst (λ g. g < length (scopes_of t)) around_is (around_outer t at ready there_at (own_is ∙ w)).within)

        pub less_out : gr.around < at
        less_out = subst (λ g. g < at) around_is (around_outer t at ready there_at (own_is ∙ w)).less
