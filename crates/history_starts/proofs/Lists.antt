-- The lists of nested deployments are known at the start.
use Rattle.std.proofs.Common.{◌≡◌, inl, inr, ℕ, zero, suc, ◌+◌, ◌<◌, Bool, true, false, true≢false, List, []}
use Rattle.std.proofs.Common.{◌∷◌, Option, Some, None, refl, sym, ap, ◌∙◌, arith}
use Rattle.std.specs.Prelude.{nat_lt, slice_get, option_map, option_and_then, is_some, if◌then◌else◌}
use Rattle.arm_value.specs.Json.{Json, null, bool, int, text, array, object}
use Rattle.arm_value.specs.Kinds.{is_true}
use Rattle.foundation.proofs.Comparisons.{lt_true}
use Rattle.reading.specs.Reading.{done, pure, read, continued}
use Rattle.reading.specs.Knowledge.{Known, known, Told, value, no_value, waits, told, and_then, finished}
use Rattle.reading.specs.Knowledge.{by_entry, known_value}
use Rattle.reading.proofs.Parts.{told-continued}
use Rattle.template_tree.specs.Tree.{TemplateTree}
use Rattle.deploy_cells.specs.Cells.{Step, step, Position, Cell, parameter, variable, offered, output, count}
use Rattle.deploy_cells.specs.Cells.{included, name}
use Rattle.deploy_cells.specs.Cells.{deployments, state, World, parent, admits, copies}
use Rattle.deploy_cells.specs.Guarded.{Reads, there, there_if, told_where, told_by}
use Rattle.deploy_cells.specs.Listing.{Named, named_by, one_named, instances_named, resource_named, all_named}
use Rattle.deploy_cells.specs.Listing.{listing_value, listing_json}
use Rattle.deploy_cells.proofs.CellLemmas.{guarded_told}
use Rattle.plan_cells.specs.Resources.{Listed, resources_in, resource_at, unless_existing, is_nested, nested_in}
use Rattle.plan_cells.specs.Resources.{nested_from}
use Rattle.plan_cells.specs.Resources.{nested_numbers}
use Rattle.plan_cells.specs.Scopes.{template_at, resource_of}
use Rattle.plan_cells.specs.Meaning.{Deployment, raw, rule, ruled, if_meets, plain, meaning, is_name, count_value}
use Rattle.plan_cells.specs.Meaning.{name_value}
use Rattle.plan_cells.specs.Meaning.{included_value}
use Rattle.template_parameters.specs.Rule.{is_bool}
use Rattle.plan_cells.specs.Known.{Table, entry_of}
use Rattle.plan_cells.specs.Start as start
use Rattle.plan_cells.specs.Start.{start_world}
use Rattle.plan_cells.specs.Children.{Has}
use Rattle.deploy_histories.specs.Planned.{Planned, IsPlanned, IsAnswered, is_asked_first}
use Rattle.history_laws.proofs.Included.{first_entry}
use Rattle.history_starts.proofs.Start.{value_entry, entry_told_of, opened}

-- ---- what is told of a reading that goes on

same_value : {A : Type 0} (t : Told Cell A) (a b : A) → t ≡ value a → t ≡ value b → a ≡ b
same_value t a b e f = cc

module _ (q : Table) where
  then_told : {A B : Type 0} (r : Reads A) (a : A) (f : A → Reads B) → told q r ≡ value a
      → told q (continued r f) ≡ told q (f a)
  then_told {A} {B} r a f e =
      told-continued Cell Json A B q r f ∙ ap (λ (t : Told Cell A). and_then t (λ x. told q (f x))) e

  read_told : (c : Cell) (v : Json) → q c ≡ known v → told q (read c) ≡ value v
  unfolding told
  read_told c v e = ap (λ (k : Known Json). by_entry c (λ o. told q (done o)) k) e

  -- what a part was told
  part_told : {A B : Type 0} (r : Reads A) (f : A → Reads B) (b : B) → told q (continued r f) ≡ value b
      → (a : A) × ((told q r ≡ value a) × (told q (f a) ≡ value b))
  part_told {A} {B} r f b e = by_told (told q r) refl (sym (told-continued Cell Json A B q r f) ∙ e)
    where
      by_told : (t : Told Cell A) → told q r ≡ t → and_then t (λ x. told q (f x)) ≡ value b
          → (a : A) × ((told q r ≡ value a) × (told q (f a) ≡ value b))
      by_told (value a) g h = (a, (g, h))
      by_told no_value g h = cc
      by_told (waits c) g h = cc

-- ---- the names of instances

is_text_name : (d : Deployment) (v : Json) (o : Option Listed) → is_name d v o ≡ true → (n : List ℕ) × (v ≡ text n)
is_text_name d (text n) o e = (n, refl)
is_text_name d null None e = absurd (true≢false (sym e))
is_text_name d null (Some r) e = absurd (true≢false (sym e))
is_text_name d (bool b) None e = absurd (true≢false (sym e))
is_text_name d (bool b) (Some r) e = absurd (true≢false (sym e))
is_text_name d (int z) None e = absurd (true≢false (sym e))
is_text_name d (int z) (Some r) e = absurd (true≢false (sym e))
is_text_name d (array js) None e = absurd (true≢false (sym e))
is_text_name d (array js) (Some r) e = absurd (true≢false (sym e))
is_text_name d (object ms) None e = absurd (true≢false (sym e))
is_text_name d (object ms) (Some r) e = absurd (true≢false (sym e))

module _ (x : Planned) (planned : IsPlanned x) where
  abbrev d : Deployment
  d = x.deployment

  abbrev w : World
  w = start_world x.known

  ruled_told : (f : Json → Bool) (r : Reads Json) (o : Option Json) → told x.known (there (ruled d f r)) ≡ value o
      → (v : Json) × ((o ≡ Some v) × (f v ≡ true))
  unfolding told
  ruled_told f r o e =
      let a = part_told x.known (ruled d f r) (λ v. pure (Some v)) o e in
      let b = part_told x.known r (λ j. done (if_meets d (f j) j)) a.0 a.1.0 in (
        a.0,
        (sym (same_value (told x.known (pure (Some a.0))) (Some a.0) o refl a.1.1), by_rule b.0 a.0 (f b.0) refl b.1.1),
      )
    where
      by_rule : (j v : Json) (b : Bool) → f j ≡ b → told x.known (done (if_meets d b j)) ≡ value v → f v ≡ true
      by_rule j v true g h =
          ap f (same_value (told x.known (done (if_meets d true j))) v j h refl) ∙ g
      by_rule j v false g h = let z : no_value ≡ value v = h in cc

  plain_first : (c : Cell) → is_asked_first c ≡ true
      → plain d c ≡ there_if (option_map (ruled d (rule d c)) (raw d c))
  unfolding plain
  plain_first (count p r) e = refl
  plain_first (included p s) e = refl
  plain_first (name p s) e = refl
  plain_first (parameter p y) e = refl
  plain_first (variable p y) e = refl
  plain_first (offered p y) e = refl
  plain_first (output p y) e = refl
  plain_first (deployments p) e = refl
  plain_first (state k) e = absurd (true≢false (sym e))

  asked_others : (c : Cell) → is_asked_first c ≡ true → start.start c ≡ start.start (count [] 0)
  asked_others (count p r) e = refl
  asked_others (included p s) e = refl
  asked_others (name p s) e = refl
  asked_others (parameter p y) e = refl
  asked_others (variable p y) e = refl
  asked_others (offered p y) e = refl
  asked_others (output p y) e = refl
  asked_others (deployments p) e = refl
  asked_others (state k) e = absurd (true≢false (sym e))

  -- the parent admits the cell, by what is known at the start
  abbrev Admits : Cell → Option Cell → Type 0
  Admits c None = Unit {0}
  Admits c (Some e) = (is_asked_first e ≡ true) × (admits c (w e) ≡ true)

  entry_goes : (e : Cell) (k : Option Json → Told Cell (Option Json)) (o : Option Json)
      → by_entry e k (entry_of o) ≡ k o
  entry_goes e k (Some v) = refl
  entry_goes e k None = refl

  asked_entry : (e : Cell) → is_asked_first e ≡ true → x.known e ≡ entry_of (w e)
  asked_entry e a =
      let g = first_entry x planned e a in g.1 ∙ ap entry_of (sym (ap known_value g.1 ∙ value_entry g.0))

  told_admitted : (c : Cell) (o : Option Cell) → parent c ≡ o → Admits c o
      → told x.known (meaning d c) ≡ told x.known (plain d c)
  unfolding meaning
  told_admitted c None up a =
      guarded_told x.known c (plain d c) ∙ ap (λ (o : Option Cell). told_by x.known c o (told x.known (plain d c))) up
  told_admitted c (Some e) up a =
      guarded_told x.known c (plain d c)
      ∙ (ap (λ (o : Option Cell). told_by x.known c o (told x.known (plain d c))) up
      ∙ (ap (λ (k : Known Json). by_entry e (λ v. told_where (admits c v) (told x.known (plain d c))) k)
      (asked_entry e a.0)
      ∙ (entry_goes e (λ v. told_where (admits c v) (told x.known (plain d c))) (w e)
      ∙ ap (λ (b : Bool). told_where b (told x.known (plain d c))) a.1)))

  -- a cell that is declared and there has a value that meets its rule
  record HasKnown (c : Cell) : Type 0 where
    has : Json
    is_known : x.known c ≡ known has
    meets : rule d c has ≡ true

  declared : (c : Cell) → is_asked_first c ≡ true → (r : Reads Json) → raw d c ≡ Some r → Admits c (parent c)
      → HasKnown c
  declared c a r e up =
      let z = planned.answered c a in
      let t : told x.known (there (ruled d (rule d c) r)) ≡ value z.answer
      = ap (λ (o : Option (Reads Json)). told x.known (there_if (option_map (ruled d (rule d c)) o))) (sym e)
      ∙ (ap (told x.known) (sym (plain_first c a))
      ∙ (sym (told_admitted c (parent c) refl up) ∙ z.is_told)) in
      let v = ruled_told (rule d c) r z.answer t in
      record {
        has = v.0;
        is_known = entry_told_of x planned c z.answer (asked_others c a) z.is_told ∙ ap entry_of v.1.0;
        meets = v.1.1;
      }

  -- ---- instances

  known_is : (c : Cell) (v : Json) → x.known c ≡ known v → w c ≡ Some v
  known_is c v e = ap known_value e

  within : (s : Step) (v : Json) (o : Option Json) → o ≡ Some v → s.copy < copies (Some v)
      → nat_lt s.copy (copies o) ≡ true
  within s v o e l = ap (λ (u : Option Json). nat_lt s.copy (copies u)) e ∙ lt_true s.copy (copies (Some v)) l

  is_truth : (v : Json) → is_bool v ≡ true → (b : Bool) × (v ≡ bool b)
  is_truth (bool b) e = (b, refl)
  is_truth null e = absurd (true≢false (sym e))
  is_truth (int z) e = absurd (true≢false (sym e))
  is_truth (text t) e = absurd (true≢false (sym e))
  is_truth (array js) e = absurd (true≢false (sym e))
  is_truth (object ms) e = absurd (true≢false (sym e))

  one_told : (q : Position) (s : Step) (y : Listed) (v : Json) → resource_of d.template q s.resource ≡ Some y
      → x.known (count q s.resource) ≡ known v → s.copy < copies (Some v)
      → (n : Named) × (told x.known (one_named q s) ≡ value n)
  unfolding raw told
  one_told q s y v is c l =
      let a : (is_asked_first (count q s.resource) ≡ true) × (nat_lt s.copy (copies (w (count q s.resource))) ≡ true)
      = (refl, within s v (w (count q s.resource)) (known_is (count q s.resource) v c) l) in
      let n = declared (name q s) refl (name_value d q s y) (ap (option_map (name_value d q s)) is) a in
      let b = declared (included q s) refl (included_value d q s y) (ap (option_map (included_value d q s)) is) a in
      let t = is_text_name d n.has (resource_of d.template q s.resource) n.meets in
      let z = is_truth b.has b.meets in (
        record { name = t.0; included = z.0 },
        then_told x.known (read (name q s)) n.has (λ i. continued (read (included q s)) (λ j. done (named_by i j)))
            (read_told x.known (name q s) n.has n.is_known)
            ∙ (then_told x.known (read (included q s)) b.has (λ j. done (named_by n.has j))
            (read_told x.known (included q s) b.has b.is_known)
            ∙ ap (λ (o : Option Named). finished o)
            (ap (λ (i : Json). named_by i b.has) t.1 ∙ ap (λ (j : Json). named_by (text t.0) j) z.1)),
      )

  instances_told : (q : Position) (r : ℕ) (y : Listed) (v : Json) → resource_of d.template q r ≡ Some y
      → x.known (count q r) ≡ known v → (n i : ℕ) → i + n ≡ copies (Some v)
      → (xs : List Named) × (told x.known (instances_named q r i n) ≡ value xs)
  unfolding told
  instances_told q r y v is c zero i e = ([], refl)
  instances_told q r y v is c (suc n) i e =
      let a = one_told q (step r i) y v is c (omega (arith, e)) in
      let b = instances_told q r y v is c n (suc i) (omega (arith, e)) in (
        a.0 ∷ b.0,
        then_told x.known (one_named q (step r i)) a.0
            (λ z. continued (instances_named q r (suc i) n) (λ zs. pure (z ∷ zs)))
            a.1
            ∙ then_told x.known (instances_named q r (suc i) n) b.0 (λ zs. pure (a.0 ∷ zs)) b.1,
      )

  opener_admits : (q : Position) (r : ℕ) → opened x planned q ≡ true → Admits (count q r) (parent (count q r))
  opener_admits [] r o = tt
  opener_admits (s ∷ q) r o = (refl, o)

  resource_told : (q : Position) (r : ℕ) (y : Listed) → opened x planned q ≡ true
      → resource_of d.template q r ≡ Some y → (xs : List Named) × (told x.known (resource_named q r) ≡ value xs)
  unfolding raw
  resource_told q r y o is =
      let c = declared (count q r) refl (count_value d q y) (ap (option_map (count_value d q)) is)
      (opener_admits q r o) in
      let b = instances_told q r y c.has is c.is_known (copies (Some c.has)) 0 (omega arith) in (
        b.0,
        then_told x.known (read (count q r)) c.has (λ v. instances_named q r 0 (copies (Some v)))
            (read_told x.known (count q r) c.has c.is_known) ∙ b.1,
      )

  -- the numbers of resources of the scope
  abbrev AreOf : Position → List ℕ → Type 0
  AreOf q rs = (r : ℕ) → Has r rs → (y : Listed) × (resource_of d.template q r ≡ Some y)

  all_told : (q : Position) → opened x planned q ≡ true → (rs : List ℕ) → AreOf q rs
      → (xs : List (List Named)) × (told x.known (all_named q rs) ≡ value xs)
  unfolding told
  all_told q o [] are = ([], refl)
  all_told q o (r ∷ rs) are =
      let y = are r (inl refl) in
      let a = resource_told q r y.0 o y.1 in
      let b = all_told q o rs (λ k h. are k (inr h)) in (
        a.0 ∷ b.0,
        then_told x.known (resource_named q r) a.0 (λ z. continued (all_named q rs) (λ zs. pure (z ∷ zs))) a.1
            ∙ then_told x.known (all_named q rs) b.0 (λ zs. pure (a.0 ∷ zs)) b.1,
      )

  -- ---- nested deployments of a template

  one_nested : (r : Listed) (b : Bool) → r.declaration.existing ≡ b
      → (if b then false else is_some (nested_in r.content)) ≡ true
      → unless_existing r ≡ Some r
  one_nested r true e f = absurd (true≢false (sym f))
  one_nested r false e f = ap (λ (b : Bool). if b then None else Some r) e

  abbrev Sits : List Listed → ℕ → ℕ → Type 0
  Sits ys n r = (k : ℕ) × ((y : Listed) × ((n + k ≡ r) × ((slice_get ys k ≡ Some y) × (unless_existing y ≡ Some y))))

  further : (z : Listed) (ys : List Listed) (n r : ℕ) → Sits ys (suc n) r → Sits (z ∷ ys) n r
  further z ys n r s =
      let e : suc n + s.0 ≡ r = s.1.1.0 in (suc s.0, (s.1.0, (omega (arith, e), s.1.1.1)))

  numbered : (ys : List Listed) (n r : ℕ) → Has r (nested_from n ys) → Sits ys n r
  numbered [] n r h = absurd h
  numbered (y ∷ ys) n r h = by_first (is_nested y) refl h (λ i. numbered ys (suc n) r i)
    where
      by_first : (b : Bool) → is_nested y ≡ b
          → Has r (if b then n ∷ nested_from (suc n) ys else nested_from (suc n) ys)
          → (Has r (nested_from (suc n) ys) → Sits ys (suc n) r) → Sits (y ∷ ys) n r
      by_first true e i more = elim i [
        | inl j ↦ (let z : n ≡ r = j in
            (0, (y, (omega (arith, z), (refl, one_nested y y.declaration.existing refl e)))))
        | inr j ↦ further y ys n r (more j)
      ]
      by_first false e i more = further y ys n r (more i)

  are_of : (q : Position) (t : TemplateTree) → template_at d.template q ≡ Some t → AreOf q (nested_numbers t)
  unfolding resource_at
  are_of q t at r h =
      let s = numbered (resources_in t) 0 r h in
      let e : 0 + s.0 ≡ r = s.1.1.0 in
      let k : s.0 ≡ r = omega (arith, e) in (
        s.1.0,
        ap (option_and_then (λ u. resource_at u r)) at
            ∙ (ap (λ (i : ℕ). option_and_then unless_existing (slice_get (resources_in t) i)) (sym k)
            ∙ (ap (option_and_then unless_existing) s.1.1.1.0 ∙ s.1.1.1.1)),
      )

  -- ---- the lists

  listing_told : (q : Position) (t : TemplateTree) → template_at d.template q ≡ Some t → opened x planned q ≡ true
      → (v : Json) × (told x.known (listing_value q (nested_numbers t)) ≡ value v)
  unfolding listing_value told
  listing_told q t at o =
      let a = all_told q o (nested_numbers t) (are_of q t at) in
      (listing_json a.0, then_told x.known (all_named q (nested_numbers t)) a.0 (λ zs. pure (listing_json zs)) a.1)

  plain_told : (q : Position) (t : TemplateTree) (v : Json) → template_at d.template q ≡ Some t
      → told x.known (listing_value q (nested_numbers t)) ≡ value v
      → told x.known (plain d (deployments q)) ≡ value (Some v)
  unfolding plain raw told
  plain_told q t v at e =
      ap (λ (o : Option TemplateTree). told x.known (there_if (option_map (ruled d (rule d (deployments q)))
      (option_map (λ u. listing_value q (nested_numbers u)) o)))) at
      ∙ (then_told x.known (ruled d (rule d (deployments q)) (listing_value q (nested_numbers t))) v
      (λ j. pure (Some j))
      (then_told x.known (listing_value q (nested_numbers t)) v (λ j. done (if_meets d true j)) e))

  no_template : (q : Position) → template_at d.template q ≡ None → told x.known (plain d (deployments q)) ≡ value None
  unfolding plain raw told
  no_template q at =
      ap (λ (o : Option TemplateTree). told x.known (there_if (option_map (ruled d (rule d (deployments q)))
      (option_map (λ u. listing_value q (nested_numbers u)) o)))) at

  -- in a scope that is not there
  told_shut : (s : Step) (q : Position) → is_true (w (included q s)) ≡ false
      → told x.known (meaning d (deployments (s ∷ q))) ≡ value None
  unfolding meaning
  told_shut s q f =
      guarded_told x.known (deployments (s ∷ q)) (plain d (deployments (s ∷ q)))
      ∙ (ap (λ (k : Known Json). by_entry (included q s)
      (λ v. told_where (is_true v) (told x.known (plain d (deployments (s ∷ q))))) k)
      (asked_entry (included q s) refl)
      ∙ (entry_goes (included q s) (λ v. told_where (is_true v) (told x.known (plain d (deployments (s ∷ q)))))
      (w (included q s))
      ∙ ap (λ (b : Bool). told_where b (told x.known (plain d (deployments (s ∷ q))))) f))

  shut : (q : Position) → opened x planned q ≡ false
      → (u : Option Json) × (told x.known (meaning d (deployments q)) ≡ value u)
  shut [] o = absurd (true≢false o)
  shut (s ∷ q) o = (None, told_shut s q o)

  -- in one that is there
  under : (q : Position) → opened x planned q ≡ true → (o : Option Json)
      → told x.known (plain d (deployments q)) ≡ value o
      → (u : Option Json) × (told x.known (meaning d (deployments q)) ≡ value u)
  under [] f o e = (o, told_admitted (deployments []) None refl tt ∙ e)
  under (s ∷ q) f o e = (o, told_admitted (deployments (s ∷ q)) (Some (included q s)) refl (refl, f) ∙ e)

  by_template : (q : Position) (b : Bool) → opened x planned q ≡ b → (o : Option TemplateTree)
      → template_at d.template q ≡ o → (u : Option Json) × (told x.known (meaning d (deployments q)) ≡ value u)
  by_template q false f o at = shut q f
  by_template q true f None at = under q f None (no_template q at)
  by_template q true f (Some t) at =
      let v = listing_told q t at f in under q f (Some v.0) (plain_told q t v.0 at v.1)

  pub lists_known : (q : Position) → IsAnswered x (deployments q)
  lists_known q =
      let a = by_template q (opened x planned q) refl (template_at d.template q) refl in
      record { answer = a.0; is_told = a.1 }
