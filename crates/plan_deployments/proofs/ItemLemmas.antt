-- The item of an instance, and the items of the instances of a resource.
use Rattle.std.proofs.Common.{◌≡◌, ℕ, suc, ◌+◌, ◌-◌, ◌<◌, ◌≤◌, Bool, List, [], ◌∷◌, ◌++◌, map, Option}
use Rattle.std.proofs.Common.{Some, None, Result, Ok, Err, refl, sym, ap, subst, ◌∙◌, arith, append_assoc, append-nil}
use Rattle.arm_value.specs.Json.{Json, null, bool, int, text, array, object, nesting, items_nesting}
use Rattle.arm_value.specs.View.{json}
use Rattle.arm_value.specs.declared.value.Value.{Value}
use Rattle.arm_value.proofs.JsonLemmas.{items_nesting-push}
use Rattle.function_numbers.specs.Kinds as kinds
use Rattle.reading.specs.Reading.{done, pure, read, continued}
use Rattle.reading.specs.Knowledge.{Told, value, no_value, waits, finished, and_then}
use Rattle.deploy_cells.specs.Cells.{Step, step, Position, Cell, name, included, count, copies}
use Rattle.deploy_cells.specs.Guarded.{Reads}
use Rattle.deploy_cells.specs.Listing.{Named, named_by, named_json, one_named, instances_named, resource_named}
use Rattle.plan_table.specs.declared.table.Table.{Table}
use Rattle.plan_table.specs.Lines.{cell_of, line_at}
use Rattle.plan_table.specs.Whole.{scopes_of}
use Rattle.plan_table.specs.Found.{IsLineOf}
use Rattle.plan_sight.specs.declared.lack.Lack.{Lack}
use Rattle.plan_sight.specs.declared.lack.Lack.TheVariants as lack
use Rattle.plan_sight.specs.Ready.{told_in}
use Rattle.plan_sight.specs.Seen.{Stops, Yields}
use Rattle.plan_names.proofs.SeekLemmas.{stop_goes, read_goes, read_stops}
use Rattle.plan_deployments.specs.Items.{IsItemOf, Makes, IsItem, items_told}
use Rattle.plan_sight.proofs.ToldLemmas.{told_pure, told_done, goes}

-- ---- one instance

pub made : (n b j : Json) (x : List ℕ) (c : Bool) → n ≡ text x → b ≡ bool c
    → j ≡ named_json (record { name = x; included = c }) → IsItemOf (named_by n b) j
made n b j x c e f h =
    subst (λ (q : Json × Json). IsItemOf (named_by q.0 q.1) j) (λ i. (sym e i, sym f i)) h

pub no_text : (n b : Json) → kinds.text_of n ≡ None → named_by n b ≡ None
no_text (text x) b e = absurd (cc)
no_text null b e = refl
no_text (bool c) b e = refl
no_text (int z) b e = refl
no_text (array js) b e = refl
no_text (object ms) b e = refl

pub no_truth : (n b : Json) → kinds.truth_of b ≡ None → named_by n b ≡ None
no_truth (text x) (bool c) e = absurd (cc)
no_truth (text x) null e = refl
no_truth (text x) (int z) e = refl
no_truth (text x) (text y) e = refl
no_truth (text x) (array js) e = refl
no_truth (text x) (object ms) e = refl
no_truth null b e = refl
no_truth (bool c) b e = refl
no_truth (int z) b e = refl
no_truth (array js) b e = refl
no_truth (object ms) b e = refl

pub text_is : (n : Json) (x : List ℕ) → kinds.text_of n ≡ Some x → n ≡ text x
text_is (text y) x e = cc
text_is null x e = absurd (cc)
text_is (bool c) x e = absurd (cc)
text_is (int z) x e = absurd (cc)
text_is (array js) x e = absurd (cc)
text_is (object ms) x e = absurd (cc)

pub truth_is : (b : Json) (c : Bool) → kinds.truth_of b ≡ Some c → b ≡ bool c
truth_is (bool d) c e = cc
truth_is null c e = absurd (cc)
truth_is (text x) c e = absurd (cc)
truth_is (int z) c e = absurd (cc)
truth_is (array js) c e = absurd (cc)
truth_is (object ms) c e = absurd (cc)

made_told : (t : Table) (o : Option Named) (r : Result Value Lack) (u : Told Cell Named) → u ≡ finished o → Makes o r
    → IsItem t r u
made_told t (Some n) (Ok v) u e h = (n, (e, h))
made_told t None (Ok v) u e h = absurd h
made_told t o (Err lack.NotThere) u e h = absurd h
made_told t o (Err lack.NoValue) u e h = e ∙ ap finished h
made_told t o (Err (lack.Line j)) u e h = absurd h
made_told t o (Err (lack.State k)) u e h = absurd h
made_told t o (Err lack.OutOfMemory) u e h = tt

module _ (t : Table) (p : Position) (s : Step) where
  abbrev by_name : Json → Reads Named
  by_name n = continued (read (included p s)) (λ b. done (named_by n b))

  pub item_made : (n b : Json) (r : Result Value Lack) → told_in t (read (name p s)) ≡ value n
      → told_in t (read (included p s)) ≡ value b → Makes (named_by n b) r → IsItem t r (told_in t (one_named p s))
  item_made n b r e f h =
      made_told t (named_by n b) r (told_in t (one_named p s))
      (read_goes t (read (name p s)) by_name n e ∙ read_goes t (read (included p s)) (λ c. done (named_by n c)) b f
      ∙ told_done t (named_by n b)) h

  pub no_name : (e : Lack) → Stops t e (told_in t (read (name p s))) → Stops t e (told_in t (one_named p s))
  no_name e h = read_stops t e (read (name p s)) by_name h

  pub no_inclusion : (n : Json) (e : Lack) → told_in t (read (name p s)) ≡ value n
      → Stops t e (told_in t (read (included p s))) → Stops t e (told_in t (one_named p s))
  no_inclusion n e f h =
      subst (Stops t e) (sym (read_goes t (read (name p s)) by_name n f))
      (read_stops t e (read (included p s)) (λ c. done (named_by n c)) h)

-- the line of a cell that is read
pub read_of_line : {X : Type 0} (view : X → Json) (t : Table) (f : ℕ) (c : Cell) (j : ℕ) (r : Result X Lack)
    → IsLineOf t f c j → Yields view t r (told_in t (read (cell_of (scopes_of t) (line_at t.lines.items j).spot)))
    → Yields view t r (told_in t (read c))
read_of_line view t f c j r l h = subst (λ x. Yields view t r (told_in t (read x))) l.is h

-- ---- the instances of a resource

-- these items, and then those of the instances that are read
abbrev pub items_after : List Json → Told Cell (List Named) → Told Cell (List Json)
items_after got u = and_then u (λ ns. value (got ++ map named_json ns))

module _ (t : Table) (p : Position) (r : ℕ) where
  abbrev instances : ℕ → ℕ → Reads (List Named)
  instances i n = instances_named p r i n

  after : (got : List Json) (x : Named) (j : Json) (u : Told Cell (List Named)) → j ≡ named_json x
      → items_after got (and_then u (λ xs. told_in t (pure (x ∷ xs)))) ≡ items_after (got ++ j ∷ []) u
  after got x j (value xs) e =
      ap (items_after got) (told_pure t (x ∷ xs))
      ∙ ap (λ k. value (got ++ k ∷ map named_json xs)) (sym e)
      ∙ ap value (sym (append_assoc got (j ∷ []) (map named_json xs)))
  after got x j no_value e = refl
  after got x j (waits c) e = refl

  first_told : (i n : ℕ) → told_in t (instances i (suc n))
      ≡ and_then (told_in t (one_named p (step r i)))
      (λ x. told_in t (continued (instances (suc i) n) (λ xs. pure (x ∷ xs))))
  first_told i n = goes t (one_named p (step r i)) (λ x. continued (instances (suc i) n) (λ xs. pure (x ∷ xs)))

  instance_next : (got : List Json) (i n : ℕ) (x : Named) (j : Json) → told_in t (one_named p (step r i)) ≡ value x
      → j ≡ named_json x
      → items_after got (told_in t (instances i (suc n))) ≡ items_after (got ++ j ∷ []) (told_in t (instances
      (suc i) n))
  instance_next got i n x j e q =
      ap (items_after got) (first_told i n
      ∙ ap (λ v. and_then v (λ x. told_in t (continued (instances (suc i) n) (λ xs. pure (x ∷ xs))))) e
      ∙ goes t (instances (suc i) n) (λ xs. pure (x ∷ xs)))
      ∙ after got x j (told_in t (instances (suc i) n)) q

  pub items_begin : (n : ℕ) → items_after [] (told_in t (instances 0 (n - 0))) ≡ items_told (told_in t (instances 0 n))
  items_begin n =
      let all : n - 0 ≡ n = omega arith in ap (λ m. items_after [] (told_in t (instances 0 m))) all

  pub items_more : (got more : List Json) (i many : ℕ) (v : Value) (all : Told Cell (List Json)) → i < many
      → IsItem t (Ok v) (told_in t (one_named p (step r i))) → more ≡ got ++ json v ∷ []
      → items_after got (told_in t (instances i (many - i))) ≡ all
      → items_after more (told_in t (instances (i + 1) (many - (i + 1)))) ≡ all
  items_more got more i many v all h g q before =
      let left : many - i ≡ suc (many - (i + 1)) = omega (arith, h) in
      let at : i + 1 ≡ suc i = omega arith in
      ap (λ k. items_after more (told_in t (instances k (many - (i + 1))))) at
      ∙ ap (λ js. items_after js (told_in t (instances (suc i) (many - (i + 1))))) q
      ∙ sym (instance_next got i (many - (i + 1)) g.0 (json v) g.1.0 g.1.1)
      ∙ ap (λ n. items_after got (told_in t (instances i n))) (sym left) ∙ before

  pub items_stop : (got : List Json) (i many : ℕ) (e : Lack) (all : Told Cell (List Json)) → i < many
      → Stops t e (told_in t (one_named p (step r i)))
      → items_after got (told_in t (instances i (many - i))) ≡ all → Stops t e all
  items_stop got i many e all h s before =
      let left : many - i ≡ suc (many - (i + 1)) = omega (arith, h) in
      subst (Stops t e) (ap (λ n. items_after got (told_in t (instances i n))) (sym left) ∙ before)
      (stop_goes t e (told_in t (instances i (suc (many - (i + 1))))) (λ ns. value (got ++ map named_json ns))
      (subst (Stops t e) (sym (first_told i (many - (i + 1))))
      (stop_goes t e (told_in t (one_named p (step r i)))
      (λ x. told_in t (continued (instances (suc i) (many - (i + 1))) (λ xs. pure (x ∷ xs)))) s)))

  pub items_end : (got : List Json) (i many : ℕ) (all : Told Cell (List Json)) → many ≤ i
      → items_after got (told_in t (instances i (many - i))) ≡ all → all ≡ value got
  items_end got i many all h before =
      let none : many - i ≡ 0 = omega (arith, h) in
      sym before ∙ ap (λ n. items_after got (told_in t (instances i n))) none
      ∙ ap (items_after got) (told_pure t []) ∙ ap value (append-nil got)

  -- ---- by the count

  abbrev by_count : Json → Reads (List Named)
  by_count v = instances 0 (copies (Some v))

  pub counted : (v : Value) (c : ℕ) (s : Result (List Json) Lack) → told_in t (read (count p r)) ≡ value (json v)
      → c ≡ copies (Some (json v)) → Yields (λ is. is) t s (items_told (told_in t (instances 0 c)))
      → Yields (λ is. is) t s (items_told (told_in t (resource_named p r)))
  counted v c s h e y =
      subst (λ u. Yields (λ is. is) t s (items_told u))
      (ap (λ m. told_in t (instances 0 m)) e ∙ sym (read_goes t (read (count p r)) by_count (json v) h)) y

  pub counted_stops : (e : Lack) → Stops t e (told_in t (read (count p r)))
      → Stops t e (items_told (told_in t (resource_named p r)))
  counted_stops e h =
      stop_goes t e (told_in t (resource_named p r)) (λ ns. value (map named_json ns))
      (read_stops t e (read (count p r)) by_count h)

-- ---- how deep the items are

pub item_nests : (t : Table) (v : Value) (u : Told Cell Named) → IsItem t (Ok v) u → nesting (json v) ≡ 1
item_nests t v u h = ap nesting h.1.1

pub one_more_nests : (got more : List Json) (j : Json) (n : ℕ) → items_nesting got ≤ n → nesting j ≤ n
    → more ≡ got ++ j ∷ [] → items_nesting more ≤ n
one_more_nests got more j n h l e =
    let q = items_nesting-push got j in
    subst (λ js. items_nesting js ≤ n) (sym e) (omega (arith, q, h, l))
