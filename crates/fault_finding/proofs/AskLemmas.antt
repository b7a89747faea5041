-- The cells that list nested deployments wait for counts, conditions and names alone.
use Rattle.std.proofs.Common.{◌≡◌, ℕ, zero, suc, Bool, true, false, true≢false, List, [], ◌∷◌, Option, Some, None}
use Rattle.std.proofs.Common.{refl, sym}
use Rattle.std.proofs.Common.{subst, ◌∙◌}
use Rattle.std.specs.Prelude.{option_map}
use Rattle.arm_value.specs.Json.{Json}
use Rattle.reading.specs.Reading.{done, ask, onward, pure, read, continued}
use Rattle.reading.specs.Knowledge.{Known, known, absent, missing, Told, waits, told, finished}
use Rattle.reading.specs.Knowledge.{by_entry}
use Rattle.template_tree.specs.Tree.{TemplateTree}
use Rattle.deploy_cells.specs.Cells.{Step, step, Position, Cell, parameter, variable, offered, output, count, included}
use Rattle.deploy_cells.specs.Cells.{name, deployments, state, copies, opener, admits}
use Rattle.deploy_cells.specs.Guarded.{Reads, guarded, guarded_by, where_admitted, there, there_if}
use Rattle.deploy_cells.specs.Listing.{one_named, instances_named, resource_named, all_named, listing_value, named_by}
use Rattle.deploy_cells.specs.Listing.{listing_json}
use Rattle.plan_cells.specs.Resources.{nested_numbers}
use Rattle.plan_cells.specs.Scopes.{template_at}
use Rattle.plan_cells.specs.Meaning.{Deployment, raw, rule, ruled, if_meets, plain, meaning}
use Rattle.plan_cells.specs.Desired.{is_state}
use Rattle.plan_refusals.specs.Refusals.{is_titled}
use Rattle.plan_tasks.specs.Answered.{is_asked}

-- the reading asks for counts, conditions and names alone
abbrev Asks : {A : Type 0} → Reads A → Type 0
Asks (done o) = Unit {0}
Asks (ask c k) = (is_asked c ≡ true) × ((v : Option Json) → Asks (k v))

asks_onward : {A B : Type 0} (o : Option A) (f : A → Reads B) → ((x : A) → Asks (f x)) → Asks (onward o f)
asks_onward None f h = tt
asks_onward (Some x) f h = h x

asks_then : {A B : Type 0} (r : Reads A) (f : A → Reads B) → Asks r → ((x : A) → Asks (f x)) → Asks (continued r f)
unfolding continued
asks_then (done o) f a h = asks_onward o f h
asks_then (ask c k) f a h = (a.0, λ v. asks_then (k v) f (a.1 v) h)

done_waits : {A : Type 0} (o : Option A) (c : Cell) → finished {C = Cell} o ≡ waits c → ⊥
done_waits (Some x) c e = cc
done_waits None c e = cc

same_cell : {A : Type 0} (c d : Cell) (x : Told Cell A) → x ≡ waits c → x ≡ waits d → c ≡ d
same_cell c d x e f = cc

module _ (q : Cell → Known Json) where
  asks_by : {A : Type 0} (c : Cell) (k : Option Json → Reads A) (e : Cell) (u : Known Json) → is_asked c ≡ true
      → ((v : Option Json) → told q (k v) ≡ waits e → is_asked e ≡ true)
      → by_entry c (λ v. told q (k v)) u ≡ waits e → is_asked e ≡ true
  asks_by c k e (known v) a h w = h (Some v) w
  asks_by c k e absent a h w = h None w
  asks_by c k e missing a h w = subst (λ x. is_asked x ≡ true) (same_cell c e (waits c) refl w) a

  asks_waits : {A : Type 0} (r : Reads A) (e : Cell) → Asks r → told q r ≡ waits e → is_asked e ≡ true
  unfolding told
  asks_waits (done o) e a w = absurd (done_waits o e w)
  asks_waits (ask c k) e a w = asks_by c k e (q c) a.0 (λ v. asks_waits (k v) e (a.1 v)) w

asks_read : (c : Cell) → is_asked c ≡ true → Asks (read {C = Cell} {J = Json} c)
asks_read c a = (a, λ v. tt)

asks_one : (p : Position) (s : Step) → Asks (one_named p s)
asks_one p s =
    asks_then (read (name p s)) (λ n. continued (read (included p s)) (λ b. done (named_by n b)))
    (asks_read (name p s) refl) (λ n. asks_then (read (included p s)) (λ b. done (named_by n b))
    (asks_read (included p s) refl) (λ b. tt))

asks_instances : (p : Position) (r i n : ℕ) → Asks (instances_named p r i n)
asks_instances p r i zero = tt
asks_instances p r i (suc n) =
    asks_then (one_named p (step r i)) (λ x. continued (instances_named p r (suc i) n) (λ xs. pure (x ∷ xs)))
    (asks_one p (step r i)) (λ x. asks_then (instances_named p r (suc i) n) (λ xs. pure (x ∷ xs))
    (asks_instances p r (suc i) n) (λ xs. tt))

asks_resource : (p : Position) (r : ℕ) → Asks (resource_named p r)
asks_resource p r =
    asks_then (read (count p r)) (λ v. instances_named p r 0 (copies (Some v))) (asks_read (count p r) refl)
    (λ v. asks_instances p r 0 (copies (Some v)))

asks_all : (p : Position) (rs : List ℕ) → Asks (all_named p rs)
asks_all p [] = tt
asks_all p (r ∷ rs) =
    asks_then (resource_named p r) (λ x. continued (all_named p rs) (λ xs. pure (x ∷ xs))) (asks_resource p r)
    (λ x. asks_then (all_named p rs) (λ xs. pure (x ∷ xs)) (asks_all p rs) (λ xs. tt))

asks_listing : (p : Position) (rs : List ℕ) → Asks (listing_value p rs)
unfolding listing_value
asks_listing p rs = asks_then (all_named p rs) (λ xs. pure (listing_json xs)) (asks_all p rs) (λ xs. tt)

module _ (d : Deployment) (p : Position) where
  asks_there : (r : Reads Json) → Asks r → Asks (there (ruled d (rule d (deployments p)) r))
  asks_there r a =
      asks_then (ruled d (rule d (deployments p)) r) (λ v. pure (Some v))
      (asks_then r (λ j. done (if_meets d (rule d (deployments p) j) j)) a (λ j. tt)) (λ v. tt)

  asks_plain_by : (o : Option TemplateTree)
      → Asks (there_if (option_map (ruled d (rule d (deployments p)))
      (option_map (λ t. listing_value p (nested_numbers t)) o)))
  asks_plain_by None = tt
  asks_plain_by (Some t) = asks_there (listing_value p (nested_numbers t)) (asks_listing p (nested_numbers t))

  asks_plain : Asks (plain d (deployments p))
  unfolding plain raw
  asks_plain = asks_plain_by (template_at d.template p)

  asks_where : (b : Bool) → Asks (where_admitted b (plain d (deployments p)))
  asks_where true = asks_plain
  asks_where false = tt

  asks_guarded : (o : Option Cell) → ((c : Cell) → o ≡ Some c → is_asked c ≡ true)
      → Asks (guarded_by (deployments p) o (plain d (deployments p)))
  asks_guarded None h = asks_plain
  asks_guarded (Some c) h = (h c refl, λ v. asks_where (admits (deployments p) v))

opener_asked : (p : Position) (c : Cell) → opener p ≡ Some c → is_asked c ≡ true
opener_asked [] c e = absurd (cc)
opener_asked (s ∷ p) c e = subst (λ x. is_asked x ≡ true) (let same : included p s ≡ c = cc in same) refl

asks_deployments : (d : Deployment) (p : Position) → Asks (meaning d (deployments p))
unfolding meaning guarded
asks_deployments d p = asks_guarded d p (opener p) (opener_asked p)

-- a cell that is waited for is not asked for, and waits for one that is not: it has a title
pub titled_by : (d : Deployment) (q : Cell → Known Json) (c e : Cell) → is_state c ≡ false
    → told q (meaning d c) ≡ waits e → is_asked c ≡ false → is_asked e ≡ false → is_titled c ≡ true
titled_by d q (parameter p x) e s w a b = refl
titled_by d q (variable p x) e s w a b = refl
titled_by d q (offered p x) e s w a b = refl
titled_by d q (output p x) e s w a b = refl
titled_by d q (count p r) e s w a b = absurd (true≢false a)
titled_by d q (included p i) e s w a b = absurd (true≢false a)
titled_by d q (name p i) e s w a b = absurd (true≢false a)
titled_by d q (deployments p) e s w a b =
    absurd (true≢false (sym (asks_waits q (meaning d (deployments p)) e (asks_deployments d p) w) ∙ b))
titled_by d q (state k) e s w a b = absurd (true≢false s)
