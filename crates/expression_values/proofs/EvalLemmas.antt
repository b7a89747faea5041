-- Expressions of the code, form by form.
use Rattle.std.proofs.Common.{◌≡◌, ◌<◌, ◌+◌, ℕ, suc, ℤ, List, [], ◌∷◌, map, drop, length, get_or}
use Rattle.std.proofs.Common.{Bool, true, false, Option, Some, None, nat_le, refl, sym, ap, ◌∙◌, subst, arith}
use Rattle.std.specs.Prelude.{if◌then◌else◌}
use Rattle.std.specs.declared.vec.Vec.{Vec}
use Rattle.std.specs.declared.boxed.Box.{Box}
use Rattle.std.specs.declared.alloc.Global.{Global}
use Rattle.arm_env.proofs.Comparisons.{le_false}
use Rattle.arm_value.specs.Json.{Json, text, int}
use Rattle.arm_expr.specs.Tree as tree
use Rattle.arm_expr.specs.Tree.{trees}
use Rattle.arm_expr.specs.View.{tree_of}
use Rattle.arm_expr.specs.declared.expr.Expr.{Expr}
use Rattle.arm_expr.specs.declared.expr.Expr.TheVariants as e
use Rattle.arm_expr.proofs.ViewLemmas.{tree_of-Text, tree_of-Int, tree_of-Call, tree_of-Member}
use Rattle.arm_expr.proofs.ViewLemmas.{tree_of-Index}
use Rattle.arm_env.specs.Reading.{pure, none, continued, both}
use Rattle.arm_env.specs.Knowledge as knowledge
use Rattle.arm_env.specs.Knowledge.{Known, told, both_told}
use Rattle.arm_env.specs.Look.{Look, Fact, Looking, Surroundings}
use Rattle.arm_env.specs.Held.{Held, held_value}
use Rattle.expression_values.specs.Meaning.{called, held, values, value, indexed, outcome}
use Rattle.expression_values.specs.Row.{if_row, chosen}
use Rattle.arm_functions.specs.Kinds.{truth_of}
use Rattle.arm_env.specs.Answer.{outcome_told, Stops}
use Rattle.arm_env.specs.declared.stop.Stop.TheVariants as stop
use Rattle.expression_values.specs.Args.{outs}
use Rattle.arm_env.specs.declared.stop.Stop.{Stop}
use Rattle.arm_env.proofs.Answers.{told-done, told-both, goes, stops}
use Rattle.expression_values.proofs.Answers.{told-outcome}
use Rattle.arm_env.proofs.Lists.{next_item}

values-outs : (here : Surroundings) (es : List Expr)
    → values here (trees (map tree_of es)) ≡ outs here es
values-outs here [] = refl
values-outs here (x ∷ xs) = ap (λ os. value here (tree_of x) ∷ os) (values-outs here xs)

pub held-Text : (here : Surroundings) (s : List ℕ)
    → held here (tree_of (e.Text s)) ≡ held_value (pure (text s))
held-Text here s = ap (held here) (tree_of-Text s)

pub held-Int : (here : Surroundings) (z : ℤ)
    → held here (tree_of (e.Int z)) ≡ held_value (pure (int z))
held-Int here z = ap (held here) (tree_of-Int z)

pub held-Call : (here : Surroundings) (name : List ℕ) (es : Vec Expr Global)
    → held here (tree_of (e.Call name es)) ≡ called here name (outs here es.items)
held-Call here name es = ap (held here) (tree_of-Call name es)
    ∙ ap (called here name) (values-outs here es.items)

pub held-Member : (here : Surroundings) (x : Box Expr Global) (name : List ℕ)
    → held here (tree_of (e.Member x name)) ≡ held here (tree.member (tree_of x.value) name)
held-Member here x name = ap (held here) (tree_of-Member x name)

pub held-Index : (here : Surroundings) (x i : Box Expr Global)
    → held here (tree_of (e.Index x i)) ≡ held here (tree.index (tree_of x.value) (tree_of i.value))
held-Index here x i = ap (held here) (tree_of-Index x i)

pub ruleset meanings = (held-Text, held-Int, held-Call, held-Member, held-Index)

-- an index, by what is answered of both parts
index_is : (A B : Type 0) (s : knowledge.Told Look A) (t : knowledge.Told Look B) (o : A) (u : B) → s
    ≡ knowledge.value o → t ≡ knowledge.value u
    → both_told s t ≡ knowledge.value (o, u)
index_is A B (knowledge.value x) (knowledge.value y) o u e f =
    let a : x ≡ o = cc in
    let b : y ≡ u = cc in
    λ i. knowledge.value (a i, b i)
index_is A B (knowledge.value x) knowledge.no_value o u e f = absurd cc
index_is A B (knowledge.value x) (knowledge.waits k) o u e f = absurd cc
index_is A B knowledge.no_value t o u e f = absurd cc
index_is A B (knowledge.waits k) t o u e f = absurd cc

both_out : (p : Look → Known Fact) (r : Looking Held) (q : Looking Json)
    → told p (both (outcome r) (outcome q))
    ≡ both_told (outcome_told (told p r)) (outcome_told (told p q))
both_out p r q = told-both p (outcome r) (outcome q)
    ∙ (λ i. both_told (told-outcome p r i) (told-outcome p q i))

pub index_told : (p : Look → Known Fact) (r : Looking Held) (q : Looking Json)
    (h : Option Held) (o : Option Json) → outcome_told (told p r) ≡ knowledge.value h
    → outcome_told (told p q) ≡ knowledge.value o
    → told p (continued (both (outcome r) (outcome q)) (λ z. indexed z.0 z.1))
    ≡ told p (indexed h o)
index_told p r q h o e f =
    goes p (both (outcome r) (outcome q)) (λ z. indexed z.0 z.1) (h, o)
    (both_out p r q ∙ index_is (Option Held) (Option Json) _ _ h o e f)

-- the first of both that stops
first_stops : (A B : Type 0) (s : Stop) (t : knowledge.Told Look A) (u : knowledge.Told Look B)
    → Stops s (outcome_told t)
    → Stops s (both_told (outcome_told t) u)
first_stops A B stop.NoValue (knowledge.value x) u h = absurd cc
first_stops A B stop.NoValue knowledge.no_value u h = absurd cc
first_stops A B stop.NoValue (knowledge.waits k) u h = absurd cc
first_stops A B (stop.Waits l) (knowledge.value x) u h = absurd cc
first_stops A B (stop.Waits l) knowledge.no_value u h = absurd cc
first_stops A B (stop.Waits l) (knowledge.waits k) u h = cc
first_stops A B stop.OutOfMemory t u h = tt

second_stops : (A B : Type 0) (s : Stop) (t : knowledge.Told Look A) (u : knowledge.Told Look B) (o : A) → t
    ≡ knowledge.value o
    → Stops s (outcome_told u) → Stops s (both_told t (outcome_told u))
second_stops A B s knowledge.no_value u o e h = absurd cc
second_stops A B s (knowledge.waits k) u o e h = absurd cc
second_stops A B stop.NoValue (knowledge.value x) (knowledge.value y) o e h = absurd cc
second_stops A B stop.NoValue (knowledge.value x) knowledge.no_value o e h = absurd cc
second_stops A B stop.NoValue (knowledge.value x) (knowledge.waits k) o e h = absurd cc
second_stops A B (stop.Waits l) (knowledge.value x) (knowledge.value y) o e h = absurd cc
second_stops A B (stop.Waits l) (knowledge.value x) knowledge.no_value o e h = absurd cc
second_stops A B (stop.Waits l) (knowledge.value x) (knowledge.waits k) o e h = cc
second_stops A B stop.OutOfMemory (knowledge.value x) u o e h = tt

pub base_stops_index : (s : Stop) (p : Look → Known Fact) (r : Looking Held)
    (q : Looking Json) → Stops s (outcome_told (told p r))
    → Stops s (told p (continued (both (outcome r) (outcome q)) (λ z. indexed z.0 z.1)))
base_stops_index s p r q h =
    let P : knowledge.Told Look (Option Held × Option Json) → Type 0 = Stops s in
    stops s p (both (outcome r) (outcome q)) (λ z. indexed z.0 z.1)
    (subst P (sym (both_out p r q))
    (first_stops Held (Option Json) s (told p r) (outcome_told (told p q)) h))

pub index_stops : (s : Stop) (p : Look → Known Fact) (r : Looking Held)
    (q : Looking Json) (h : Option Held) → outcome_told (told p r) ≡ knowledge.value h
    → Stops s (outcome_told (told p q))
    → Stops s (told p (continued (both (outcome r) (outcome q)) (λ z. indexed z.0 z.1)))
index_stops s p r q h e f =
    let P : knowledge.Told Look (Option Held × Option Json) → Type 0 = Stops s in
    stops s p (both (outcome r) (outcome q)) (λ z. indexed z.0 z.1)
    (subst P (sym (both_out p r q))
    (second_stops (Option Held) Json s (outcome_told (told p r)) (told p q) h e f))

-- a turn of a loop over the arguments of a row
pub turn : (row : List (Looking Json) → Looking Json) (p : Look → Known Fact) (here : Surroundings)
    (es : List Expr) (i : ℕ) (x : Expr) → i < length es → x ≡ get_or es i x
    → told p (row (outs here es)) ≡ told p (row (outs here (drop i es)))
    → told p (row (outs here es)) ≡ told p
    (row (value here (tree_of x) ∷ outs here (drop (i + 1) es)))
turn row p here es i x l e so_far = so_far
    ∙ ap (λ xs. told p (row (outs here xs))) (next_item es i x l e)

-- a part that stops the whole
pub stops_at : {A B : Type 0} (p : Look → Known Fact) (s : Stop) (t : knowledge.Told Look B) (o : Looking A)
    (f : A → Looking B) → t ≡ told p (continued o f) → Stops s (told p o) → Stops s t
stops_at {A} {B} p s t o f e h = let P : knowledge.Told Look B
    → Type 0 = Stops s in subst P (sym e) (stops s p o f h)

length-outs : (here : Surroundings) (es : List Expr) → length (outs here es) ≡ length es
length-outs here [] = refl
length-outs here (x ∷ xs) = ap suc (length-outs here xs)

-- fewer than k arguments
pub too_few : (k : ℕ) (p : Look → Known Fact) (here : Surroundings) (es : List Expr)
    (r : Looking Json) → length es < k
    → told p (if nat_le k (length (outs here es)) then r else none) ≡ knowledge.no_value
too_few k p here es r h =
    ap (λ n. told p (if nat_le k n then r else none)) (length-outs here es)
    ∙ ap (λ b. told p (if b then r else none)) (le_false k (length es) h) ∙ told-done p None

-- three in all
pub three : {A : Type 0} (xs : List A) (a b c : A) → length xs ≡ 3 → a ≡ get_or xs 0 a
    → b ≡ get_or xs 1 b → c ≡ get_or xs 2 c → xs ≡ a ∷ b ∷ c ∷ []
three [] a b c h p q r = absurd (omega arith)
three (x ∷ []) a b c h p q r = absurd (omega arith)
three (x ∷ y ∷ []) a b c h p q r = absurd (omega arith)
three (x ∷ y ∷ z ∷ []) a b c h p q r = cc
three (x ∷ y ∷ z ∷ u ∷ xs) a b c h p q r = absurd (omega arith)

-- another count than three
pub if_wrong : (p : Look → Known Fact) (here : Surroundings) (es : List Expr) → (length es ≡ 3 → ⊥)
    → told p (if_row (outs here es)) ≡ knowledge.no_value
if_wrong p here [] h = told-done p None
if_wrong p here (a ∷ []) h = told-done p None
if_wrong p here (a ∷ b ∷ []) h = told-done p None
if_wrong p here (a ∷ b ∷ c ∷ []) h = absurd (h (omega arith))
if_wrong p here (a ∷ b ∷ c ∷ d ∷ es) h = told-done p None

-- the argument that the condition chooses
pub if_args : (p : Look → Known Fact) (here : Surroundings) (es : List Expr) (a b c : Expr)
    (v : Json) → length es ≡ 3 → a ≡ get_or es 0 a → b ≡ get_or es 1 b → c ≡ get_or es 2 c
    → told p (value here (tree_of a)) ≡ knowledge.value v
    → told p (if_row (outs here es)) ≡ told p
    (chosen (truth_of v) (value here (tree_of b)) (value here (tree_of c)))
if_args p here es a b c v h x y z e =
    ap (λ l. told p (if_row (outs here l))) (three es a b c h x y z)
    ∙ goes p (value here (tree_of a)) _ v e

-- a value that is not null
pub there : (b : Bool) (j v : Json) → Some v ≡ (if b then None else Some j) → (b ≡ false) × (v ≡ j)
there true j v e = absurd cc
there false j v e = (refl, cc)

pub nowhere : (b : Bool) (j : Json) → None ≡ (if b then None else Some j) → b ≡ true
nowhere true j e = refl
nowhere false j e = absurd cc
