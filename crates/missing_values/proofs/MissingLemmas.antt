-- Paths in items, in members and in loops, one after another.
use Rattle.std.proofs.Common.{◌≡◌, ◌<◌, ◌≤◌, ◌+◌, ◌∷◌, ℕ, zero, suc}
use Rattle.std.proofs.Common.{List, map, drop, length, get_or, Option, Some, None}
use Rattle.std.proofs.Common.{true, false, Result, refl, sym, ap, ◌∙◌, subst, arith, add-one}
use Rattle.std.proofs.Math.Seq.{drop-cons}
use Rattle.std.proofs.lemmas.List.{drop_all}
use Rattle.std.specs.declared.vec.Vec.{Vec}
use Rattle.std.specs.declared.alloc.Global.{Global}
use Rattle.arm_value.specs.Json.{Json, null, bool, int, text, array, object, row, pairs, Member}
use Rattle.arm_value.specs.View.{json, member}
use Rattle.arm_value.specs.declared.value.Value.{Value}
use Rattle.arm_value.specs.declared.value.Value.TheVariants as code
use Rattle.arm_value.specs.declared.value.Field.{Field}
use Rattle.reading.specs.Reading.{pure}
use Rattle.reading.specs.Knowledge.{Known, Told, value, told}
use Rattle.arm_env.specs.Look.{Look, Fact, Surroundings}
use Rattle.arm_env.specs.Answer.{Gives, Stops, outcome_told}
use Rattle.arm_env.specs.declared.stop.Stop.{Stop}
use Rattle.arm_env.proofs.Answers.{told-done, goes, stops}
use Rattle.arm_eval.specs.Trees.{Copy, tree_value, counting, within, copy_in}
use Rattle.expression_values.specs.Meaning.{outcome}
use Rattle.expression_values.proofs.Answers.{told-outcome}
use Rattle.missing_values.specs.Missing.{Path, Missing, a_member, an_item}
use Rattle.missing_values.specs.Missing.{below, or_later, in_whole, first_turn, each_turn}
use Rattle.missing_values.specs.Missing.{in_input, in_loop_member, missing_path, first_item, first_member, in_copy}
use Rattle.missing_values.specs.Missing.{first_loop, loop_at, in_loop, first_loop_member, in_parts, in_member}
use Rattle.missing_values.specs.Words.{path_found, is_nowhere}
use Rattle.missing_values.specs.declared.path.Step.{Step}
use Rattle.missing_values.proofs.PathLemmas.{goes_on, ends_here}

pub path_is : (j : Json) (here : Surroundings) → missing_path j here ≡ in_whole (tree_value j here) (in_parts j here)
path_is null here = refl
path_is (bool b) here = refl
path_is (int z) here = refl
path_is (text t) here = refl
path_is (array js) here = refl
path_is (object ms) here = refl

-- ---- trees without parts, and trees that are no loops

pub no_parts : (here : Surroundings) (v : Value) → ((js : List Json) → v ≡ code.Array js → ⊥)
    → ((ms : List Member) → v ≡ code.Object ms → ⊥) → in_parts (json v) here ≡ pure None
no_parts here code.Null a o = refl
no_parts here (code.Bool b) a o = refl
no_parts here (code.Int z) a o = refl
no_parts here (code.Text t) a o = refl
no_parts here (code.Array js) a o = absurd (a js refl)
no_parts here (code.Object ms) a o = absurd (o ms refl)

pub no_loops : (here : Surroundings) (v : Value) → ((js : List Json) → v ≡ code.Array js → ⊥)
    → in_copy (json v) here ≡ pure None
no_loops here code.Null a = refl
no_loops here (code.Bool b) a = refl
no_loops here (code.Int z) a = refl
no_loops here (code.Text t) a = refl
no_loops here (code.Array js) a = absurd (a js refl)
no_loops here (code.Object ms) a = refl

pub not_a_loop : (here : Surroundings) (v : Value) → ((ms : List Member) → v ≡ code.Object ms → ⊥)
    → loop_at (json v) here ≡ pure None
not_a_loop here code.Null o = refl
not_a_loop here (code.Bool b) o = refl
not_a_loop here (code.Int z) o = refl
not_a_loop here (code.Text t) o = refl
not_a_loop here (code.Array js) o = refl
not_a_loop here (code.Object ms) o = absurd (o ms refl)

pub no_such_loop : (here : Surroundings) (v : Value) (ms : List Member) → v ≡ code.Object ms
    → None ≡ copy_in (json v) → loop_at (json v) here ≡ pure None
no_such_loop here v ms e h =
    ap (λ v. loop_at (json v) here) e
    ∙ ap (λ o. in_loop o (λ c. first_loop_member c (pairs ms) here)) (sym (h ∙ ap (λ v. copy_in (json v)) e))

-- one found path for the rest, whether it ends the search or the search goes on
module _ (p : Look → Known Fact) (whole : Missing) where
  pub further : (r : Result (Option (Vec Step Global)) Stop) (from o rest : Missing) → from ≡ or_later o rest
      → true ≡ is_nowhere r → Gives path_found r (told p o) → told p from ≡ told p whole → told p rest ≡ told p whole
  further r from o rest is e h before = sym (goes_on p r o rest e h) ∙ ap (told p) (sym is) ∙ before

  pub found : (r : Result (Option (Vec Step Global)) Stop) (from o rest : Missing) → from ≡ or_later o rest
      → false ≡ is_nowhere r → Gives path_found r (told p o) → told p from ≡ told p whole
      → Gives path_found r (told p whole)
  found r from o rest is e h before =
      let P : Told Look (Option Path) → Type 0 = λ t. Gives path_found r t in
      subst P (ap (told p) (sym is) ∙ before) (ends_here p r o rest e h)

  pub nothing : (from : Missing) → from ≡ pure None → told p from ≡ told p whole → told p whole ≡ value None
  nothing from is before = sym before ∙ ap (told p) is ∙ told-done p (Some None)

module _ (here : Surroundings) where
  -- ---- items

  pub items_from : List Value → ℕ → Missing
  items_from ts k = first_item (row (map json (drop k ts))) here k

  pub item_next : (ts : List Value) (t : Value) (k : ℕ) → k < length ts → t ≡ get_or ts k t
      → first_item (row (map json (drop k ts))) here k
      ≡ or_later (below (an_item k) (missing_path (json t) here))
      (first_item (row (map json (drop (k + 1) ts))) here (k + 1))
  item_next ts t k l e =
      rw add-one (ap (λ vs. first_item (row (map json vs)) here k)
      (drop-cons ts k t l ∙ ap (λ x. x ∷ drop (suc k) ts) (sym e)))

  pub no_item : (ts : List Value) (k : ℕ) → length ts ≤ k → first_item (row (map json (drop k ts))) here k ≡ pure None
  no_item ts k l = ap (λ vs. first_item (row (map json vs)) here k) (drop_all k ts l)

  pub loop_next : (ts : List Value) (t : Value) (k : ℕ) → k < length ts → t ≡ get_or ts k t
      → first_loop (row (map json (drop k ts))) here k
      ≡ or_later (below (an_item k) (loop_at (json t) here))
      (first_loop (row (map json (drop (k + 1) ts))) here (k + 1))
  loop_next ts t k l e =
      rw add-one (ap (λ vs. first_loop (row (map json vs)) here k)
      (drop-cons ts k t l ∙ ap (λ x. x ∷ drop (suc k) ts) (sym e)))

  pub no_loop : (ts : List Value) (k : ℕ) → length ts ≤ k → first_loop (row (map json (drop k ts))) here k ≡ pure None
  no_loop ts k l = ap (λ vs. first_loop (row (map json vs)) here k) (drop_all k ts l)

  -- ---- members

  pub member_next : (fs : List Field) (f : Field) (k : ℕ) → k < length fs → f ≡ get_or fs k f
      → first_member (pairs (map member (drop k fs))) here
      ≡ or_later (below (a_member f.name) (in_member f.name (json f.value) here))
      (first_member (pairs (map member (drop (k + 1) fs))) here)
  member_next fs f k l e =
      rw add-one (ap (λ gs. first_member (pairs (map member gs)) here)
      (drop-cons fs k f l ∙ ap (λ g. g ∷ drop (suc k) fs) (sym e)))

  pub no_member : (fs : List Field) (k : ℕ) → length fs ≤ k
      → first_member (pairs (map member (drop k fs))) here ≡ pure None
  no_member fs k l = ap (λ gs. first_member (pairs (map member gs)) here) (drop_all k fs l)

  pub loop_member_next : (c : Copy) (fs : List Field) (f : Field) (k : ℕ) → k < length fs → f ≡ get_or fs k f
      → first_loop_member c (pairs (map member (drop k fs))) here
      ≡ or_later (below (a_member f.name) (in_loop_member c f.name (missing_path (json f.value)) here))
      (first_loop_member c (pairs (map member (drop (k + 1) fs))) here)
  loop_member_next c fs f k l e =
      rw add-one (ap (λ gs. first_loop_member c (pairs (map member gs)) here)
      (drop-cons fs k f l ∙ ap (λ g. g ∷ drop (suc k) fs) (sym e)))

  pub no_loop_member : (c : Copy) (fs : List Field) (k : ℕ) → length fs ≤ k
      → first_loop_member c (pairs (map member (drop k fs))) here ≡ pure None
  no_loop_member c fs k l = ap (λ gs. first_loop_member c (pairs (map member gs)) here) (drop_all k fs l)

-- ---- turns of a loop

-- how many turns are left
pub record Left (p : Look → Known Fact) (input : Surroundings
    → Missing) (name : List ℕ) (here : Surroundings) (i n : ℕ)
    : Type 0 where
  pub left : ℕ
  pub all : i + left ≡ n
  pub rest : told p (first_turn input name here i left) ≡ told p (first_turn input name here 0 n)

module _ (p : Look → Known Fact) (input : Surroundings → Missing) (name : List ℕ) (here : Surroundings) where
  pub all_left : (n : ℕ) → Left p input name here 0 n
  all_left n = record { left = n; all = omega arith; rest = refl }

  next_left : (i n left : ℕ) → i + left ≡ n → i < n → (r : Result (Option (Vec Step Global)) Stop)
      → true ≡ is_nowhere r
      → Gives path_found r (told p (input (within name i here)))
      → told p (first_turn input name here i left) ≡ told p (first_turn input name here 0 n)
      → Left p input name here (i + 1) n
  next_left i n zero all l r e h before = absurd (omega (arith, all, l))
  next_left i n (suc left) all l r e h before = record {
    left = left;
    all = omega (arith, all);
    rest = rw add-one (further p (first_turn input name here 0 n) r _ (input (within name i here))
        (first_turn input name here (suc i) left) refl e h before);
  }

  pub turn_further : (i n : ℕ) → Left p input name here i n → i < n → (r : Result (Option (Vec Step Global)) Stop)
      → true ≡ is_nowhere r → Gives path_found r (told p (input (within name i here)))
      → Left p input name here (i + 1) n
  turn_further i n x l r e h = next_left i n x.left x.all l r e h x.rest

  here_found : (i n left : ℕ) → i + left ≡ n → i < n → (r : Result (Option (Vec Step Global)) Stop)
      → false ≡ is_nowhere r
      → Gives path_found r (told p (input (within name i here)))
      → told p (first_turn input name here i left) ≡ told p (first_turn input name here 0 n)
      → Gives path_found r (told p (first_turn input name here 0 n))
  here_found i n zero all l r e h before = absurd (omega (arith, all, l))
  here_found i n (suc left) all l r e h before =
      found p (first_turn input name here 0 n) r _ (input (within name i here))
      (first_turn input name here (suc i) left) refl e h before

  pub turn_found : (i n : ℕ) → Left p input name here i n → i < n → (r : Result (Option (Vec Step Global)) Stop)
      → false ≡ is_nowhere r → Gives path_found r (told p (input (within name i here)))
      → Gives path_found r (told p (first_turn input name here 0 n))
  turn_found i n x l r e h = here_found i n x.left x.all l r e h x.rest

  none_left : (i n left : ℕ) → i + left ≡ n → n ≤ i
      → told p (first_turn input name here i left) ≡ told p (first_turn input name here 0 n)
      → told p (first_turn input name here 0 n) ≡ value None
  none_left i n zero all l before = sym before ∙ told-done p (Some None)
  none_left i n (suc left) all l before = absurd (omega (arith, all, l))

  pub no_turn : (i n : ℕ) → Left p input name here i n → n ≤ i
      → told p (first_turn input name here 0 n) ≡ value None
  no_turn i n x l = none_left i n x.left x.all l x.rest

-- ---- the input of a loop

module _ (p : Look → Known Fact) (input : Surroundings → Missing) (c : Copy) (here : Surroundings) where
  pub input_counted : (n : Option ℕ) → outcome_told (told p (counting (c.count here))) ≡ value n
      → told p (in_input input c here) ≡ told p (each_turn input c.name here n)
  input_counted n e =
      goes p (outcome (counting (c.count here))) (each_turn input c.name here) n
      (told-outcome p (counting (c.count here)) ∙ e)

  pub input_stops : (s : Stop) → Stops s (outcome_told (told p (counting (c.count here))))
      → Stops s (told p (in_input input c here))
  input_stops s h =
      let P : Told Look (Option ℕ) → Type 0 = λ t. Stops s t in
      stops s p (outcome (counting (c.count here))) (each_turn input c.name here)
      (subst P (sym (told-outcome p (counting (c.count here)))) h)
