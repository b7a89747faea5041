-- The machine that keeps only trees within the limit answers as the one that keeps all.
use Rattle.std.proofs.Common.{◌≡◌, ℕ, ℤ, ◌<◌, ◌≤◌, max, List, [], ◌∷◌, ◌++◌, map, Option, Some, None}
use Rattle.std.proofs.Common.{option_map, option_and_then, cond, refl, ap, sym, ◌∙◌, arith}
use Rattle.arm_expr.specs.Tree.{Tree, text, int, call, member, index, trees, nesting, deepest}
use Rattle.arm_expr.specs.Tokens.{Token, a_text, an_int, a_name, open_paren, close_paren, open_bracket, close_bracket}
use Rattle.arm_expr.specs.Tokens.{comma, dot}
use Rattle.arm_expr.specs.Machine.{Makes, Frame, calling, indexing, State, wanted, named, opened, done, dotted}
use Rattle.arm_expr.specs.Machine.{closed, separated, indexed, begun, first_begun, gone_on, step, finished, run}
use Rattle.arm_expr.specs.Machine.{parsed, as_tree, kept, all_kept, as_kept}
use Rattle.foundation.proofs.Comparisons.{le_true, le_false, by_le}

-- f and g take what the one makes to what the other makes
pub record Carries {A B C D : Type 0} (m : Makes A B) (n : Makes C D) (f : A → C) (g : B → D) : Type 0 where
  pub carry_text : (s : List ℕ) → n.of_text s ≡ f (m.of_text s)
  pub carry_int : (z : ℤ) → n.of_int z ≡ f (m.of_int z)
  pub carry_none : n.no_arguments ≡ g m.no_arguments
  pub carry_with : (es : B) (e : A) → n.with_argument (g es) (f e) ≡ g (m.with_argument es e)
  pub carry_call : (name : List ℕ) (es : B) → n.of_call name (g es) ≡ f (m.of_call name es)
  pub carry_member : (e : A) (name : List ℕ) → n.of_member (f e) name ≡ f (m.of_member e name)
  pub carry_index : (b e : A) → n.of_index (f b) (f e) ≡ f (m.of_index b e)

module _ {A B C D : Type 0} (m : Makes A B) (n : Makes C D) (f : A → C) (g : B → D) (h : Carries m n f g) where
  abbrev frame_to : Frame A B → Frame C D
  frame_to (calling name es) = calling name (g es)
  frame_to (indexing e) = indexing (f e)

  abbrev state_to : State A → State C
  state_to wanted = wanted
  state_to (named name) = named name
  state_to (opened name) = opened name
  state_to (done e) = done (f e)
  state_to (dotted e) = dotted (f e)

  abbrev next_to : Option (State A × List (Frame A B)) → Option (State C × List (Frame C D))
  next_to o = option_map (λ p. (state_to p.0, map frame_to p.1)) o

  closed_to : (e : A) (S : List (Frame A B)) → closed C D n (f e) (map frame_to S) ≡ next_to (closed A B m e S)
  closed_to e [] = refl
  closed_to e (calling name es ∷ S) = ap (λ x. Some (done x, map frame_to S)) (ap (n.of_call name) (h.carry_with es e)
      ∙ h.carry_call name (m.with_argument es e))
  closed_to e (indexing b ∷ S) = refl

  separated_to : (e : A) (S : List (Frame A B)) → separated C D n (f e) (map frame_to S) ≡ next_to (separated A B m e S)
  separated_to e [] = refl
  separated_to e (calling name es ∷ S) = ap (λ x. Some (wanted, calling name x ∷ map frame_to S)) (h.carry_with es e)
  separated_to e (indexing b ∷ S) = refl

  indexed_to : (e : A) (S : List (Frame A B)) → indexed C D n (f e) (map frame_to S) ≡ next_to (indexed A B m e S)
  indexed_to e [] = refl
  indexed_to e (calling name es ∷ S) = refl
  indexed_to e (indexing b ∷ S) = ap (λ x. Some (done x, map frame_to S)) (h.carry_index b e)

  begun_to : (S : List (Frame A B)) (t : Token) → begun C D n (map frame_to S) t ≡ next_to (begun A B m S t)
  begun_to S (a_text s) = ap (λ x. Some (done x, map frame_to S)) (h.carry_text s)
  begun_to S (an_int z) = ap (λ x. Some (done x, map frame_to S)) (h.carry_int z)
  begun_to S (a_name name) = refl
  begun_to S _ = refl

  -- the first argument begins over a call without any
  first_frame : (name : List ℕ) (S : List (Frame A B)) (t : Token)
      → begun C D n (calling name n.no_arguments ∷ map frame_to S) t
      ≡ next_to (begun A B m (calling name m.no_arguments ∷ S) t)
  first_frame name S t = ap (λ x. begun C D n (calling name x ∷ map frame_to S) t) h.carry_none
      ∙ begun_to (calling name m.no_arguments ∷ S) t

  first_to : (name : List ℕ) (S : List (Frame A B)) (t : Token)
      → first_begun C D n name (map frame_to S) t ≡ next_to (first_begun A B m name S t)
  first_to name S close_paren = ap (λ x. Some (done x, map frame_to S)) (ap (n.of_call name) h.carry_none
      ∙ h.carry_call name m.no_arguments)
  first_to name S t = first_frame name S t

  gone_on_to : (e : A) (S : List (Frame A B)) (t : Token)
      → gone_on C D n (f e) (map frame_to S) t ≡ next_to (gone_on A B m e S t)
  gone_on_to e S dot = refl
  gone_on_to e S open_bracket = refl
  gone_on_to e S close_bracket = indexed_to e S
  gone_on_to e S close_paren = closed_to e S
  gone_on_to e S comma = separated_to e S
  gone_on_to e S _ = refl

  step_to : (s : State A) (S : List (Frame A B)) (t : Token)
      → step C D n (state_to s) (map frame_to S) t ≡ next_to (step A B m s S t)
  step_to wanted S t = begun_to S t
  step_to (named name) S open_paren = refl
  step_to (named name) S _ = refl
  step_to (opened name) S t = first_to name S t
  step_to (done e) S t = gone_on_to e S t
  step_to (dotted e) S (a_name name) = ap (λ x. Some (done x, map frame_to S)) (h.carry_member e name)
  step_to (dotted e) S _ = refl

  finished_to : (s : State A) (S : List (Frame A B))
      → finished C D n (state_to s) (map frame_to S) ≡ option_map f (finished A B m s S)
  finished_to (done e) [] = refl
  finished_to (done e) (x ∷ S) = refl
  finished_to wanted S = refl
  finished_to (named name) S = refl
  finished_to (opened name) S = refl
  finished_to (dotted e) S = refl

  run_to : (ts : List Token) (s : State A) (S : List (Frame A B))
      → run C D n (state_to s) (map frame_to S) ts ≡ option_map f (run A B m s S ts)
  run_to [] s S = finished_to s S
  run_to (t ∷ ts) s S =
      ap (λ o. option_and_then (λ p. run C D n p.0 p.1 ts) o) (step_to s S t)
      ∙ elim (step A B m s S t) as (λ o. option_and_then (λ p. run C D n p.0 p.1 ts) (next_to o) ≡ option_map f
      (option_and_then (λ p. run A B m p.0 p.1 ts) o)) [
        | None ↦ refl
        | Some p ↦ run_to ts p.0 p.1
      ]

  pub parsed_to : (ts : List Token) → parsed C D n ts ≡ option_map f (parsed A B m ts)
  parsed_to ts = run_to ts wanted []

pub too_deep : (limit : ℕ) (e : Tree) → limit < nesting e → kept limit e ≡ None
too_deep limit e h = ap (λ b. cond b (Some e) None) (le_false (nesting e) limit h)

too_deep_some : (limit : ℕ) (es : List Tree) → limit < deepest (trees es) → all_kept limit es ≡ None
too_deep_some limit es h = ap (λ b. cond b (Some es) None) (le_false (deepest (trees es)) limit h)

all_shallow : (limit : ℕ) (es : List Tree) → deepest (trees es) ≤ limit → all_kept limit es ≡ Some es
all_shallow limit es h = ap (λ b. cond b (Some es) None) (le_true (deepest (trees es)) limit h)

member_kept : (limit : ℕ) (e : Tree) (name : List ℕ)
    → option_and_then (λ x. kept limit (member x name)) (kept limit e) ≡ kept limit (member e name)
member_kept limit e name =
    by_le (nesting e) limit (λ b. option_and_then (λ x. kept limit (member x name)) (cond b (Some e) None)
    ≡ kept limit (member e name))
    (λ y. refl) (λ n. sym (too_deep limit (member e name) (omega arith)))

index_kept : (limit : ℕ) (b e : Tree)
    → option_and_then (λ x. option_and_then (λ y. kept limit (index x y)) (kept limit e)) (kept limit b)
    ≡ kept limit (index b e)
index_kept limit b e =
    by_le (nesting b) limit (λ v. option_and_then (λ x. option_and_then (λ y. kept limit (index x y)) (kept limit e))
    (cond v (Some b) None) ≡ kept limit (index b e))
    (λ y. by_le (nesting e) limit (λ v. option_and_then (λ y. kept limit (index b y)) (cond v (Some e) None)
    ≡ kept limit (index b e))
    (λ y. refl) (λ n. sym (too_deep limit (index b e) (omega arith))))
    (λ n. sym (too_deep limit (index b e) (omega arith)))

deepest-push : (es : List Tree) (e : Tree) → deepest (trees (es ++ e ∷ [])) ≡ max (deepest (trees es)) (nesting e)
deepest-push [] e = omega arith
deepest-push (x ∷ es) e = omega (arith, deepest-push es e)

with_kept : (limit : ℕ) (es : List Tree) (e : Tree)
    → option_and_then (λ xs. option_map (λ x. xs ++ x ∷ []) (kept limit e)) (all_kept limit es) ≡ all_kept limit
    (es ++ e ∷ [])
with_kept limit es e =
    by_le (deepest (trees es)) limit (λ v. option_and_then (λ xs. option_map (λ x. xs ++ x ∷ []) (kept limit e))
    (cond v (Some es) None) ≡ all_kept limit (es ++ e ∷ []))
    (λ y. by_le (nesting e) limit (λ v. option_map (λ x. es ++ x ∷ []) (cond v (Some e) None) ≡ all_kept limit
    (es ++ e ∷ []))
    (λ z. sym (all_shallow limit (es ++ e ∷ []) (omega (arith, deepest-push es e))))
    (λ n. sym (too_deep_some limit (es ++ e ∷ []) (omega (arith, deepest-push es e)))))
    (λ n. sym (too_deep_some limit (es ++ e ∷ []) (omega (arith, deepest-push es e))))

call_kept : (limit : ℕ) (name : List ℕ) (es : List Tree)
    → option_and_then (λ xs. kept limit (call name (trees xs))) (all_kept limit es)
    ≡ kept limit (call name (trees es))
call_kept limit name es =
    by_le (deepest (trees es)) limit
    (λ v. option_and_then (λ xs. kept limit (call name (trees xs))) (cond v (Some es) None)
    ≡ kept limit (call name (trees es)))
    (λ y. refl) (λ n. sym (too_deep limit (call name (trees es)) (omega arith)))

carries : (limit : ℕ) → Carries as_tree (as_kept limit) (kept limit) (all_kept limit)
carries limit = record {
  carry_text = λ s. sym (ap (λ b. cond b (Some (text s)) None) (le_true 0 limit (omega arith)));
  carry_int = λ z. sym (ap (λ b. cond b (Some (int z)) None) (le_true 0 limit (omega arith)));
  carry_none = sym (all_shallow limit [] (omega arith));
  carry_with = with_kept limit;
  carry_call = call_kept limit;
  carry_member = member_kept limit;
  carry_index = index_kept limit;
}

-- no answer where nothing is spelled, and no tree where it nests too deep
pub parsed_kept : (limit : ℕ) (ts : List Token)
    → parsed (Option Tree) (Option (List Tree)) (as_kept limit) ts ≡ option_map (kept limit)
    (parsed Tree (List Tree) as_tree ts)
parsed_kept limit ts = parsed_to as_tree (as_kept limit) (kept limit) (all_kept limit) (carries limit) ts
