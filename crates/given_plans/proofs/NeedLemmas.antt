-- Which task of a plan that is given as tables needs which.
use Rattle.std.proofs.Common.{◌≡◌, ℕ, zero, suc, ◌+◌, Bool, true, false, [], Option, Some, None}
use Rattle.std.proofs.Common.{refl, sym, ap, ◌∙◌, arith}
use Rattle.std.specs.Prelude.{◌/◌, ◌||◌, ◌&&◌, nat_eq, option_and_then, option_map, if◌then◌else◌}
use Rattle.std.proofs.lemmas.Bool.Decides.{nat_tests}
use Rattle.reading.specs.Reading.{pure}
use Rattle.reading.specs.Knowledge.{told}
use Rattle.deploy_cells.specs.Cells.{step, Position}
use Rattle.deploy_cells.specs.Same.{same_position}
use Rattle.plan_cells.specs.Known.{Table}
use Rattle.plan_cells.specs.Needs.{needs, is_before, copy_of, depends_by}
use Rattle.plan_cells.specs.Resources.{Listed, resource_at, nested_at}
use Rattle.plan_cells.specs.Scopes.{template_at, resource_of}
use Rattle.plan_cells.specs.Tasks.{enter, leave, put}
use Rattle.deploy_histories.specs.Readiness.{is_yes, needs_first}
use Rattle.given_plans.specs.Given.{at_depth, planned_of, given_template, is_next, follows}
use Rattle.given_plans.specs.declared.plan.GivenPlan.{GivenPlan}

one_more : (n : ℕ) → n + 1 ≡ suc n
one_more n = omega arith

-- ---- tests of numbers

no_zero : (n : ℕ) → false ≡ nat_eq 0 (suc n)
no_zero n = grind (arith, nat_tests)

zero_not : (n : ℕ) → false ≡ nat_eq (suc n) 0
zero_not n = grind (arith, nat_tests)

never_next : (n : ℕ) → false ≡ nat_eq 0 (n + 1)
never_next n = grind (arith, nat_tests)

both_more : (a b : ℕ) → nat_eq a b ≡ nat_eq (suc a) (suc b)
both_more a b = grind (arith, nat_tests)

turned : (a b : ℕ) → nat_eq a b ≡ nat_eq (suc b) (a + 1)
turned a b = grind (arith, nat_tests)

-- ---- scopes

same_depth : (a b : ℕ) → same_position (at_depth a) (at_depth b) ≡ nat_eq a b
same_depth zero zero = refl
same_depth zero (suc b) = no_zero b
same_depth (suc a) zero = zero_not a
same_depth (suc a) (suc b) = same_depth a b ∙ both_more a b

-- no scope inside has a template
pub inner_none : (g : GivenPlan) (n : ℕ) → template_at (given_template g) (at_depth (suc n)) ≡ None
unfolding template_at resource_at
inner_none g zero = refl
inner_none g (suc n) =
    ap (λ o. option_map (λ m. m.template) (option_and_then (λ u. nested_at u 1) o))
    (inner_none g n)

-- no scope has a second resource
no_second : (g : GivenPlan) (n : ℕ) → resource_of (given_template g) (at_depth n) 1 ≡ None
unfolding template_at resource_at
no_second g zero = refl
no_second g (suc n) = ap (λ o. option_and_then (λ u. resource_at u 1) o) (inner_none g n)

-- ---- what a test says

one_test : (t : Table) (b : Bool) → is_yes (told t (if (b || false) then pure true else pure false)) ≡ b
unfolding told
one_test t true = refl
one_test t false = refl

last_test : (t : Table) (b : Bool)
    → is_yes (told t (if ((b || false) || false) then pure true else pure false)) ≡ b
unfolding told
last_test t true = refl
last_test t false = refl

any_test : (t : Table) (b : Bool) → is_yes (told t (if b then pure true else pure false)) ≡ b
unfolding told
any_test t true = refl
any_test t false = refl

three : (a b c d e f : Bool) → a ≡ d → b ≡ e → c ≡ f → (a || ((b || c) || false)) ≡ (d || (e || f))
three a b c d e f i j k =
    ap (λ z. z || ((b || c) || false)) i ∙ ap (λ z. d || ((z || c) || false)) j
    ∙ ap (λ z. d || ((e || z) || false)) k ∙ shorter d e f
  where
    shorter : (x y z : Bool) → (x || ((y || z) || false)) ≡ (x || (y || z))
    shorter true y z = refl
    shorter false true z = refl
    shorter false false true = refl
    shorter false false false = refl

module _ (g : GivenPlan) where
  put_test : (t : Table) (b : Bool) (i j : ℕ)
      → is_yes (told t (if (b || false) then pure true else depends_by (planned_of g).deployment [] (step 0 i)
      (step 0 j) (resource_of (given_template g) [] 0) (resource_of (given_template g) [] 0))) ≡ b
  unfolding told template_at resource_at
  put_test t true i j = refl
  put_test t false i j = refl

  pub put_put : (i j : ℕ) → needs_first (planned_of g) (put [] (step 0 i)) (put [] (step 0 j)) ≡ follows g.size i j
  unfolding needs told template_at resource_at
  put_put i j =
      put_test (planned_of g).known (nat_eq (i / suc g.size) (suc (j / suc g.size))) i j
      ∙ sym (ap (λ n. nat_eq (i / n) ((j / n) + 1)) (one_more g.size)
      ∙ ap (λ n. nat_eq (i / suc g.size) n) (one_more (j / suc g.size)))

  pub put_enter : (i b : ℕ) → needs_first (planned_of g) (put [] (step 0 i)) (enter (at_depth b)) ≡ nat_eq b 0
  unfolding needs told template_at resource_at
  put_enter i zero = refl
  put_enter i (suc n) = zero_not n

  pub put_leave : (i b : ℕ) → needs_first (planned_of g) (put [] (step 0 i)) (leave (at_depth b)) ≡ false
  unfolding needs told template_at resource_at
  put_leave i zero = refl
  put_leave i (suc zero) = refl
  put_leave i (suc (suc n)) = refl

  pub enter_enter : (a b : ℕ) → needs_first (planned_of g) (enter (at_depth a)) (enter (at_depth b)) ≡ is_next a b
  unfolding needs told template_at resource_at
  enter_enter zero b = never_next b
  enter_enter (suc n) b =
      one_test (planned_of g).known (same_position (at_depth b) (at_depth n)) ∙ same_depth b n ∙ turned b n

  pub enter_put : (a i : ℕ) → needs_first (planned_of g) (enter (at_depth a)) (put [] (step 0 i)) ≡ false
  unfolding needs told template_at resource_at
  enter_put zero i = refl
  enter_put (suc zero) i = refl
  enter_put (suc (suc n)) i = refl

  -- no scope is in the batch after that of another, or depends on one
  scopes_apart : (t : Table) (p : Position) (same : Bool) (o : Option Listed) → o ≡ None
      → is_yes (told t (if ((same && is_before (planned_of g).deployment
      (copy_of (planned_of g).deployment o) 0 0) || false)
      then pure true else (if same then depends_by (planned_of g).deployment p (step 1 0) (step 1 0) o o
      else pure false))) ≡ false
  unfolding told
  scopes_apart t p true None e = refl
  scopes_apart t p false None e = refl
  scopes_apart t p same (Some r) e = absurd (cc)

  pub enter_leave : (a b : ℕ) → needs_first (planned_of g) (enter (at_depth a)) (leave (at_depth b)) ≡ false
  unfolding needs told template_at resource_at
  enter_leave zero b = refl
  enter_leave (suc n) zero = refl
  enter_leave (suc n) (suc m) =
      scopes_apart (planned_of g).known (at_depth n) (same_position (at_depth n) (at_depth m))
      (resource_of (given_template g) (at_depth n) 1) (no_second g n)

  pub leave_enter : (a b : ℕ)
      → needs_first (planned_of g) (leave (at_depth a)) (enter (at_depth b))
      ≡ (is_next a b || (is_next b a || nat_eq a b))
  unfolding needs told template_at resource_at
  leave_enter zero zero = refl
  leave_enter zero (suc m) =
      any_test (planned_of g).known
      (false || ((same_position [] (at_depth m) || same_position [] (at_depth (suc m))) || false))
      ∙ three false (same_position [] (at_depth m)) false (is_next 0 (suc m)) (is_next (suc m) 0) (nat_eq 0 (suc m))
      (never_next (suc m)) (same_depth 0 m ∙ turned 0 m) (no_zero m)
  leave_enter (suc n) zero =
      any_test (planned_of g).known
      (same_position [] (at_depth n) || ((false || same_position (at_depth (suc n)) []) || false))
      ∙ three (same_position [] (at_depth n)) false false (is_next (suc n) 0) (is_next 0 (suc n)) (nat_eq (suc n) 0)
      (same_depth 0 n ∙ turned 0 n) (never_next (suc n)) (zero_not n)
  leave_enter (suc n) (suc m) =
      any_test (planned_of g).known
      (same_position (at_depth (suc m)) (at_depth n)
      || ((same_position (at_depth (suc n)) (at_depth m)
      || same_position (at_depth (suc n)) (at_depth (suc m))) || false))
      ∙ three (same_position (at_depth (suc m)) (at_depth n)) (same_position (at_depth (suc n)) (at_depth m))
      (same_position (at_depth (suc n)) (at_depth (suc m))) (is_next (suc n) (suc m)) (is_next (suc m) (suc n))
      (nat_eq (suc n) (suc m)) (same_depth (suc m) n ∙ turned (suc m) n) (same_depth (suc n) m ∙ turned (suc n) m)
      (same_depth (suc n) (suc m))

  pub leave_put : (a i : ℕ) → needs_first (planned_of g) (leave (at_depth a)) (put [] (step 0 i)) ≡ nat_eq a 0
  unfolding needs told template_at resource_at
  leave_put zero i = refl
  leave_put (suc n) i = zero_not n

  pub leave_leave : (a b : ℕ) → needs_first (planned_of g) (leave (at_depth a)) (leave (at_depth b)) ≡ is_next b a
  unfolding needs told template_at resource_at
  leave_leave a zero = none_needed a
    where
      none_needed : (n : ℕ) → false ≡ is_next 0 n
      none_needed n = never_next n
  leave_leave a (suc m) =
      last_test (planned_of g).known (same_position (at_depth a) (at_depth m)) ∙ same_depth a m ∙ turned a m
