-- How deep a value nests in which a member was put, and what is found in one.
use Rattle.std.proofs.Common.{◌≡◌, ◌≤◌, ℕ, max, Bool, true, false, List, Option, Some, None}
use Rattle.std.proofs.Common.{cond, bytes_eq, refl, ap, arith}
use Rattle.arm_value.specs.Json.{Json, object, Pairs, no_pairs, pair, nesting, pairs_nesting}
use Rattle.arm_value.specs.Json.{members_nesting}
use Rattle.arm_value.specs.Look.{first_by, or_else, look, is_same_folded}
use Rattle.provider_trait.specs.Act.{FitsAct}
use Rattle.provider_trait.specs.declared.act.Act.TheVariants.{Put}
use Rattle.provider_trait.specs.Plain.{members_of, members_found}
use Rattle.arm_value.proofs.TreeLemmas.{pairs-members}

first_by_nests : (p : List ℕ → Bool) (ms : Pairs) (v : Json) → first_by p ms ≡ Some v → nesting v ≤ pairs_nesting ms
first_by_nests p no_pairs v e = cc
first_by_nests p (pair k j ms) v e = at (p k) e (first_by_nests p ms v)
  where
    at : (b : Bool) → cond b (Some j) (first_by p ms) ≡ Some v
        → (first_by p ms ≡ Some v → nesting v ≤ pairs_nesting ms) → nesting v ≤ max (nesting j) (pairs_nesting ms)
    at true e h = let same : j ≡ v = cc in omega (arith, ap nesting same)
    at false e h = omega (arith, h e)

either : (a b : Option Json) (v : Json) → or_else a b ≡ Some v → (n : ℕ) → ((w : Json) → a ≡ Some w → nesting w ≤ n)
    → ((w : Json) → b ≡ Some w → nesting w ≤ n) → nesting v ≤ n
either None b v e n f g = g v e
either (Some w) b v e n f g = f v e

look_nests : (name : List ℕ) (j v : Json) → look name j ≡ Some v → nesting v ≤ nesting j
look_nests name (object ms) v e =
    let h = either (first_by (bytes_eq name) ms) (first_by (is_same_folded name) ms) v e (pairs_nesting ms)
    (λ w d. first_by_nests (bytes_eq name) ms w d) (λ w d. first_by_nests (is_same_folded name) ms w d) in
    omega (arith, h)
look_nests name _ v e = cc

-- the members of a value that nests at most 100 nest at most 99
pub members_nest : (j : Json) → nesting j ≤ 100 → members_nesting (members_of j) ≤ 99
members_nest (object ms) h = omega (arith, ap pairs_nesting (pairs-members ms))
members_nest _ h = omega arith

found_by : (o : Option Json) → ((v : Json) → o ≡ Some v → nesting v ≤ 100) → members_nesting (members_found o) ≤ 99
found_by None h = omega arith
found_by (Some v) h = members_nest v (h v refl)

-- what is found in a value that nests at most 100 has members that nest at most 99
pub found_nests : (name : List ℕ) (j : Json) → nesting j ≤ 100 → members_nesting (members_found (look name j)) ≤ 99
found_nests name j h = found_by (look name j) (λ v e. omega (arith, look_nests name j v e))

-- the body of a put nests at most 100
pub put_body : (j : Json) → FitsAct Put j → nesting j ≤ 100
put_body (object ms) h = h
put_body _ h = absurd h
