-- The values of readings that are made of others.
use Rattle.std.proofs.Common.{◌≡◌, List, [], ◌∷◌, Option, Some, None, sym, ap, ◌∙◌}
use Rattle.std.specs.Prelude.{nat_le}
use Rattle.std.proofs.lemmas.Option.{none-some, same_Some, option_and_then_some}
use Rattle.arm_value.specs.Json.{Json, nesting}
use Rattle.foundation.specs.declared.limits.TheConstants.{MAX_VALUE_NESTING}
use Rattle.arm_env.specs.Part.{kept}
use Rattle.reading.specs.Reading.{done, pure, continued, both, joined}
use Rattle.reading.specs.World.{value_in}
use Rattle.reading.proofs.Parts.{value_in-continued, value_in-both}
use Rattle.deploy_cells.specs.Cells.{Cell, World}
use Rattle.deploy_cells.specs.Guarded.{Reads}
use Rattle.bicep_meaning.specs.Rows.{capped, all, by_both}
use Rattle.bicep_soundness.proofs.UnionLemmas.{chosen_some}

joined_some : {A B : Type 0} (a : Option A) (b : Option B) (p : A × B) → joined a b ≡ Some p
    → (a ≡ Some p.0) × (b ≡ Some p.1)
joined_some None b p e = absurd (none-some p e)
joined_some (Some x) None p e = absurd (none-some p e)
joined_some (Some x) (Some y) p e =
    let same : (x, y) ≡ p = same_Some (x, y) p e in (ap (λ q. Some q.0) same, ap (λ q. Some q.1) same)

-- a value, and what goes on with it
pub record Goes {A B : Type 0} (w : World) (r : Reads A) (f : A → Reads B) (y : B) : Type 0 where
  pub value : A
  pub is : value_in w r ≡ Some value
  pub rest : value_in w (f value) ≡ Some y

pub goes : {A B : Type 0} (w : World) (r : Reads A) (f : A → Reads B) (y : B)
    → value_in w (continued r f) ≡ Some y → Goes w r f y
goes {A} {B} w r f y e =
    option_and_then_some (λ x. value_in w (f x)) (value_in w r) y (sym (value_in-continued Cell Json A B w r f) ∙ e)
    (λ x is rest. record { value = x; is = is; rest = rest })

pub capped_some : (w : World) (r : Reads Json) (v : Json) → value_in w (capped r) ≡ Some v
    → value_in w r ≡ Some v
unfolding capped value_in
capped_some w r v e =
    let g = goes w r (λ j. done (kept j)) v e in
    g.is ∙ ap (λ x. Some x)
    (same_Some g.value v (chosen_some (nat_le (nesting g.value) MAX_VALUE_NESTING) (Some g.value) v g.rest).1)

pub by_both_some : (w : World) (f : Json → Json → Option Json) (a b : Reads Json) (v : Json)
    → value_in w (by_both f a b) ≡ Some v → (p : Json × Json) × (f p.0 p.1 ≡ Some v)
unfolding by_both value_in
by_both_some w f a b v e = let g = goes w (both a b) (λ p. done (f p.0 p.1)) v e in (g.value, g.rest)

-- the first value of several, and those of the others
pub record Heads {A : Type 0} (w : World) (r : Reads A) (rs : List (Reads A)) (xs : List A) : Type 0 where
  pub head : A
  pub tail : List A
  pub is : head ∷ tail ≡ xs
  pub first : value_in w r ≡ Some head
  pub others : value_in w (all rs) ≡ Some tail

pub heads : {A : Type 0} (w : World) (r : Reads A) (rs : List (Reads A)) (xs : List A)
    → value_in w (all (r ∷ rs)) ≡ Some xs → Heads w r rs xs
unfolding all value_in
heads {A} w r rs xs e =
    let g = goes w (both r (all rs)) (λ p. pure (p.0 ∷ p.1)) xs e in
    let parts = joined_some (value_in w r) (value_in w (all rs)) g.value
    (sym (value_in-both Cell Json A (List A) w r (all rs)) ∙ g.is) in
    record {
      head = g.value.0;
      tail = g.value.1;
      is = same_Some (g.value.0 ∷ g.value.1) xs g.rest;
      first = parts.0;
      others = parts.1;
    }

pub no_heads : {A : Type 0} (w : World) (xs : List A) → value_in w (all {A = A} []) ≡ Some xs → [] ≡ xs
unfolding all value_in
no_heads w xs e = same_Some [] xs e
