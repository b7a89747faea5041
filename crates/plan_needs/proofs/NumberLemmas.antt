-- The numbers of scopes are theirs alone.
use Rattle.std.proofs.Common.{◌≡◌, ℕ, zero, suc, ◌<◌, Bool, true, false, true≢false, List}
use Rattle.std.proofs.Common.{[], ◌∷◌, length}
use Rattle.std.proofs.Common.{refl, sym, ap, ◌∙◌, arith}
use Rattle.std.specs.Prelude.{nat_eq, ◌||◌, if◌then◌else◌}
use Rattle.std.proofs.lemmas.Bool.{or_right}
use Rattle.deploy_cells.specs.Cells.{Position}
use Rattle.deploy_cells.specs.Same.{same_position}
use Rattle.deploy_cells.proofs.SameLemmas.{position_is, position_same}
use Rattle.plan_cells.specs.Meaning.{Deployment}
use Rattle.name_tags.specs.Codes.{IsNumbering}
use Rattle.plan_filling.specs.Rows.{AreDistinct}
use Rattle.plan_table.specs.declared.line.Line.{Line}
use Rattle.plan_table.specs.Opened.{Opened, opened_at}
use Rattle.plan_table.specs.Lines.{rows_of}
use Rattle.plan_table.specs.Keys.{Index}
use Rattle.plan_table.specs.Laid.{Laid}
use Rattle.plan_table.proofs.HaltLemmas.{one_scope}
use Rattle.plan_needs.specs.Numbers.{is_here, number_in}

abbrev number_by : Bool → ℕ → ℕ
number_by b n = if b then 0 else suc n

zero_suc : (n : ℕ) → nat_eq 0 (suc n) ≡ false
zero_suc n = grind arith

suc_zero : (n : ℕ) → nat_eq (suc n) 0 ≡ false
suc_zero n = grind arith

suc_eq : (n m : ℕ) → nat_eq (suc n) (suc m) ≡ nat_eq n m
suc_eq n m = grind arith

by_tests : (a p q : Position) (b c : Bool) (n m : ℕ) → same_position a p ≡ b → same_position a q ≡ c
    → (b ≡ false → c ≡ false → nat_eq n m ≡ same_position p q)
    → nat_eq (number_by b n) (number_by c m) ≡ same_position p q
by_tests a p q true true n m e h rest =
    sym (ap (λ x. same_position x q) (sym (position_is a p e)) ∙ h)
by_tests a p q true false n m e h rest =
    zero_suc m ∙ sym (ap (λ x. same_position x q) (sym (position_is a p e)) ∙ h)
by_tests a p q false true n m e h rest = suc_zero n ∙ sym (by_other (same_position p q) refl)
  where
    by_other : (b : Bool) → same_position p q ≡ b → same_position p q ≡ false
    by_other false f = f
    by_other true f =
        absurd (true≢false (sym h ∙ ap (same_position a) (sym (position_is p q f)) ∙ e))
by_tests a p q false false n m e h rest = suc_eq n m ∙ rest refl refl

here_later : (b c : Bool) → (b || c) ≡ true → b ≡ false → c ≡ true
here_later true c e f = absurd (true≢false f)
here_later false c e f = e

-- scopes have numbers of their own
pub numbering : (os : List Opened) → IsNumbering (number_in os) (λ p. is_here os p ≡ true)
numbering [] p q h k = absurd (true≢false (sym h))
numbering (o ∷ os) p q h k =
    by_tests o.position p q (same_position o.position p) (same_position o.position q) (number_in os p)
    (number_in os q) refl refl
    (λ e f.
    numbering os p q (here_later (same_position o.position p) (is_here os p) h e)
    (here_later (same_position o.position q) (is_here os q) k f))

pub here_at : (os : List Opened) (f : ℕ) → f < length os → is_here os (opened_at os f).position ≡ true
here_at [] f h = absurd (omega (arith, h))
here_at (o ∷ os) zero h = ap (λ b. b || is_here os o.position) (position_same o.position)
here_at (o ∷ os) (suc f) h = or_right (same_position o.position (opened_at os f).position)
    (is_here os (opened_at os f).position) (here_at os f (omega (arith, h)))

-- the scope of a number has the position
record IsAt (os : List Opened) (p : Position) (n : ℕ) : Type 0 where
  there : n < length os
  is : (opened_at os n).position ≡ p

at_later : (o : Opened) (os : List Opened) (p : Position) (n : ℕ) → IsAt os p n → IsAt (o ∷ os) p (suc n)
at_later o os p n i = record { there = (let l = i.there in omega (arith, l)); is = i.is }

at_first : (o : Opened) (os : List Opened) (p : Position) (b : Bool) → same_position o.position p ≡ b
    → (b ≡ false → IsAt os p (number_in os p)) → IsAt (o ∷ os) p (number_by b (number_in os p))
at_first o os p true e later = record { there = omega arith; is = position_is o.position p e }
at_first o os p false e later = at_later o os p (number_in os p) (later refl)

first_at : (os : List Opened) (p : Position) → is_here os p ≡ true → IsAt os p (number_in os p)
first_at [] p h = absurd (true≢false (sym h))
first_at (o ∷ os) p h =
    at_first o os p (same_position o.position p) refl
    (λ e. first_at os p (here_later (same_position o.position p) (is_here os p) h e))

-- the number of a scope is that of its frame
pub number_at : (d : Deployment) (os : List Opened) (ix : Index) (ls : List Line) → Laid d os ix ls
    → AreDistinct (rows_of os ls) → (f : ℕ) → f < length os → number_in os (opened_at os f).position ≡ f
number_at d os ix ls laid distinct f h =
    let i = first_at os (opened_at os f).position (here_at os f h) in
    one_scope d os ix ls laid distinct (number_in os (opened_at os f).position) f i.there h i.is
