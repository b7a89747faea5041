-- Lemmas on truth values.
use Rattle.std.proofs.Common.{◌≡◌, Bool, true, false, ◌&&◌, ◌||◌, cond, refl, sym, true≢false, not, ◌∙◌}

-- a conjunction that holds, holds of both
pub both : (a b : Bool) → (a && b) ≡ true → (a ≡ true) × (b ≡ true)
both true b e = (refl, e)
both false b e = absurd (true≢false (sym e))

pub first_of_both : (a b : Bool) → (a && b) ≡ true → a ≡ true
first_of_both a b e = (both a b e).0

pub second_of_both : (a b : Bool) → (a && b) ≡ true → b ≡ true
second_of_both a b e = (both a b e).1

-- what holds of both, holds of the conjunction
pub and_true : (a b : Bool) → a ≡ true → b ≡ true → (a && b) ≡ true
and_true true b e f = f
and_true false b e f = e

-- a conjunction whose second part fails, fails
pub and_false : (a b : Bool) → b ≡ false → (a && b) ≡ false
and_false true b e = e
and_false false b e = refl

-- a disjunction that fails, fails on both sides
pub or_left : (a b : Bool) → (a || b) ≡ false → a ≡ false
or_left false b e = refl
or_left true b e = e

pub or_right : (a b : Bool) → (a || b) ≡ false → b ≡ false
or_right false b e = e
or_right true b e = absurd (true≢false e)

-- what fails on both sides, fails as a disjunction
pub nor : (a b : Bool) → a ≡ false → b ≡ false → (a || b) ≡ false
nor false b e f = f
nor true b e f = e

-- a test that is made after another, as the last of a list of tests
pub last_or : (a b : Bool) → cond a true b ≡ (b || (a || false))
last_or true true = refl
last_or true false = refl
last_or false true = refl
last_or false false = refl

-- what does not hold is false
pub unless : (b : Bool) → (b ≡ true → ⊥) → b ≡ false
unless true h = absurd (h refl)
unless false h = refl

-- truth values that imply each other are the same
pub both_ways : (a b : Bool) → (a ≡ true → b ≡ true) → (b ≡ true → a ≡ true) → a ≡ b
both_ways true b f g = sym (f refl)
both_ways false true f g = g refl
both_ways false false f g = refl

-- three tests in a row: the first fails, the second fails, or the third decides
pub first_fails : (x y z : Bool) → x ≡ false → false ≡ (x && (y && z))
first_fails false y z e = refl
first_fails true y z e = absurd (true≢false e)

pub second_fails : (x y z : Bool) → x ≡ true → y ≡ false → false ≡ (x && (y && z))
second_fails true false z e f = refl
second_fails true true z e f = absurd (true≢false f)
second_fails false y z e f = absurd (true≢false (sym e))

pub third_decides : (x y z r : Bool) → x ≡ true → y ≡ true → r ≡ z → r ≡ (x && (y && z))
third_decides true true z r e f h = h
third_decides true false z r e f h = absurd (true≢false (sym f))
third_decides false y z r e f h = absurd (true≢false (sym e))

-- a disjunction of three, grouped either way
pub or_assoc : (a b c : Bool) → ((a || b) || c) ≡ (a || (b || c))
or_assoc true b c = refl
or_assoc false b c = refl

-- what is joined with a test that fails is itself
pub or_false : (a : Bool) → (a || false) ≡ a
or_false true = refl
or_false false = refl

pub or_true : (a : Bool) → (a || true) ≡ true
or_true true = refl
or_true false = refl

pub and_true_is : (a : Bool) → (a && true) ≡ a
and_true_is true = refl
and_true_is false = refl

-- a disjunction with false that holds, and a conjunction with true that fails
pub first_alone : (a : Bool) → (a || false) ≡ true → a ≡ true
first_alone true e = refl
first_alone false e = e

pub first_fails_alone : (a : Bool) → (a && true) ≡ false → a ≡ false
first_fails_alone true e = e
first_fails_alone false e = refl

pub and_false_is : (t : Bool) → (t && false) ≡ false
and_false_is true = refl
and_false_is false = refl

pub or_false_twice : (b : Bool) → ((b || false) || false) ≡ b
or_false_twice true = refl
or_false_twice false = refl

-- four tests, joined in pairs either way
pub or_crossed : (a b c d : Bool) → ((a || b) || (c || d)) ≡ ((a || c) || (b || d))
or_crossed true b c d = refl
or_crossed false true true d = refl
or_crossed false true false d = refl
or_crossed false false c d = refl

-- a disjunction, the other way around and with its first part once more
pub or_turned : (a b : Bool) → (a || b) ≡ (b || a)
or_turned true b = sym (or_true b)
or_turned false b = sym (or_false b)

pub or_again : (a b : Bool) → (a || b) ≡ (a || (a || b))
or_again true b = refl
or_again false b = refl

-- a part that two conjunctions share
pub and_shared : (a b c : Bool) → ((a && b) || (a && c)) ≡ (a && (b || c))
and_shared true b c = refl
and_shared false b c = refl

pub not_both : (b : Bool) → b ≡ true → b ≡ false → ⊥
not_both b e f = true≢false (sym e ∙ f)

pub never_true : (b : Bool) → b ≡ false → b ≡ true → ⊥
never_true b e f = not_both b f e

pub of_not_false : (b : Bool) → not b ≡ false → b ≡ true
of_not_false true e = refl
of_not_false false e = let d : true ≡ false = e in cc

pub of_not : (b : Bool) → not b ≡ true → b ≡ false
of_not true e = let d : true ≡ false = sym e in cc
of_not false e = refl

-- a disjunction that fails, fails on both sides
pub neither : (a b : Bool) → (a || b) ≡ false → (a ≡ false) × (b ≡ false)
neither true b e = absurd (cc)
neither false b e = (refl, e)

-- what follows where false is true
pub impossible : {A : Type 0} → false ≡ true → A
impossible e = cc
