-- What is read of a text in brackets is what it spells.
use Rattle.std.proofs.Common.{◌≡◌, ◌≤◌, ◌<◌, ℕ, List, [], ◌∷◌, ◌++◌, length, Bool, true, false, nat_lt}
use Rattle.std.proofs.Common.{Option, Some, None, Result, Ok, Err, refl, ap, ◌∙◌, arith}
use Rattle.std.specs.Prelude.{if◌then◌else◌}
use Rattle.std.proofs.lemmas.Bool.{eqb-true}
use Rattle.std.proofs.lemmas.Bool.Decides.{nat_tests}
use Rattle.arm_expr.specs.Tree.{Tree, nesting}
use Rattle.arm_expr.specs.Stack.{kept_reading}
use Rattle.arm_expr.specs.View.{tree_of}
use Rattle.arm_expr.specs.Answers.{Reads}
use Rattle.arm_expr.specs.Brackets.{opens, closes, is_bracketed, meaning, meaning_in_brackets}
use Rattle.arm_expr.specs.Brackets.{an_expression, plain, without_last, inside}
use Rattle.arm_expr.specs.declared.expr.Expr.{Expr}
use Rattle.arm_expr.specs.declared.fault.ExprFault.{ExprFault}
use Rattle.arm_expr.specs.declared.fault.ExprFault.TheVariants.{TooLong, NotAnExpression, TooDeep, OutOfMemory}
use Rattle.arm_expr.proofs.Reading.{in_brackets, Found, answered, spelled_once}
use Rattle.foundation.proofs.TruthValues.{both}
use Rattle.template_texts.specs.Texts.{spelling, spelling_of, spelled, IsSpelling}
use Rattle.template_texts.specs.Texts.{too_long}
use Rattle.arm_expr.proofs.BracketLemmas.{closes_last}

after : (c : ℕ) (cs : List ℕ) → c ≡ 91 → closes (c ∷ cs) ≡ true → closes cs ≡ true
after c [] e h = let wrong : closes (c ∷ []) ≡ false = grind (arith, nat_tests) in cc
after c (d ∷ cs) e h = h

brackets : (t : List ℕ) → is_bracketed t ≡ true → t ≡ in_brackets (inside t)
brackets [] h = cc
brackets (c ∷ cs) h =
    let each = both (opens (c ∷ cs)) (closes (c ∷ cs)) h in
    let first : c ≡ 91 = eqb-true c 91 each.0 in
    ap (λ r. c ∷ r) (closes_last cs (after c cs first each.1)) ∙ ap (λ c. c ∷ (without_last cs ++ 93 ∷ [])) first

spelled_as : (t : List ℕ) (o : Option (Option Tree)) → Found o t → length t ≤ 24576 → (r : Result Expr ExprFault)
    → Reads 24576 64 t r → IsSpelling (spelling_of o) r
spelled_as t None f l (Ok e) h = absurd (f (tree_of e) h.1)
spelled_as t None f l (Err TooLong) h = absurd (omega arith)
spelled_as t None f l (Err NotAnExpression) h = refl
spelled_as t None f l (Err TooDeep) h = absurd (f h.1.0 h.1.1)
spelled_as t None f l (Err OutOfMemory) h = tt
spelled_as t (Some None) f l (Ok e) h =
    let same = ap nesting (spelled_once t f.0 (tree_of e) f.1 h.1) in absurd (omega (arith, f.2, same, h.2))
spelled_as t (Some None) f l (Err TooLong) h = absurd (omega arith)
spelled_as t (Some None) f l (Err NotAnExpression) h = absurd (h.1 f.0 f.1)
spelled_as t (Some None) f l (Err TooDeep) h = refl
spelled_as t (Some None) f l (Err OutOfMemory) h = tt
spelled_as t (Some (Some g)) f l (Ok e) h = ap spelled (spelled_once t g (tree_of e) f.0 h.1)
spelled_as t (Some (Some g)) f l (Err TooLong) h = absurd (omega arith)
spelled_as t (Some (Some g)) f l (Err NotAnExpression) h = absurd (h.1 g f.0)
spelled_as t (Some (Some g)) f l (Err TooDeep) h =
    let same = ap nesting (spelled_once t h.1.0 g h.1.1 f.0) in absurd (omega (arith, f.1, same, h.1.2))
spelled_as t (Some (Some g)) f l (Err OutOfMemory) h = tt

long_as : (t : List ℕ) (r : Result Expr ExprFault) → 24576 < length t → Reads 24576 64 t r → IsSpelling too_long r
long_as t (Ok e) l h = let s = h.0 in absurd (omega arith)
long_as t (Err TooLong) l h = refl
long_as t (Err NotAnExpression) l h = let s = h.0 in absurd (omega arith)
long_as t (Err TooDeep) l h = let s = h.0 in absurd (omega arith)
long_as t (Err OutOfMemory) l h = tt

is_long : (n : ℕ) → nat_lt 24576 n ≡ true → 24576 < n
is_long n h = grind (arith, nat_tests)

is_short : (n : ℕ) → nat_lt 24576 n ≡ false → n ≤ 24576
is_short n h = grind (arith, nat_tests)

by_length : (t : List ℕ) (b : Bool) → nat_lt 24576 (length t) ≡ b → is_bracketed t ≡ true
    → (r : Result Expr ExprFault) → Reads 24576 64 t r
    → IsSpelling (if b then too_long else spelling_of (kept_reading (inside t))) r
by_length t true l k r h = long_as t r (is_long (length t) l) h
by_length t false l k r h =
    spelled_as t (kept_reading (inside t)) (answered t (inside t) (kept_reading (inside t)) (brackets t k) refl)
    (is_short (length t) l) r h

-- the answer of `read` to a text in brackets
pub read_is : (t : List ℕ) → is_bracketed t ≡ true → (r : Result Expr ExprFault) → Reads 24576 64 t r
    → IsSpelling (spelling t) r
read_is t k r h = by_length t (nat_lt 24576 (length t)) refl k r h

-- an expression is in brackets
meant_by : (t : List ℕ) (b : Bool) → is_bracketed t ≡ b → meaning t ≡ an_expression → is_bracketed t ≡ true
meant_by t true k h = k
meant_by t false k h =
    let plain_one : meaning t ≡ plain t =
    ap (λ b. if b then meaning_in_brackets t else plain t) k in
    absurd (cc)

pub meant : (t : List ℕ) → meaning t ≡ an_expression → is_bracketed t ≡ true
meant t h = meant_by t (is_bracketed t) refl h
