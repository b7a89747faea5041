-- Texts that are read as expressions.
use Rattle.std.proofs.Common.{◌≡◌, ◌≢◌, ◌≤◌, ◌↔◌, ℕ, List, [], ◌∷◌, ◌++◌, length, Bool, true, false, ◌&&◌, nat_le}
use Rattle.std.proofs.Common.{Option, Some, None, Ok, Err, refl, sym, ap, ◌∙◌, arith}
use Rattle.std.specs.Prelude.{if◌then◌else◌}
use Rattle.std.proofs.lemmas.Bool.{eqb-true}
use Rattle.std.proofs.lemmas.Bool.Decides.{nat_tests}
use Rattle.arm_expr.specs.Tree.{Tree, nesting}
use Rattle.arm_expr.specs.Grammar.{Spells}
use Rattle.arm_expr.specs.Stack.{kept_reading}
use Rattle.arm_expr.specs.View.{tree_of}
use Rattle.arm_expr.specs.Answers.{Reads}
use Rattle.arm_expr.specs.declared.expr.Expr.{Expr}
use Rattle.arm_expr.specs.declared.fault.ExprFault.{ExprFault}
use Rattle.arm_expr.specs.declared.fault.ExprFault.TheVariants.{TooLong, NotAnExpression, TooDeep, OutOfMemory}
use Rattle.arm_expr.proofs.Reading.{in_brackets, Found, answered, unbracketed, spelled_once}
use Rattle.arm_expr.specs.Brackets.{opens, closes, is_bracketed, without_last, inside}
use Rattle.arm_eval.specs.Text.{tree_read, expression_of}
use Rattle.foundation.proofs.TruthValues.{both}
use Rattle.arm_expr.proofs.BracketLemmas.{closes_last}
use Rattle.foundation.proofs.Comparisons.{le_of_true}

last_closes : (cs : List ℕ) → closes (cs ++ 93 ∷ []) ≡ true
last_closes [] = refl
last_closes (c ∷ []) = refl
last_closes (c ∷ d ∷ cs) = last_closes (d ∷ cs)

rest_closes : (c : ℕ) (cs : List ℕ) → c ≡ 91 → closes (c ∷ cs) ≡ true → closes cs ≡ true
rest_closes c [] e h = let wrong : closes (c ∷ []) ≡ false = grind (arith, nat_tests) in cc
rest_closes c (d ∷ cs) e h = h

brackets : (t : List ℕ) → is_bracketed t ≡ true → t ≡ in_brackets (inside t)
brackets [] h = cc
brackets (c ∷ cs) h =
    let each = both (opens (c ∷ cs)) (closes (c ∷ cs)) h in
    let first : c ≡ 91 = eqb-true c 91 each.0 in
    ap (λ r. c ∷ r) (closes_last cs (rest_closes c cs first each.1)) ∙ ap (λ c. c ∷ (without_last cs ++ 93 ∷ [])) first

closes_after_bracket : (cs : List ℕ) → closes cs ≡ true → closes (91 ∷ cs) ≡ true
closes_after_bracket [] h = cc
closes_after_bracket (c ∷ cs) h = h

bracketed : (inner : List ℕ) → is_bracketed (in_brackets inner) ≡ true
bracketed inner = closes_after_bracket (inner ++ 93 ∷ []) (last_closes inner)

never : (t inner : List ℕ) → is_bracketed t ≡ false → t ≢ in_brackets inner
never t inner h e = let yes : is_bracketed t ≡ true = ap is_bracketed e ∙ bracketed inner in cc

-- what holds of the expression of a text
abbrev pub IsRead : List ℕ → Tree → Type 0
IsRead t e = Spells e t × ((length t ≤ 24576) × (nesting e ≤ 64))

flat : (o : Option (Option Tree)) (e : Tree) → tree_read o ≡ Some e → o ≡ Some (Some e)
flat None e h = absurd cc
flat (Some None) e h = absurd cc
flat (Some (Some f)) e h = ap Some h

le_true : (n : ℕ) → n ≤ 24576 → nat_le n 24576 ≡ true
le_true n h = grind (arith, nat_tests)

read_by : (t : List ℕ) (e : Tree) (l b : Bool) → nat_le (length t) 24576 ≡ l → is_bracketed t ≡ b
    → (if l && b then tree_read (kept_reading (inside t)) else None) ≡ Some e → IsRead t e
read_by t e true true h k r =
    let f = answered t (inside t) (Some (Some e)) (brackets t k) (flat (kept_reading (inside t)) e r) in
    (f.0, (le_of_true (length t) 24576 h, f.1))
read_by t e true false h k r = absurd cc
read_by t e false b h k r = absurd cc

found_by : (t : List ℕ) (e : Tree) (o : Option (Option Tree)) → Found o t → Spells e t → nesting e ≤ 64
    → tree_read o ≡ Some e
found_by t e None f s d = absurd (f e s)
found_by t e (Some None) f s d = let same = ap nesting (spelled_once t f.0 e f.1 s) in absurd (omega (arith, f.2, same))
found_by t e (Some (Some g)) f s d = ap Some (spelled_once t g e f.0 s)

spelled_by : (t : List ℕ) (e : Tree) (b : Bool) → is_bracketed t ≡ b → Spells e t → nesting e ≤ 64
    → (if true && b then tree_read (kept_reading (inside t)) else None) ≡ Some e
spelled_by t e true k s d =
    found_by t e (kept_reading (inside t)) (answered t (inside t) (kept_reading (inside t)) (brackets t k) refl) s d
spelled_by t e false k s d = absurd (unbracketed t (λ inner. never t inner k) e s)

pub expression_read : (t : List ℕ) (e : Tree) → (expression_of t ≡ Some e) ↔ IsRead t e
unfolding expression_of
expression_read t e = (
  λ r. read_by t e (nat_le (length t) 24576) (is_bracketed t) refl refl r,
  λ h. ap (λ l. if l && is_bracketed t then tree_read (kept_reading (inside t)) else None) (le_true (length t) h.1.0)
      ∙ spelled_by t e (is_bracketed t) refl h.0 h.1.1,
)

-- no expression is read of it
unread_by : (t : List ℕ) (o : Option Tree) → expression_of t ≡ o → ((e : Tree) → IsRead t e → ⊥) → o ≡ None
unread_by t (Some e) h n = absurd (n e ((expression_read t e).0 h))
unread_by t None h n = refl

pub unread : (t : List ℕ) → ((e : Tree) → IsRead t e → ⊥) → expression_of t ≡ None
unread t n = unread_by t (expression_of t) refl n

-- what `read` answers is the expression, unless memory ran out
pub read_is : (t : List ℕ) (e : Expr) → Reads 24576 64 t (Ok e) → Some (tree_of e) ≡ expression_of t
read_is t e h = sym ((expression_read t (tree_of e)).1 (h.1, (h.0, h.2)))

pub unread_is : (t : List ℕ) (f : ExprFault) → Reads 24576 64 t (Err f) → (f ≡ OutOfMemory → ⊥) → None ≡ expression_of t
unread_is t TooLong h n = sym (unread t (λ e r. let l = r.1.0 in absurd (omega (arith, h, l))))
unread_is t NotAnExpression h n = sym (unread t (λ e r. h.1 e r.0))
unread_is t TooDeep h n =
    sym (unread t (λ e r. let same = ap nesting (spelled_once t h.1.0 e h.1.1 r.0) in let d = r.1.1 in
    absurd (omega (arith, h.1.2, same, d))))
unread_is t OutOfMemory h n = absurd (n refl)
