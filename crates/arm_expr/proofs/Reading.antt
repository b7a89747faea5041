-- Reading a text as the grammar spells it.
use Rattle.std.proofs.Common.{◌≡◌, ℕ, List, [], ◌∷◌, ◌++◌, Option, Some, None, option_map, option_and_then, cond}
use Rattle.std.proofs.Common.{refl, ap, sym, ◌∙◌, subst, ◌<◌, ◌≤◌, ◌≢◌, ◌↔◌, ◌⊎◌, inl, inr, IsTrue, Bool, true, false}
use Rattle.std.proofs.Common.{Result, Ok, Err, length, arith, nat_le, ◌==◌}
use Rattle.std.proofs.lemmas.Bool.Decides.{nat_tests}
use Rattle.arm_expr.specs.declared.expr.Expr.{Expr}
use Rattle.arm_expr.specs.declared.fault.ExprFault.{ExprFault}
use Rattle.arm_expr.specs.declared.fault.ExprFault.TheVariants.{TooLong, NotAnExpression, TooDeep, OutOfMemory}
use Rattle.arm_expr.specs.Answers.{Reads, IsReadAs}
use Rattle.arm_expr.specs.View.{tree_of}
use Rattle.std.proofs.lemmas.Bool.{cases_lt, eqb-true}
use Rattle.arm_expr.specs.Tree.{Tree, text, int, call, member, index, Trees, none, more, nesting}
use Rattle.arm_expr.specs.Print.{HasNames, HaveNames}
use Rattle.arm_expr.specs.Tokens.{Token, open_bracket}
use Rattle.arm_expr.specs.Grammar.{Spells, expression, arguments, further}
use Rattle.arm_expr.specs.Lexer.{lex, between}
use Rattle.arm_expr.specs.Machine.{parsed, as_tree, kept}
use Rattle.arm_expr.specs.Stack.{kept_parsed, kept_reading}
use Rattle.arm_expr.specs.Brackets.{opens, meaning, an_expression}
use Rattle.arm_expr.proofs.BracketLemmas.{meaning_inside}
use Rattle.arm_expr.proofs.Words.{spelled, Writes}
use Rattle.arm_expr.proofs.Keeping.{parsed_kept}
use Rattle.arm_expr.proofs.Lexing.{Ended, lex-blank, blank_ends, cut_expression, cut_blanks}
use Rattle.arm_expr.proofs.LexingSound.{lexed_is_written}
use Rattle.arm_expr.proofs.Parsing.{spelled_is_parsed, parsed_is_spelled}
use Rattle.arm_expr.proofs.Spelling.{spelt_whole}
use Rattle.foundation.proofs.Comparisons.{by_le}
use Rattle.foundation.proofs.TruthValues.{unless}

-- a text in brackets
abbrev pub in_brackets : List ℕ → List ℕ
in_brackets inner = 91 ∷ (inner ++ 93 ∷ [])

front_same : (a b : List ℕ) (x : ℕ) → a ++ x ∷ [] ≡ b ++ x ∷ [] → a ≡ b
front_same [] [] x h = refl
front_same [] (b ∷ []) x h = cc
front_same [] (b ∷ c ∷ bs) x h = cc
front_same (a ∷ []) [] x h = cc
front_same (a ∷ c ∷ cs) [] x h = cc
front_same (a ∷ cs) (b ∷ bs) x h =
    let tails : cs ++ x ∷ [] ≡ bs ++ x ∷ [] = cc in
    let same = front_same cs bs x tails in
    cc

-- what is spelled is in brackets, and has the tokens of the expression
record Bracketed (e : Tree) (t : List ℕ) : Type 0 where
  inner : List ℕ
  is : t ≡ in_brackets inner
  lexed : lex between inner ≡ Some (spelled e [])

bracketed : (e : Tree) (t : List ℕ) → Spells e t → Bracketed e t
bracketed e t s =
    let last = s.2.2.2 in
    let bs = last.1 in
    let closing : Ended s.2.2.0 (93 ∷ []) (Some []) = record {
      cut = record { front = bs.0; is = bs.2 ∙ ap (λ x. bs.0 ++ x) last.2; lexed = lex-blank bs.0 bs.1 };
      ends = blank_ends bs.0 bs.1;
    } in
    let c =
    cut_blanks s.0 s.2.0 (93 ∷ []) (Some (spelled e [])) s.2.1
    (cut_expression e s.2.0 s.2.2.0 (93 ∷ []) (Some []) s.2.2.1 closing) in
    record { inner = c.front; is = s.1 ∙ ap (λ x. 91 ∷ x) c.is; lexed = c.lexed }

inner_same : (t a b : List ℕ) → t ≡ in_brackets a → t ≡ in_brackets b → a ≡ b
inner_same t a b h k = let e : a ++ 93 ∷ [] ≡ b ++ 93 ∷ [] = cc in front_same a b 93 e

-- what is in the brackets has the tokens of the expression
lexed_inside : (e : Tree) (inner : List ℕ) → Spells e (in_brackets inner) → lex between inner ≡ Some (spelled e [])
lexed_inside e inner s =
    let b = bracketed e (in_brackets inner) s in
    ap (lex between) (inner_same (in_brackets inner) inner b.inner refl b.is) ∙ b.lexed

-- what is read is spelled
read_spells : (e : Tree) (inner : List ℕ) (ts : List Token) → lex between inner ≡ Some ts
    → parsed Tree (List Tree) as_tree ts ≡ Some e → Spells e (in_brackets inner)
read_spells e inner ts h p =
    let w = subst (λ x. Writes x inner) (parsed_is_spelled ts e p) (lexed_is_written inner ts h) in
    let x = spelt_whole e inner (93 ∷ []) w in
    (inner ++ 93 ∷ [], refl, (x.0, x.1, (x.2.0, x.2.1, (93 ∷ [], x.2.2, refl))))

-- No text spells two expressions.
pub spelled_once : (t : List ℕ) (e f : Tree) → Spells e t → Spells f t → e ≡ f
spelled_once t e f s r =
    let b = bracketed e t s in
    let c = bracketed f t r in
    let same : Some (spelled e []) ≡ Some (spelled f []) = sym b.lexed
    ∙ ap (lex between) (inner_same t b.inner c.inner b.is c.is) ∙ c.lexed in
    let tokens : spelled e [] ≡ spelled f [] = cc in
    let trees : Some e ≡ Some f = sym (spelled_is_parsed e) ∙ ap (parsed Tree (List Tree) as_tree) tokens
    ∙ spelled_is_parsed f in
    cc

-- what the answer of the bounded reader says of the text
abbrev pub Found : Option (Option Tree) → List ℕ → Type 0
Found None t = (e : Tree) → Spells e t → ⊥
Found (Some None) t = (e : Tree) × Spells e t × (64 < nesting e)
Found (Some (Some e)) t = Spells e t × (nesting e ≤ 64)

found_parsed : (inner : List ℕ) (ts : List Token) (p : Option Tree) → lex between inner ≡ Some ts
    → parsed Tree (List Tree) as_tree ts ≡ p → Found (option_map (kept 64) p) (in_brackets inner)
found_parsed inner ts None h p = λ e s.
    let same : Some ts ≡ Some (spelled e []) = sym h ∙ lexed_inside e inner s in
    let tokens : ts ≡ spelled e [] = cc in
    let some : None ≡ Some e = sym p ∙ ap (parsed Tree (List Tree) as_tree) tokens ∙ spelled_is_parsed e in
    cc
found_parsed inner ts (Some e) h p =
    let s = read_spells e inner ts h p in
    by_le (nesting e) 64 (λ b. Found (Some (cond b (Some e) None)) (in_brackets inner)) (λ y. (s, y)) (λ n. (e, s, n))

found_lexed : (inner : List ℕ) (o : Option (List Token)) → lex between inner ≡ o
    → Found (option_and_then kept_parsed o) (in_brackets inner)
found_lexed inner None h = λ e s. let some : None ≡ Some (spelled e []) = sym h ∙ lexed_inside e inner s in cc
found_lexed inner (Some ts) h =
    subst (λ x. Found x (in_brackets inner)) (sym (parsed_kept 64 ts))
    (found_parsed inner ts (parsed Tree (List Tree) as_tree ts) h refl)

pub found : (inner : List ℕ) → Found (kept_reading inner) (in_brackets inner)
found inner = found_lexed inner (lex between inner) refl

-- what the bounded reader's answer says of the text between whose brackets it read
pub answered : (t inner : List ℕ) (o : Option (Option Tree)) → t ≡ in_brackets inner → kept_reading inner ≡ o
    → Found o t
answered t inner o is h = subst (Found o) (sym is) (subst (λ x. Found x (in_brackets inner)) h (found inner))

pub unbracketed : (t : List ℕ) → ((inner : List ℕ) → t ≢ in_brackets inner) → (e : Tree) → Spells e t → ⊥
unbracketed t never e s = let b = bracketed e t s in never b.inner b.is

pub short : (b : Bool) (n limit : ℕ) → (IsTrue b ↔ (limit < n)) → b ≡ false → n ≤ limit
short b n limit h is = by (cases_lt limit n)
  where
    by : (limit < n) ⊎ (n ≤ limit) → n ≤ limit
    by (inl y) = let t : true ≡ false = sym (h.1 y) ∙ is in cc
    by (inr y) = y

-- an answer to a text that spells the expression within the limits is the expression
pub read_as : (t : List ℕ) (r : Result Expr ExprFault) (e : Tree) (long deep : ℕ) → Reads long deep t r → Spells e t
    → length t ≤ long → nesting e ≤ deep → IsReadAs e r
read_as t (Ok f) e long deep h s l d = spelled_once t (tree_of f) e h.1 s
read_as t (Err TooLong) e long deep h s l d = absurd (omega arith)
read_as t (Err NotAnExpression) e long deep h s l d = h.1 e s
read_as t (Err TooDeep) e long deep h s l d =
    let same : nesting h.1.0 ≡ nesting e = ap nesting (spelled_once t h.1.0 e h.1.1 s) in
    absurd (omega (arith, h.1.2))
read_as t (Err OutOfMemory) e long deep h s l d = tt

pub within : (m n : ℕ) → true ≡ nat_le m n → m ≤ n
within m n h = grind (arith, nat_tests)

-- what is spelled has names of the grammar
mutual
  names_in : (e : Tree) (t k : List ℕ) → expression e t k → HasNames e
  names_in (text s) t k h = tt
  names_in (int z) t k h = tt
  names_in (call name es) t k h = (h.1.0, names_in_arguments es h.2.2.0 h.2.2.2.0 h.2.2.2.1)
  names_in (member x name) t k h = (names_in x t h.0 h.1, h.2.2.2.2.0)
  names_in (index x i) t k h = (names_in x t h.0 h.1, names_in i h.2.2.2.0 h.2.2.2.2.0 h.2.2.2.2.1)

  names_in_arguments : (es : Trees) (t k : List ℕ) → arguments es t k → HaveNames es
  names_in_arguments none t k h = tt
  names_in_arguments (more e es) t k h = (names_in e h.0 h.2.0 h.2.1, names_in_further es h.2.0 k h.2.2)

  names_in_further : (es : Trees) (t k : List ℕ) → further es t k → HaveNames es
  names_in_further none t k h = tt
  names_in_further (more e es) t k h =
      (names_in e h.2.2.0 h.2.2.2.0 h.2.2.2.1, names_in_further es h.2.2.2.0 k h.2.2.2.2)

pub spelled_has_names : (t : List ℕ) (e : Tree) → Spells e t → HasNames e
spelled_has_names t e s = names_in e s.2.0 s.2.2.0 s.2.2.1

-- ---- a text that spells an expression means one

-- no expression begins with a `[`
no_bracket_first : (e : Tree) (k ts : List Token) → spelled e k ≡ open_bracket ∷ ts → ⊥
no_bracket_first (text s) k ts h = cc
no_bracket_first (int z) k ts h = cc
no_bracket_first (call name es) k ts h = cc
no_bracket_first (member e name) k ts h = no_bracket_first e _ ts h
no_bracket_first (index e i) k ts h = no_bracket_first e _ ts h

lexed_bracket : (cs : List ℕ) (o : Option (List Token)) (e : Tree) → lex between cs ≡ o
    → lex between (91 ∷ cs) ≡ Some (spelled e []) → ⊥
lexed_bracket cs None e h l =
    let none : None ≡ Some (spelled e []) = sym (ap (option_map (λ ts. (open_bracket ∷ []) ++ ts)) h) ∙ l in cc
lexed_bracket cs (Some ts) e h l =
    let some : Some (open_bracket ∷ ts) ≡ Some (spelled e []) =
    sym (ap (option_map (λ ts. (open_bracket ∷ []) ++ ts)) h) ∙ l in
    let same : spelled e [] ≡ open_bracket ∷ ts = cc in
    no_bracket_first e [] ts same

unopened : (inner : List ℕ) (e : Tree) → lex between inner ≡ Some (spelled e []) → opens (inner ++ 93 ∷ []) ≡ false
unopened [] e h = refl
unopened (c ∷ cs) e h = unless (c == 91) (λ b. let first : c ≡ 91 = eqb-true c 91 b in
    lexed_bracket cs (lex between cs) e refl (ap (λ d. lex between (d ∷ cs)) (sym first) ∙ h))

pub spelled_means : (t : List ℕ) (e : Tree) → Spells e t → meaning t ≡ an_expression
spelled_means t e s =
    let b = bracketed e t s in
    ap meaning b.is ∙ meaning_inside b.inner (unopened b.inner e b.lexed)
