-- What is printed spells the expression, and how long it is.
use Rattle.std.proofs.Common.{◌≡◌, ◌<◌, ◌≤◌, ◌+◌, ◌-◌, ◌*◌, ◌/◌, ◌%◌, ◌^◌, zero, suc, pos, negsuc, cond, length}
use Rattle.std.proofs.Common.{length-append, get_or, drop, map, append-nil, append_assoc, lit<, arith, w64, ℕ, ℤ}
use Rattle.std.proofs.Common.{Bool, true, false, eqb, List, [], ◌∷◌, ◌++◌, refl, ap, sym, subst, ◌∙◌}
use Rattle.std.specs.Fmt.{signed_decimal, decimal}
use Rattle.std.specs.Str.{chars, IsUtf8, IsAscii}
use Rattle.std.proofs.lemmas.Str.{chars-append, chars-IsAscii}
use Rattle.std.proofs.lemmas.Fmt.{IsAscii-decimal, decimal_by_steps}
use Rattle.std.proofs.lemmas.List.{at_drop_all, at_drop_more}
use Rattle.std.proofs.lemmas.Bool.Decides.{nat_tests}
use Rattle.std.proofs.lemmas.Int.{ints}
use mir.Val.{SFits}
use Rattle.arm_expr.specs.Tree.{Tree, text, int, call, member, index, Trees, none, more, trees}
use Rattle.arm_expr.specs.declared.expr.Expr.{Expr}
use Rattle.arm_expr.specs.View.{tree_of}
use Rattle.arm_expr.specs.Grammar.{kind_of, is_digit, AreDigits, value_from, fits, signed, doubled, IsNumeral, ◌▹◌}
use Rattle.arm_expr.specs.Grammar.{blanks, mark, expression, arguments, further, Spells}
use Rattle.arm_expr.specs.Print.{printed, printed_onto, arguments_onto, further_onto, HasNames, HaveNames, HasInts}
use Rattle.arm_expr.specs.Print.{HaveInts, IsWhole, size, arguments_size}
use Rattle.arm_expr.proofs.LexerLemmas.{cons_at}
use Rattle.arm_expr.proofs.LexingSound.{AreDigits-push}
use Rattle.arm_expr.proofs.ViewLemmas.{tree_of-Text, tree_of-Int, tree_of-Call, tree_of-Member, tree_of-Index}
use Rattle.foundation.proofs.Comparisons.{last_digit}

-- the decimal digits of a number
record IsDecimal (n : ℕ) (ds : List ℕ) : Type 0 where
  first : ℕ
  rest : List ℕ
  digits_are : ds ≡ first ∷ rest
  are_digits : AreDigits ds
  value : value_from 0 ds ≡ n

digit_kind : (d : ℕ) → d < 10 → is_digit (kind_of (48 + d)) ≡ true
digit_kind zero h = refl
digit_kind (suc zero) h = refl
digit_kind (suc (suc zero)) h = refl
digit_kind (suc (suc (suc zero))) h = refl
digit_kind (suc (suc (suc (suc zero)))) h = refl
digit_kind (suc (suc (suc (suc (suc zero))))) h = refl
digit_kind (suc (suc (suc (suc (suc (suc zero)))))) h = refl
digit_kind (suc (suc (suc (suc (suc (suc (suc zero))))))) h = refl
digit_kind (suc (suc (suc (suc (suc (suc (suc (suc zero)))))))) h = refl
digit_kind (suc (suc (suc (suc (suc (suc (suc (suc (suc zero))))))))) h = refl
digit_kind (suc (suc (suc (suc (suc (suc (suc (suc (suc (suc d)))))))))) h = absurd (omega arith)

value_from-push : (n : ℕ) (ds : List ℕ) (d : ℕ) → value_from n (ds ++ d ∷ []) ≡ 10 * value_from n ds + (d - 48)
value_from-push n [] d = refl
value_from-push n (x ∷ ds) d = value_from-push (10 * n + (x - 48)) ds d

one_digit : (n : ℕ) → n < 10 → IsDecimal n ((48 + n) ∷ [])
one_digit n h = record {
  first = 48 + n;
  rest = [];
  digits_are = refl;
  are_digits = (digit_kind n h, tt);
  value =
      omega arith;
}

more_digits : (n : ℕ) (ds : List ℕ) → 10 ≤ n → IsDecimal (n / 10) ds → IsDecimal n (ds ++ (48 + n % 10) ∷ [])
more_digits n ds h p = record {
  first = p.first;
  rest = p.rest ++ (48 + n % 10) ∷ [];
  digits_are = ap (λ x. x ++ (48 + n % 10) ∷ []) p.digits_are;
  are_digits = AreDigits-push ds (48 + n % 10) p.are_digits (digit_kind (n % 10) (last_digit n));
  value = omega (arith, value_from-push 0 ds (48 + n % 10), p.value);
}

decimal_is : (n : ℕ) → n < 2 ^ 64 → IsDecimal n (decimal n)
decimal_is n h = decimal_by_steps IsDecimal one_digit more_digits n h

fits_pos : (v n : ℕ) → v ≡ n → n < 2 ^ 63 → fits false v ≡ true
fits_pos v n is h = grind (arith, nat_tests)

fits_neg : (v n : ℕ) → v ≡ suc n → n < 2 ^ 63 → fits true v ≡ true
fits_neg v n is h = grind (arith, nat_tests)

numeral_of : (z : ℤ) → IsWhole z → IsNumeral (signed_decimal z) z
numeral_of (pos n) h =
    let d = decimal_is n (omega arith) in
    let value : value_from 0 (d.first ∷ d.rest) ≡ n = ap (value_from 0) (sym d.digits_are) ∙ d.value in
    record {
      negative = false;
      first = d.first;
      digits = d.rest;
      are_digits = subst AreDigits d.digits_are d.are_digits;
      within = fits_pos _ n value h;
      word_is = d.digits_are;
      value_is = ap pos (sym value);
    }
numeral_of (negsuc n) h =
    let d = decimal_is (suc n) (omega arith) in
    let value : value_from 0 (d.first ∷ d.rest) ≡ suc n = ap (value_from 0) (sym d.digits_are) ∙ d.value in
    record {
      negative = true;
      first = d.first;
      digits = d.rest;
      are_digits = subst AreDigits d.digits_are d.are_digits;
      within = fits_neg _ n value h;
      word_is = ap (λ x. 45 ∷ x) d.digits_are;
      value_is = ap (signed true) (sym value);
    }

no_blank : (t : List ℕ) → blanks t t
no_blank t = ([], tt, refl)

mutual
  expression_printed : (e : Tree) (k : List ℕ) → HasNames e → HasInts e → expression e (printed_onto e k) k
  expression_printed (text s) k n z = refl
  expression_printed (int i) k n z = (signed_decimal i, numeral_of i z, refl)
  expression_printed (call name es) k n z = (
    40 ∷ arguments_onto es k,
    (n.0, refl),
    (
      40 ∷ arguments_onto es k,
      no_blank (40 ∷ arguments_onto es k),
      (arguments_onto es k, refl, arguments_printed es k n.1 z),
    ),
  )
  expression_printed (member e name) k n z =
      let back : List ℕ = 46 ∷ (name ++ k) in (
        back,
        expression_printed e back n.0 z,
        (back, no_blank back, (name ++ k, refl, (name ++ k, no_blank (name ++ k), (n.1, refl)))),
      )
  expression_printed (index e i) k n z =
      let end : List ℕ = 93 ∷ k in
      let back : List ℕ = 91 ∷ printed_onto i end in (
        back,
        expression_printed e back n.0 z.0,
        (
          back,
          no_blank back,
          (
            printed_onto i end,
            refl,
            (
              printed_onto i end,
              no_blank (printed_onto i end),
              (end, expression_printed i end n.1 z.1, (end, no_blank end, refl)),
            ),
          ),
        ),
      )

  arguments_printed : (es : Trees) (k : List ℕ) → HaveNames es → HaveInts es
      → (arguments es ▹ mark 41) (arguments_onto es k) k
  arguments_printed none k n z = (41 ∷ k, no_blank (41 ∷ k), refl)
  arguments_printed (more e es) k n z =
      let y = further_printed es k n.1 z.1 in
      let back : List ℕ = further_onto es k in
      (y.0, (printed_onto e back, no_blank (printed_onto e back), (back, expression_printed e back n.0 z.0, y.1)), y.2)

  further_printed : (es : Trees) (k : List ℕ) → HaveNames es → HaveInts es
      → (further es ▹ mark 41) (further_onto es k) k
  further_printed none k n z = (41 ∷ k, no_blank (41 ∷ k), refl)
  further_printed (more e es) k n z =
      let y = further_printed es k n.1 z.1 in
      let back : List ℕ = further_onto es k in
      let here : List ℕ = printed_onto e back in (
        y.0,
        (
          44 ∷ 32 ∷ here,
          no_blank (44 ∷ 32 ∷ here),
          (32 ∷ here, refl, (here, (32 ∷ [], (refl, tt), refl), (back, expression_printed e back n.0 z.0, y.1))),
        ),
        y.2,
      )

-- what is printed spells the expression
pub printed_spells : (e : Tree) → HasNames e → HasInts e → Spells e (printed e)
printed_spells e n z =
    let end : List ℕ = 93 ∷ [] in (
      printed_onto e end,
      refl,
      (
        printed_onto e end,
        no_blank (printed_onto e end),
        (end, expression_printed e end n z, (end, no_blank end, refl)),
      ),
    )

-- how many characters are printed
mutual
  length-printed : (e : Tree) (k : List ℕ) → length (printed_onto e k) ≡ size e + length k
  length-printed (text s) k = omega (arith, length-append (doubled s) (39 ∷ k))
  length-printed (int z) k = length-append (signed_decimal z) k
  length-printed (call name es) k = omega (arith, length-append name (40 ∷ arguments_onto es k), length-arguments es k)
  length-printed (member e name) k = omega (arith, length-printed e (46 ∷ (name ++ k)), length-append name k)
  length-printed (index e i) k =
      omega (arith, length-printed e (91 ∷ printed_onto i (93 ∷ k)), length-printed i (93 ∷ k))

  length-arguments : (es : Trees) (k : List ℕ) → length (arguments_onto es k) ≡ arguments_size 0 es + length k
  length-arguments none k = omega arith
  length-arguments (more e es) k = omega (arith, length-printed e (further_onto es k), length-further es k)

  length-further : (es : Trees) (k : List ℕ) → length (further_onto es k) ≡ arguments_size 2 es + length k
  length-further none k = omega arith
  length-further (more e es) k = omega (arith, length-printed e (further_onto es k), length-further es k)

pub one_at_least : (n : ℕ) (es : Trees) → 1 ≤ arguments_size n es
one_at_least n none = omega arith
one_at_least n (more e es) = omega (arith, one_at_least 2 es)

-- the arguments from a place on
abbrev pub size_from : ℕ → ℕ → List Expr → ℕ
size_from n i xs = arguments_size n (trees (map tree_of (drop i xs)))

pub next_argument : (n i : ℕ) (xs : List Expr) (x : Expr) → i < length xs → x ≡ get_or xs i x
    → size_from n i xs ≡ n + size (tree_of x) + size_from 2 (i + 1) xs
next_argument n i xs x below at =
    at_drop_more (λ ys. arguments_size n (trees (map tree_of ys))) xs i x below
    ∙ ap (λ y. n + size (tree_of y) + size_from 2 (i + 1) xs) (sym at)

pub whole_text : (start opened written ended : List ℕ) (f : List ℕ → List ℕ) → start ≡ [] → opened ≡ start ++ 91 ∷ []
    → ((k : List ℕ) → written ++ k ≡ opened ++ f k) → ended ≡ written ++ 93 ∷ [] → ended ≡ 91 ∷ f (93 ∷ [])
whole_text start opened written ended f a b c d =
    d ∙ c (93 ∷ []) ∙ ap (λ x. x ++ f (93 ∷ [])) (b ∙ ap (λ x. x ++ 91 ∷ []) a)

pub length-whole : (e : Tree) → length (printed e) ≡ size e + 2
length-whole e = omega (arith, length-printed e (93 ∷ []))

pub ruleset print_views = (tree_of-Text, tree_of-Int, tree_of-Call, tree_of-Member, tree_of-Index, append_assoc)

-- a character and those after it
doubled-cons : (c : ℕ) (cs : List ℕ) → doubled (c ∷ cs) ≡ doubled (c ∷ []) ++ doubled cs
doubled-cons c cs =
    elim (eqb c 39) as (λ b. cond b (39 ∷ 39 ∷ doubled cs) (c ∷ doubled cs) ≡ cond b (39 ∷ 39 ∷ []) (c ∷ [])
    ++ doubled cs) [ true ↦ refl | false ↦ refl ]

-- a turn of the loop that writes a text within quotes
pub doubles_turn : (o p base all : List ℕ) (n m c : ℕ) → (n < length all) × (c ≡ get_or all n c) → m ≡ n + 1
    → p ≡ o ++ doubled (c ∷ []) → o ++ doubled (drop n all) ≡ base → p ++ doubled (drop m all) ≡ base
doubles_turn o p base all n m c t m_is p_is inv =
    ap (λ x. x ++ doubled (drop m all)) p_is
    ∙ ap (λ k. (o ++ doubled (c ∷ [])) ++ doubled (drop k all)) m_is
    ∙ append_assoc o (doubled (c ∷ [])) (doubled (drop (n + 1) all))
    ∙ ap (λ x. o ++ x) (sym (ap doubled (cons_at all n c t) ∙ doubled-cons c (drop (n + 1) all)))
    ∙ inv

pub doubles_end : (o base all : List ℕ) (n : ℕ) → n ≡ length all → o ++ doubled (drop n all) ≡ base → o ≡ base
doubles_end o base all n n_is inv = sym (append-nil o)
    ∙ ap (λ x. o ++ x) (sym (at_drop_all doubled all n (omega arith))) ∙ inv

-- one more character that was counted
pub counts_one : (all : List ℕ) (n c : ℕ) → (n < length all) × (c ≡ get_or all n c)
    → length (doubled (drop n all)) ≡ cond (eqb c 39) 2 1 + length (doubled (drop (n + 1) all))
counts_one all n c t = ap (λ xs. length (doubled xs)) (cons_at all n c t) ∙ by (eqb c 39)
  where
    by : (b : Bool) → length (cond b (39 ∷ 39 ∷ doubled (drop (n + 1) all)) (c ∷ doubled (drop (n + 1) all)))
        ≡ cond b 2 1 + length (doubled (drop (n + 1) all))
    by true = omega arith
    by false = omega arith

pub counts_turn : (all : List ℕ) (n m c left rest room whole : ℕ) → (n < length all) × (c ≡ get_or all n c)
    → m ≡ n + 1 → cond (eqb c 39) 2 1 ≤ left → rest ≡ left - cond (eqb c 39) 2 1
    → left + whole ≡ room + length (doubled (drop n all)) → rest + whole ≡ room + length (doubled (drop m all))
counts_turn all n m c left rest room whole t m_is fits rest_is inv =
    let one = counts_one all n c t in
    let next : length (doubled (drop m all)) ≡ length (doubled (drop (n + 1) all)) =
    ap (λ k. length (doubled (drop k all))) m_is in
    omega (arith, one, next)

pub counts_end : (all : List ℕ) (n left room : ℕ) → n ≡ length all
    → left + length (doubled all) ≡ room + length (doubled (drop n all)) → left + length (doubled all) ≡ room
counts_end all n left room n_is inv = omega (arith, at_drop_all (λ xs. length (doubled xs)) all n (omega arith))

minus_ascii : (bs : List ℕ) → IsAscii bs → (i : ℕ) → get_or (45 ∷ bs) i 0 < 128
minus_ascii bs h zero = lit< tt
minus_ascii bs h (suc i) = h i

signed_ascii : (z : ℤ) → SFits w64 z → IsAscii (signed_decimal z)
signed_ascii (pos n) f = IsAscii-decimal n (omega (arith, ints, f))
signed_ascii (negsuc n) f = minus_ascii (decimal (suc n)) (IsAscii-decimal (suc n) (omega (arith, ints, f)))

pub whole_is : (z : ℤ) → SFits w64 z → IsWhole z
whole_is (pos n) f = omega (arith, ints, f)
whole_is (negsuc n) f = omega (arith, ints, f)

pub int_put : (new old : List ℕ) (z y : ℤ) → IsUtf8 old → SFits w64 z → y ≡ z → new ≡ old ++ signed_decimal y
    → chars new ≡ chars old ++ signed_decimal z
int_put new old z y u f y_is h =
    ap chars (h ∙ ap (λ x. old ++ signed_decimal x) y_is)
    ∙ chars-append old (signed_decimal z) u
    ∙ ap (λ x. chars old ++ x) (chars-IsAscii (signed_decimal z) (signed_ascii z f))
