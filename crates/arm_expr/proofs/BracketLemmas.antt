-- The brackets of a text, in bytes and in characters.
use Rattle.std.proofs.Common.{◌≡◌, ◌≢◌, ◌==◌, ◌&&◌, ℕ, Bool, true, false, true≢false, List, [], ◌∷◌}
use Rattle.std.proofs.Common.{◌++◌, codes, refl, ap, sym, ◌∙◌, lit<, arith}
use Rattle.std.specs.Str.{chars, IsUtf8}
use Rattle.std.proofs.lemmas.Str.{chars-append, chars-IsAscii, encodes-chars, encodes-append, IsUtf8-from_ascii}
use lib.Utf8.{encodes}
use Rattle.std.proofs.lemmas.Bool.Decides.{nat_tests}
use Rattle.foundation.proofs.AsciiWords.{one_ascii}
use Rattle.foundation.proofs.TruthValues.{both, unless}
use Rattle.arm_expr.specs.Brackets.{opens, closes, is_bracketed, meaning, an_expression, plain, escaped, without_last}
use Rattle.std.proofs.lemmas.Bool.{eqb-true}

-- in characters
pub in_characters : (bytes inner : List ℕ) → IsUtf8 inner → bytes ≡ 91 ∷ (inner ++ 93 ∷ [])
    → chars bytes ≡ 91 ∷ (chars inner ++ 93 ∷ [])
in_characters bytes inner u h =
    ap chars h
    ∙ chars-append (91 ∷ []) (inner ++ 93 ∷ []) (IsUtf8-from_ascii (91 ∷ []) (one_ascii 91 (lit< tt)))
    ∙ ap (λ x. x ++ chars (inner ++ 93 ∷ [])) (chars-IsAscii (91 ∷ []) (one_ascii 91 (lit< tt)))
    ∙ ap (λ x. 91 ∷ x) (chars-append inner (93 ∷ []) u
    ∙ ap (λ x. chars inner ++ x) (chars-IsAscii (93 ∷ []) (one_ascii 93 (lit< tt))))

-- in bytes
in_bytes : (bytes inner : List ℕ) → IsUtf8 bytes → chars bytes ≡ 91 ∷ (inner ++ 93 ∷ [])
    → bytes ≡ 91 ∷ (encodes inner ++ 93 ∷ [])
unfolding lib.Utf8.encode
in_bytes bytes inner u h = sym (encodes-chars bytes u) ∙ ap encodes h
    ∙ ap (λ x. 91 ∷ x) (encodes-append inner (93 ∷ []))

pub no_front : (bytes : List ℕ) → IsUtf8 bytes → ((rest : List ℕ) → bytes ≢ 91 ∷ rest) → (inner : List ℕ)
    → chars bytes ≢ 91 ∷ (inner ++ 93 ∷ [])
no_front bytes u none inner h = none (encodes inner ++ 93 ∷ []) (in_bytes bytes inner u h)

pub no_back : (bytes rest : List ℕ) → IsUtf8 bytes → bytes ≡ 91 ∷ rest → ((front : List ℕ) → rest ≢ front ++ 93 ∷ [])
    → (inner : List ℕ) → chars bytes ≢ 91 ∷ (inner ++ 93 ∷ [])
no_back bytes rest u is none inner h =
    let e : 91 ∷ rest ≡ 91 ∷ (encodes inner ++ 93 ∷ []) = sym is ∙ in_bytes bytes inner u h in
    none (encodes inner) (cc)

-- ---- whether a text is in brackets

is_91 : (c : ℕ) → (c == 91) ≡ true → c ≡ 91
is_91 c e = grind (arith, nat_tests)

is_93 : (c : ℕ) → (c == 93) ≡ true → c ≡ 93
is_93 c e = grind (arith, nat_tests)

closes_end : (xs : List ℕ) → closes (xs ++ 93 ∷ []) ≡ true
closes_end [] = refl
closes_end (x ∷ []) = refl
closes_end (x ∷ y ∷ xs) = closes_end (y ∷ xs)

end_of : (xs : List ℕ) → closes xs ≡ true → (front : List ℕ) × (xs ≡ front ++ 93 ∷ [])
end_of [] e = absurd (true≢false (sym e))
end_of (c ∷ []) e = ([], ap (λ d. d ∷ []) (is_93 c e))
end_of (c ∷ d ∷ cs) e = let p = end_of (d ∷ cs) e in (c ∷ p.0, ap (λ r. c ∷ r) p.1)

first_of : (xs : List ℕ) → opens xs ≡ true → (rest : List ℕ) × (xs ≡ 91 ∷ rest)
first_of [] e = absurd (true≢false (sym e))
first_of (c ∷ cs) e = (cs, ap (λ d. d ∷ cs) (is_91 c e))

closes_later : (cs : List ℕ) → closes (91 ∷ cs) ≡ true → closes cs ≡ true
closes_later [] e = absurd (true≢false (sym e))
closes_later (d ∷ cs) e = e

-- a text is in brackets exactly where it is a `[`, a text and a `]`
pub bracketed_is : (t : List ℕ) → is_bracketed t ≡ true → (inner : List ℕ) × (t ≡ 91 ∷ (inner ++ 93 ∷ []))
bracketed_is t e =
    let each = both (opens t) (closes t) e in
    let first = first_of t each.0 in
    let last = end_of first.0 (closes_later first.0 (ap closes (sym first.1) ∙ each.1)) in
    (last.0, first.1 ∙ ap (λ r. 91 ∷ r) last.1)

pub is_bracketed-in : (t inner : List ℕ) → t ≡ 91 ∷ (inner ++ 93 ∷ []) → is_bracketed t ≡ true
is_bracketed-in t inner e = ap is_bracketed e ∙ closes_end (91 ∷ inner)

-- ---- in bytes

after : (bytes cs : List ℕ) → IsUtf8 bytes → chars bytes ≡ 91 ∷ cs → bytes ≡ 91 ∷ encodes cs
unfolding lib.Utf8.encode
after bytes cs u h = sym (encodes-chars bytes u) ∙ ap encodes h

before : (bytes cs : List ℕ) → IsUtf8 bytes → chars bytes ≡ cs ++ 93 ∷ [] → bytes ≡ encodes cs ++ 93 ∷ []
unfolding lib.Utf8.encode
before bytes cs u h = sym (encodes-chars bytes u) ∙ ap encodes h ∙ encodes-append cs (93 ∷ [])

pub chars_after : (bytes rest : List ℕ) → bytes ≡ 91 ∷ rest → chars bytes ≡ 91 ∷ chars rest
chars_after bytes rest h =
    ap chars h
    ∙ chars-append (91 ∷ []) rest (IsUtf8-from_ascii (91 ∷ []) (one_ascii 91 (lit< tt)))
    ∙ ap (λ x. x ++ chars rest) (chars-IsAscii (91 ∷ []) (one_ascii 91 (lit< tt)))

chars_before : (bytes front : List ℕ) → IsUtf8 front → bytes ≡ front ++ 93 ∷ [] → chars bytes ≡ chars front ++ 93 ∷ []
chars_before bytes front u h =
    ap chars h ∙ chars-append front (93 ∷ []) u
    ∙ ap (λ x. chars front ++ x) (chars-IsAscii (93 ∷ []) (one_ascii 93 (lit< tt)))

pub no_first : (bytes : List ℕ) → IsUtf8 bytes → ((rest : List ℕ) → bytes ≢ 91 ∷ rest) → opens (chars bytes) ≡ false
no_first bytes u none = unless _ (λ e. let p = first_of (chars bytes) e in none (encodes p.0) (after bytes p.0 u p.1))

pub no_bracket : (bytes : List ℕ) → IsUtf8 bytes → ((rest : List ℕ) → bytes ≢ 91 ∷ rest)
    → is_bracketed (chars bytes) ≡ false
no_bracket bytes u none = ap (λ b. b && closes (chars bytes)) (no_first bytes u none)

pub no_last : (bytes rest : List ℕ) → IsUtf8 rest → bytes ≡ 91 ∷ rest → ((front : List ℕ) → rest ≢ front ++ 93 ∷ [])
    → is_bracketed (chars bytes) ≡ false
no_last bytes rest u h none =
    ap is_bracketed (chars_after bytes rest h)
    ∙ unless _ (λ e. let p = end_of (chars rest) (closes_later (chars rest) e) in
    none (encodes p.0) (before rest p.0 u p.1))

pub shut_brackets : (bytes rest inner : List ℕ) → IsUtf8 inner → bytes ≡ 91 ∷ rest → rest ≡ inner ++ 93 ∷ []
    → is_bracketed (chars bytes) ≡ true
shut_brackets bytes rest inner u h g =
    is_bracketed-in (chars bytes) (chars inner)
    (chars_after bytes rest h ∙ ap (λ r. 91 ∷ r) (chars_before rest inner u g))

pub opened : (bytes rest : List ℕ) → bytes ≡ 91 ∷ rest → opens (chars bytes) ≡ true
opened bytes rest h = ap opens (chars_after bytes rest h)

-- a text in brackets is written with one bracket more
pub written_in_brackets : (s bytes inner old text : List ℕ) → s ≡ chars bytes → bytes ≡ codes "[" ++ inner
    → chars inner ≡ text → is_bracketed (chars old) ≡ true → chars old ≡ text → s ≡ escaped text
written_in_brackets s bytes inner old text e h same b o =
    let shut : is_bracketed text ≡ true = ap is_bracketed (sym o) ∙ b in
    e ∙ chars_after bytes inner h ∙ ap (λ r. 91 ∷ r) same ∙ sym (rw shut refl)

-- ---- meanings

-- a plain text that is written by the rule means itself
pub meaning-escaped : (s : List ℕ) → meaning (escaped s) ≡ plain s
meaning-escaped s = by_brackets (is_bracketed s) refl
  where
    closes_more : (xs : List ℕ) → is_bracketed xs ≡ true → closes (91 ∷ xs) ≡ true
    closes_more [] e = absurd (true≢false (sym e))
    closes_more (c ∷ cs) e = (both (c == 91) (closes (c ∷ cs)) e).1

    opens_first : (xs : List ℕ) → is_bracketed xs ≡ true → opens xs ≡ true
    opens_first xs e = (both (opens xs) (closes xs) e).0

    by_brackets : (b : Bool) → is_bracketed s ≡ b → meaning (escaped s) ≡ plain s
    by_brackets true e = rw e (rw (closes_more s e) (rw (opens_first s e) refl))
    by_brackets false e = rw e (rw e refl)

-- what is in brackets is an expression where no second `[` follows the first
pub meaning_inside : (inner : List ℕ) → opens (inner ++ 93 ∷ []) ≡ false
    → meaning (91 ∷ (inner ++ 93 ∷ [])) ≡ an_expression
meaning_inside inner e =
    rw (is_bracketed-in (91 ∷ (inner ++ 93 ∷ [])) inner refl) (rw e refl)

pub closes_last : (cs : List ℕ) → closes cs ≡ true → cs ≡ without_last cs ++ 93 ∷ []
closes_last [] h = cc
closes_last (c ∷ []) h = ap (λ c. c ∷ []) (eqb-true c 93 h)
closes_last (c ∷ d ∷ cs) h = ap (λ r. c ∷ r) (closes_last (d ∷ cs) h)
