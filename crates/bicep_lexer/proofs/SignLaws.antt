-- What is inside a text is read byte by byte exactly where it is written by signs.
use Rattle.std.proofs.Common.{◌≡◌, ◌≢◌, ℕ, zero, suc, ◌+◌, ◌*◌, ◌≤◌, Bool, true, false, cond, not, ◌&&◌, ◌||◌}
use Rattle.std.proofs.Common.{eqb, List, [], ◌∷◌, ◌++◌, length, drop, Option, Some, None, option_and_then, is_some}
use Rattle.std.proofs.Common.{unwrap_or, refl, ap, sym, subst, ◌∙◌, append_assoc, length-append, arith}
use Rattle.std.proofs.lemmas.Bool.{eqb-true}
use Rattle.std.proofs.lemmas.Bool.Decides.{nat_tests}
use Rattle.foundation.proofs.TruthValues.{not_both}
use Rattle.bicep_lexer.specs.Bytes.{begins_with}
use Rattle.bicep_lexer.specs.Escapes.{hexadecimal, is_scalar, simple_escape}
use Rattle.bicep_lexer.specs.Signs.{Sign, itself, escape, unicode, hexadecimal_from, AreHexadecimal, IsEscape, AreSigns}
use Rattle.bicep_lexer.specs.Signs.{written, is_hole, IsInside, BeginsEscape}
use Rattle.bicep_lexer.specs.Texts.{is_break}
use Rattle.bicep_lexer.specs.Reader.Scanning.{closed_number, scalar_of, braced_scalar, is_escape}

-- the bytes of a piece, one after another: no quote, no `${` and no line end but after a `\`, and each `\` begins an
-- escape
abbrev pub Passes : Bool → List ℕ → List ℕ → Type 0
Passes escaped [] rest = escaped ≡ false
Passes true (b ∷ word) rest = Passes false word rest
Passes false (b ∷ word) rest =
    (b ≢ 39) × (is_hole b (word ++ rest) ≡ false) × (is_break b ≡ false) × (b ≡ 92 → is_escape (word ++ rest) ≡ true)
    × Passes (eqb b 92) word rest

-- no escape goes on into these bytes
abbrev pub Stops : List ℕ → Type 0
Stops [] = Unit {0}
Stops (c ∷ cs) = (is_some (hexadecimal c) ≡ false) × (eqb c 125 ≡ false) × (eqb c 123 ≡ false)

differ : (a b : ℕ) → eqb a b ≡ false → a ≢ b
differ a b h = grind (arith, nat_tests)

no_eqb : (a b : ℕ) → a ≢ b → eqb a b ≡ false
no_eqb a b h = grind (arith, nat_tests)

-- a byte with another test is another byte
pub not_hex : (d x : ℕ) → is_some (hexadecimal x) ≡ false → is_some (hexadecimal d) ≡ true → eqb d x ≡ false
not_hex d x other h = elim (eqb d x) as (λ t. eqb d x ≡ t → t ≡ false) [
  | true ↦ λ e. absurd (not_both (is_some (hexadecimal x))
      (subst (λ y. is_some (hexadecimal y) ≡ true) (eqb-true d x e) h) other)
  | false ↦ λ e. refl
] refl

no_break : (c : ℕ) → c ≢ 10 → c ≢ 13 → is_break c ≡ false
no_break c h i = grind (arith, nat_tests)

hex_no_break : (d : ℕ) → eqb d 10 ≡ false → eqb d 13 ≡ false → is_break d ≡ false
hex_no_break d h i = no_break d (differ d 10 h) (differ d 13 i)

no_lf : (c : ℕ) → is_break c ≡ false → c ≢ 10
no_lf c h = grind (arith, nat_tests)

no_cr : (c : ℕ) → is_break c ≡ false → c ≢ 13
no_cr c h = grind (arith, nat_tests)

hole_on : (c : ℕ) (cs rest : List ℕ) → begins_with 123 rest ≡ false → is_hole c cs ≡ false
    → is_hole c (cs ++ rest) ≡ false
hole_on c [] rest h i = ap (λ t. eqb c 36 && t) h ∙ i
hole_on c (d ∷ cs) rest h i = i

hole_off : (c : ℕ) (cs rest : List ℕ) → is_hole c (cs ++ rest) ≡ false → is_hole c cs ≡ false
hole_off c [] rest i = elim (eqb c 36) as (λ t. (t && false) ≡ false) [ true ↦ refl | false ↦ refl ]
hole_off c (d ∷ cs) rest i = i

no_dollar : (c : ℕ) (cs : List ℕ) → eqb c 36 ≡ false → is_hole c cs ≡ false
no_dollar c cs h = ap (λ t. t && begins_with 123 cs) h

-- the digits of an escape are read as their number
and_then_some : (f : ℕ → Option ℕ) (o : Option ℕ) → is_some o ≡ true → option_and_then f o ≡ f (unwrap_or o 0)
and_then_some f None h = absurd cc
and_then_some f (Some x) h = refl

closed_is : (n v : ℕ) (ds more : List ℕ) → length ds ≤ n → AreHexadecimal ds
    → closed_number n v (ds ++ 125 ∷ more) ≡ Some (hexadecimal_from v ds)
closed_is zero v [] more le h = refl
closed_is (suc n) v [] more le h = refl
closed_is zero v (d ∷ ds) more le h = absurd (omega (arith, le))
closed_is (suc n) v (d ∷ ds) more le h =
    ap (λ t. cond t (Some v) (option_and_then (λ x. closed_number n (16 * v + x) (ds ++ 125 ∷ more)) (hexadecimal d)))
    (not_hex d 125 refl h.0)
    ∙ and_then_some (λ x. closed_number n (16 * v + x) (ds ++ 125 ∷ more)) (hexadecimal d) h.0
    ∙ closed_is n (16 * v + unwrap_or (hexadecimal d) 0) ds more (omega (arith, le)) h.1

unicode_reads : (ds more : List ℕ) → IsEscape (unicode ds) → is_escape (117 ∷ 123 ∷ (ds ++ 125 ∷ more)) ≡ true
unfolding is_escape braced_scalar
unicode_reads [] more h = absurd (omega (arith, h.0))
unicode_reads (d ∷ ds) more h =
    let bytes = (d ∷ ds) ++ 125 ∷ more in
    ap (λ t. is_some (cond (not t) (option_and_then scalar_of (closed_number 6 0 bytes)) None))
    (not_hex d 125 refl h.2.0)
    ∙ ap (λ o. is_some (option_and_then scalar_of o)) (closed_is 6 0 (d ∷ ds) more h.1 h.2)
    ∙ ap (λ t. is_some (cond t (Some (hexadecimal_from 0 (d ∷ ds))) None)) h.3

simple_reads : (c : ℕ) (more : List ℕ) → is_some (simple_escape c) ≡ true → is_escape (c ∷ more) ≡ true
unfolding is_escape
simple_reads c more h = ap (λ t. t || (eqb c 117 && is_some (braced_scalar more))) h

-- a `\` that begins an escape is read as one
pub escape_reads : (rest : List ℕ) → BeginsEscape (92 ∷ rest) → is_escape rest ≡ true
escape_reads rest (itself c, more, h, is) = absurd h
escape_reads rest (escape c, more, h, is) =
    let tail : rest ≡ c ∷ more = ap (drop 1) is in
    subst (λ xs. is_escape xs ≡ true) (sym tail) (simple_reads c more h)
escape_reads rest (unicode ds, more, h, is) =
    let tail : rest ≡ 117 ∷ 123 ∷ ((ds ++ 125 ∷ []) ++ more) = ap (drop 1) is in
    let flat : rest ≡ 117 ∷ 123 ∷ (ds ++ 125 ∷ more) = tail
    ∙ ap (λ xs. 117 ∷ 123 ∷ xs) (append_assoc ds (125 ∷ []) more) in
    subst (λ xs. is_escape xs ≡ true) (sym flat) (unicode_reads ds more h)

digits_pass : (ds word rest : List ℕ) → AreHexadecimal ds → Passes false word rest
    → Passes false (ds ++ 125 ∷ word) rest
digits_pass [] word rest h p = ((λ e. omega (arith, e)), refl, refl, (λ e. absurd (omega (arith, e))), p)
digits_pass (d ∷ ds) word rest h p =
    let more = ds ++ 125 ∷ word in (
      differ d 39 (not_hex d 39 refl h.0),
      no_dollar d (more ++ rest) (not_hex d 36 refl h.0),
      hex_no_break d (not_hex d 10 refl h.0) (not_hex d 13 refl h.0),
      (λ e. absurd (differ d 92 (not_hex d 92 refl h.0) e)),
      subst (λ t. Passes t more rest) (sym (not_hex d 92 refl h.0)) (digits_pass ds word rest h.1 p),
    )

signs_pass : (ss : List Sign) (rest : List ℕ) → begins_with 123 rest ≡ false → AreSigns ss
    → Passes false (written ss) rest
signs_pass [] rest st a = refl
signs_pass (itself c ∷ ss) rest st a = (
  a.0.0,
  hole_on c (written ss) rest st a.1,
  no_break c a.0.2 a.0.3,
  (λ e. absurd (a.0.1 e)),
  subst (λ t. Passes t (written ss) rest) (sym (no_eqb c 92 a.0.1)) (signs_pass ss rest st a.2),
)
signs_pass (escape c ∷ ss) rest st a = (
  (λ e. omega (arith, e)),
  refl,
  refl,
  (λ e. simple_reads c (written ss ++ rest) a.0),
  signs_pass ss rest st a.2,
)
signs_pass (unicode ds ∷ ss) rest st a =
    let word = written ss in
    let seam : (ds ++ 125 ∷ word) ++ rest ≡ ds ++ 125 ∷ (word ++ rest) = append_assoc ds (125 ∷ word) rest in (
      (λ e. omega (arith, e)),
      refl,
      refl,
      (λ e. subst (λ xs. is_escape (117 ∷ 123 ∷ xs) ≡ true) (sym seam) (unicode_reads ds (word ++ rest) a.0)),
      (
        (λ e. omega (arith, e)),
        refl,
        refl,
        (λ e. absurd (omega (arith, e))),
        digits_pass ds word rest a.0.2 (signs_pass ss rest st a.2),
      ),
    )

-- what is written by signs is passed
pub inside_passes : (word rest : List ℕ) → begins_with 123 rest ≡ false → IsInside word → Passes false word rest
inside_passes word rest st h = subst (λ xs. Passes false xs rest) (sym h.2) (signs_pass h.0 rest st h.1)

-- what a closed number is written by
abbrev ClosedBy : ℕ → List ℕ → Type 0
ClosedBy n bs = (ds : List ℕ) × (more : List ℕ) × (bs ≡ ds ++ 125 ∷ more) × (length ds ≤ n) × AreHexadecimal ds

closed_digit : (n b : ℕ) (bs : List ℕ) (f : ℕ → Option ℕ) → ((d : ℕ) → is_some (f d) ≡ true → ClosedBy n bs)
    → (o : Option ℕ) → hexadecimal b ≡ o → is_some (option_and_then f o) ≡ true → ClosedBy (suc n) (b ∷ bs)
closed_digit n b bs f below None e i = absurd cc
closed_digit n b bs f below (Some d) e i =
    let r = below d i in
    (b ∷ r.0, r.1, ap (λ xs. b ∷ xs) r.2, omega (arith, r.3), (ap is_some e, r.4))

closed_by : (n v : ℕ) (bs : List ℕ) → is_some (closed_number n v bs) ≡ true → ClosedBy n bs
closed_by n v [] h = absurd cc
closed_by zero v (b ∷ bs) h = elim (eqb b 125) as (λ t. eqb b 125 ≡ t → is_some (cond t (Some v) None) ≡ true
    → ClosedBy zero (b ∷ bs)) [
      | true ↦ λ e i. ([], bs, ap (λ x. x ∷ bs) (eqb-true b 125 e), omega arith, tt)
      | false ↦ λ e i. absurd cc
    ] refl h
closed_by (suc n) v (b ∷ bs) h =
    let f : ℕ → Option ℕ = λ d. closed_number n (16 * v + d) bs in
    elim (eqb b 125) as (λ t. eqb b 125 ≡ t → is_some (cond t (Some v) (option_and_then f (hexadecimal b))) ≡ true
    → ClosedBy (suc n) (b ∷ bs)) [
      | true ↦ λ e i. ([], bs, ap (λ x. x ∷ bs) (eqb-true b 125 e), omega arith, tt)
      | false ↦ λ e i.
          closed_digit n b bs f (λ d. closed_by n (16 * v + d) bs) (hexadecimal b) refl i
    ] refl h

scalar_some : (v : ℕ) (b : Bool) → is_some (cond b (Some v) None) ≡ true → b ≡ true
scalar_some v true h = refl
scalar_some v false h = absurd cc

cond_some : (p q : Bool) (o : Option ℕ) → is_some (cond (p && not q) o None) ≡ true
    → (p ≡ true) × (q ≡ false) × (is_some o ≡ true)
cond_some true true o h = absurd cc
cond_some true false o h = (refl, refl, h)
cond_some false q o h = absurd cc

opens : (bs : List ℕ) → begins_with 123 bs ≡ true → (more : List ℕ) × (bs ≡ 123 ∷ more)
opens [] h = absurd cc
opens (c ∷ cs) h = (cs, ap (λ x. x ∷ cs) (eqb-true c 123 h))

braced_facts : (bs : List ℕ) → is_some (braced_scalar bs) ≡ true
    → (begins_with 123 bs ≡ true) × (begins_with 125 (drop 1 bs) ≡ false)
    × (is_some (option_and_then scalar_of (closed_number 6 0 (drop 1 bs))) ≡ true)
unfolding braced_scalar
braced_facts bs h =
    cond_some (begins_with 123 bs) (begins_with 125 (drop 1 bs))
    (option_and_then scalar_of (closed_number 6 0 (drop 1 bs))) h

some_of : (o : Option ℕ) → is_some (option_and_then scalar_of o) ≡ true → is_some o ≡ true
some_of None h = absurd cc
some_of (Some v) h = refl

digits_some : (ds more bs : List ℕ) → bs ≡ ds ++ 125 ∷ more → begins_with 125 bs ≡ false → 1 ≤ length ds
digits_some [] more bs is h =
    absurd (not_both (begins_with 125 (125 ∷ more)) refl (subst (λ xs. begins_with 125 xs ≡ false) is h))
digits_some (d ∷ ds) more bs is h = omega arith

-- what a braced scalar is written by
braced_by : (bs : List ℕ) → is_some (braced_scalar bs) ≡ true
    → (ds : List ℕ) × (more : List ℕ) × (bs ≡ 123 ∷ (ds ++ 125 ∷ more)) × IsEscape (unicode ds)
braced_by bs h =
    let f = braced_facts bs h in
    let begun = opens bs f.0 in
    let tail : drop 1 bs ≡ begun.0 = ap (drop 1) begun.1 in
    let some : is_some (option_and_then scalar_of (closed_number 6 0 begun.0)) ≡ true =
    subst (λ xs. is_some (option_and_then scalar_of (closed_number 6 0 xs)) ≡ true) tail f.2 in
    let by = closed_by 6 0 begun.0 (some_of (closed_number 6 0 begun.0) some) in
    let value : closed_number 6 0 begun.0 ≡ Some (hexadecimal_from 0 by.0) = ap (closed_number 6 0) by.2
    ∙ closed_is 6 0 by.0 by.1 by.3 by.4 in
    let scalar : is_some (option_and_then scalar_of (Some (hexadecimal_from 0 by.0))) ≡ true =
    subst (λ o. is_some (option_and_then scalar_of o) ≡ true) value some in (
      by.0,
      by.1,
      begun.1 ∙ ap (λ xs. 123 ∷ xs) by.2,
      (
        digits_some by.0 by.1 begun.0 by.2 (subst (λ xs. begins_with 125 xs ≡ false) tail f.1),
        by.3,
        by.4,
        scalar_some (hexadecimal_from 0 by.0) (is_scalar (hexadecimal_from 0 by.0)) scalar,
      ),
    )

or_right : (a b c : Bool) → a ≡ false → (a || (b && c)) ≡ true → (b ≡ true) × (c ≡ true)
or_right true b c h i = absurd cc
or_right false true c h i = (refl, i)
or_right false false c h i = absurd cc

-- an escape that is no simple one
braced_escape : (c : ℕ) (bs : List ℕ) → is_some (simple_escape c) ≡ false → is_escape (c ∷ bs) ≡ true
    → (c ≡ 117) × (is_some (braced_scalar bs) ≡ true)
unfolding is_escape
braced_escape c bs h i =
    let r = or_right (is_some (simple_escape c)) (eqb c 117) (is_some (braced_scalar bs)) h i in
    (eqb-true c 117 r.0, r.1)

nothing_escapes : is_escape [] ≡ true → ⊥
unfolding is_escape
nothing_escapes h = cc

-- what is read as an escape is written as one
pub reads_escape : (rest : List ℕ) → is_escape rest ≡ true → BeginsEscape (92 ∷ rest)
reads_escape [] h = absurd (nothing_escapes h)
reads_escape (c ∷ bs) h = elim (is_some (simple_escape c)) as (λ t. is_some (simple_escape c) ≡ t
    → BeginsEscape (92 ∷ c ∷ bs)) [
      | true ↦ λ e. (escape c, bs, e, refl)
      | false ↦ λ e.
          let f = braced_escape c bs e h in
          let by = braced_by bs f.1 in (
            unicode by.0,
            by.1,
            by.3,
            ap (λ x. 92 ∷ x ∷ bs) f.0 ∙ ap (λ xs. 92 ∷ 117 ∷ xs) by.2
                ∙ ap (λ xs. 92 ∷ 117 ∷ 123 ∷ xs) (sym (append_assoc by.0 (125 ∷ []) by.1)),
          )
    ] refl

first_is : (b c : ℕ) (bs cs : List ℕ) → b ∷ bs ≡ c ∷ cs → b ≡ c
first_is b c bs cs h = cc

rest_is : (b c : ℕ) (bs cs : List ℕ) → b ∷ bs ≡ c ∷ cs → bs ≡ cs
rest_is b c bs cs h = cc

-- an escape ends before bytes that it does not go on into
ends_before : (word rest ds more : List ℕ) → Stops rest → AreHexadecimal ds → word ++ rest ≡ ds ++ 125 ∷ more
    → (left : List ℕ) × (word ≡ ds ++ 125 ∷ left)
ends_before [] [] [] more st h is = absurd cc
ends_before [] [] (d ∷ ds) more st h is = absurd cc
ends_before [] (c ∷ cs) [] more st h is =
    absurd (not_both (eqb 125 125) refl (subst (λ x. eqb x 125 ≡ false) (first_is c 125 cs more is) st.1))
ends_before [] (c ∷ cs) (d ∷ ds) more st h is =
    absurd (not_both (is_some (hexadecimal d)) h.0
    (subst (λ x. is_some (hexadecimal x) ≡ false) (first_is c d cs (ds ++ 125 ∷ more) is) st.0))
ends_before (b ∷ word) rest [] more st h is =
    (word, ap (λ x. x ∷ word) (first_is b 125 (word ++ rest) more is))
ends_before (b ∷ word) rest (d ∷ ds) more st h is =
    let r = ends_before word rest ds more st h.1 (rest_is b d (word ++ rest) (ds ++ 125 ∷ more) is) in
    (r.0, ap (λ x. x ∷ word) (first_is b d (word ++ rest) (ds ++ 125 ∷ more) is) ∙ ap (λ xs. d ∷ xs) r.1)

opens_before : (word rest more : List ℕ) → Stops rest → word ++ rest ≡ 123 ∷ more → (left : List ℕ)
    × (word ≡ 123 ∷ left)
opens_before [] [] more st is = absurd cc
opens_before [] (c ∷ cs) more st is =
    absurd (not_both (eqb 123 123) refl (subst (λ x. eqb x 123 ≡ false) (first_is c 123 cs more is) st.2))
opens_before (b ∷ word) rest more st is = (word, ap (λ x. x ∷ word) (first_is b 123 (word ++ rest) more is))

pass_digits : (ds word rest : List ℕ) → AreHexadecimal ds → Passes false (ds ++ 125 ∷ word) rest
    → Passes false word rest
pass_digits [] word rest h p = p.4
pass_digits (d ∷ ds) word rest h p =
    pass_digits ds word rest h.1
    (subst (λ t. Passes t (ds ++ 125 ∷ word) rest) (not_hex d 92 refl h.0) p.4)

-- the same for all words that are shorter
abbrev SignsBelow : ℕ → List ℕ → Type 0
SignsBelow m rest = (word : List ℕ) → length word ≤ m → Passes false word rest → IsInside word

unicode_written : (c : ℕ) (word ds end more : List ℕ) → c ≡ 117 → word ≡ 123 ∷ (ds ++ 125 ∷ end) → end ≡ more
    → 92 ∷ c ∷ word ≡ 92 ∷ 117 ∷ 123 ∷ (ds ++ 125 ∷ more)
unicode_written c word ds end more first whole rest =
    ap (λ x. 92 ∷ x ∷ word) first ∙ ap (λ xs. 92 ∷ 117 ∷ xs) whole
    ∙ ap (λ xs. 92 ∷ 117 ∷ 123 ∷ (ds ++ 125 ∷ xs)) rest

unicode_sign : (m : ℕ) (rest : List ℕ) → SignsBelow m rest → Stops rest → (c : ℕ) (word : List ℕ) → length word ≤ m
    → c ≡ 117 → is_some (braced_scalar (word ++ rest)) ≡ true → Passes false word rest → IsInside (92 ∷ c ∷ word)
unicode_sign m rest below st c word le is braced p =
    let by = braced_by (word ++ rest) braced in
    let begun = opens_before word rest (by.0 ++ 125 ∷ by.1) st by.2 in
    let inner : begun.0 ++ rest ≡ by.0 ++ 125 ∷ by.1 =
    rest_is 123 123 (begun.0 ++ rest) (by.0 ++ 125 ∷ by.1) (sym (ap (λ xs. xs ++ rest) begun.1) ∙ by.2) in
    let end = ends_before begun.0 rest by.0 by.1 st by.3.2 inner in
    let whole : word ≡ 123 ∷ (by.0 ++ 125 ∷ end.0) = begun.1 ∙ ap (λ xs. 123 ∷ xs) end.1 in
    let passed : Passes false (123 ∷ (by.0 ++ 125 ∷ end.0)) rest = subst (λ xs. Passes false xs rest) whole p in
    let count : length end.0 ≤ m = omega (arith, le, ap length whole, length-append by.0 (125 ∷ end.0)) in
    let r = below end.0 count (pass_digits by.0 end.0 rest by.3.2 passed.4) in (
      unicode by.0 ∷ r.0,
      (by.3, tt, r.1),
      unicode_written c word by.0 end.0 (written r.0) is whole r.2,
    )

escape_sign : (m : ℕ) (rest : List ℕ) → SignsBelow m rest → Stops rest → (word : List ℕ) → length word ≤ m
    → is_escape (word ++ rest) ≡ true → Passes true word rest → IsInside (92 ∷ word)
escape_sign m rest below st [] le is p = absurd cc
escape_sign m rest below st (c ∷ word) le is p =
    let short : length word ≤ m = omega (arith, le) in
    elim (is_some (simple_escape c)) as (λ t. is_some (simple_escape c) ≡ t → IsInside (92 ∷ c ∷ word)) [
      | true ↦ λ e.
          let r = below word short p in
          (escape c ∷ r.0, (e, tt, r.1), ap (λ xs. 92 ∷ c ∷ xs) r.2)
      | false ↦ λ e.
          let f = braced_escape c (word ++ rest) e is in
          unicode_sign m rest below st c word short f.0 f.1 p
    ] refl

plain_sign : (m : ℕ) (rest : List ℕ) → SignsBelow m rest → (b : ℕ) (word : List ℕ) → length word ≤ m → eqb b 92 ≡ false
    → b ≢ 39 → is_hole b (word ++ rest) ≡ false → is_break b ≡ false → Passes false word rest → IsInside (b ∷ word)
plain_sign m rest below b word le no_backslash no_quote no_hole no_end p =
    let r = below word le p in (
      itself b ∷ r.0,
      (
        (no_quote, differ b 92 no_backslash, no_lf b no_end, no_cr b no_end),
        subst (λ xs. is_hole b xs ≡ false) r.2 (hole_off b word rest no_hole),
        r.1,
      ),
      ap (λ xs. b ∷ xs) r.2,
    )

signs_below : (m : ℕ) (rest : List ℕ) → Stops rest → SignsBelow m rest
signs_below m rest st [] le p = ([], tt, refl)
signs_below zero rest st (b ∷ word) le p = absurd (omega (arith, le))
signs_below (suc m) rest st (b ∷ word) le p =
    let short : length word ≤ m = omega (arith, le) in
    elim (eqb b 92) as (λ t. eqb b 92 ≡ t → Passes t word rest → IsInside (b ∷ word)) [
      | true ↦ λ e q.
          let first : b ≡ 92 = eqb-true b 92 e in
          subst (λ x. IsInside (x ∷ word)) (sym first)
          (escape_sign m rest (signs_below m rest st) st word short (p.3 first) q)
      | false ↦ λ e q. plain_sign m rest (signs_below m rest st) b word short e p.0 p.1 p.2 q
    ] refl p.4

-- what is passed is written by signs
pub passes_inside : (word rest : List ℕ) → Stops rest → Passes false word rest → IsInside word
passes_inside word rest st p = signs_below (length word) rest st word (omega arith) p

pub break_stops : (c : ℕ) (rest : List ℕ) → is_break c ≡ true → Stops (c ∷ rest)
break_stops c rest h = elim (eqb c 10) as (λ t. eqb c 10 ≡ t → (t || eqb c 13) ≡ true → Stops (c ∷ rest)) [
  | true ↦ λ e i. subst (λ x. Stops (x ∷ rest)) (sym (eqb-true c 10 e)) (refl, refl, refl)
  | false ↦ λ e i. subst (λ x. Stops (x ∷ rest)) (sym (eqb-true c 13 i)) (refl, refl, refl)
] refl h
