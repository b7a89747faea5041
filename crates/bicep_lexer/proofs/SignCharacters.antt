-- Bytes that are written by signs are characters that are written by signs.
use Rattle.std.proofs.Common.{◌≡◌, ℕ, zero, suc, ◌<◌, ◌≤◌, true, false, ◌&&◌, eqb, nat_lt, List}
use Rattle.std.proofs.Common.{[], ◌∷◌, ◌++◌, length, get_or, is_some, refl, ap, sym, subst, ◌∙◌}
use Rattle.std.proofs.Common.{append_assoc, append-nil, length-append, arith}
use Rattle.std.specs.Str.{chars, IsUtf8}
use Rattle.std.proofs.lemmas.Bool.{eqb-true}
use Rattle.std.proofs.lemmas.Bool.Decides.{nat_tests}
use Rattle.std.proofs.lemmas.Str.{encode_ascii, cons_from_encodes, length-le-encodes, inside_one, encodes-chars}
use Rattle.bicep_lexer.specs.declared.kind.TokenKind.{TokenKind}
use Rattle.bicep_lexer.specs.declared.kind.TokenKind.TheVariants as k
use Rattle.bicep_lexer.specs.Bytes.{begins_with}
use Rattle.bicep_lexer.specs.Escapes.{hexadecimal, simple_escape}
use Rattle.bicep_lexer.specs.Signs.{Sign, itself, escape, unicode, AreHexadecimal, IsPlain, AreSigns, written, is_hole}
use Rattle.bicep_lexer.specs.Signs.{IsBetween, IsMeant}
use Rattle.bicep_lexer.specs.Values.{value_of}
use Rattle.bicep_lexer.proofs.Meaning.{between_meant}
use lib.Utf8.{encode, encodes}

-- bytes of ASCII, and bytes beyond
abbrev AreLow : List ℕ → Type 0
AreLow [] = Unit {0}
AreLow (b ∷ bs) = (b < 128) × AreLow bs

abbrev AreHigh : List ℕ → Type 0
AreHigh bs = (i : ℕ) → i < length bs → 128 ≤ get_or bs i 0

-- bytes of ASCII at the front are the first characters
low_front : (w cs rest : List ℕ) → AreLow w → encodes cs ≡ w ++ rest
    → (es : List ℕ) × (cs ≡ w ++ es) × (encodes es ≡ rest)
low_front [] cs rest low is = (cs, refl, is)
low_front (b ∷ w) cs rest low is =
    let first = cons_from_encodes cs (w ++ rest) b (is ∙ ap (λ xs. xs ++ (w ++ rest)) (sym (encode_ascii b low.0))) in
    let r = low_front w first.0 rest low.1 first.2 in
    (r.0, first.1 ∙ ap (λ xs. b ∷ xs) r.1, r.2)

hex_low : (d : ℕ) → is_some (hexadecimal d) ≡ true → d < 128
hex_low d h = elim (nat_lt d 128) as (λ t. nat_lt d 128 ≡ t → d < 128) [
  | true ↦ λ e. grind (arith, nat_tests)
  | false ↦ λ e. absurd (none d (grind (arith, nat_tests)) h)
] refl
  where
    none : (d : ℕ) → 128 ≤ d → is_some (hexadecimal d) ≡ true → ⊥
    none d large h = grind (arith, nat_tests)

digits_low : (ds tail : List ℕ) → AreHexadecimal ds → AreLow tail → AreLow (ds ++ tail)
digits_low [] tail h low = low
digits_low (d ∷ ds) tail h low = (hex_low d h.0, digits_low ds tail h.1 low)

simple_low : (c : ℕ) → is_some (simple_escape c) ≡ true → c < 128
simple_low c h = elim (nat_lt c 128) as (λ t. nat_lt c 128 ≡ t → c < 128) [
  | true ↦ λ e. grind (arith, nat_tests)
  | false ↦ λ e. absurd (none c (grind (arith, nat_tests)) h)
] refl
  where
    none : (c : ℕ) → 128 ≤ c → is_some (simple_escape c) ≡ true → ⊥
    none c large h = grind (arith, nat_tests)

-- the bytes of a character beyond ASCII
code_high : (c : ℕ) → 128 ≤ c → AreHigh (encode c)
code_high c large i lt = elim (nat_lt (get_or (encode c) i 0) 128) as (λ t. nat_lt (get_or (encode c) i 0) 128 ≡ t
    → 128 ≤ get_or (encode c) i 0) [
      | true ↦ λ e.
          let small : get_or (encode c ++ []) i 0 < 128 =
          subst (λ xs. get_or xs i 0 < 128) (sym (append-nil (encode c)))
          (grind (arith, nat_tests)) in
          let same = inside_one c [] (encode c ++ []) i refl lt small in
          absurd (omega (arith, large, same, small))
      | false ↦ λ e. grind (arith, nat_tests)
    ] refl

head_is : (b c : ℕ) (bs cs : List ℕ) → b ∷ bs ≡ c ∷ cs → b ≡ c
head_is b c bs cs h = cc

tail_same : (b c : ℕ) (bs cs : List ℕ) → b ∷ bs ≡ c ∷ cs → bs ≡ cs
tail_same b c bs cs h = cc

-- signs before a byte of ASCII, without the bytes beyond ASCII that they begin with
abbrev Left : List ℕ → List ℕ → Type 0
Left tail rest = (us : List Sign) × AreSigns us × (written us ++ tail ≡ rest)

without_high : (w : List ℕ) (ss : List Sign) (t : ℕ) (tail rest : List ℕ) → AreHigh w → t < 128 → AreSigns ss
    → written ss ++ t ∷ tail ≡ w ++ rest → Left (t ∷ tail) rest
without_high [] ss t tail rest high low a is = (ss, a, is)
without_high (b ∷ w) [] t tail rest high low a is =
    absurd (omega (arith, high 0 (omega arith), low, head_is t b tail (w ++ rest) is))
without_high (b ∷ w) (itself c ∷ ss) t tail rest high low a is =
    without_high w ss t tail rest (λ i lt. high (suc i) (omega (arith, lt))) low a.2
    (tail_same c b (written ss ++ t ∷ tail) (w ++ rest) is)
without_high (b ∷ w) (escape c ∷ ss) t tail rest high low a is =
    absurd (omega (arith, high 0 (omega arith), head_is 92 b (c ∷ (written ss ++ t ∷ tail)) (w ++ rest) is))
without_high (b ∷ w) (unicode ds ∷ ss) t tail rest high low a is =
    absurd (omega (
      arith,
      high 0 (omega arith),
      head_is 92 b
          (117 ∷ 123 ∷ ((ds ++ 125 ∷ written ss) ++ t ∷ tail)) (w ++ rest) is,
    ))

-- characters that are written by signs, before these characters
abbrev Written : List ℕ → List ℕ → Type 0
Written tail cs = (ts : List Sign) × (fs : List ℕ) × AreSigns ts × (cs ≡ written ts ++ fs) × (encodes fs ≡ tail)

begins_same : (es : List ℕ) (c : ℕ) → c < 128 → begins_with c (encodes es) ≡ false → begins_with c es ≡ false
begins_same [] c low h = refl
begins_same (d ∷ es) c low h = elim (eqb d c) as (λ t. eqb d c ≡ t → t ≡ false) [
  | true ↦ λ e.
      let same : d ≡ c = eqb-true d c e in
      let code : encodes (d ∷ es) ≡ d ∷ encodes es = ap (λ xs. xs ++ encodes es)
      (encode_ascii d (subst (λ x. x < 128) (sym same) low)) in
      sym e ∙ subst (λ xs. begins_with c xs ≡ false) code h
  | false ↦ λ e. refl
] refl

hole_same : (b : ℕ) (es bs : List ℕ) → encodes es ≡ bs → is_hole b bs ≡ false → is_hole b es ≡ false
hole_same b es bs is h = elim (eqb b 36) as (λ t. (t && begins_with 123 bs) ≡ false
    → (t && begins_with 123 es) ≡ false) [
      | true ↦ λ e. begins_same es 123 (omega arith) (subst (λ xs. begins_with 123 xs ≡ false) (sym is) e)
      | false ↦ λ e. refl
    ] h

-- `${` before a tail is `${` before the byte that the tail begins with, which is no `{`
hole_before : (b : ℕ) (ss : List Sign) (t : ℕ) (tail : List ℕ) → eqb t 123 ≡ false → is_hole b (written ss) ≡ false
    → is_hole b (written ss ++ t ∷ tail) ≡ false
hole_before b [] t tail other h = ap (λ x. eqb b 36 && x) other ∙ h
hole_before b (itself c ∷ ss) t tail other h = h
hole_before b (escape c ∷ ss) t tail other h = h
hole_before b (unicode ds ∷ ss) t tail other h = h

hole_off : (b : ℕ) (ts : List Sign) (fs : List ℕ) → is_hole b (written ts ++ fs) ≡ false
    → is_hole b (written ts) ≡ false
hole_off b [] fs h = elim (eqb b 36) as (λ t. (t && false) ≡ false) [ true ↦ refl | false ↦ refl ]
hole_off b (itself c ∷ ts) fs h = h
hole_off b (escape c ∷ ts) fs h = h
hole_off b (unicode ds ∷ ts) fs h = h

-- the same for all lists of characters that are shorter
abbrev GroupsBelow : ℕ → ℕ → List ℕ → Type 0
GroupsBelow m t tail = (cs : List ℕ) (ss : List Sign) → length cs ≤ m → AreSigns ss
    → encodes cs ≡ written ss ++ t ∷ tail → Written (t ∷ tail) cs

hole_kept : (b : ℕ) (es bs : List ℕ) (ts : List Sign) (fs : List ℕ) → encodes es ≡ bs → es ≡ written ts ++ fs
    → is_hole b bs ≡ false → is_hole b (written ts) ≡ false
hole_kept b es bs ts fs code is h =
    hole_off b ts fs (subst (λ xs. is_hole b xs ≡ false) is (hole_same b es bs code h))

cons_same : (c : ℕ) (xs ys : List ℕ) → xs ≡ ys → c ∷ xs ≡ c ∷ ys
cons_same c xs ys h = ap (λ zs. c ∷ zs) h

joined : (w cs es fs : List ℕ) → cs ≡ w ++ es → es ≡ fs → cs ≡ w ++ fs
joined w cs es fs first rest = first ∙ ap (λ xs. w ++ xs) rest

unicode_joined : (ds es ws fs cs : List ℕ) → cs ≡ (92 ∷ 117 ∷ 123 ∷ (ds ++ 125 ∷ [])) ++ es → es ≡ ws ++ fs
    → cs ≡ (92 ∷ 117 ∷ 123 ∷ (ds ++ 125 ∷ ws)) ++ fs
unicode_joined ds es ws fs cs first rest =
    let inner : (ds ++ 125 ∷ []) ++ es ≡ (ds ++ 125 ∷ ws) ++ fs = append_assoc ds (125 ∷ []) es
    ∙ ap (λ xs. ds ++ 125 ∷ xs) rest ∙ sym (append_assoc ds (125 ∷ ws) fs) in
    first ∙ ap (λ xs. 92 ∷ 117 ∷ 123 ∷ xs) inner

plain_group : (m t : ℕ) (tail : List ℕ) → t < 128 → eqb t 123 ≡ false → GroupsBelow m t tail → (c b : ℕ) (cs : List ℕ)
    (ss : List Sign) → length cs ≤ m → IsPlain b → is_hole b (written ss) ≡ false → AreSigns ss
    → encodes (c ∷ cs) ≡ b ∷ (written ss ++ t ∷ tail) → Written (t ∷ tail) (c ∷ cs)
plain_group m t tail low other below c b cs ss le plain no_hole a is =
    elim (nat_lt b 128) as (λ x. nat_lt b 128 ≡ x → Written (t ∷ tail) (c ∷ cs)) [
      | true ↦ λ e.
          let small : b < 128 = grind (arith, nat_tests) in
          let first = low_front (b ∷ []) (c ∷ cs) (written ss ++ t ∷ tail) (small, tt) is in
          let tails : cs ≡ first.0 = tail_same c b cs first.0 first.1 in
          let r = below first.0 ss (subst (λ xs. length xs ≤ m) tails le) a first.2 in
          let kept : is_hole b (written r.0) ≡ false =
          hole_kept b first.0 (written ss ++ t ∷ tail) r.0 r.1 first.2 r.3 (hole_before b ss t tail other no_hole) in (
            itself b ∷ r.0,
            r.1,
            (plain, kept, r.2),
            joined (b ∷ []) (c ∷ cs) first.0 (written r.0 ++ r.1) first.1 r.3,
            r.4,
          )
      | false ↦ λ e.
          let large : 128 ≤ b = grind (arith, nat_tests) in
          let high : 128 ≤ c = beyond c b cs (written ss ++ t ∷ tail) large is in
          let l = without_high (encode c) (itself b ∷ ss) t tail (encodes cs) (code_high c high) low
          (plain, no_hole, a) (sym is) in
          let r = below cs l.0 le l.1 (sym l.2) in (
            itself c ∷ r.0,
            r.1,
            (
              (
                (λ e. omega (arith, high, e)),
                (λ e. omega (arith, high, e)),
                (λ e. omega (arith, high, e)),
                (λ e. omega (arith, high, e)),
              ),
              no_dollar c (written r.0) high,
              r.2,
            ),
            cons_same c cs (written r.0 ++ r.1) r.3,
            r.4,
          )
    ] refl
  where
    beyond : (c b : ℕ) (cs rest : List ℕ) → 128 ≤ b → encodes (c ∷ cs) ≡ b ∷ rest → 128 ≤ c
    beyond c b cs rest large is = elim (nat_lt c 128) as (λ x. nat_lt c 128 ≡ x → 128 ≤ c) [
      | true ↦ λ e.
          let small : c < 128 = grind (arith, nat_tests) in
          let same : c ≡ b = head_is c b (encodes cs) rest
          (ap (λ xs. xs ++ encodes cs) (sym (encode_ascii c small)) ∙ is) in
          absurd (omega (arith, small, large, same))
      | false ↦ λ e. grind (arith, nat_tests)
    ] refl

    no_dollar : (c : ℕ) (xs : List ℕ) → 128 ≤ c → is_hole c xs ≡ false
    no_dollar c xs high =
        let other : eqb c 36 ≡ false = grind (arith, nat_tests) in ap (λ x. x && begins_with 123 xs) other

groups : (m t : ℕ) (tail : List ℕ) → t < 128 → eqb t 123 ≡ false → GroupsBelow m t tail
groups m t tail low other cs [] le a is = ([], cs, tt, refl, is)
groups m t tail low other [] (itself b ∷ ss) le a is = absurd cc
groups m t tail low other [] (escape b ∷ ss) le a is = absurd cc
groups m t tail low other [] (unicode ds ∷ ss) le a is = absurd cc
groups zero t tail low other (c ∷ cs) (s ∷ ss) le a is = absurd (omega (arith, le))
groups (suc m) t tail low other (c ∷ cs) (itself b ∷ ss) le a is =
    plain_group m t tail low other (groups m t tail low other) c b cs ss (omega (arith, le)) a.0 a.1 a.2 is
groups (suc m) t tail low other (c ∷ cs) (escape b ∷ ss) le a is =
    let first = low_front (92 ∷ b ∷ []) (c ∷ cs) (written ss ++ t ∷ tail) (omega arith, (simple_low b a.0, tt)) is in
    let r = groups m t tail low other first.0 ss (omega (arith, le, ap length first.1)) a.2 first.2 in (
      escape b ∷ r.0,
      r.1,
      (a.0, tt, r.2),
      joined (92 ∷ b ∷ []) (c ∷ cs) first.0 (written r.0 ++ r.1) first.1 r.3,
      r.4,
    )
groups (suc m) t tail low other (c ∷ cs) (unicode ds ∷ ss) le a is =
    let word = 92 ∷ 117 ∷ 123 ∷ (ds ++ 125 ∷ []) in
    let rest = written ss ++ t ∷ tail in
    let low_word : AreLow word =
    (omega arith, (omega arith, (omega arith, digits_low ds (125 ∷ []) a.0.2 (omega arith, tt)))) in
    let seam : 92 ∷ 117 ∷ 123 ∷ ((ds ++ 125 ∷ written ss) ++ t ∷ tail) ≡ word ++ rest =
    ap (λ xs. 92 ∷ 117 ∷ 123 ∷ xs)
    (append_assoc ds (125 ∷ written ss) (t ∷ tail) ∙ sym (append_assoc ds (125 ∷ []) rest)) in
    let first = low_front word (c ∷ cs) rest low_word (is ∙ seam) in
    let r = groups m t tail low other first.0 ss
    (omega (arith, le, ap length first.1, length-append (ds ++ 125 ∷ []) first.0)) a.2 first.2 in (
      unicode ds ∷ r.0,
      r.1,
      (a.0, tt, r.2),
      unicode_joined ds first.0 (written r.0) r.1 (c ∷ cs) first.1 r.3,
      r.4,
    )

-- a piece with a first byte and ends of ASCII
piece_groups : (first t : ℕ) (tail bytes : List ℕ) (ss : List Sign) → first < 128 → AreLow (t ∷ tail)
    → eqb t 123 ≡ false
    → IsUtf8 bytes → AreSigns ss → bytes ≡ first ∷ (written ss ++ t ∷ tail)
    → (ts : List Sign) × AreSigns ts × (chars bytes ≡ first ∷ (written ts ++ t ∷ tail))
piece_groups first t tail bytes ss low ends other u a is =
    let whole = low_front (first ∷ []) (chars bytes) (written ss ++ t ∷ tail) (low, tt) (encodes-chars bytes u ∙ is) in
    let r = groups (length whole.0) t tail ends.0 other whole.0 ss (omega arith) a whole.2 in
    let end = low_front (t ∷ tail) r.1 [] ends (r.4 ∙ sym (append-nil (t ∷ tail))) in
    let none : end.0 ≡ [] = empty end.0 (omega (arith, length-le-encodes end.0, ap length end.2)) in
    let left : r.1 ≡ t ∷ tail = end.1 ∙ ap (λ xs. t ∷ (tail ++ xs)) none ∙ append-nil (t ∷ tail) in
    (r.0, r.2, whole.1 ∙ ap (λ xs. first ∷ xs) (r.3 ∙ ap (λ xs. written r.0 ++ xs) left))
  where
    empty : (xs : List ℕ) → length xs ≤ 0 → xs ≡ []
    empty [] h = refl
    empty (x ∷ xs) h = absurd (omega (arith, h))

between_groups : (kind : TokenKind) (bytes : List ℕ) (ss : List Sign) → IsUtf8 bytes → AreSigns ss
    → IsBetween kind bytes (written ss) → (ts : List Sign) × AreSigns ts × IsBetween kind (chars bytes) (written ts)
between_groups k.Text bytes ss u a is =
    piece_groups 39 39 [] bytes ss (omega arith) (omega arith, tt) refl u a is
between_groups k.LeftPiece bytes ss u a is =
    piece_groups 39 36 (123 ∷ []) bytes ss (omega arith) (omega arith, (omega arith, tt)) refl u a is
between_groups k.MiddlePiece bytes ss u a is =
    piece_groups 125 36 (123 ∷ []) bytes ss (omega arith) (omega arith, (omega arith, tt)) refl u a is
between_groups k.RightPiece bytes ss u a is =
    piece_groups 125 39 [] bytes ss (omega arith) (omega arith, tt) refl u a is
between_groups kind bytes ss u a is = absurd is

-- what a token of signs means, by signs of its characters
pub signed_meant : (kind : TokenKind) (bytes : List ℕ) (ss : List Sign) → IsUtf8 bytes → AreSigns ss
    → IsBetween kind bytes (written ss) → IsMeant kind (chars bytes) (value_of kind (chars bytes))
signed_meant kind bytes ss u a is =
    let g = between_groups kind bytes ss u a is in
    (g.0, g.1, g.2, between_meant kind (chars bytes) g.0 g.1 g.2)
