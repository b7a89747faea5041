-- Format texts, character by character.
use Rattle.std.proofs.Common.{◌≡◌, ◌<◌, ◌≤◌, ◌+◌, ◌*◌, ◌-◌, ℕ, zero, suc, Bool, true, false, eqb, nat_lt, ◌==◌, List}
use Rattle.std.proofs.Common.{[], ◌∷◌, ◌++◌, length, get_or, take, drop, map, slice_get, Option, Some, None}
use Rattle.std.proofs.Common.{option_map, option_and_then, refl, ap, sym, ◌∙◌, append_assoc, append-nil, arith}
use Rattle.std.proofs.Common.{add-one, length-drop}
use Rattle.std.specs.Prelude.{if◌then◌else◌}
use Rattle.std.proofs.Math.Seq.{drop-cons}
use Rattle.std.proofs.lemmas.List.{drop_all}
use Rattle.std.proofs.lemmas.Bool.Decides.{nat_tests}
use Rattle.function_texts.specs.Numbers.{with_digit, read_on, numeral, is_digit}
use Rattle.std.proofs.lemmas.Option.{slice_get_past, slice_get_read, slice_get-map}
use Rattle.std.proofs.lemmas.List.{length-map, take_all}
use Rattle.function_texts.proofs.Lists.{next_item}
use Rattle.arm_value.specs.Json.{Json}
use Rattle.arm_value.specs.View.{json}
use Rattle.arm_value.specs.declared.value.Value.{Value}
use Rattle.function_prints.specs.Printed.{printed}
use Rattle.function_prints.specs.Format.{Field, before_closing, argument, argument_field, is_brace, field}
use Rattle.function_prints.specs.Format.{filled_rest, filled}
use Rattle.function_prints.specs.Filling.{below, number_before_closing, put_after, ending, filled_after, filled_on}

-- ---- the number of a field

pub closing-nil : before_closing [] ≡ None
unfolding before_closing
closing-nil = refl

pub closing-here : (cs : List ℕ) → before_closing (125 ∷ cs) ≡ Some []
unfolding before_closing
closing-here cs = refl

pub closing-more : (c : ℕ) (cs : List ℕ) → eqb c 125 ≡ false
    → before_closing (c ∷ cs) ≡ option_map (λ s. c ∷ s) (before_closing cs)
unfolding before_closing
closing-more c cs e = rw e refl

read-nil : (n : ℕ) → read_on n [] ≡ Some n
unfolding read_on
read-nil n = refl

pub read-more : (n c : ℕ) (cs : List ℕ) → read_on n (c ∷ cs) ≡ option_and_then (λ m. read_on m cs) (with_digit n c)
unfolding read_on
read-more n c cs = refl

with_digit-grows : (n c m : ℕ) → with_digit n c ≡ Some m → n ≤ m
with_digit-grows n c m e = by_test (is_digit c) e
  where
    by_test : (b : Bool) → ◌≡◌ {A = Option ℕ} (if b then Some (n * 10 + (c - 48)) else None) (Some m) → n ≤ m
    by_test true e = let is : n * 10 + (c - 48) ≡ m = cc in omega arith
    by_test false e = absurd (cc)

read-grows : (n m : ℕ) (cs : List ℕ) → read_on n cs ≡ Some m → n ≤ m
read-grows n m [] e = let is : n ≡ m = cc (read-nil n) in omega arith
read-grows n m (c ∷ cs) e = by_digit (with_digit n c) refl (λ k. read-grows k m cs) (sym (read-more n c cs) ∙ e)
  where
    by_digit : (o : Option ℕ) → with_digit n c ≡ o → ((k : ℕ) → read_on k cs ≡ Some m → k ≤ m)
        → option_and_then (λ k. read_on k cs) o ≡ Some m → n ≤ m
    by_digit None d h f = absurd (cc)
    by_digit (Some k) d h f = omega (arith, with_digit-grows n c k d, h k f)

below-none : (bound m : ℕ) → bound ≤ m → below bound m ≡ None
below-none bound m h = let no : nat_lt m bound ≡ false = grind (arith, nat_tests) in rw no refl

below-some : (bound m : ℕ) → m < bound → below bound m ≡ Some m
below-some bound m h = let yes : nat_lt m bound ≡ true = grind (arith, nat_tests) in rw yes refl

-- from the bound on there is no number below it
too_great : (bound n : ℕ) (cs : List ℕ) → bound ≤ n → option_and_then (below bound) (read_on n cs) ≡ None
too_great bound n cs h = by_number (read_on n cs) refl
  where
    by_number : (o : Option ℕ) → read_on n cs ≡ o → option_and_then (below bound) o ≡ None
    by_number None e = refl
    by_number (Some m) e = below-none bound m (omega (arith, read-grows n m cs e))

-- what the digits after a number that is read so far give
abbrev number_of : ℕ → ℕ → ℕ → List ℕ → Option (ℕ × ℕ)
number_of bound i n digits = if i + length digits == 0 then None
    else option_map (λ m. (m, i + length digits)) (option_and_then (below bound) (read_on n digits))

abbrev pub numbered_from : ℕ → ℕ → ℕ → List ℕ → Option (ℕ × ℕ)
numbered_from bound i n cs = option_and_then (number_of bound i n) (before_closing cs)

number_of-all : (bound k : ℕ) (digits : List ℕ) → k ≡ length digits
    → (if k == 0 then None else option_map (λ m. (m, k)) (option_and_then (below bound) (read_on 0 digits)))
    ≡ option_map {U = ℕ × ℕ} (λ n. (n, length digits)) (option_and_then (below bound) (numeral digits))
number_of-all bound k digits e = rw e (by_length (length digits == 0))
  where
    by_length : (b : Bool)
        → (if b then None
        else option_map (λ m. (m, length digits)) (option_and_then (below bound) (read_on 0 digits)))
        ≡ option_map {U = ℕ × ℕ} (λ n. (n, length digits))
        (option_and_then (below bound) (if b then None else read_on 0 digits))
    by_length true = refl
    by_length false = refl

pub numbered-all : (bound : ℕ) (cs : List ℕ) → numbered_from bound 0 0 cs ≡ number_before_closing bound cs
numbered-all bound cs = by_digits (before_closing cs)
  where
    by_digits : (o : Option (List ℕ))
        → option_and_then (number_of bound 0 0) o ≡ option_and_then
        (λ digits. option_map {U = ℕ × ℕ} (λ n. (n, length digits)) (option_and_then (below bound) (numeral digits)))
        o
    by_digits None = refl
    by_digits (Some digits) = number_of-all bound (0 + length digits) digits (omega arith)

pub number_closes : (bound i n c : ℕ) (cs : List ℕ) (all : Option (ℕ × ℕ)) → i < length cs → c ≡ get_or cs i c
    → c ≡ 125 → 0 < i → n < bound
    → numbered_from bound i n (drop i cs) ≡ all → Some (n, i) ≡ all
number_closes bound i n c cs all h e is p w before =
    let left : drop i cs ≡ 125 ∷ drop (i + 1) cs = next_item cs i c h e ∙ ap (λ x. x ∷ drop (i + 1) cs) is in
    let some : (i + 0 == 0) ≡ false = grind (arith, nat_tests) in
    let same : i + 0 ≡ i = omega arith in
    sym (rw (left, closing-here, some, read-nil, below-some bound n w, same) refl) ∙ before

pub number_is_empty : (bound i n c : ℕ) (cs : List ℕ) (all : Option (ℕ × ℕ)) → i < length cs → c ≡ get_or cs i c
    → c ≡ 125 → i ≤ 0
    → numbered_from bound i n (drop i cs) ≡ all → None ≡ all
number_is_empty bound i n c cs all h e is p before =
    let left : drop i cs ≡ 125 ∷ drop (i + 1) cs = next_item cs i c h e ∙ ap (λ x. x ∷ drop (i + 1) cs) is in
    let none : (i + 0 == 0) ≡ true = grind (arith, nat_tests) in
    sym (rw (left, closing-here, none) refl) ∙ before

step_by : (bound i n c : ℕ) (o : Option (List ℕ)) (w : Option ℕ) → with_digit n c ≡ w
    → option_and_then (number_of bound i n) (option_map (λ s. c ∷ s) o) ≡ option_and_then
    (λ k. option_and_then (number_of bound (i + 1) k) o) w
step_by bound i n c None None e = refl
step_by bound i n c None (Some k) e = refl
step_by bound i n c (Some ds) None e =
    let some : (i + length (c ∷ ds) == 0) ≡ false = grind (arith, nat_tests) in
    rw (some, read-more, e) refl
step_by bound i n c (Some ds) (Some k) e =
    let some : (i + length (c ∷ ds) == 0) ≡ false = grind (arith, nat_tests) in
    let more : (i + 1 + length ds == 0) ≡ false = grind (arith, nat_tests) in
    let same : i + length (c ∷ ds) ≡ i + 1 + length ds = omega arith in
    rw (some, read-more, e, more, same) refl

-- the number with the next character
number_step : (bound i n c : ℕ) (cs : List ℕ) → eqb c 125 ≡ false
    → numbered_from bound i n (c ∷ cs) ≡ option_and_then (λ k. numbered_from bound (i + 1) k cs) (with_digit n c)
number_step bound i n c cs e = ap (option_and_then (number_of bound i n)) (closing-more c cs e)
    ∙ step_by bound i n c (before_closing cs) (with_digit n c) refl

goes_on_by : (bound i m : ℕ) (cs : List ℕ) (w : Option ℕ) → Some m ≡ option_and_then (below bound) w
    → option_and_then (λ k. numbered_from bound i k cs) w ≡ numbered_from bound i m cs
goes_on_by bound i m cs None e = absurd (cc)
goes_on_by bound i m cs (Some k) e = by_test (nat_lt k bound) e
  where
    by_test : (b : Bool) → ◌≡◌ {A = Option ℕ} (Some m) (if b then Some k else None)
        → numbered_from bound i k cs ≡ numbered_from bound i m cs
    by_test true f = let is : k ≡ m = cc in ap (λ x. numbered_from bound i x cs) is
    by_test false f = absurd (cc)

none_from : (bound i k : ℕ) (cs : List ℕ) → bound ≤ k → numbered_from bound i k cs ≡ None
none_from bound i k cs h = by_digits (before_closing cs)
  where
    by_digits : (o : Option (List ℕ)) → option_and_then (number_of bound i k) o ≡ None
    by_digits None = refl
    by_digits (Some ds) =
        ap (λ r. if i + length ds == 0 then None else option_map {U = ℕ × ℕ} (λ m. (m, i + length ds)) r)
        (too_great bound k ds h) ∙ by_length (i + length ds == 0)
      where
        by_length : (b : Bool) → ◌≡◌ {A = Option (ℕ × ℕ)} (if b then None else None) None
        by_length true = refl
        by_length false = refl

stops_by : (bound i : ℕ) (cs : List ℕ) (w : Option ℕ) → ◌≡◌ {A = Option ℕ} None (option_and_then (below bound) w)
    → option_and_then (λ k. numbered_from bound i k cs) w ≡ None
stops_by bound i cs None e = refl
stops_by bound i cs (Some k) e = by_test (nat_lt k bound) refl e
  where
    by_test : (b : Bool) → nat_lt k bound ≡ b → ◌≡◌ {A = Option ℕ} None (if b then Some k else None)
        → numbered_from bound i k cs ≡ None
    by_test true t f = absurd (cc)
    by_test false t f = none_from bound i k cs (grind (arith, nat_tests))

is_other : (c : ℕ) → (c ≡ 125 → ⊥) → eqb c 125 ≡ false
is_other c n = grind (arith, nat_tests)

pub number_goes_on : (bound i n m c : ℕ) (cs : List ℕ) (all : Option (ℕ × ℕ)) → i < length cs → c ≡ get_or cs i c
    → (c ≡ 125 → ⊥) → Some m ≡ option_and_then (below bound) (with_digit n c)
    → numbered_from bound i n (drop i cs) ≡ all → numbered_from bound (i + 1) m (drop (i + 1) cs) ≡ all
number_goes_on bound i n m c cs all h e is d before =
    let rest = drop (i + 1) cs in
    sym (ap (numbered_from bound i n) (next_item cs i c h e) ∙ number_step bound i n c rest (is_other c is)
    ∙ goes_on_by bound (i + 1) m rest (with_digit n c) d) ∙ before

pub number_stops : (bound i n c : ℕ) (cs : List ℕ) (all : Option (ℕ × ℕ)) → i < length cs → c ≡ get_or cs i c
    → (c ≡ 125 → ⊥) → ◌≡◌ {A = Option ℕ} None (option_and_then (below bound) (with_digit n c))
    → numbered_from bound i n (drop i cs) ≡ all → ◌≡◌ {A = Option (ℕ × ℕ)} None all
number_stops bound i n c cs all h e is d before =
    let rest = drop (i + 1) cs in
    sym (ap (numbered_from bound i n) (next_item cs i c h e) ∙ number_step bound i n c rest (is_other c is)
    ∙ stops_by bound (i + 1) rest (with_digit n c) d) ∙ before

pub number_ends : (bound i n : ℕ) (cs : List ℕ) (all : Option (ℕ × ℕ)) → length cs ≤ i
    → numbered_from bound i n (drop i cs) ≡ all → ◌≡◌ {A = Option (ℕ × ℕ)} None all
number_ends bound i n cs all h before =
    let left : drop i cs ≡ [] = drop_all i cs h in
    sym (rw (left, closing-nil) refl) ∙ before

pub is_below : (bound m : ℕ) (o : Option ℕ) → Some m ≡ option_and_then (below bound) o → m < bound
is_below bound m None e = absurd (cc)
is_below bound m (Some n) e = by_test (nat_lt n bound) refl e
  where
    by_test : (b : Bool) → nat_lt n bound ≡ b → ◌≡◌ {A = Option ℕ} (Some m) (if b then Some n else None) → m < bound
    by_test true t f = let is : m ≡ n = cc in grind (arith, nat_tests)
    by_test false t f = absurd (cc)

-- ---- the argument of a field

-- the argument at a number below their count, as a tree
argument_at : (vs : List Value) (n : ℕ) (v : Value) → n < length vs → v ≡ get_or vs n v
    → slice_get (map json vs) n ≡ Some (json v)
argument_at vs n v h e = slice_get-map json vs n ∙ ap (option_map json) (slice_get_read vs (length vs) n v refl h e)

field_by : (js : List Json) (digits : List ℕ) (n k : ℕ) (w : Option ℕ)
    → Some (n, k) ≡ option_map {U = ℕ × ℕ} (λ m. (m, length digits)) (option_and_then (below (length js)) w)
    → option_map {U = Field} (λ j. (printed j, suc (length digits))) (option_and_then (slice_get js) w)
    ≡ option_map {U = Field} (λ j. (printed j, k + 1)) (slice_get js n)
field_by js digits n k None e = absurd (cc)
field_by js digits n k (Some m) e = by_test (nat_lt m (length js)) e
  where
    by_test : (b : Bool) → Some (n, k) ≡ option_map {U = ℕ × ℕ} (λ m. (m, length digits)) (if b then Some m else None)
        → option_map {U = Field} (λ j. (printed j, suc (length digits))) (slice_get js m) ≡ option_map {U = Field}
        (λ j. (printed j, k + 1)) (slice_get js n)
    by_test true f =
        let same : (n, k) ≡ (m, length digits) = cc in
        let number : m ≡ n = ap (λ (p : ℕ × ℕ). p.0) (sym same) in
        let count : suc (length digits) ≡ k + 1 = omega (arith, ap (λ (p : ℕ × ℕ). p.1) same) in
        rw (number, count) refl
    by_test false f = absurd (cc)

field_is : (js : List Json) (cs : List ℕ) (n k : ℕ) (o : Option (List ℕ))
    → Some (n, k) ≡ option_and_then
    (λ digits. option_map {U = ℕ × ℕ} (λ m. (m, length digits))
    (option_and_then (below (length js)) (numeral digits))) o
    → option_and_then (λ digits. option_map {U = Field} (λ j. (printed j, suc (length digits))) (argument js digits))
    o ≡ option_map {U = Field} (λ j. (printed j, k + 1)) (slice_get js n)
field_is js cs n k None e = absurd (cc)
field_is js cs n k (Some digits) e = field_by js digits n k (numeral digits) e

pub puts_argument : (vs : List Value) (cs old new s : List ℕ) (n k : ℕ) (v : Value)
    → Some (n, k) ≡ number_before_closing (length vs) cs → n < length vs → v ≡ get_or vs n v → s ≡ printed (json v)
    → new ≡ old ++ s
    → ending new (Some (k + 1)) ≡ put_after old (argument_field (map json vs) cs)
puts_argument vs cs old new s n k v e h at is grown =
    let count : length (map json vs) ≡ length vs = length-map vs json in
    let read : Some (n, k) ≡ number_before_closing (length (map json vs)) cs = rw count e in
    let here : argument_field (map json vs) cs ≡ option_map {U = Field} (λ j. (printed j, k + 1))
    (slice_get (map json vs) n) = field_is (map json vs) cs n k (before_closing cs) read in
    rw (here, argument_at vs n v h at, grown, is) refl

none_by : (js : List Json) (digits : List ℕ) (w : Option ℕ)
    → ◌≡◌ {A = Option (ℕ × ℕ)} None (option_map (λ m. (m, length digits)) (option_and_then (below (length js)) w))
    → option_map {U = Field} (λ j. (printed j, suc (length digits))) (option_and_then (slice_get js) w) ≡ None
none_by js digits None e = refl
none_by js digits (Some m) e = by_test (nat_lt m (length js)) refl e
  where
    by_test : (b : Bool) → nat_lt m (length js) ≡ b
        → ◌≡◌ {A = Option (ℕ × ℕ)} None (option_map (λ m. (m, length digits)) (if b then Some m else None))
        → option_map {U = Field} (λ j. (printed j, suc (length digits))) (slice_get js m) ≡ None
    by_test true t f = absurd (cc)
    by_test false t f = let past : slice_get js m ≡ None = slice_get_past js m (grind (arith, nat_tests)) in
        rw past refl

none_is : (js : List Json) (o : Option (List ℕ))
    → ◌≡◌ {A = Option (ℕ × ℕ)} None
    (option_and_then
    (λ digits. option_map (λ m. (m, length digits)) (option_and_then (below (length js)) (numeral digits))) o)
    → option_and_then (λ digits. option_map {U = Field} (λ j. (printed j, suc (length digits))) (argument js digits))
    o ≡ None
none_is js None e = refl
none_is js (Some digits) e = none_by js digits (numeral digits) e

pub no_argument : (vs : List Value) (cs old new : List ℕ)
    → ◌≡◌ {A = Option (ℕ × ℕ)} None (number_before_closing (length vs) cs)
    → ending new None ≡ put_after old (argument_field (map json vs) cs)
no_argument vs cs old new e =
    let count : length (map json vs) ≡ length vs = length-map vs json in
    let read : ◌≡◌ {A = Option (ℕ × ℕ)} None (number_before_closing (length (map json vs)) cs) = rw count e in
    let here : argument_field (map json vs) cs ≡ None = none_is (map json vs) (before_closing cs) read in
    rw here refl

-- ---- the text with its fields filled

pub filled-nil : (js : List Json) (n : ℕ) → filled_rest js n [] ≡ Some []
unfolding filled_rest
filled-nil js n = refl

pub filled-taken : (js : List Json) (n c : ℕ) (cs : List ℕ) → filled_rest js (suc n) (c ∷ cs) ≡ filled_rest js n cs
unfolding filled_rest
filled-taken js n c cs = refl

pub filled-here : (js : List Json) (c : ℕ) (cs : List ℕ)
    → filled_rest js 0 (c ∷ cs)
    ≡ (if is_brace c then option_and_then (λ f. option_map (λ rest. f.0 ++ rest) (filled_rest js f.1 cs))
    (field js c cs) else option_map (λ rest. c ∷ rest) (filled_rest js 0 cs))
unfolding filled_rest
filled-here js c cs = refl

pub fill_takes : (js : List Json) (out rest : List ℕ) (k : ℕ) → 0 < length rest → 0 < k
    → filled_after out js (k - 1) (drop 1 rest) ≡ filled_after out js k rest
fill_takes js out [] k h p = absurd (omega arith)
fill_takes js out (c ∷ cs) zero h p = absurd (omega arith)
fill_takes js out (c ∷ cs) (suc k) h p =
    let n : suc k - 1 ≡ k = omega arith in
    ap (λ m. filled_after out js m cs) n ∙ ap (option_map (λ s. out ++ s)) (sym (filled-taken js k c cs))

-- one text after another, before what is filled after both
two_fronts : (front s : List ℕ) (o : Option (List ℕ))
    → option_map (λ rest. (front ++ s) ++ rest) o ≡ option_map (λ rest. front ++ rest)
    (option_map (λ rest. s ++ rest) o)
two_fronts front s None = refl
two_fronts front s (Some rest) = ap Some (append_assoc front s rest)

character_front : (front : List ℕ) (c : ℕ) (o : Option (List ℕ))
    → option_map (λ rest. (front ++ c ∷ []) ++ rest) o ≡ option_map (λ rest. front ++ rest)
    (option_map (λ rest. c ∷ rest) o)
character_front front c None = refl
character_front front c (Some rest) = ap Some (append_assoc front (c ∷ []) rest)

pub fill_keeps : (js : List Json) (out more rest : List ℕ) (c k : ℕ) → 0 < length rest → k ≤ 0 → c ≡ get_or rest 0 c
    → false ≡ is_brace c → more ≡ out ++ c ∷ []
    → filled_after more js 0 (drop 1 rest) ≡ filled_after out js k rest
fill_keeps js out more [] c k h z e is grown = absurd (omega arith)
fill_keeps js out more (d ∷ cs) c k h z e is grown =
    let none_taken : k ≡ 0 = omega arith in
    rw (grown, none_taken, ← e) (character_front out c (filled_rest js 0 cs)
    ∙ ap (option_map (λ s. out ++ s)) (sym (filled-here js c cs ∙ rw (sym is) refl)))

by_field : (js : List Json) (out more cs : List ℕ) (next : Option ℕ) (o : Option Field)
    → ending more next ≡ put_after out o
    → option_and_then (λ n. filled_after more js n cs) next ≡ option_map (λ s. out ++ s)
    (option_and_then (λ f. option_map (λ rest. f.0 ++ rest) (filled_rest js f.1 cs)) o)
by_field js out more cs None None e = refl
by_field js out more cs (Some n) None e = absurd (cc)
by_field js out more cs None (Some f) e = absurd (cc)
by_field js out more cs (Some n) (Some f) e =
    let same : (more, n) ≡ (out ++ f.0, f.1) = cc in
    let grown : more ≡ out ++ f.0 = ap (λ (p : Field). p.0) same in
    let count : n ≡ f.1 = ap (λ (p : Field). p.1) same in
    rw (grown, count) (two_fronts out f.0 (filled_rest js f.1 cs))

pub fill_puts : (js : List Json) (out more rest following : List ℕ) (c k : ℕ) (next : Option ℕ) → 0 < length rest
    → k ≤ 0 → c ≡ get_or rest 0 c → true ≡ is_brace c → following ≡ drop 1 rest
    → ending more next ≡ put_after out (field js c following)
    → option_and_then (λ n. filled_after more js n (drop 1 rest)) next ≡ filled_after out js k rest
fill_puts js out more [] following c k next h z e is r f = absurd (omega arith)
fill_puts js out more (d ∷ cs) following c k next h z e is r f =
    let none_taken : k ≡ 0 = omega arith in
    let read : ending more next ≡ put_after out (field js c cs) = rw r at f in
    rw (none_taken, ← e) (by_field js out more cs next (field js c cs) read
    ∙ ap (option_map (λ s. out ++ s)) (sym (filled-here js c cs ∙ rw (sym is) refl)))

-- the rest from a place on, as a slice
pub whole_rest : (cs : List ℕ) (i : ℕ) → take (length cs - i) (drop i cs) ≡ drop i cs
whole_rest cs i = take_all (length cs - i) (drop i cs) (omega (arith, length-drop i cs))

pub filled_more : (js : List Json) (out more cs : List ℕ) (i k n : ℕ) (next : Option ℕ) (all : Option (List ℕ))
    → i < length cs → next ≡ Some n
    → filled_on more js next (drop 1 (take (length cs - i) (drop i cs))) ≡ filled_after out js k
    (take (length cs - i) (drop i cs)) → filled_after out js k (drop i cs) ≡ all
    → filled_after more js n (drop (i + 1) cs) ≡ all
filled_more js out more cs i k n next all h is step before =
    let one_more : drop 1 (drop i cs) ≡ drop (i + 1) cs = ap (drop 1) (drop-cons cs i 0 h) ∙ rw add-one refl in
    ap (filled_after more js n) (sym (ap (drop 1) (whole_rest cs i) ∙ one_more))
    ∙ ap (λ o. filled_on more js o (drop 1 (take (length cs - i) (drop i cs)))) (sym is) ∙ step
    ∙ ap (filled_after out js k) (whole_rest cs i) ∙ before

pub filled_fails : (js : List Json) (out more cs : List ℕ) (i k : ℕ) (next : Option ℕ) (all : Option (List ℕ))
    → next ≡ None
    → filled_on more js next (drop 1 (take (length cs - i) (drop i cs))) ≡ filled_after out js k
    (take (length cs - i) (drop i cs)) → filled_after out js k (drop i cs) ≡ all
    → ◌≡◌ {A = Option (List ℕ)} None all
filled_fails js out more cs i k next all is step before =
    ap (λ o. filled_on more js o (drop 1 (take (length cs - i) (drop i cs)))) (sym is) ∙ step
    ∙ ap (filled_after out js k) (whole_rest cs i) ∙ before

pub some_rest : (cs : List ℕ) (i : ℕ) → i < length cs → 0 < length (take (length cs - i) (drop i cs))
some_rest cs i h = omega (arith, ap length (whole_rest cs i ∙ drop-cons cs i 0 h))

pub filled_ends : (js : List Json) (out cs : List ℕ) (i k : ℕ) (all : Option (List ℕ)) → length cs ≤ i
    → filled_after out js k (drop i cs) ≡ all → Some out ≡ all
filled_ends js out cs i k all h before = ap Some (sym (append-nil out))
    ∙ sym (ap (option_map (λ s. out ++ s)) (ap (filled_rest js k) (drop_all i cs h) ∙ filled-nil js k)) ∙ before

pub filled_begins : (js : List Json) (out cs : List ℕ) → out ≡ [] → filled_after out js 0 cs ≡ filled js cs
filled_begins js out cs e = rw e (by_rest (filled js cs))
  where
    by_rest : (o : Option (List ℕ)) → option_map (λ s. [] ++ s) o ≡ o
    by_rest None = refl
    by_rest (Some s) = refl
