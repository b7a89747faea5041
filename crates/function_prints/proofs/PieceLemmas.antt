-- Format texts by their pieces.
use Rattle.std.proofs.Common.{◌≡◌, ◌+◌, ◌*◌, ◌-◌, ℕ, zero, suc, Bool, true, false, eqb, ◌==◌, List, [], ◌∷◌, ◌++◌}
use Rattle.std.proofs.Common.{length, drop, slice_get, Option, Some, None, option_map, option_and_then, refl, ap, ap₂}
use Rattle.std.proofs.Common.{sym, ◌∙◌, append_assoc, length-append, arith}
use Rattle.std.specs.Prelude.{if◌then◌else◌}
use Rattle.std.proofs.lemmas.List.{drop_all}
use Rattle.std.proofs.lemmas.Bool.Decides.{nat_tests}
use Rattle.arm_value.specs.Json.{Json}
use Rattle.function_texts.specs.Numbers.{with_digit, read_on, numeral, is_digit}
use Rattle.function_prints.specs.Printed.{printed}
use Rattle.function_prints.specs.Format.{Field, before_closing, argument, argument_field, is_brace, field}
use Rattle.function_prints.specs.Format.{filled_rest, filled}
use Rattle.function_prints.specs.Pieces.{Piece, character, place, spelled_piece, spelled, piece_value, pieces_value}
use Rattle.function_prints.proofs.FormatLemmas.{closing-nil, closing-here, closing-more, read-more, filled-nil}
use Rattle.function_prints.proofs.FormatLemmas.{filled-taken, filled-here}

values-nil : (args : List Json) → pieces_value args [] ≡ Some []
unfolding pieces_value
values-nil args = refl

values-cons : (args : List Json) (p : Piece) (ps : List Piece)
    → pieces_value args (p ∷ ps) ≡ option_and_then (λ s. option_map (λ rest. s ++ rest) (pieces_value args ps))
    (piece_value args p)
unfolding pieces_value
values-cons args p ps = refl

-- ---- what pieces spell is filled

-- what belongs to a field is left out
takes_all : (args : List Json) (s rest : List ℕ) → filled_rest args (length s) (s ++ rest) ≡ filled args rest
takes_all args [] rest = refl
takes_all args (c ∷ cs) rest = filled-taken args (length cs) c (cs ++ rest) ∙ takes_all args cs rest

with_digit-digit : (n c m : ℕ) → with_digit n c ≡ Some m → is_digit c ≡ true
with_digit-digit n c m e = by_test (is_digit c) e
  where
    by_test : (b : Bool) → ◌≡◌ {A = Option ℕ} (if b then Some (n * 10 + (c - 48)) else None) (Some m) → b ≡ true
    by_test true e = refl
    by_test false e = absurd (cc)

-- what digits spell, closed
closes : (n m : ℕ) (digits rest : List ℕ) → read_on n digits ≡ Some m
    → before_closing (digits ++ 125 ∷ rest) ≡ Some digits
closes n m [] rest e = closing-here rest
closes n m (c ∷ cs) rest e = by_digit (with_digit n c) refl (λ k. closes k m cs rest) (sym (read-more n c cs) ∙ e)
  where
    by_digit : (o : Option ℕ) → with_digit n c ≡ o
        → ((k : ℕ) → read_on k cs ≡ Some m → before_closing (cs ++ 125 ∷ rest) ≡ Some cs)
        → option_and_then (λ k. read_on k cs) o ≡ Some m → before_closing (c ∷ cs ++ 125 ∷ rest) ≡ Some (c ∷ cs)
    by_digit None d h f = absurd (cc)
    by_digit (Some k) d h f =
        let digit : is_digit c ≡ true = with_digit-digit n c k d in
        let other : eqb c 125 ≡ false = grind (arith, nat_tests) in
        closing-more c (cs ++ 125 ∷ rest) other ∙ ap (option_map (λ s. c ∷ s)) (h k f)

numeral-cons : (c : ℕ) (cs : List ℕ) → numeral (c ∷ cs) ≡ read_on 0 (c ∷ cs)
numeral-cons c cs = let some : (length (c ∷ cs) == 0) ≡ false = grind (arith, nat_tests) in rw some refl

-- digits that spell a number, of which there is an argument
abbrev SpellsNumber : List ℕ → Type 0
SpellsNumber digits = (n : ℕ) × (numeral digits ≡ Some n)

argument_number : (args : List Json) (digits : List ℕ) (j : Json) → argument args digits ≡ Some j → SpellsNumber digits
argument_number args digits j e = by_number (numeral digits) refl e
  where
    by_number : (o : Option ℕ) → numeral digits ≡ o → option_and_then (slice_get args) o ≡ Some j → SpellsNumber digits
    by_number None n f = absurd (cc)
    by_number (Some k) n f = (k, n)

first_digit : (c n : ℕ) (cs : List ℕ) → read_on 0 (c ∷ cs) ≡ Some n → is_digit c ≡ true
first_digit c n cs e = by_digit (with_digit 0 c) refl (sym (read-more 0 c cs) ∙ e)
  where
    by_digit : (o : Option ℕ) → with_digit 0 c ≡ o → option_and_then (λ k. read_on k cs) o ≡ Some n → is_digit c ≡ true
    by_digit None d f = absurd (cc)
    by_digit (Some k) d f = with_digit-digit 0 c k d

field_place : (args : List Json) (digits rest : List ℕ) (j : Json) → argument args digits ≡ Some j
    → field args 123 (digits ++ 125 ∷ rest) ≡ Some (printed j, suc (length digits))
field_place args [] rest j e = absurd (cc)
field_place args (d ∷ ds) rest j e =
    let number = argument_number args (d ∷ ds) j e in
    let read : read_on 0 (d ∷ ds) ≡ Some number.0 = sym (numeral-cons d ds) ∙ number.1 in
    let digit : is_digit d ≡ true = first_digit d number.0 ds read in
    let other : (d == 123) ≡ false = grind (arith, nat_tests) in
    let closed : before_closing (d ∷ ds ++ 125 ∷ rest) ≡ Some (d ∷ ds) = closes 0 number.0 (d ∷ ds) rest read in
    rw (other, closed, e) refl

character_filled : (args : List Json) (c : ℕ) (rest : List ℕ) (b : Bool) → is_brace c ≡ b
    → filled args ((if b then c ∷ c ∷ [] else c ∷ []) ++ rest) ≡ option_map (λ r. (c ∷ []) ++ r) (filled args rest)
character_filled args c rest true is =
    let same : (c == c) ≡ true = grind (arith, nat_tests) in
    filled-here args c (c ∷ rest) ∙ rw (is, same) (ap (option_map (λ r. (c ∷ []) ++ r)) (filled-taken args 0 c rest))
character_filled args c rest false is = filled-here args c rest ∙ rw is refl

place_filled : (args : List Json) (digits rest : List ℕ) (j : Json) → argument args digits ≡ Some j
    → filled args ((123 ∷ digits ++ 125 ∷ []) ++ rest) ≡ option_map (λ r. printed j ++ r) (filled args rest)
place_filled args digits rest j e =
    let shape : (digits ++ 125 ∷ []) ++ rest ≡ digits ++ 125 ∷ rest = append_assoc digits (125 ∷ []) rest in
    let count : length (digits ++ 125 ∷ []) ≡ suc (length digits) = omega (arith, length-append digits (125 ∷ [])) in
    let left : filled_rest args (suc (length digits)) (digits ++ 125 ∷ rest) ≡ filled args rest =
    ap₂ (filled_rest args) (sym count) (sym shape) ∙ takes_all args (digits ++ 125 ∷ []) rest in
    ap (λ s. filled args (123 ∷ s)) shape ∙ filled-here args 123 (digits ++ 125 ∷ rest)
    ∙ rw (field_place args digits rest j e) (ap (option_map (λ r. printed j ++ r)) left)

piece_filled : (args : List Json) (p : Piece) (s rest : List ℕ) → piece_value args p ≡ Some s
    → filled args (spelled_piece p ++ rest) ≡ option_map (λ r. s ++ r) (filled args rest)
piece_filled args (character c) s rest e =
    let is : c ∷ [] ≡ s = cc in
    character_filled args c rest (is_brace c) refl ∙ ap (λ x. option_map (λ r. x ++ r) (filled args rest)) is
piece_filled args (place digits) s rest e = by_argument (argument args digits) refl e
  where
    by_argument : (o : Option Json) → argument args digits ≡ o → option_map printed o ≡ Some s
        → filled args ((123 ∷ digits ++ 125 ∷ []) ++ rest) ≡ option_map (λ r. s ++ r) (filled args rest)
    by_argument None a f = absurd (cc)
    by_argument (Some j) a f =
        let is : printed j ≡ s = cc in
        place_filled args digits rest j a ∙ ap (λ x. option_map (λ r. x ++ r) (filled args rest)) is

pub pieces_filled : (args : List Json) (ps : List Piece) (t : List ℕ) → pieces_value args ps ≡ Some t
    → filled args (spelled ps) ≡ Some t
pieces_filled args [] t e = filled-nil args 0 ∙ sym (values-nil args) ∙ e
pieces_filled args (p ∷ ps) t e = by_values (piece_value args p) (pieces_value args ps) refl (pieces_filled args ps)
    (sym (values-cons args p ps) ∙ e)
  where
    by_values : (v w : Option (List ℕ)) → piece_value args p ≡ v
        → ((r : List ℕ) → w ≡ Some r → filled args (spelled ps) ≡ Some r)
        → option_and_then (λ s. option_map (λ rest. s ++ rest) w) v ≡ Some t
        → filled args (spelled_piece p ++ spelled ps) ≡ Some t
    by_values None w a h f = absurd (cc)
    by_values (Some s) None a h f = absurd (cc)
    by_values (Some s) (Some r) a h f = piece_filled args p s (spelled ps) a
        ∙ ap (option_map (λ r. s ++ r)) (h r refl) ∙ f

-- ---- what is filled is spelled by pieces

closing-front : (cs digits : List ℕ) → before_closing cs ≡ Some digits
    → digits ++ 125 ∷ drop (suc (length digits)) cs ≡ cs
closing-front [] digits e = absurd (cc closing-nil)
closing-front (c ∷ cs) digits e = by_test (eqb c 125) refl (λ ds. closing-front cs ds)
  where
    by_rest : (o : Option (List ℕ)) → before_closing cs ≡ o
        → ((ds : List ℕ) → before_closing cs ≡ Some ds → ds ++ 125 ∷ drop (suc (length ds)) cs ≡ cs)
        → option_map (λ s. c ∷ s) o ≡ Some digits → digits ++ 125 ∷ drop (suc (length digits)) (c ∷ cs) ≡ c ∷ cs
    by_rest None b h f = absurd (cc)
    by_rest (Some ds) b h f =
        let is : c ∷ ds ≡ digits = cc in
        rw (← is) (ap (λ r. c ∷ r) (h ds b))

    by_test : (b : Bool) → eqb c 125 ≡ b
        → ((ds : List ℕ) → before_closing cs ≡ Some ds → ds ++ 125 ∷ drop (suc (length ds)) cs ≡ cs)
        → digits ++ 125 ∷ drop (suc (length digits)) (c ∷ cs) ≡ c ∷ cs
    by_test true t h =
        let is : c ≡ 125 = grind (arith, nat_tests) in
        let none : ◌≡◌ {A = List ℕ} [] digits = cc (ap before_closing (ap (λ x. x ∷ cs) is) ∙ closing-here cs) in
        rw (← none) (ap (λ x. x ∷ cs) (sym is))
    by_test false t h = by_rest (before_closing cs) refl h (sym (closing-more c cs t) ∙ e)

abbrev FieldPiece : List Json → ℕ → List ℕ → Field → Type 0
FieldPiece args c cs f = (p : Piece) × (spelled_piece p ++ drop f.1 cs ≡ c ∷ cs) × (piece_value args p ≡ Some f.0)

place_piece : (args : List Json) (cs : List ℕ) (f : Field) → argument_field args cs ≡ Some f → FieldPiece args 123 cs f
place_piece args cs f e = by_digits (before_closing cs) refl e
  where
    by_argument : (digits : List ℕ) (o : Option Json) → before_closing cs ≡ Some digits → argument args digits ≡ o
        → option_map {U = Field} (λ j. (printed j, suc (length digits))) o ≡ Some f → FieldPiece args 123 cs f
    by_argument digits None b a g = absurd (cc)
    by_argument digits (Some j) b a g =
        let is : (printed j, suc (length digits)) ≡ f = cc in
        let count : suc (length digits) ≡ f.1 = ap (λ (x : Field). x.1) is in
        let value : printed j ≡ f.0 = ap (λ (x : Field). x.0) is in (
          place digits,
          ap (λ r. 123 ∷ r) (append_assoc digits (125 ∷ []) (drop f.1 cs)
              ∙ ap (λ n. digits ++ 125 ∷ drop n cs) (sym count) ∙ closing-front cs digits b),
          ap (option_map printed) a
              ∙ ap Some value,
        )

    by_digits : (o : Option (List ℕ)) → before_closing cs ≡ o
        → option_and_then (λ digits. option_map {U = Field} (λ j. (printed j, suc (length digits)))
        (argument args digits)) o ≡ Some f → FieldPiece args 123 cs f
    by_digits None b g = absurd (cc)
    by_digits (Some digits) b g = by_argument digits (argument args digits) b refl g

field_piece : (args : List Json) (c : ℕ) (cs : List ℕ) (f : Field) → is_brace c ≡ true → field args c cs ≡ Some f
    → FieldPiece args c cs f
field_piece args c [] f is e = absurd (cc)
field_piece args c (d ∷ ds) f is e = by_second (d == c) refl e
  where
    by_brace : (b : Bool) → (c == 123) ≡ b → (if b then argument_field args (d ∷ ds) else None) ≡ Some f
        → FieldPiece args c (d ∷ ds) f
    by_brace true t g =
        let opens : c ≡ 123 = grind (arith, nat_tests) in
        rw opens (place_piece args (d ∷ ds) f g)
    by_brace false t g = absurd (cc)

    by_second : (b : Bool) → (d == c) ≡ b
        → (if b then Some (c ∷ [], 1) else if c == 123 then argument_field args (d ∷ ds) else None) ≡ Some f
        → FieldPiece args c (d ∷ ds) f
    by_second true t g =
        let same : d ≡ c = grind (arith, nat_tests) in
        let whole : (c ∷ [], 1) ≡ f = cc in
        let count : 1 ≡ f.1 = ap (λ (x : Field). x.1) whole in
        let value : c ∷ [] ≡ f.0 = ap (λ (x : Field). x.0) whole in
        (character c, rw (is, ← count, same) refl, ap Some value)
    by_second false t g = by_brace (c == 123) refl g

abbrev IsSpelled : List Json → List ℕ → List ℕ → Type 0
IsSpelled args s t = (ps : List Piece) × (spelled ps ≡ s) × (pieces_value args ps ≡ Some t)

spelled_on : (args : List Json) (n : ℕ) (s t : List ℕ) → filled_rest args n s ≡ Some t → IsSpelled args (drop n s) t
spelled_on args n [] t e = ([], sym (drop_all n [] (omega arith)), values-nil args ∙ sym (filled-nil args n) ∙ e)
spelled_on args (suc n) (c ∷ cs) t e = spelled_on args n cs t (sym (filled-taken args n c cs) ∙ e)
spelled_on args zero (c ∷ cs) t e =
    by_brace (is_brace c) refl (λ n r. spelled_on args n cs r) (sym (filled-here args c cs) ∙ e)
  where
    before : (p : Piece) (n : ℕ) (s r : List ℕ) → spelled_piece p ++ drop n cs ≡ c ∷ cs → piece_value args p ≡ Some s
        → IsSpelled args (drop n cs) r → s ++ r ≡ t → IsSpelled args (c ∷ cs) t
    before p n s r shape value rest all = (
      p ∷ rest.0,
      ap (λ x. spelled_piece p ++ x) rest.1 ∙ shape,
      values-cons args p rest.0
          ∙ rw (value, rest.2, all) refl,
    )

    by_plain : (o : Option (List ℕ)) → is_brace c ≡ false → filled_rest args 0 cs ≡ o
        → ((n : ℕ) (r : List ℕ) → filled_rest args n cs ≡ Some r → IsSpelled args (drop n cs) r)
        → option_map (λ rest. c ∷ rest) o ≡ Some t → IsSpelled args (c ∷ cs) t
    by_plain None is o h f = absurd (cc)
    by_plain (Some r) is o h f = before (character c) 0 (c ∷ []) r (rw is refl) refl (h 0 r o) (cc)

    by_rest : (g : Field) (o : Option (List ℕ)) → FieldPiece args c cs g → filled_rest args g.1 cs ≡ o
        → ((n : ℕ) (r : List ℕ) → filled_rest args n cs ≡ Some r → IsSpelled args (drop n cs) r)
        → option_map (λ rest. g.0 ++ rest) o ≡ Some t → IsSpelled args (c ∷ cs) t
    by_rest g None p o h f = absurd (cc)
    by_rest g (Some r) p o h f = before p.0 g.1 g.0 r p.1 p.2 (h g.1 r o) (cc)

    by_field : (o : Option Field) → is_brace c ≡ true → field args c cs ≡ o
        → ((n : ℕ) (r : List ℕ) → filled_rest args n cs ≡ Some r → IsSpelled args (drop n cs) r)
        → option_and_then (λ g. option_map (λ rest. g.0 ++ rest) (filled_rest args g.1 cs)) o ≡ Some t
        → IsSpelled args (c ∷ cs) t
    by_field None is o h f = absurd (cc)
    by_field (Some g) is o h f = by_rest g (filled_rest args g.1 cs) (field_piece args c cs g is o) refl h f

    by_brace : (b : Bool) → is_brace c ≡ b
        → ((n : ℕ) (r : List ℕ) → filled_rest args n cs ≡ Some r → IsSpelled args (drop n cs) r)
        → (if b then option_and_then (λ g. option_map (λ rest. g.0 ++ rest) (filled_rest args g.1 cs))
        (field args c cs) else option_map (λ rest. c ∷ rest) (filled_rest args 0 cs)) ≡ Some t
        → IsSpelled args (c ∷ cs) t
    by_brace true is h f = by_field (field args c cs) is refl h f
    by_brace false is h f = by_plain (filled_rest args 0 cs) is refl h f

pub is_spelled : (args : List Json) (s t : List ℕ) → filled args s ≡ Some t → IsSpelled args s t
is_spelled args s t e = spelled_on args 0 s t e
