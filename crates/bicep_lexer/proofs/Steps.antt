-- One step of a reading.
use Rattle.std.proofs.Common.{◌≡◌, ℕ, zero, suc, ◌+◌, ◌-◌, ◌<◌, ◌≤◌, List, [], ◌∷◌, ◌++◌, length, take, drop, Result}
use Rattle.std.proofs.Common.{Ok, Err, refl, ap, sym, subst, ◌∙◌, append_assoc, arith}
use Rattle.std.proofs.lemmas.List.{at_drop_all, length-drop, drop-drop}
use Rattle.bicep_lexer.specs.declared.kind.TokenKind.TheVariants as k
use Rattle.bicep_lexer.specs.declared.fault.LexFault.{LexFault}
use Rattle.bicep_lexer.specs.declared.front.Open.{Open}
use Rattle.bicep_lexer.specs.declared.front.Line.{Line}
use Rattle.bicep_lexer.specs.declared.front.Line.TheVariants as line
use Rattle.bicep_lexer.specs.declared.front.Front.{Front}
use Rattle.bicep_lexer.specs.declared.front.Front.TheVariants as front
use Rattle.bicep_lexer.specs.Reader.Fronts.{front_of}
use Rattle.bicep_lexer.specs.Reading.{Standing}
use Rattle.bicep_lexer.specs.Reader.Steps.{Outcome, before, follow, ended, reading_from}
use Rattle.bicep_lexer.specs.Grammar.{turned, mark_length}
use Rattle.bicep_lexer.specs.Reader.Steps.{reading}
use Rattle.bicep_lexer.specs.Reader.Steps.{then_rest, whole, OnFront}
use Rattle.bicep_lexer.proofs.Scans.{tail_is}
use Rattle.bicep_lexer.proofs.Spans.{front_span}

pub reading-skip : (n at : ℕ) (os : List Open) (l : Line) (bs : List ℕ) → n ≤ length bs
    → reading_from n at os l bs ≡ reading_from 0 (at + n) os l (drop n bs)
reading-skip zero at os l bs h = let e : at ≡ at + 0 = omega arith in ap (λ i. reading_from 0 i os l bs) e
reading-skip (suc n) at os l [] h = absurd (omega arith)
reading-skip (suc n) at os l (b ∷ bs) h =
    let e : at + 1 + n ≡ at + suc n = omega arith in
    reading-skip n (at + 1) os l bs (omega arith) ∙ ap (λ i. reading_from 0 i os l (drop n bs)) e

-- what is left after the first bytes
left_after : (n at : ℕ) (os : List Open) (l : Line) (b : ℕ) (bs : List ℕ) → 0 < n → n ≤ suc (length bs)
    → reading_from (n - 1) (at + 1) os l bs ≡ reading_from 0 (at + n) os l (drop n (b ∷ bs))
left_after zero at os l b bs some within = absurd (omega arith)
left_after (suc n) at os l b bs some within =
    let less : suc n - 1 ≡ n = omega arith in
    ap (λ i. reading_from i (at + 1) os l bs) less ∙ reading-skip (suc n) at os l (b ∷ bs) within

-- the reading of what is left, by its front
abbrev pub by_front : ℕ → List Open → List ℕ → Result Front LexFault → Outcome
by_front at os left (Err f) = Err f
by_front at os left (Ok (front.Skipped n l)) = reading_from 0 (at + n) os l (drop n left)
by_front at os left (Ok (front.Newline n)) =
    before (k.Newline, at, take n left) (reading_from 0 (at + n) os line.Folded (drop n left))
by_front at os left (Ok (front.Word kind n t)) =
    before (kind, at, take n left) (reading_from 0 (at + n) (turned t os) line.Within (drop n left))

follow_front : (at : ℕ) (os : List Open) (b : ℕ) (bs : List ℕ) (o : Result Front LexFault) → OnFront o (b ∷ bs)
    → follow at os (b ∷ bs) o (λ n os' l'. reading_from n (at + 1) os' l' bs) ≡ by_front at os (b ∷ bs) o
follow_front at os b bs (Err f) h = refl
follow_front at os b bs (Ok (front.Skipped n l)) h = left_after n at os l b bs h.0 h.1
follow_front at os b bs (Ok (front.Newline n)) h =
    ap (before (k.Newline, at, take n (b ∷ bs))) (left_after n at os line.Folded b bs h.some h.within)
follow_front at os b bs (Ok (front.Word kind n t)) h =
    ap (before (kind, at, take n (b ∷ bs))) (left_after n at (turned t os) line.Within b bs h.some h.within)

pub read_front : (at : ℕ) (os : List Open) (l : Line) (left : List ℕ) → 0 < length left
    → reading_from 0 at os l left ≡ by_front at os left (front_of at os l left)
read_front at os l [] h = absurd (omega arith)
read_front at os l (b ∷ bs) h = follow_front at os b bs (front_of at os l (b ∷ bs)) (front_span at os l (b ∷ bs))

then_rest-before : (found : List Standing) (t : Standing) (o : Outcome)
    → then_rest found (before t o) ≡ then_rest (found ++ t ∷ []) o
then_rest-before found t (Ok ts) = ap (λ x. Ok x) (sym (append_assoc found (t ∷ []) ts))
then_rest-before found t (Err f) = refl

-- the reading of the whole after the front
abbrev pub stepped : List ℕ → ℕ → List Open → List Standing → Result Front LexFault → Outcome
stepped text at os found (Err f) = Err f
stepped text at os found (Ok (front.Skipped n l)) = whole text (at + n) os l found
stepped text at os found (Ok (front.Newline n)) =
    whole text (at + n) os line.Folded (found ++ (k.Newline, at, take n (drop at text)) ∷ [])
stepped text at os found (Ok (front.Word kind n t)) =
    whole text (at + n) (turned t os) line.Within (found ++ (kind, at, take n (drop at text)) ∷ [])

by_front-stepped : (text : List ℕ) (at : ℕ) (os : List Open) (found : List Standing) (o : Result Front LexFault)
    → then_rest found (by_front at os (drop at text) o) ≡ stepped text at os found o
by_front-stepped text at os found (Err f) = refl
by_front-stepped text at os found (Ok (front.Skipped n l)) =
    ap (λ xs. then_rest found (reading_from 0 (at + n) os l xs)) (drop-drop n at text)
by_front-stepped text at os found (Ok (front.Newline n)) =
    then_rest-before found (k.Newline, at, take n (drop at text))
    (reading_from 0 (at + n) os line.Folded (drop n (drop at text)))
    ∙ ap (λ xs. then_rest (found ++ (k.Newline, at, take n (drop at text)) ∷ [])
    (reading_from 0 (at + n) os line.Folded xs)) (drop-drop n at text)
by_front-stepped text at os found (Ok (front.Word kind n t)) =
    then_rest-before found (kind, at, take n (drop at text))
    (reading_from 0 (at + n) (turned t os) line.Within (drop n (drop at text)))
    ∙ ap (λ xs. then_rest (found ++ (kind, at, take n (drop at text)) ∷ [])
    (reading_from 0 (at + n) (turned t os) line.Within xs)) (drop-drop n at text)

-- after one step the reading of the whole is unchanged
pub step_is : (text : List ℕ) (at : ℕ) (os : List Open) (l : Line) (found : List Standing) (o : Result Front LexFault)
    → at < length text → o ≡ front_of at os l (drop at text) → whole text at os l found ≡ stepped text at os found o
step_is text at os l found o lt is =
    ap (then_rest found) (read_front at os l (drop at text) (omega (arith, length-drop at text)))
    ∙ by_front-stepped text at os found (front_of at os l (drop at text))
    ∙ ap (stepped text at os found) (sym is)

-- at the end nothing is left
pub whole-end : (text : List ℕ) (at : ℕ) (os : List Open) (l : Line) (found : List Standing) → length text ≤ at
    → whole text at os l found ≡ then_rest found (ended os)
whole-end text at os l found h = at_drop_all (λ xs. then_rest found (reading_from 0 at os l xs)) text at h

then_rest-none : (o : Outcome) → then_rest [] o ≡ o
then_rest-none (Ok ts) = refl
then_rest-none (Err f) = refl

-- at the start nothing is found
pub whole-start : (text : List ℕ) (at : ℕ) → at ≡ mark_length text → at ≤ length text
    → whole text at [] line.Front [] ≡ reading text
unfolding reading
whole-start text at is h =
    let e : 0 + at ≡ at = omega arith in
    then_rest-none (reading_from 0 at [] line.Front (drop at text))
    ∙ ap (λ i. reading_from 0 i [] line.Front (drop at text)) (sym e)
    ∙ sym (reading-skip at 0 [] line.Front text h)
    ∙ ap (λ n. reading_from n 0 [] line.Front text) is

-- what the code found at the front, in the terms of the source
pub front_here : (text bytes : List ℕ) (at : ℕ) (os os' : List Open) (l : Line) (o : Result Front LexFault)
    → bytes ≡ text → os' ≡ os → o ≡ front_of at os' l (take (length bytes - at) (drop at bytes))
    → o ≡ front_of at os l (drop at text)
front_here text bytes at os os' l o is is' h =
    h
    ∙ ap (front_of at os' l) (tail_is bytes at)
    ∙ ap (λ xs. front_of at os' l (drop at xs)) is
    ∙ ap (λ xs. front_of at xs l (drop at text)) is'

pub span_here : (text : List ℕ) (at : ℕ) (os : List Open) (l : Line) (o : Result Front LexFault)
    → o ≡ front_of at os l (drop at text) → OnFront o (drop at text)
span_here text at os l o h = subst (λ x. OnFront x (drop at text)) (sym h) (front_span at os l (drop at text))

pub whole_same : (text text' : List ℕ) (at at' : ℕ) (os os' : List Open) (l : Line) (found found' : List Standing)
    (r : Outcome) → text ≡ text' → at ≡ at' → os ≡ os' → found ≡ found' → whole text' at' os' l found' ≡ r
    → whole text at os l found ≡ r
whole_same text text' at at' os os' l found found' r t a o f h =
    ap (λ x. whole x at os l found) t ∙ ap (λ x. whole text' x os l found) a ∙ ap (λ x. whole text' at' x l found) o
    ∙ ap (λ x. whole text' at' os' l x) f ∙ h

pub whole_same_at : (text text' : List ℕ) (at at' : ℕ) (os os' : List Open) (l l' : Line) (found found' : List Standing)
    (r : Outcome) → text ≡ text' → at ≡ at' → os ≡ os' → l ≡ l' → found ≡ found' → whole text' at' os' l' found' ≡ r
    → whole text at os l found ≡ r
whole_same_at text text' at at' os os' l l' found found' r t a o s f h =
    ap (λ x. whole text at os x found) s ∙ whole_same text text' at at' os os' l' found found' r t a o f h
