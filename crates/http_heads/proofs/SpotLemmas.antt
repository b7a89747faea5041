-- Where bytes lead that end in the target of a start line.
use Rattle.std.proofs.Common.{◌≡◌, ℕ, ◌==◌, ◌<◌, Bool, true, false, List, [], ◌∷◌, ◌++◌, length, cond, refl, sym, ap}
use Rattle.std.proofs.Common.{◌∙◌, arith, true≢false}
use Rattle.std.specs.List.{AllByRecursion}
use Rattle.std.proofs.lemmas.List.Elements.{recursion_from_All}
use Rattle.std.proofs.lemmas.Bool.Decides.{Decides-eqb}
use Rattle.std.specs.Prelude.{IsTrue}
use Rattle.httparse.specs.Grammar.{is_token_byte, is_uri_byte, AllPass, IsToken, LineEnd, crlf, lf}
use Rattle.httparse.specs.Grammar.{print_blank}
use Rattle.http_heads.specs.Spots.{begin, go_on, step, run, is_past, is_past_target}
use Rattle.http_heads.specs.declared.spot.Spot.{Spot}
use Rattle.http_heads.specs.declared.spot.Spot.TheVariants.{LineStart, EmptyLine, Method, Target, Past}

pub run-append : (s : Spot) (xs ys : List ℕ) → run s (xs ++ ys) ≡ run (run s xs) ys
run-append s [] ys = refl
run-append s (x ∷ xs) ys = run-append (step s x) xs ys

run-past : (xs : List ℕ) → run Past xs ≡ Past
run-past [] = refl
run-past (x ∷ xs) = run-past xs

past_stays : (s : Spot) (xs : List ℕ) → is_past s ≡ true → is_past (run s xs) ≡ true
past_stays Past xs e = ap is_past (run-past xs)
past_stays LineStart xs e = absurd (true≢false (sym e))
past_stays EmptyLine xs e = absurd (true≢false (sym e))
past_stays Method xs e = absurd (true≢false (sym e))
past_stays Target xs e = absurd (true≢false (sym e))

-- bytes past the target stay so, whatever follows
pub past_further : (xs ys : List ℕ) → is_past_target xs ≡ true → is_past_target (xs ++ ys) ≡ true
unfolding is_past_target
past_further xs ys e = ap is_past (run-append LineStart xs ys) ∙ past_stays (run LineStart xs) ys e

-- a byte of a token is none of those that are not
not_in_token : (b c : ℕ) → is_token_byte b ≡ true → is_token_byte c ≡ false → (b == c) ≡ false
not_in_token b c e f = by (b == c) refl
  where
    by : (r : Bool) → (b == c) ≡ r → r ≡ false
    by false h = refl
    by true h = absurd (true≢false (sym e ∙ ap is_token_byte ((Decides-eqb b c).0 h) ∙ f))

line_feed_no_token : is_token_byte 10 ≡ false
unfolding is_token_byte
line_feed_no_token = refl

return_no_token : is_token_byte 13 ≡ false
unfolding is_token_byte
return_no_token = refl

space_no_token : is_token_byte 32 ≡ false
unfolding is_token_byte
space_no_token = refl

run-blank : (ends : List LineEnd) → run LineStart (print_blank ends) ≡ LineStart
run-blank [] = refl
run-blank (crlf ∷ ends) = run-blank ends
run-blank (lf ∷ ends) = run-blank ends

method_step : (b : ℕ) → is_token_byte b ≡ true → go_on b ≡ Method
method_step b e =
    ap (λ r. cond r Target (cond (is_token_byte b) Method Past)) (not_in_token b 32 e space_no_token)
    ∙ ap (λ r. cond r Method Past) e

begin_step : (b : ℕ) → is_token_byte b ≡ true → begin b ≡ Method
begin_step b e =
    ap (λ r. cond r LineStart (cond (b == 13) EmptyLine (cond (is_token_byte b) Method Past)))
    (not_in_token b 10 e line_feed_no_token)
    ∙ ap (λ r. cond r EmptyLine (cond (is_token_byte b) Method Past)) (not_in_token b 13 e return_no_token)
    ∙ ap (λ r. cond r Method Past) e

run-method : (bs : List ℕ) → AllByRecursion (λ b. IsTrue (is_token_byte b)) bs → run Method bs ≡ Method
run-method [] h = refl
run-method (b ∷ bs) h = ap (λ s. run s bs) (method_step b h.0) ∙ run-method bs h.1

run-token : (bs : List ℕ) → 0 < length bs → AllByRecursion (λ b. IsTrue (is_token_byte b)) bs
    → run LineStart bs ≡ Method
run-token [] some h = absurd (omega arith)
run-token (b ∷ bs) some h = ap (λ s. run s bs) (begin_step b h.0) ∙ run-method bs h.1

run-target : (bs : List ℕ) → AllByRecursion (λ b. IsTrue (is_uri_byte b)) bs → run Target bs ≡ Target
run-target [] h = refl
run-target (b ∷ bs) h = ap (λ r. run (cond r Target Past) bs) h.0 ∙ run-target bs h.1

-- bytes that end in the target are not past it
pub in_target : (blank : List LineEnd) (method target : List ℕ) → IsToken method → AllPass is_uri_byte target
    → is_past_target (print_blank blank ++ method ++ 32 ∷ target) ≡ false
unfolding is_past_target
in_target blank method target token uri =
    ap is_past (run-append LineStart (print_blank blank ++ method) (32 ∷ target)
    ∙ ap (λ s. run s (32 ∷ target)) (run-append LineStart (print_blank blank) method
    ∙ ap (λ s. run s method) (run-blank blank)
    ∙ run-token method token.0 (recursion_from_All (λ b. IsTrue (is_token_byte b)) method token.1))
    ∙ run-target target (recursion_from_All (λ b. IsTrue (is_uri_byte b)) target uri))
