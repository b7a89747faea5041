-- A text that is split at slashes has its segments.
use Rattle.std.proofs.Common.{◌≡◌, ◌<◌, ◌≤◌, ℕ, zero, suc, length, List, [], ◌∷◌, Option, Some}
use Rattle.std.proofs.Common.{None}
use Rattle.std.proofs.Common.{Bool, true, false, cond, refl, sym, ap, ◌∙◌, subst, arith, ◌&&◌}
use Rattle.std.proofs.lemmas.Bool.Decides.{nat_tests}
use Rattle.std.specs.Prelude.{◌==◌, if◌then◌else◌}
use Rattle.std.specs.List.{onto_first}
use Rattle.arm_ids.specs.Segments.{segments, is_slash}
use Rattle.function_prints.specs.Cuts.{Cut, cut_here, cut_at, first_cut, delimiter_at, pieces_within, pieces}
use Rattle.function_prints.specs.Places.{begins}

abbrev pub slash : List ℕ
slash = 47 ∷ []

same_number : (m n : ℕ) → (m == n) ≡ (n == m)
same_number m n = grind (arith, nat_tests)

-- a slash is a delimiter
slash_at : (c : ℕ) (cs : List ℕ) (b : Bool) → is_slash c ≡ b
    → delimiter_at (slash ∷ []) (c ∷ cs) ≡ (if b then Some slash else None)
unfolding delimiter_at begins
slash_at c cs true e = ap (λ b. if b && true then Some slash else None) (same_number 47 c ∙ e)
slash_at c cs false e = ap (λ b. if b && true then Some slash else None) (same_number 47 c ∙ e)

-- the cut at the first slash, by the first character
cut_by : (c : ℕ) (cs : List ℕ) (b : Bool) → is_slash c ≡ b
    → first_cut (slash ∷ []) (c ∷ cs) ≡ cut_here (if b then Some slash else None) c cs (first_cut (slash ∷ []) cs)
unfolding first_cut
cut_by c cs b e = ap (λ o. cut_here o c cs (first_cut (slash ∷ []) cs)) (slash_at c cs b e)

segments_by : (c : ℕ) (cs : List ℕ) (b : Bool) → is_slash c ≡ b
    → segments (c ∷ cs) ≡ cond b ([] ∷ segments cs) (onto_first c (segments cs))
segments_by c cs b e = ap (λ b. cond b ([] ∷ segments cs) (onto_first c (segments cs))) e

onto_cut : (c : ℕ) (cs : List ℕ) (o : Option Cut)
    → onto_first c (cut_at o cs segments) ≡ cut_at (cut_here None c cs o) (c ∷ cs) segments
onto_cut c cs (Some k) = refl
onto_cut c cs None = refl

-- the segments of a text are what is before its first slash, and the segments of what is after it
cut_segments : (s : List ℕ) → segments s ≡ cut_at (first_cut (slash ∷ []) s) s segments
unfolding first_cut
cut_segments [] = refl
cut_segments (c ∷ cs) = by_slash (is_slash c) refl (cut_segments cs)
  where
    by_slash : (b : Bool) → is_slash c ≡ b → segments cs ≡ cut_at (first_cut (slash ∷ []) cs) cs segments
        → segments (c ∷ cs) ≡ cut_at (first_cut (slash ∷ []) (c ∷ cs)) (c ∷ cs) segments
    by_slash true e h = segments_by c cs true e ∙ sym (ap (λ o. cut_at o (c ∷ cs) segments) (cut_by c cs true e))
    by_slash false e h = segments_by c cs false e ∙ ap (onto_first c) h ∙ onto_cut c cs (first_cut (slash ∷ []) cs)
        ∙ sym (ap (λ o. cut_at o (c ∷ cs) segments) (cut_by c cs false e))

-- what is after a cut is shorter
abbrev IsShorter : ℕ → Option Cut → Type 0
IsShorter n None = Unit {0}
IsShorter n (Some k) = length k.after < n

shorter_here : (c : ℕ) (cs : List ℕ) (o : Option Cut) → IsShorter (length cs) o
    → IsShorter (suc (length cs)) (cut_here None c cs o)
shorter_here c cs None h = tt
shorter_here c cs (Some k) h = omega arith

shorter : (s : List ℕ) → IsShorter (length s) (first_cut (slash ∷ []) s)
unfolding first_cut
shorter [] = tt
shorter (c ∷ cs) = by_slash (is_slash c) refl (shorter cs)
  where
    by_slash : (b : Bool) → is_slash c ≡ b → IsShorter (length cs) (first_cut (slash ∷ []) cs)
        → IsShorter (suc (length cs)) (first_cut (slash ∷ []) (c ∷ cs))
    by_slash true e h = subst (IsShorter (suc (length cs))) (sym (cut_by c cs true e)) below_next
      where
        below_next : length cs < suc (length cs)
        below_next = omega arith
    by_slash false e h =
        subst (IsShorter (suc (length cs))) (sym (cut_by c cs false e)) (shorter_here c cs (first_cut (slash
        ∷ []) cs) h)

within_is : (n : ℕ) (s : List ℕ) → length s ≤ n → pieces_within n (slash ∷ []) s ≡ segments s
unfolding pieces_within first_cut
within_is zero [] h = refl
within_is zero (c ∷ cs) h = absurd (omega arith)
within_is (suc n) s h =
    after_cut (first_cut (slash ∷ []) s) (shorter s) (λ k l. within_is n k l) ∙ sym (cut_segments s)
  where
    after_cut : (o : Option Cut) → IsShorter (length s) o
        → ((t : List ℕ) → length t ≤ n → pieces_within n (slash ∷ []) t ≡ segments t)
        → cut_at o s (pieces_within n (slash ∷ [])) ≡ cut_at o s segments
    after_cut None l f = refl
    after_cut (Some k) l f = ap (λ ps. k.before ∷ ps) (f k.after (omega arith))

pub pieces_are : (s : List ℕ) → pieces (slash ∷ []) s ≡ segments s
unfolding pieces
pieces_are s = within_is (length s) s (omega arith)
