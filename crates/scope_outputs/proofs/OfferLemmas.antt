-- Outputs that are told one after another.
use Rattle.std.proofs.Common.{◌≡◌, inl, inr, ℕ, zero, suc, ◌+◌, ◌<◌, ◌≤◌, List, [], ◌∷◌, ◌++◌, length, drop, refl}
use Rattle.std.proofs.Common.{sym, ap, subst, ◌∙◌, arith, append_assoc}
use Rattle.std.proofs.lemmas.List.{append-nil}
use Rattle.plan_cells.specs.Children.{Has}
use Rattle.plan_table.specs.declared.table.Table.{Table}
use Rattle.plan_table.specs.Lines.{name_at}
use Rattle.point_rows.specs.declared.later.Later.{Later}
use Rattle.scope_outputs.specs.Outputs.{names_of, IsNoted, AreNoted}
use Rattle.scope_outputs.specs.declared.telling.Noted.{Noted}

pub name_has : (xs : List (List ℕ)) (n : ℕ) → n < length xs → Has (name_at xs n) xs
name_has [] n h = absurd (omega (arith, h))
name_has (x ∷ xs) zero h = inl refl
name_has (x ∷ xs) (suc n) h = inr (name_has xs n (omega (arith, h)))

names_here : (xs : List (List ℕ)) (i : ℕ) → i < length xs → drop i xs ≡ name_at xs i ∷ drop (suc i) xs
names_here [] i h = absurd (omega (arith, h))
names_here (x ∷ xs) zero h = refl
names_here (x ∷ xs) (suc i) h = names_here xs i (omega (arith, h))

names_gone : (xs : List (List ℕ)) (i : ℕ) → length xs ≤ i → drop i xs ≡ []
names_gone [] zero h = refl
names_gone [] (suc i) h = refl
names_gone (x ∷ xs) zero h = absurd (omega (arith, h))
names_gone (x ∷ xs) (suc i) h = names_gone xs i (omega (arith, h))

drop_zero : (xs : List (List ℕ)) → drop 0 xs ≡ xs
drop_zero [] = refl
drop_zero (x ∷ xs) = refl

-- with those that are left all outputs are told
abbrev pub NotedLeft : Table → Later → ℕ → List Noted → ℕ → Type 0
NotedLeft t l f ns i =
    (ms : List Noted) → AreNoted t l f (drop i (names_of t f)) ms → AreNoted t l f (names_of t f) (ns ++ ms)

module _ (t : Table) (l : Later) (f : ℕ) where
  pub noted_begins : (ns : List Noted) → ns ≡ [] → NotedLeft t l f ns 0
  noted_begins ns e ms h =
      subst (λ (ks : List Noted). AreNoted t l f (names_of t f) (ks ++ ms)) (sym e)
      (subst (λ (xs : List (List ℕ)). AreNoted t l f xs ms) (drop_zero (names_of t f)) h)

  pub noted_more : (ns new : List Noted) (i : ℕ) (n : Noted) → i < length (names_of t f)
      → IsNoted t l f (name_at (names_of t f) i) n → new ≡ ns ++ n ∷ [] → NotedLeft t l f ns i
      → NotedLeft t l f new (i + 1)
  noted_more ns new i n h told e left ms later =
      let rest : AreNoted t l f (drop (suc i) (names_of t f)) ms =
      subst (λ (k : ℕ). AreNoted t l f (drop k (names_of t f)) ms) (let z : i + 1 ≡ suc i = omega arith in z) later in
      let here : AreNoted t l f (drop i (names_of t f)) (n ∷ ms) =
      subst (λ (xs : List (List ℕ)). AreNoted t l f xs (n ∷ ms)) (sym (names_here (names_of t f) i h)) (told, rest) in
      subst (AreNoted t l f (names_of t f))
      (sym (append_assoc ns (n ∷ []) ms) ∙ ap (λ (ks : List Noted). ks ++ ms) (sym e)) (left (n ∷ ms) here)

  pub noted_ends : (ns : List Noted) (i : ℕ) → length (names_of t f) ≤ i → NotedLeft t l f ns i
      → AreNoted t l f (names_of t f) ns
  noted_ends ns i h left =
      subst (AreNoted t l f (names_of t f)) (append-nil ns)
      (left [] (subst (λ (xs : List (List ℕ)). AreNoted t l f xs []) (sym (names_gone (names_of t f) i h)) tt))
