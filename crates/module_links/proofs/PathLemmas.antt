-- The parts of a path.
use Rattle.std.proofs.Common.{◌≡◌, ℕ, ◌-◌, List, [], ◌∷◌, ◌++◌, length, take, refl, sym, ◌∙◌, ap}
use Rattle.std.proofs.Common.{arith, Option, Result, Ok, Err, length-append}
use Rattle.std.specs.Prelude.{IfOk}
use Rattle.arm_ids.specs.Segments.{segments}
use Rattle.arm_ids.proofs.TextLemmas.{some_segment}
use Rattle.module_links.specs.Paths.{last, front, folder_of, walked, named_in, file_at}

last_of : (rest : List (List ℕ)) (x : List ℕ) → last (rest ++ x ∷ []) ≡ x
last_of [] x = refl
last_of (r ∷ []) x = refl
last_of (r ∷ s ∷ rest) x = last_of (s ∷ rest) x

taken : (rest more : List (List ℕ)) → take (length rest) (rest ++ more) ≡ rest
taken [] more = refl
taken (r ∷ rest) more = ap (λ xs. r ∷ xs) (taken rest more)

front_of : (rest : List (List ℕ)) (x : List ℕ) → front (rest ++ x ∷ []) ≡ rest
front_of rest x =
    let n : length (rest ++ x ∷ []) - 1 ≡ length rest = rw length-append (omega arith) in
    ap (λ k. take k (rest ++ x ∷ [])) n ∙ taken rest (x ∷ [])

-- what is found from the parts of a path is what the path names
pub file_found : {E : Type 0} (r : Result (Option (List ℕ)) E) (file path name : List ℕ)
    (folder steps parts : List (List ℕ)) → IfOk r (λ o. o ≡ named_in name (walked folder steps))
    → folder ≡ folder_of file → parts ≡ segments path → parts ≡ steps ++ name ∷ [] → IfOk r (λ o. o ≡ file_at file path)
unfolding file_at
file_found (Ok o) file path name folder steps parts h e f g =
    let whole : segments path ≡ steps ++ name ∷ [] = sym f ∙ g in
    let l : last (segments path) ≡ name = ap last whole ∙ last_of steps name in
    let r : front (segments path) ≡ steps = ap front whole ∙ front_of steps name in
    h ∙ (λ i. named_in (sym l i) (walked (e i) (sym r i)))
file_found (Err x) file path name folder steps parts h e f g = tt

-- a path has a part
pub some_parts : (path : List ℕ) → length (segments path) ≡ 0 → ⊥
some_parts path h = let some = some_segment path in omega (arith, ap length some.2, h)
