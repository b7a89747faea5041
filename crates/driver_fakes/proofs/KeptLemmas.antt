-- The notes of a book in memory, with one more.
use Rattle.std.proofs.Common.{◌≡◌, ◌+◌, ℕ, List, [], ◌∷◌, ◌++◌, length, take, drop, refl, ap, ap₂, ◌∙◌}
use Rattle.std.proofs.Common.{arith, length-drop}
use Rattle.std.proofs.lemmas.List.{take_at, drop_at, take_all, take-append-le, drop-append-le}
use Rattle.driver_fakes.specs.Kept.{note, notes_in, size_of}
use Rattle.driver_fakes.specs.declared.notes.Entry.{Entry}

-- the entry of a note of these parts
abbrev pub entry : ℕ → List ℕ → List ℕ → Entry
entry kind first second = record { kind = kind; first = length first; second = length second }

pub size_of-push : (es : List Entry) (e : Entry) → size_of (es ++ e ∷ []) ≡ size_of es + (e.first + e.second)
size_of-push [] e = omega arith
size_of-push (x ∷ es) e = omega (arith, size_of-push es e)

pub notes_in-push : (es : List Entry) (bytes : List ℕ) (kind : ℕ) (first second : List ℕ) → size_of es ≡ length bytes
    → notes_in (es ++ entry kind first second ∷ []) (bytes ++ (first ++ second))
    ≡ notes_in es bytes ++ note kind first second ∷ []
notes_in-push [] [] kind first second h =
    ap₂ (λ f s. note kind f s ∷ []) (take_at first second (length first) refl)
    (ap (take (length second)) (drop_at first second (length first) refl)
    ∙ take_all (length second) second (omega arith))
notes_in-push [] (b ∷ bytes) kind first second h = absurd (omega arith)
notes_in-push (e ∷ es) bytes kind first second h =
    let more = first ++ second in
    let left = drop e.first bytes in
    let size = length-drop e.first bytes in
    let one = take-append-le e.first bytes more (omega arith) in
    let cut : drop e.first (bytes ++ more) ≡ left ++ more = drop-append-le e.first bytes more (omega arith) in
    let two = ap (take e.second) cut ∙ take-append-le e.second left more (omega arith) in
    let three = ap (drop e.second) cut ∙ drop-append-le e.second left more (omega arith) in
    let rest = notes_in-push es (drop e.second left) kind first second
    (omega (arith, length-drop e.second left)) in
    λ i. note e.kind (one i) (two i) ∷ (ap (notes_in (es ++ entry kind first second ∷ [])) three ∙ rest) i
