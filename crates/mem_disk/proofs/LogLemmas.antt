-- Logs that grow.
use Rattle.std.proofs.Common.{◌≡◌, ℕ, ◌+◌, ◌≤◌, List, [], ◌∷◌, ◌++◌, length, take, drop, ◌∙◌, ap, arith, length-drop}
use Rattle.std.proofs.lemmas.List.{take-append-le, drop-append-le, take_all}
use Rattle.mem_disk.specs.declared.change.Entry.{Entry}
use Rattle.mem_disk.specs.Moves.{Step}
use Rattle.mem_disk.specs.Log.{size_of, move_of, steps_of, total}

pub total-push : (entries : List Entry) (entry : Entry)
    → total (entries ++ entry ∷ []) ≡ total entries + size_of entry.change
total-push [] entry = omega arith
total-push (e ∷ entries) entry = omega (arith, total-push entries entry)

-- one change more, with its bytes after those of the others
pub steps-push : (entries : List Entry) (entry : Entry) (bytes more : List ℕ) → total entries ≡ length bytes
    → size_of entry.change ≡ length more
    → steps_of (bytes ++ more) (entries ++ entry ∷ []) ≡ steps_of bytes entries
    ++ (entry.part, move_of entry.change more) ∷ []
steps-push [] entry [] more whole size =
    ap (λ (l : List ℕ). (let s : Step = (entry.part, move_of entry.change l) in s) ∷ [])
    (take_all (size_of entry.change) more (omega arith))
steps-push [] entry (b ∷ bytes) more whole size = absurd (omega arith)
steps-push (e ∷ entries) entry bytes more whole size =
    let n = size_of e.change in
    let fits : n ≤ length bytes = omega arith in
    let first : take n (bytes ++ more) ≡ take n bytes = take-append-le n bytes more fits in
    let rest : drop n (bytes ++ more) ≡ drop n bytes ++ more = drop-append-le n bytes more fits in
    (λ i. (let s : Step = (e.part, move_of e.change (first i)) in s)
    ∷ (ap (λ (l : List ℕ). steps_of l (entries ++ entry ∷ [])) rest
    ∙ steps-push entries entry (drop n bytes) more (omega (arith, length-drop n bytes)) size) i)
