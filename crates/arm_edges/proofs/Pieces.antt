-- Reads piece by piece.
use Rattle.std.proofs.Common.{◌≡◌, ℕ, ◌+◌, ◌≤◌, ◌<◌, List, [], ◌++◌, length, take, drop, sym, ◌∙◌, ap, arith}
use Rattle.std.proofs.Common.{take-append-drop}
use Rattle.std.proofs.lemmas.List.{take_at, drop-drop, length-take-le}
use Rattle.std.proofs.Math.Seq.{take-add}
use Rattle.arm_edges.specs.Flow.{Moved}

-- a copy of the next n bytes at the front of the buffer
pub moved : (bytes buf copy : List ℕ) (at n : ℕ) → n ≤ length (drop at bytes) → copy ≡ take n (drop at bytes)
    → (n ≡ 0 → 0 < length buf → drop at bytes ≡ []) → length (copy ++ drop n buf) ≡ length buf
    → Moved n (drop at bytes) (drop (at + n) bytes) (copy ++ drop n buf)
moved bytes buf copy at n within is ends size =
    let long : length copy ≡ n = omega (arith, ap length is, length-take-le n (drop at bytes) within) in
    record {
      bytes = sym (take-append-drop n (drop at bytes))
          ∙ (λ i. (sym is ∙ sym (take_at copy (drop n buf) n long)) i ++ drop-drop n at bytes i);
      ends = λ none some. ends none (omega arith);
    }

-- what was read so far, and the next n bytes, which are at the front of the buffer
pub also_received : (bytes buf copy : List ℕ) (at n : ℕ) → n ≤ length (drop at bytes) → copy ≡ take n (drop at bytes)
    → take (at + n) bytes ≡ take at bytes ++ take n (copy ++ drop n buf)
also_received bytes buf copy at n within is =
    let long : length copy ≡ n = omega (arith, ap length is, length-take-le n (drop at bytes) within) in
    take-add at n bytes
    ∙ ap (λ (l : List ℕ). take at bytes ++ l) (sym is ∙ sym (take_at copy (drop n buf) n long))
