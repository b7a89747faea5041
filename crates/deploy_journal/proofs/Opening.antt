-- What an opening finds, place by place.
use Rattle.std.proofs.Common.{◌≡◌, ◌≢◌, inl, inr, ℕ, ◌+◌, ◌≤◌, ◌<◌, List, [], ◌∷◌, ◌++◌, length, get_or, take, drop}
use Rattle.std.proofs.Common.{sym, ◌∙◌, ap, arith, length-drop}
use Rattle.std.proofs.lemmas.List.{drop_more, drop-drop, drop_all}
use Rattle.deploy_journal.specs.Records.{Record, body, spelled, beginning, Holds, IsDamagedAt, IsCutShort}
use Rattle.deploy_journal.proofs.Lists.{spelled-push, size_body, size_spelled}

pub gate_there : (at : ℕ) (buf file : List ℕ) → at < length file → buf ≡ take 1 (drop at file) → get_or buf 0 0 ≡ 1
    → drop at file ≡ 1 ∷ drop (at + 1) file
gate_there at buf file within is one =
    let split = drop_more file at 0 within in
    let byte : get_or file at 0 ≡ get_or buf 0 0 =
    sym (ap (λ (l : List ℕ). get_or l 0 0) (is ∙ ap (λ (l : List ℕ). take 1 l) split)) in
    split ∙ ap (λ (b : ℕ). b ∷ drop (at + 1) file) (byte ∙ one)

-- one record more
pub step : (records : List Record) (r : Record) (at : ℕ) (file : List ℕ)
    → beginning ++ spelled records (drop at file) ≡ file
    → drop at file ≡ 1 ∷ body r (drop (18 + length r.first + length r.second) (drop at file))
    → beginning ++ spelled (records ++ r ∷ []) (drop (at + (18 + length r.first + length r.second)) file) ≡ file
step records r at file so_far here =
    let n = 18 + length r.first + length r.second in
    let later : drop (at + n) file ≡ drop n (drop at file) = sym (drop-drop n at file) in
    ap (λ (l : List ℕ). beginning ++ l) (ap (λ (l : List ℕ). spelled (records ++ r ∷ []) l) later
    ∙ spelled-push records r (drop n (drop at file)) ∙ ap (λ (l : List ℕ). spelled records l) (sym here)) ∙ so_far

pub step_place : (records : List Record) (r : Record) (at : ℕ) → at ≡ 16 + length (spelled records [])
    → at + (18 + length r.first + length r.second) ≡ 16 + length (spelled (records ++ r ∷ []) [])
step_place records r at place =
    omega (arith, place, ap length (spelled-push records r []), size_spelled records (1 ∷ body r []), size_body r [])

-- the end, at a closed gate
pub ended : (records : List Record) (at : ℕ) (file : List ℕ) → at ≡ 16 + length (spelled records [])
    → beginning ++ spelled records (drop at file) ≡ file
    → (gate : ℕ) (k : List ℕ) → gate ≢ 1 → drop at file ≡ gate ∷ k → Holds records at file
ended records at file place so_far gate k closed here = record {
  gate = gate;
  rest = k;
  closed = closed;
  is = sym so_far ∙ ap (λ (l : List ℕ). beginning ++ spelled records l) here;
  place = place;
}

-- damage in the place of a gate, or of a record
pub no_gate : (records : List Record) (at : ℕ) (file : List ℕ) → beginning ++ spelled records (drop at file) ≡ file
    → at ≡ length file → IsDamagedAt file at
no_gate records at file so_far end =
    inr (records, drop at file, sym so_far, omega (arith, length-drop at file), inl (drop_all at file (omega arith)))

pub cut_short : (records : List Record) (at : ℕ) (file cut : List ℕ)
    → beginning ++ spelled records (drop at file) ≡ file → at ≤ length file → drop at file ≡ 1 ∷ cut → IsCutShort cut
    → IsDamagedAt file at
cut_short records at file cut so_far within here none =
    inr (records, drop at file, sym so_far, omega (arith, length-drop at file), inr (cut, here, none))
