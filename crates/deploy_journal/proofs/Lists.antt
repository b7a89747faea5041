-- Parts of records, byte by byte.
use Rattle.std.proofs.Common.{◌≡◌, ◌≢◌, inl, inr, ⊎_elim, ℕ, ◌+◌, ◌-◌, ◌≤◌, List, [], ◌∷◌, ◌++◌, length, get_or, take}
use Rattle.std.proofs.Common.{drop, replicate, refl, sym, ◌∙◌, ap, arith, append_assoc, length-append}
use Rattle.std.proofs.Common.{take-append-drop}
use Rattle.std.proofs.lemmas.List.{take_at, drop_at, drop-drop, append-nil, length-take-le, drop_more}
use Rattle.std.proofs.lemmas.Bool.{cases_eq}
use Rattle.arm_edges.specs.Disk.{overwritten, Torn}
use Rattle.deploy_journal.specs.Records.{patched, eight, Record, body, body_bytes, spelled, beginning, Holds, IsOneOf}

no_zeros : (n : ℕ) → n ≡ 0 → replicate {A = ℕ} n 0 ≡ []
no_zeros n is = ap (λ (k : ℕ). replicate {A = ℕ} k 0) is

pub overwritten_within : (at : ℕ) (bytes old : List ℕ) → at ≤ length old
    → overwritten at bytes old ≡ patched at bytes old
overwritten_within at [] old within = sym (take-append-drop at old)
    ∙ ap (λ (n : ℕ). take at old ++ drop n old) (omega arith)
overwritten_within at (b ∷ bytes) old within =
    ap (λ (l : List ℕ). (take at old ++ l) ++ (b ∷ bytes ++ drop (at + length (b ∷ bytes)) old))
    (no_zeros (at - length old) (omega arith))
    ∙ ap (λ (l : List ℕ). l ++ (b ∷ bytes ++ drop (at + length (b ∷ bytes)) old)) (append-nil (take at old))

pub patched_more : (at next end : ℕ) (done bytes old : List ℕ) → at ≤ length old → next ≡ at + length done
    → patched next bytes (patched at done old) ≡ patched at (done ++ bytes) old
patched_more at next end done bytes old within is =
    let front = take at old in
    let rest = drop (at + length done) old in
    let size : length (front ++ done) ≡ next =
    omega (arith, is, length-append front done, length-take-le at old within) in
    let split : patched at done old ≡ (front ++ done) ++ rest = sym (append_assoc front done rest) in
    let taken : take next (patched at done old) ≡ front ++ done = ap (λ (l : List ℕ). take next l) split
    ∙ take_at (front ++ done) rest next size in
    let dropped : drop (next + length bytes) (patched at done old) ≡ drop (at + length (done ++ bytes)) old =
    sym (drop-drop (length bytes) next (patched at done old))
    ∙ ap (λ (l : List ℕ). drop (length bytes) l) (ap (λ (l : List ℕ). drop next l) split
    ∙ drop_at (front ++ done) rest next size)
    ∙ drop-drop (length bytes) (at + length done) old
    ∙ ap (λ (n : ℕ). drop n old) (omega (arith, length-append done bytes)) in
    (λ i. taken i ++ (bytes ++ dropped i))
    ∙ append_assoc front done (bytes ++ drop (at + length (done ++ bytes)) old)
    ∙ ap (λ (l : List ℕ). front ++ l) (sym (append_assoc done bytes (drop (at + length (done ++ bytes)) old)))

pub spelled-append : (records : List Record) (k : List ℕ) → spelled records k ≡ spelled records [] ++ k
spelled-append [] k = refl
spelled-append (r ∷ records) k = ap (λ (l : List ℕ). 1 ∷ body r l) (spelled-append records k)
    ∙ ap (λ (l : List ℕ). 1 ∷ l) (body-append r (spelled records []) k)
  where
    body-append : (r : Record) (x y : List ℕ) → body r (x ++ y) ≡ body r x ++ y
    body-append r x y = simp append_assoc

pub spelled-push : (records : List Record) (r : Record) (k : List ℕ)
    → spelled (records ++ r ∷ []) k ≡ spelled records (1 ∷ body r k)
spelled-push [] r k = refl
spelled-push (e ∷ records) r k = ap (λ (l : List ℕ). 1 ∷ body e l) (spelled-push records r k)

pub length-eight : (n : ℕ) → length (eight n) ≡ 8
unfolding eight
length-eight n = refl

pub length_patched : (at : ℕ) (bytes old : List ℕ) → at ≤ length old → at + length bytes ≤ length (patched at bytes old)
length_patched at bytes old within =
    omega (
      arith,
      length-append (take at old) (bytes ++ drop (at + length bytes) old),
      length-append bytes (drop (at + length bytes) old),
      length-take-le at old within,
    )

-- a body that is written in four pieces
pub written_body : (at kind : ℕ) (first second old m1 m2 m3 m4 : List ℕ) → at ≤ length old
    → (at ≤ length old → m1 ≡ patched at (kind ∷ (eight (length first) ++ eight (length second))) old)
    → (at + 17 ≤ length m1 → m2 ≡ patched (at + 17) first m1)
    → (at + 17 + length first ≤ length m2 → m3 ≡ patched (at + 17 + length first) second m2)
    → (at + 17 + length first + length second ≤ length m3
    → m4 ≡ patched (at + 17 + length first + length second) (0 ∷ []) m3)
    → m4 ≡ patched at (body_bytes kind first second (0 ∷ [])) old
written_body at kind first second old m1 m2 m3 m4 within w1 w2 w3 w4 =
    let head : List ℕ = kind ∷ (eight (length first) ++ eight (length second)) in
    let size : length head ≡ 17 = omega (
      arith,
      length-append (eight (length first)) (eight (length second)),
      length-eight (length first),
      length-eight (length second),
    ) in
    let e1 : m1 ≡ patched at head old = w1 within in
    let l1 : at + 17 ≤ length m1 = omega (arith, size, ap length e1, length_patched at head old within) in
    let e2 : m2 ≡ patched at (head ++ first) old = w2 l1 ∙ ap (λ (m : List ℕ). patched (at + 17) first m) e1
    ∙ patched_more at (at + 17) 0 head first old within (omega (arith, size)) in
    let size2 : length (head ++ first) ≡ 17 + length first = omega (arith, size, length-append head first) in
    let l2 : at + 17 + length first ≤ length m2 =
    omega (arith, size2, ap length e2, length_patched at (head ++ first) old within) in
    let e3 : m3 ≡ patched at (head ++ first ++ second) old = w3 l2
    ∙ ap (λ (m : List ℕ). patched (at + 17 + length first) second m) e2
    ∙ patched_more at (at + 17 + length first) 0 (head ++ first) second old within (omega (arith, size2)) in
    let size3 : length (head ++ first ++ second) ≡ 17 + length first + length second =
    omega (arith, size2, length-append (head ++ first) second) in
    let l3 : at + 17 + length first + length second ≤ length m3 =
    omega (arith, size3, ap length e3, length_patched at (head ++ first ++ second) old within) in
    let e4 : m4 ≡ patched at (head ++ first ++ second ++ (0 ∷ [])) old = w4 l3
    ∙ ap (λ (m : List ℕ). patched (at + 17 + length first + length second) (0 ∷ []) m) e3
    ∙ patched_more at (at + 17 + length first + length second) 0 (head ++ first ++ second) (0 ∷ []) old within
    (omega (arith, size3)) in
    let same : head ++ first ++ second ++ (0 ∷ []) ≡ body_bytes kind first second (0 ∷ []) = simp append_assoc in
    e4 ∙ ap (λ (l : List ℕ). patched at l old) same

abbrev pub front_of : List Record → List ℕ
front_of records = beginning ++ spelled records []

pub length-front : (records : List Record) (at : ℕ) → at ≡ 16 + length (spelled records [])
    → length (front_of records) ≡ at
length-front records at is = omega (arith, is)

pub split_at : (records : List Record) (k : List ℕ) → beginning ++ spelled records k ≡ front_of records ++ k
split_at records k = ap (λ (l : List ℕ). beginning ++ l) (spelled-append records k)

-- a file that is the front and a closed gate holds the records
pub holds_from : (records : List Record) (at gate : ℕ) (rest file : List ℕ) → at ≡ 16 + length (spelled records [])
    → gate ≢ 1 → file ≡ front_of records ++ (gate ∷ rest) → Holds records at file
holds_from records at gate rest file place closed is =
    record {
      gate = gate;
      rest = rest;
      closed = closed;
      is = is ∙ sym (split_at records (gate ∷ rest));
      place =
          place;
    }

pub holds_split : (records : List Record) (at : ℕ) (file : List ℕ) (h : Holds records at file)
    → file ≡ front_of records ++ (h.gate ∷ h.rest)
holds_split records at file h = h.is ∙ split_at records (h.gate ∷ h.rest)

-- what keeps the bytes up to the closed gate keeps the records
pub kept_front : (records : List Record) (at : ℕ) (old new : List ℕ) → Holds records at old
    → take (at + 1) new ≡ take (at + 1) old → Holds records at new
kept_front records at old new h same =
    let front : List ℕ = front_of records ++ (h.gate ∷ []) in
    let size : length front ≡ at + 1 =
    omega (arith, length-append (front_of records) (h.gate ∷ []), length-front records at h.place) in
    let split : old ≡ front ++ h.rest = holds_split records at old h
    ∙ sym (append_assoc (front_of records) (h.gate ∷ []) h.rest) in
    let taken : take (at + 1) new ≡ front = same ∙ ap (λ (l : List ℕ). take (at + 1) l) split
    ∙ take_at front h.rest (at + 1) size in
    let whole : new ≡ front_of records ++ (h.gate ∷ drop (at + 1) new) =
    sym (take-append-drop (at + 1) new) ∙ ap (λ (l : List ℕ). l ++ drop (at + 1) new) taken
    ∙ append_assoc (front_of records) (h.gate ∷ []) (drop (at + 1) new) in
    holds_from records at h.gate (drop (at + 1) new) new h.place h.closed whole

pub holds_within : (records : List Record) (at : ℕ) (file : List ℕ) → Holds records at file → at + 1 ≤ length file
holds_within records at file h =
    omega (
      arith,
      ap length (holds_split records at file h),
      length-append (front_of records) (h.gate ∷ h.rest),
      length-front records at h.place,
    )

-- the file with a record's bytes after its closed gate
pub staged : (records : List Record) (at : ℕ) (r : Record) (old : List ℕ) (h : Holds records at old)
    → (rest : List ℕ) × (patched (at + 1) (body r (0 ∷ [])) old ≡ front_of records ++ (h.gate ∷ body r (0 ∷ rest)))
staged records at r old h =
    let front : List ℕ = front_of records ++ (h.gate ∷ []) in
    let size : length front ≡ at + 1 =
    omega (arith, length-append (front_of records) (h.gate ∷ []), length-front records at h.place) in
    let split : old ≡ front ++ h.rest = holds_split records at old h
    ∙ sym (append_assoc (front_of records) (h.gate ∷ []) h.rest) in
    let taken : take (at + 1) old ≡ front = ap (λ (l : List ℕ). take (at + 1) l) split
    ∙ take_at front h.rest (at + 1) size in
    let end = drop (at + 1 + length (body r (0 ∷ []))) old in
    let joined : body r (0 ∷ []) ++ end ≡ body r (0 ∷ end) = simp append_assoc in (
      end,
      ap (λ (l : List ℕ). l ++ (body r (0 ∷ []) ++ end)) taken
          ∙ append_assoc (front_of records) (h.gate ∷ []) (body r (0 ∷ []) ++ end)
          ∙ ap (λ (l : List ℕ). front_of records ++ (h.gate ∷ l)) joined,
    )

pub size_body : (r : Record) (k : List ℕ) → length (body r k) ≡ 17 + length r.first + length r.second + length k
size_body r k =
    omega (
      arith,
      length-eight (length r.first),
      length-eight (length r.second),
      length-append (eight (length r.first)) (eight (length r.second) ++ (r.first ++ (r.second ++ k))),
      length-append (eight (length r.second)) (r.first ++ (r.second ++ k)),
      length-append r.first (r.second ++ k),
      length-append r.second k,
    )

pub size_spelled : (records : List Record) (k : List ℕ)
    → length (spelled records k) ≡ length (spelled records []) + length k
size_spelled records k = omega (arith, ap length (spelled-append records k), length-append (spelled records []) k)

-- an open gate before it adds the record
pub opened : (records : List Record) (at next : ℕ) (r : Record) (rest file : List ℕ)
    → at ≡ 16 + length (spelled records []) → next ≡ at + (18 + length r.first + length r.second)
    → file ≡ front_of records ++ (1 ∷ body r (0 ∷ rest)) → Holds (records ++ r ∷ []) next file
opened records at next r rest file place more is = record {
  gate = 0;
  rest = rest;
  closed = omega arith;
  is = is ∙ sym (split_at records (1 ∷ body r (0 ∷ rest)))
      ∙ ap (λ (l : List ℕ). beginning ++ l) (sym (spelled-push records r (0 ∷ rest)));
  place = omega (
    arith,
    place,
    more,
    ap length (spelled-push records r []),
    size_spelled records (1 ∷ body r []),
    size_body r [],
  );
}

-- any gate there gives the records with it or without it
pub one_of : (records : List Record) (at gate : ℕ) (r : Record) (rest file : List ℕ)
    → at ≡ 16 + length (spelled records [])
    → file ≡ front_of records ++ (gate ∷ body r (0 ∷ rest)) → IsOneOf records r file
one_of records at gate r rest file place is = ⊎_elim
    (λ (open_gate : gate ≡ 1). inr (
      at + (18 + length r.first + length r.second),
      opened records at (at + (18 + length r.first + length r.second)) r rest file place refl (is
          ∙ ap (λ (b : ℕ). front_of records ++ (b ∷ body r (0 ∷ rest))) open_gate),
    ))
    (λ (shut : gate ≢ 1). inl (at, holds_from records at gate (body r (0 ∷ rest)) file place shut is))
    (cases_eq gate 1)

-- what follows the gate
past_gate : (records : List Record) (at gate : ℕ) (r : Record) (rest old : List ℕ) → length (front_of records) ≡ at
    → old ≡ front_of records ++ (gate ∷ body r (0 ∷ rest)) → drop (at + 1) old ≡ body r (0 ∷ rest)
past_gate records at gate r rest old size is =
    ap (λ (l : List ℕ). drop (at + 1) l) (is ∙ sym (append_assoc (front_of records) (gate ∷ []) (body r (0 ∷ rest))))
    ∙ drop_at (front_of records ++ (gate ∷ [])) (body r (0 ∷ rest)) (at + 1)
    (omega (arith, size, length-append (front_of records) (gate ∷ [])))

body_more : (r : Record) (x y : List ℕ) → body r x ++ y ≡ body r (x ++ y)
body_more r x y = simp append_assoc

-- the gate's write, torn
pub torn_gate : (records : List Record) (at gate : ℕ) (r : Record) (rest old new : List ℕ)
    → at ≡ 16 + length (spelled records []) → old ≡ front_of records ++ (gate ∷ body r (0 ∷ rest))
    → Torn at 1 old new → IsOneOf records r new
torn_gate records at gate r rest old new place is torn =
    let size = length-front records at place in
    let long : at + 1 ≤ length old =
    omega (arith, ap length is, size, length-append (front_of records) (gate ∷ body r (0 ∷ rest))) in
    let front : take at new ≡ front_of records = ap (λ (n : ℕ). take n new) (omega (arith, long)) ∙ torn.before
    ∙ ap (λ (l : List ℕ). take at l) is ∙ take_at (front_of records) (gate ∷ body r (0 ∷ rest)) at size in
    let tail = drop (length old - (at + 1)) (drop (at + 1) new) in
    let back : drop (at + 1) new ≡ body r (0 ∷ rest ++ tail) =
    sym (take-append-drop (length old - (at + 1)) (drop (at + 1) new))
    ∙ ap (λ (l : List ℕ). l ++ tail) (torn.after ∙ past_gate records at gate r rest old size is)
    ∙ body_more r (0 ∷ rest) tail in
    let byte = get_or new at 0 in
    let whole : new ≡ front_of records ++ (byte ∷ body r (0 ∷ rest ++ tail)) =
    sym (take-append-drop at new) ∙ ap (λ (l : List ℕ). l ++ drop at new) front
    ∙ ap (λ (l : List ℕ). front_of records ++ l) (drop_more new at 0 (omega (arith, long, torn.no_shorter))
    ∙ ap (λ (l : List ℕ). byte ∷ l) back) in
    one_of records at byte r (rest ++ tail) new place whole

-- the gate's write, done
pub written_gate : (records : List Record) (at next gate : ℕ) (r : Record) (rest old : List ℕ)
    → at ≡ 16 + length (spelled records []) → next ≡ at + (18 + length r.first + length r.second)
    → old ≡ front_of records ++ (gate ∷ body r (0 ∷ rest)) → Holds (records ++ r ∷ []) next (patched at (1 ∷ []) old)
written_gate records at next gate r rest old place more is =
    let size = length-front records at place in
    let front : take at old ≡ front_of records = ap (λ (l : List ℕ). take at l) is
    ∙ take_at (front_of records) (gate ∷ body r (0 ∷ rest)) at size in
    let back = past_gate records at gate r rest old size is in
    opened records at next r rest (patched at (1 ∷ []) old) place more (λ i. front i ++ (1 ∷ back i))
