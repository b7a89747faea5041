-- Lengths in eight bytes.
use Rattle.std.proofs.Common.{◌≡◌, ℕ, ◌+◌, ◌<◌, ◌≤◌, List, [], ◌∷◌, ◌++◌, length, get_or, take, drop, sym, ◌∙◌, ap}
use Rattle.std.proofs.Common.{arith, take-append-drop, length-drop, length-append, append_assoc, ◌^◌}
use Rattle.std.proofs.lemmas.List.{take_all, length-take-le, take-append-le, take_at, drop-drop}
use Rattle.std.proofs.Math.Seq.{take-append-add, take-add}
use borrow.Rule.Slice.PartMut.{put_mid}
use Rattle.deploy_journal.specs.Records.{eight, Record, body, body_bytes}
use Rattle.deploy_journal.proofs.Lists.{length-eight, size_body}
use Rattle.deploy_journal.proofs.Unique.{parts_same, eight_same}

pub header_split : (h : List ℕ) → length h ≡ 17 → h ≡ get_or h 0 0 ∷ (take 8 (drop 1 h) ++ take 8 (drop 9 h))
header_split [] is = absurd (omega arith)
header_split (x ∷ t) is =
    ap (λ (l : List ℕ). x ∷ l) (sym (take-append-drop 8 t)
    ∙ ap (λ (l : List ℕ). take 8 t ++ l) (sym (take_all 8 (drop 8 t) (omega (arith, length-drop 8 t)))))

pub length_put : (done k : ℕ) (buf part : List ℕ) → done + k ≡ length buf → length part ≡ k
    → length (put_mid done k buf part) ≡ length buf
length_put done k buf part all size =
    omega (
      arith,
      length-append (take done buf) (part ++ drop k (drop done buf)),
      length-append part (drop k (drop done buf)),
      length-take-le done buf (omega arith),
      length-drop k (drop done buf),
      length-drop done buf,
    )

-- a read after what was read
pub read_more : (done k n : ℕ) (buf part file : List ℕ) → done + k ≡ length buf → length part ≡ k → n ≤ k
    → take done buf ≡ take done file → take n part ≡ take n (drop done file)
    → take (done + n) (put_mid done k buf part) ≡ take (done + n) file
read_more done k n buf part file all size below so_far more =
    let post = drop k (drop done buf) in
    let front = take done buf in
    let first : length front ≡ done = length-take-le done buf (omega arith) in
    let joined : take (done + n) (front ++ (part ++ post)) ≡ front ++ take n (part ++ post) =
    ap (λ (m : ℕ). take (m + n) (front ++ (part ++ post))) (sym first) ∙ take-append-add front (part ++ post) n in
    joined ∙ ap (λ (l : List ℕ). front ++ l) (take-append-le n part post (omega (arith, size, below)))
    ∙ (λ i. so_far i ++ more i) ∙ sym (take-add done n file)

header_is : (header : List ℕ) (a b : ℕ) → length header ≡ 17 → eight a ≡ take 8 (drop 1 header)
    → eight b ≡ take 8 (drop 9 header) → header ≡ get_or header 0 0 ∷ (eight a ++ eight b)
header_is header a b size first second = header_split header size
    ∙ (λ i. get_or header 0 0 ∷ (sym first i ++ sym second i))

-- the lengths in a header are those of the record there
pub lengths_are : (r : Record) (k file header : List ℕ) (a b : ℕ) → file ≡ body r k → length header ≡ 17
    → header ≡ take 17 file → eight a ≡ take 8 (drop 1 header) → eight b ≡ take 8 (drop 9 header)
    → a < 2 ^ 64 → b < 2 ^ 64 → length file < 2 ^ 64 → (a ≡ length r.first) × (b ≡ length r.second)
lengths_are r k file header a b is size header_at first second small_a small_b small =
    let front : List ℕ = r.kind ∷ (eight (length r.first) ++ eight (length r.second)) in
    let rest = r.first ++ (r.second ++ k) in
    let front_size : length front ≡ 17 =
    omega (
      arith,
      length-append (eight (length r.first)) (eight (length r.second)),
      length-eight (length r.first),
      length-eight (length r.second),
    ) in
    let split : body r k ≡ front ++ rest = simp append_assoc in
    let whole : get_or header 0 0 ∷ (eight a ++ eight b) ≡ front =
    sym (header_is header a b size first second) ∙ header_at ∙ ap (λ (l : List ℕ). take 17 l) (is ∙ split)
    ∙ take_at front rest 17 front_size in
    let numbers : eight a ++ eight b ≡ eight (length r.first) ++ eight (length r.second) = cc in
    let both = parts_same 8 (eight a) (eight (length r.first)) (eight b) (eight (length r.second)) (length-eight a)
    (length-eight (length r.first)) numbers in
    let long : length file ≡ length (body r k) = ap length is in (
      eight_same a (length r.first) small_a (omega (arith, size_body r k)) both.0,
      eight_same b (length r.second) small_b (omega (arith, size_body r k)) both.1,
    )

-- what was read is the record there
pub body_read : (file header first second : List ℕ) (a b : ℕ) → length header ≡ 17 → header ≡ take 17 file
    → eight a ≡ take 8 (drop 1 header) → eight b ≡ take 8 (drop 9 header)
    → length first ≡ a → length second ≡ b → first ≡ take a (drop 17 file) → second ≡ take b (drop (17 + a) file)
    → file ≡ body_bytes (get_or header 0 0) first second (drop (17 + length first + length second) file)
body_read file header first second a b size header_at first_len second_len size_a size_b first_is second_is =
    let after : drop (17 + length first + length second) file ≡ drop b (drop (17 + a) file) =
    ap (λ (n : ℕ). drop n file) (omega arith) ∙ sym (drop-drop b (17 + a) file) in
    let tail : drop (17 + a) file ≡ second ++ drop (17 + length first + length second) file =
    sym (take-append-drop b (drop (17 + a) file)) ∙ (λ i. sym second_is i ++ sym after i) in
    let mid : drop 17 file ≡ first ++ (second ++ drop (17 + length first + length second) file) =
    sym (take-append-drop a (drop 17 file)) ∙ (λ i. sym first_is i ++ drop-drop a 17 file i)
    ∙ ap (λ (l : List ℕ). first ++ l) tail in
    let head : take 17 file ≡ get_or header 0 0 ∷ (eight (length first) ++ eight (length second)) =
    sym header_at ∙ header_is header a b size first_len second_len
    ∙ (λ i. get_or header 0 0 ∷ (eight (sym size_a i) ++ eight (sym size_b i))) in
    let rest = first ++ (second ++ drop (17 + length first + length second) file) in
    let regroup : (get_or header 0 0 ∷ (eight (length first) ++ eight (length second))) ++ rest
    ≡ body_bytes (get_or header 0 0) first second (drop (17 + length first + length second) file) =
    simp append_assoc in
    sym (take-append-drop 17 file) ∙ (λ i. head i ++ mid i) ∙ regroup
