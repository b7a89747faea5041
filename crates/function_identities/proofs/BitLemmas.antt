-- Bits of bytes by their places, and groups of five of them.
use Rattle.std.proofs.Common.{◌≡◌, ◌<◌, ◌≤◌, ◌+◌, ◌-◌, ◌*◌, ◌/◌, ◌%◌, ◌^◌, ◌∙◌, ℕ, zero, suc, List, [], ◌∷◌, ◌++◌}
use Rattle.std.proofs.Common.{length, map, drop, refl, sym, ap, subst, arith, append-nil, append_assoc}
use Rattle.std.specs.Prelude.{slice_index}
use Rattle.std.proofs.lemmas.List.{get_or-drop, drop_all, length-drop, length-map}
use Rattle.std.proofs.Math.Seq.{drop-drop}
use Rattle.std.proofs.Math.Nat.{zero-div}
use Rattle.function_identities.specs.Base32.{bits_of, group_of, groups_of, symbol_of, base32}

pub length-bits : (bytes : List ℕ) → length (bits_of bytes) ≡ length bytes * 8
unfolding bits_of
length-bits [] = refl
length-bits (b ∷ bytes) = let rest = length-bits bytes in omega (arith, rest)

-- after the last byte are zero bits
pub no_bit : (bytes : List ℕ) (place : ℕ) → length bytes ≤ place / 8 → slice_index (bits_of bytes) place ≡ 0
unfolding bits_of
no_bit [] place h = refl
no_bit (b ∷ bytes) zero h = absurd (omega arith)
no_bit (b ∷ bytes) (suc zero) h = absurd (omega arith)
no_bit (b ∷ bytes) (suc (suc zero)) h = absurd (omega arith)
no_bit (b ∷ bytes) (suc (suc (suc zero))) h = absurd (omega arith)
no_bit (b ∷ bytes) (suc (suc (suc (suc zero)))) h = absurd (omega arith)
no_bit (b ∷ bytes) (suc (suc (suc (suc (suc zero))))) h = absurd (omega arith)
no_bit (b ∷ bytes) (suc (suc (suc (suc (suc (suc zero)))))) h = absurd (omega arith)
no_bit (b ∷ bytes) (suc (suc (suc (suc (suc (suc (suc zero))))))) h = absurd (omega arith)
no_bit (b ∷ bytes) (suc (suc (suc (suc (suc (suc (suc (suc place)))))))) h = no_bit bytes place (omega arith)

-- a bit of a byte
pub bit : (bytes : List ℕ) (place : ℕ)
    → slice_index bytes (place / 8) / 2 ^ (7 - place % 8) % 2 ≡ slice_index (bits_of bytes) place
unfolding bits_of
bit [] place = rw (zero-div (2 ^ (7 - place % 8))) refl
bit (b ∷ bytes) zero = refl
bit (b ∷ bytes) (suc zero) = refl
bit (b ∷ bytes) (suc (suc zero)) = refl
bit (b ∷ bytes) (suc (suc (suc zero))) = refl
bit (b ∷ bytes) (suc (suc (suc (suc zero)))) = refl
bit (b ∷ bytes) (suc (suc (suc (suc (suc zero))))) = refl
bit (b ∷ bytes) (suc (suc (suc (suc (suc (suc zero)))))) = refl
bit (b ∷ bytes) (suc (suc (suc (suc (suc (suc (suc zero))))))) = omega arith
bit (b ∷ bytes) (suc (suc (suc (suc (suc (suc (suc (suc place)))))))) =
    let q : suc (suc (suc (suc (suc (suc (suc (suc place))))))) / 8 ≡ suc (place / 8) = omega arith in
    let r : suc (suc (suc (suc (suc (suc (suc (suc place))))))) % 8 ≡ place % 8 = omega arith in
    rw (q, r) (bit bytes place)

-- the first group and the others
groups-cons : (bits : List ℕ) → 0 < length bits
    → groups_of bits ≡ group_of (slice_index bits 0) (slice_index bits 1) (slice_index bits 2) (slice_index bits 3)
    (slice_index bits 4) ∷ groups_of (drop 5 bits)
unfolding groups_of
groups-cons [] h = absurd (omega arith)
groups-cons (a ∷ []) h = refl
groups-cons (a ∷ b ∷ []) h = refl
groups-cons (a ∷ b ∷ c ∷ []) h = refl
groups-cons (a ∷ b ∷ c ∷ d ∷ []) h = refl
groups-cons (a ∷ b ∷ c ∷ d ∷ e ∷ rest) h = refl

groups-nil : groups_of [] ≡ []
unfolding groups_of
groups-nil = refl

-- the group at a place
abbrev pub group_in : List ℕ → ℕ → ℕ
group_in bits place = group_of (slice_index bits place) (slice_index bits (place + 1)) (slice_index bits (place + 2))
    (slice_index bits (place + 3)) (slice_index bits (place + 4))

next_group : (bits : List ℕ) (place : ℕ) → place < length bits
    → groups_of (drop place bits) ≡ group_in bits place ∷ groups_of (drop (place + 5) bits)
next_group bits place h =
    let some : 0 < length (drop place bits) = omega (arith, length-drop place bits) in
    let here : place + 0 ≡ place = omega arith in
    let first : slice_index (drop place bits) 0 ≡ slice_index bits place = get_or-drop place bits 0 0
    ∙ ap (λ (i : ℕ). slice_index bits i) here in
    groups-cons (drop place bits) some
    ∙ rw (
      first,
      get_or-drop place bits 1 0,
      get_or-drop place bits 2 0,
      get_or-drop place bits 3 0,
      get_or-drop place bits 4 0,
      drop-drop 5 place bits,
    ) refl

pub symbols_more : (front more bits all : List ℕ) (place symbol : ℕ) → place < length bits
    → symbol ≡ symbol_of (group_in bits place) → more ≡ front ++ symbol ∷ []
    → front ++ map symbol_of (groups_of (drop place bits)) ≡ all
    → more ++ map symbol_of (groups_of (drop (place + 5) bits)) ≡ all
symbols_more front more bits all place symbol h s m before =
    let rest = map symbol_of (groups_of (drop (place + 5) bits)) in
    let step : map symbol_of (groups_of (drop place bits)) ≡ symbol ∷ rest =
    ap (map symbol_of) (next_group bits place h) ∙ ap (λ (t : ℕ). t ∷ rest) (sym s) in
    rw m (append_assoc front (symbol ∷ []) rest ∙ ap (λ (r : List ℕ). front ++ r) (sym step) ∙ before)

pub symbols_end : (front bits all : List ℕ) (place : ℕ) → length bits ≤ place
    → front ++ map symbol_of (groups_of (drop place bits)) ≡ all → front ≡ all
symbols_end front bits all place h before =
    sym (append-nil front)
    ∙ ap (λ (r : List ℕ). front ++ r)
    (sym (ap (map symbol_of) (ap groups_of (drop_all place bits h) ∙ groups-nil))) ∙ before

-- ---- how many symbols

length-groups : (bits : List ℕ) → length (groups_of bits) ≡ (length bits + 4) / 5
unfolding groups_of
length-groups [] = refl
length-groups (a ∷ []) = refl
length-groups (a ∷ b ∷ []) = refl
length-groups (a ∷ b ∷ c ∷ []) = refl
length-groups (a ∷ b ∷ c ∷ d ∷ []) = refl
length-groups (a ∷ b ∷ c ∷ d ∷ e ∷ rest) = let before = length-groups rest in omega (arith, before)

pub length-base32 : (bytes : List ℕ) → length (base32 bytes) ≡ (length bytes * 8 + 4) / 5
length-base32 bytes = length-map (groups_of (bits_of bytes)) symbol_of ∙ length-groups (bits_of bytes)
    ∙ ap (λ (n : ℕ). (n + 4) / 5) (length-bits bytes)

-- ---- which symbols

small_bits : (bytes : List ℕ) (i : ℕ) → slice_index (bits_of bytes) i < 2
small_bits bytes i = subst (λ (b : ℕ). b < 2) (bit bytes i) (omega arith)

small_groups : (bits : List ℕ) → ((i : ℕ) → slice_index bits i < 2) → (k : ℕ) → slice_index (groups_of bits) k < 32
unfolding groups_of
small_groups [] h k = omega arith
small_groups (a ∷ []) h zero = omega (arith, h 0)
small_groups (a ∷ []) h (suc k) = omega arith
small_groups (a ∷ b ∷ []) h zero = omega (arith, h 0, h 1)
small_groups (a ∷ b ∷ []) h (suc k) = omega arith
small_groups (a ∷ b ∷ c ∷ []) h zero = omega (arith, h 0, h 1, h 2)
small_groups (a ∷ b ∷ c ∷ []) h (suc k) = omega arith
small_groups (a ∷ b ∷ c ∷ d ∷ []) h zero = omega (arith, h 0, h 1, h 2, h 3)
small_groups (a ∷ b ∷ c ∷ d ∷ []) h (suc k) = omega arith
small_groups (a ∷ b ∷ c ∷ d ∷ e ∷ rest) h zero = omega (arith, h 0, h 1, h 2, h 3, h 4)
small_groups (a ∷ b ∷ c ∷ d ∷ e ∷ rest) h (suc k) = small_groups rest (λ i. h (suc (suc (suc (suc (suc i)))))) k

symbol_among : (groups : List ℕ) → ((k : ℕ) → slice_index groups k < 32) → (i : ℕ) → i < length (map symbol_of groups)
    → (k : ℕ) × (k < 32) × (slice_index (map symbol_of groups) i ≡ symbol_of k)
symbol_among [] h i l = absurd (omega arith)
symbol_among (g ∷ groups) h zero l = (g, h 0, refl)
symbol_among (g ∷ groups) h (suc i) l = symbol_among groups (λ k. h (suc k)) i (omega arith)

pub base32_symbol : (bytes : List ℕ) (i : ℕ) → i < length (base32 bytes) → (k : ℕ) × (k < 32)
    × (slice_index (base32 bytes) i ≡ symbol_of k)
base32_symbol bytes i l = symbol_among (groups_of (bits_of bytes)) (small_groups (bits_of bytes) (small_bits bytes)) i l
