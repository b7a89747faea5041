-- A file holds at most one list of records.
use Rattle.std.proofs.Common.{◌≡◌, ◌≢◌, inl, inr, ℕ, zero, suc, ◌+◌, ◌*◌, ◌/◌, ◌%◌, ◌^◌, ◌<◌, ◌≤◌, List, [], ◌∷◌}
use Rattle.std.proofs.Common.{◌++◌, length, take, drop, refl, sym, ◌∙◌, ap, arith}
use Rattle.std.proofs.Math.Nat.{add-mul, add_assoc, div-add-mod', mod-eq_of_lt, mod-lt, mul-add-mod_self_right}
use Rattle.std.proofs.Math.Nat.{mul-le-mul_right, mul_assoc, one-le-pow, pow-succ'}
use Rattle.std.proofs.lemmas.List.{take_at, drop_at}
use Rattle.std.specs.Int.{bytes_high_first}
use Rattle.deploy_journal.specs.Records.{eight, Record, body, spelled, beginning, Holds, EndsBadly, IsDamagedAt}
use Rattle.deploy_journal.proofs.Lists.{length-eight, size_body}

pub parts_same : (n : ℕ) (xs ys k l : List ℕ) → length xs ≡ n → length ys ≡ n → xs ++ k ≡ ys ++ l → (xs ≡ ys) × (k ≡ l)
parts_same n xs ys k l sx sy same = (
  sym (take_at xs k n sx) ∙ ap (λ (z : List ℕ). take n z) same ∙ take_at ys l n sy,
  sym (drop_at xs k n sx) ∙ ap (λ (z : List ℕ). drop n z) same ∙ drop_at ys l n sy,
)

-- the two low digits of n, to the bases c and then m
mod_split : (n : ℕ) {m c : ℕ} → zero < m → zero < c → n % (m * c) ≡ (n / c % m) * c + n % c
mod_split n {m} {c} hm hc =
    let a = mod-lt (n / c) hm in
    let b = mod-lt n hc in
    let top : (n / c % m + 1) * c ≤ m * c = mul-le-mul_right c (omega arith) in
    let expand : (n / c % m + 1) * c ≡ n / c % m * c + 1 * c = add-mul (n / c % m) 1 c in
    let split : n ≡ n / c / m * (m * c) + (n / c % m * c + n % c) =
    sym (div-add-mod' n c)
    ∙ ap (λ (x : ℕ). x * c + n % c) (sym (div-add-mod' (n / c) m))
    ∙ ap (λ (x : ℕ). x + n % c) (add-mul (n / c / m * m) (n / c % m) c
    ∙ ap (λ (x : ℕ). x + n / c % m * c) (mul_assoc (n / c / m) m c))
    ∙ add_assoc (n / c / m * (m * c)) (n / c % m * c) (n % c) in
    ap (λ (x : ℕ). x % (m * c)) split ∙ mul-add-mod_self_right (n / c / m) (m * c) (n / c % m * c + n % c)
    ∙ mod-eq_of_lt (omega arith)

digits_same : (k m n : ℕ) → bytes_high_first (suc k) m ≡ bytes_high_first (suc k) n → m % 256 ^ suc k ≡ n % 256 ^ suc k
digits_same zero m n same = let here : m % 256 ≡ n % 256 = cc in here
digits_same (suc k) m n same =
    let here : m / 256 ^ suc k % 256 ≡ n / 256 ^ suc k % 256 = cc in
    let below : bytes_high_first (suc k) m ≡ bytes_high_first (suc k) n = cc in
    let rest = digits_same k m n below in
    let c : ℕ = 256 ^ suc k in
    let some : zero < c = one-le-pow (suc k) 256 (omega arith) in
    let power : 256 ^ suc (suc k) ≡ 256 * c = pow-succ' 256 (suc k) in
    ap (λ (x : ℕ). m % x) power ∙ mod_split m {m = 256} {c = c} (omega arith) some ∙ (λ i. here i * c + rest i)
    ∙ sym (mod_split n {m = 256} {c = c} (omega arith) some) ∙ ap (λ (x : ℕ). n % x) (sym power)

pub eight_same : (m n : ℕ) → m < 2 ^ 64 → n < 2 ^ 64 → eight m ≡ eight n → m ≡ n
unfolding eight
eight_same m n small_m small_n same = sym (mod-eq_of_lt small_m) ∙ digits_same 7 m n same ∙ mod-eq_of_lt small_n

pub body_same : (x y : Record) (k l : List ℕ) → length (body x k) < 2 ^ 64 → body x k ≡ body y l → (x ≡ y) × (k ≡ l)
body_same x y k l small same =
    let sizes : length (body x k) ≡ length (body y l) = ap length same in
    let sx = size_body x k in
    let sy = size_body y l in
    let kind : x.kind ≡ y.kind = cc in
    let rest : eight (length x.first) ++ (eight (length x.second) ++ (x.first ++ (x.second ++ k)))
    ≡ eight (length y.first) ++ (eight (length y.second) ++ (y.first ++ (y.second ++ l))) = cc in
    let a = parts_same 8 (eight (length x.first)) (eight (length y.first)) _ _ (length-eight (length x.first))
    (length-eight (length y.first)) rest in
    let b = parts_same 8 (eight (length x.second)) (eight (length y.second)) _ _ (length-eight (length x.second))
    (length-eight (length y.second)) a.1 in
    let n : length x.first ≡ length y.first = eight_same _ _ (omega arith) (omega arith) a.0 in
    let m : length x.second ≡ length y.second = eight_same _ _ (omega arith) (omega arith) b.0 in
    let c = parts_same (length y.first) x.first y.first _ _ n refl b.1 in
    let d = parts_same (length y.second) x.second y.second _ _ m refl c.1 in
    ((λ i. record { kind = kind i; first = c.0 i; second = d.0 i }), d.1)

unique : (xs ys : List Record) (g h : ℕ) (k l : List ℕ) → g ≢ 1 → h ≢ 1 → length (spelled xs (g ∷ k)) < 2 ^ 64
    → spelled xs (g ∷ k) ≡ spelled ys (h ∷ l) → xs ≡ ys
unique [] [] g h k l ng nh small same = refl
unique [] (y ∷ ys) g h k l ng nh small same = let first : g ≡ 1 = cc in absurd (ng first)
unique (x ∷ xs) [] g h k l ng nh small same = let first : h ≡ 1 = cc in absurd (nh first)
unique (x ∷ xs) (y ∷ ys) g h k l ng nh small same =
    let bodies : body x (spelled xs (g ∷ k)) ≡ body y (spelled ys (h ∷ l)) = cc in
    let both = body_same x y (spelled xs (g ∷ k)) (spelled ys (h ∷ l)) (omega arith) bodies in
    let rest = unique xs ys g h k l ng nh (omega (arith, size_body x (spelled xs (g ∷ k)))) both.1 in
    λ i. both.0 i ∷ rest i

pub holds_one : (xs ys : List Record) (m n : ℕ) (file : List ℕ) → length file < 2 ^ 64 → Holds xs m file
    → Holds ys n file → xs ≡ ys
holds_one xs ys m n file small x y =
    let both = parts_same 16 beginning beginning (spelled xs (x.gate ∷ x.rest)) (spelled ys (y.gate ∷ y.rest)) refl
    refl (sym x.is ∙ y.is) in
    unique xs ys x.gate y.gate x.rest y.rest x.closed y.closed (omega (arith, ap length x.is)) both.1

ends_none : (xs ys : List Record) (rest : List ℕ) (g : ℕ) (k : List ℕ) → EndsBadly rest → g ≢ 1
    → length (spelled xs rest) < 2 ^ 64 → spelled xs rest ≡ spelled ys (g ∷ k) → ⊥
ends_none [] [] rest g k (inl none) closed small same = cc
ends_none [] [] rest g k (inr (cut, is, short)) closed small same = let one : g ≡ 1 = cc in closed one
ends_none [] (y ∷ ys) rest g k (inl none) closed small same = cc
ends_none [] (y ∷ ys) rest g k (inr (cut, is, short)) closed small same =
    let here : cut ≡ body y (spelled ys (g ∷ k)) = cc in short y (spelled ys (g ∷ k)) here
ends_none (x ∷ xs) [] rest g k ends closed small same = let one : g ≡ 1 = cc in closed one
ends_none (x ∷ xs) (y ∷ ys) rest g k ends closed small same =
    let bodies : body x (spelled xs rest) ≡ body y (spelled ys (g ∷ k)) = cc in
    let both = body_same x y (spelled xs rest) (spelled ys (g ∷ k)) (omega arith) bodies in
    ends_none xs ys rest g k ends closed (omega (arith, size_body x (spelled xs rest))) both.1

-- a damaged file holds no records
pub damaged_none : (file : List ℕ) (at n : ℕ) (records : List Record) → length file < 2 ^ 64 → IsDamagedAt file at
    → Holds records n file → ⊥
damaged_none file at n records small (inl (z, none)) h = none (spelled records (h.gate ∷ h.rest)) h.is
damaged_none file at n records small (inr (xs, rest, is, place, ends)) h =
    let both = parts_same 16 beginning beginning (spelled xs rest) (spelled records (h.gate ∷ h.rest)) refl refl
    (sym is ∙ h.is) in
    ends_none xs records rest h.gate h.rest ends h.closed (omega (arith, ap length is)) both.1

-- the places of the closed gates
pub place_one : (xs ys : List Record) (m n : ℕ) (file : List ℕ) → length file < 2 ^ 64 → Holds xs m file
    → Holds ys n file → m ≡ n
place_one xs ys m n file small x y = x.place
    ∙ ap (λ (rs : List Record). 16 + length (spelled rs [])) (holds_one xs ys m n file small x y) ∙ sym y.place

ends_one : (xs ys : List Record) (rest tail : List ℕ) → EndsBadly rest → EndsBadly tail
    → length (spelled xs rest) < 2 ^ 64 → spelled xs rest ≡ spelled ys tail → length rest ≡ length tail
ends_one [] [] rest tail e f small same = ap length same
ends_one [] (y ∷ ys) rest tail (inl none) f small same = absurd (let no : ⊥ = cc in no)
ends_one [] (y ∷ ys) rest tail (inr (cut, is, short)) f small same = let here : cut ≡ body y (spelled ys tail) = cc in
    absurd (short y (spelled ys tail) here)
ends_one (x ∷ xs) [] rest tail e (inl none) small same = absurd (let no : ⊥ = cc in no)
ends_one (x ∷ xs) [] rest tail e (inr (cut, is, short)) small same = let here : cut ≡ body x (spelled xs rest) = cc in
    absurd (short x (spelled xs rest) here)
ends_one (x ∷ xs) (y ∷ ys) rest tail e f small same =
    let bodies : body x (spelled xs rest) ≡ body y (spelled ys tail) = cc in
    let both = body_same x y (spelled xs rest) (spelled ys tail) (omega arith) bodies in
    ends_one xs ys rest tail e f (omega (arith, size_body x (spelled xs rest))) both.1

-- a file is damaged at one place at most
pub damage_one : (file : List ℕ) (m n : ℕ) → length file < 2 ^ 64 → IsDamagedAt file m → IsDamagedAt file n → m ≡ n
damage_one file m n small (inl (zm, none)) (inl (zn, none')) = zm ∙ sym zn
damage_one file m n small (inl (zm, none)) (inr (ys, tail, is, place, ends)) = absurd (none (spelled ys tail) is)
damage_one file m n small (inr (xs, rest, is, place, ends)) (inl (zn, none)) = absurd (none (spelled xs rest) is)
damage_one file m n small (inr (xs, rest, is, place, ends)) (inr (ys, tail, is', place', ends')) =
    let both = parts_same 16 beginning beginning (spelled xs rest) (spelled ys tail) refl refl (sym is ∙ is') in
    let same = ends_one xs ys rest tail ends ends' (omega (arith, ap length is)) both.1 in
    omega arith
