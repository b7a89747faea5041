-- Names that are none of those before.
use Rattle.std.proofs.Common.{◌≡◌, ℕ, Bool, true, false, ◌||◌, List, [], ◌∷◌, ◌++◌, Option, Some, None}
use Rattle.std.proofs.Common.{refl, sym, ap, ◌∙◌, bytes_eq, encode_utf8_all, cond}
use Rattle.std.proofs.lemmas.Slice.Eq.{bytes_eq-Decides}
use Rattle.std.proofs.lemmas.Str.{encodes_same}
use Rattle.arm_value.specs.Look.{fold, is_same_folded}
use Rattle.name_set.specs.Names.{is_named}

-- names of the same bytes are the same after case folding
pub same_bytes : (q x : List ℕ) → bytes_eq (encode_utf8_all q) (encode_utf8_all x) ≡ true → is_same_folded q x ≡ true
same_bytes q x h =
    (bytes_eq-Decides (fold q) (fold x)).1
    (ap fold (encodes_same q x ((bytes_eq-Decides (encode_utf8_all q) (encode_utf8_all x)).0 h)))

pub never : {A : Type 0} → true ≡ false → A
never e = absurd (cc)

-- what is looked for by bytes is not there, where no name is the same
pub by_name : {A : Type 0} (b c r : Bool) (x : A) (o : Option A) → (b ≡ true → c ≡ true) → (c || r) ≡ false
    → (r ≡ false → o ≡ None) → cond b (Some x) o ≡ None
by_name true c r x o f h g = never (sym (ap (λ d. d || r) (f refl)) ∙ h)
by_name false true r x o f h g = never h
by_name false false r x o f h g = g h

later_by : {A : Type 0} (b r : Bool) → (b || r) ≡ false → (r ≡ false → A) → A
later_by true r e g = never e
later_by false r e g = g e

-- a name that is none of these is none of the last of them
pub later : (xs ys : List (List ℕ)) (q : List ℕ) → is_named (xs ++ ys) q ≡ false → is_named ys q ≡ false
later [] ys q h = h
later (x ∷ xs) ys q h = later_by (is_same_folded q x) (is_named (xs ++ ys) q) h (later xs ys q)
