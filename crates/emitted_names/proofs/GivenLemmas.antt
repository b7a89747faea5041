-- Names of the grammar that are written in definitions.
use Rattle.std.proofs.Common.{◌≡◌, ℕ, List, [], ◌∷◌, Option, Some, Bool, true, false, codes, refl}
use Rattle.std.proofs.lemmas.Bool.{false≢true, and_parts}
use Rattle.std.specs.Prelude.{◌&&◌, if◌then◌else◌}
use Rattle.arm_value.specs.Look.{is_same_folded}
use Rattle.arm_expr.specs.Grammar.{Kind, letter, digit, blank, sign, kind_of, goes_on_name, GoOnName, IsName}
use Rattle.bicep_emission.specs.Spelled.{capitals, spelling_in, spelled_or}

abbrev is_letter : Kind → Bool
is_letter letter = true
is_letter digit = false
is_letter blank = false
is_letter sign = false

abbrev all_go_on : List ℕ → Bool
all_go_on [] = true
all_go_on (c ∷ cs) = goes_on_name (kind_of c) && all_go_on cs

abbrev pub is_name : List ℕ → Bool
is_name [] = false
is_name (c ∷ cs) = is_letter (kind_of c) && all_go_on cs

letter_is : (k : Kind) → is_letter k ≡ true → k ≡ letter
letter_is letter h = refl
letter_is digit h = absurd (false≢true h)
letter_is blank h = absurd (false≢true h)
letter_is sign h = absurd (false≢true h)

go_on : (cs : List ℕ) → all_go_on cs ≡ true → GoOnName cs
go_on [] h = tt
go_on (c ∷ cs) h =
    let p = and_parts (goes_on_name (kind_of c)) (all_go_on cs) h in
    (p.0, go_on cs p.1)

-- a word that is written out is a name where this computes
pub name_is : (w : List ℕ) → is_name w ≡ true → IsName w
name_is [] h = absurd (false≢true h)
name_is (c ∷ cs) h =
    let p = and_parts (is_letter (kind_of c)) (all_go_on cs) h in
    (letter_is (kind_of c) p.0, go_on cs p.1)

-- ---- names of functions in the usual case of their letters

abbrev AreNames : List (List ℕ) → Type 0
AreNames [] = Unit {0}
AreNames (w ∷ ws) = IsName w × AreNames ws

chosen : (name w : List ℕ) (o : Option (List ℕ)) (b : Bool) → IsName w → IsName (spelled_or name o)
    → IsName (spelled_or name (if b then Some w else o))
chosen name w o true g h = g
chosen name w o false g h = h

spelled_in : (name : List ℕ) (ws : List (List ℕ)) → IsName name → AreNames ws
    → IsName (spelled_or name (spelling_in name ws))
unfolding spelling_in
spelled_in name [] g h = g
spelled_in name (w ∷ ws) g h =
    chosen name w (spelling_in name ws) (is_same_folded name w) h.0 (spelled_in name ws g h.1)

capital_names : AreNames capitals
unfolding capitals
capital_names = (
  name_is (codes "base64ToString") refl,
  (
    name_is (codes "endsWith") refl,
    (
      name_is (codes "indexOf") refl,
      (
        name_is (codes "lastIndexOf") refl,
        (
          name_is (codes "objectKeys") refl,
          (
            name_is (codes "padLeft") refl,
            (
              name_is (codes "resourceGroup") refl,
              (
                name_is (codes "resourceId") refl,
                (
                  name_is (codes "startsWith") refl,
                  (
                    name_is (codes "subscriptionResourceId") refl,
                    (
                      name_is (codes "toLower") refl,
                      (
                        name_is (codes "toUpper") refl,
                        (
                          name_is (codes "uniqueString") refl,
                          tt,
                        ),
                      ),
                    ),
                  ),
                ),
              ),
            ),
          ),
        ),
      ),
    ),
  ),
)

pub spelled_name : (name : List ℕ) → IsName name → IsName (spelled_or name (spelling_in name capitals))
spelled_name name h = spelled_in name capitals h capital_names
