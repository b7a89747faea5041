-- Names in form have no slash.
use Rattle.std.proofs.Common.{◌≡◌, ℕ, ◌&&◌, ◌||◌, ◌==◌, not, nat_lt, nat_le, Bool, true, false, true≢false, List, [], ◌∷◌}
use Rattle.std.proofs.Common.{length, chars, bytes_eq, Option, Some, None, refl, sym, ap, ◌∙◌, arith}
use Rattle.std.specs.Prelude.{if◌then◌else◌}
use Rattle.std.specs.List.{list_all, list_any}
use Rattle.std.proofs.lemmas.Bool.Decides.{nat_tests}
use Rattle.arm_ids.specs.Segments.{has_slash, is_slash}
use Rattle.arm_ids.specs.declared.id.Place.{Place}
use Rattle.request_names.specs.Names.{is_name_byte, is_name, is_group_name, is_deployment_name, is_subscription_name}
use Rattle.request_names.specs.Names.{bad_name}
use Rattle.foundation.proofs.AsciiWords.{word}
use Rattle.foundation.proofs.TruthValues.{both, and_true}
use Rattle.request_places.specs.Places.{PlacesArePlain}

-- a byte of a name is an ASCII character, and no slash
byte_below : (b : ℕ) → is_name_byte b ≡ true → nat_lt b 128 ≡ true
byte_below b e = grind (arith, nat_tests)

byte_plain : (b : ℕ) → is_name_byte b ≡ true → is_slash b ≡ false
byte_plain b e = grind (arith, nat_tests)

all_below : (bs : List ℕ) → list_all is_name_byte bs ≡ true → list_all (λ b. nat_lt b 128) bs ≡ true
all_below [] e = refl
all_below (b ∷ bs) e =
    let two = both (is_name_byte b) (list_all is_name_byte bs) e in
    and_true (nat_lt b 128) (list_all (λ c. nat_lt c 128) bs) (byte_below b two.0) (all_below bs two.1)

none_slash : (bs : List ℕ) → list_all is_name_byte bs ≡ true → list_any is_slash bs ≡ false
none_slash [] e = refl
none_slash (b ∷ bs) e =
    let two = both (is_name_byte b) (list_all is_name_byte bs) e in
    ap (λ (c : Bool). c || list_any is_slash bs) (byte_plain b two.0) ∙ none_slash bs two.1

name_plain : (most : ℕ) (bs : List ℕ) → is_name most bs ≡ true → has_slash (chars bs) ≡ false
name_plain most bs e =
    let two = both (nat_le 1 (length bs)) (nat_le (length bs) most && list_all is_name_byte bs) e in
    let three = both (nat_le (length bs) most) (list_all is_name_byte bs) two.1 in
    ap has_slash (word bs (all_below bs three.1)) ∙ none_slash bs three.1

group_plain : (bs : List ℕ) → is_group_name bs ≡ true → has_slash (chars bs) ≡ false
unfolding is_group_name
group_plain bs e = name_plain 90 bs e

subscription_plain : (bs : List ℕ) → is_subscription_name bs ≡ true → has_slash (chars bs) ≡ false
unfolding is_subscription_name
subscription_plain bs e = name_plain 64 bs e

-- the names of which none is outside its form
some_not : (n : List ℕ) (o : Option (List ℕ)) (b : Bool) → (if not b then Some n else o) ≡ None → (b ≡ true) × (o ≡ None)
some_not n o true e = (refl, e)
some_not n o false e = let f : ◌≡◌ {A = Option (List ℕ)} (Some n) None = e in absurd (cc)

in_form : (group deployment subscription : List ℕ) → bad_name group deployment subscription ≡ None
    → (is_group_name group ≡ true) × (is_subscription_name subscription ≡ true)
unfolding bad_name
in_form group deployment subscription e =
    let one = some_not group
    (if not (is_deployment_name deployment) then Some deployment else
    (if not (is_subscription_name subscription) then Some subscription else None)) (is_group_name group) e in
    let two = some_not deployment (if not (is_subscription_name subscription) then Some subscription else None)
    (is_deployment_name deployment) one.1 in
    (one.0, (some_not subscription None (is_subscription_name subscription) two.1).0)

pub are_plain : PlacesArePlain
are_plain subscription group deployment e =
    let f = in_form group deployment subscription e in
    record { subscription = subscription_plain subscription f.1; group = group_plain group f.0 }

-- a place of these parts
pub place_made : (a b c e i j k l : List ℕ) → a ≡ i → b ≡ j → c ≡ k → e ≡ l
    → ◌≡◌ {A = Place} (record { subscription = a; group = b; location = c; deployment = e })
    (record { subscription = i; group = j; location = k; deployment = l })
place_made a b c e i j k l p q r s =
    ap (λ (x : List ℕ). record { subscription = x; group = b; location = c; deployment = e }) p
    ∙ ap (λ (x : List ℕ). record { subscription = i; group = x; location = c; deployment = e }) q
    ∙ ap (λ (x : List ℕ). record { subscription = i; group = j; location = x; deployment = e }) r
    ∙ ap (λ (x : List ℕ). record { subscription = i; group = j; location = k; deployment = x }) s
