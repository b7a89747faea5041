-- What follows where something has a type.
use Rattle.std.proofs.Common.{◌≡◌, ℕ, Bool, true, false, refl, sym, ap, ◌∙◌}
use Rattle.std.specs.Prelude.{Result, Ok, Err, if◌then◌else◌}
use Rattle.bicep_signatures.specs.declared.kinds.Kinds.{Kinds}
use Rattle.bicep_signatures.specs.declared.kinds.Kinds.TheVariants as k
use Rattle.bicep_signatures.specs.declared.value_type.ValueType.{ValueType}
use Rattle.bicep_signatures.specs.declared.value_type.ValueType.TheVariants as type
use Rattle.bicep_signatures.specs.Kinds.{fits}
use Rattle.bicep_signatures.specs.Types.{common}
use Rattle.bicep_typing.specs.Typed.{Typed, before, always, wanted}
use Rattle.bicep_typing.specs.Operators.{both_of, one_of, comparable, compared, compared_with}

pub same_Ok : {A : Type 0} (x y : A) → ◌≡◌ {A = Result A ℕ} (Ok x) (Ok y) → x ≡ y
same_Ok x y e = cc

pub never : {A B : Type 0} (at : ℕ) (x : A) → ◌≡◌ {A = Result A ℕ} (Err at) (Ok x) → B
never at x e = absurd (cc)

-- the part has a type
pub record Has {A : Type 0} (r : Result A ℕ) : Type 0 where
  pub value : A
  pub is : r ≡ Ok value

pub always_is : {A : Type 0} (u : ValueType) (r : Result A ℕ) (t : ValueType) → always u r ≡ Ok t → (u ≡ t) × Has r
always_is u (Ok x) t e = (same_Ok u t e, record { value = x; is = refl })
always_is u (Err at) t e = never at t e

pub before_is : {A B : Type 0} (a : Result A ℕ) (b : Result B ℕ) (y : B) → before a b ≡ Ok y → Has a × (b ≡ Ok y)
before_is (Ok x) b y e = (record { value = x; is = refl }, e)
before_is (Err at) b y e = never at y e

wanted_by : (t u : ValueType) (at : ℕ) (b : Bool) → (if b then Ok u else Err at) ≡ Ok t → (b ≡ true) × (u ≡ t)
wanted_by t u at true e = (refl, same_Ok u t e)
wanted_by t u at false e = never at t e

-- the part has that type, which is taken there
pub wanted_is : (ks : Kinds) (at : ℕ) (x : Typed) (t : ValueType) → wanted ks at x ≡ Ok t
    → (x ≡ Ok t) × (fits ks t ≡ true)
wanted_is ks at (Ok u) t e =
    let r = wanted_by t u at (fits ks u) e in (ap (λ y. Ok y) r.1, ap (fits ks) (sym r.1) ∙ r.0)
wanted_is ks at (Err fault) t e = never fault t e

-- the part has a type that is taken there
pub record Takes (ks : Kinds) (x : Typed) : Type 0 where
  pub value : ValueType
  pub is : x ≡ Ok value
  pub fits : fits ks value ≡ true

pub takes : (ks : Kinds) (at : ℕ) (x : Typed) → Has (wanted ks at x) → Takes ks x
takes ks at x h =
    let r = wanted_is ks at x h.value h.is in record { value = h.value; is = r.0; fits = r.1 }

pub both_of_is : (ks : Kinds) (u : ValueType) (a : ℕ) (x : Typed) (b : ℕ) (y : Typed) (t : ValueType)
    → both_of ks u a x b y ≡ Ok t → (u ≡ t) × Takes ks x × Takes ks y
both_of_is ks u a x b y t e =
    let p = before_is (wanted ks a x) (always u (wanted ks b y)) t e in
    let q = always_is u (wanted ks b y) t p.1 in
    (q.0, takes ks a x p.0, takes ks b y q.1)

-- the types of two, of which the value is one
pub record OneOf (x y : Typed) (t : ValueType) : Type 0 where
  pub left : ValueType
  pub right : ValueType
  pub left_is : x ≡ Ok left
  pub right_is : y ≡ Ok right
  pub whole : common left right ≡ t

pub one_of_is : (x y : Typed) (t : ValueType) → one_of x y ≡ Ok t → OneOf x y t
one_of_is (Ok u) (Ok v) t e =
    record { left = u; right = v; left_is = refl; right_is = refl; whole = same_Ok (common u v) t e }
one_of_is (Ok u) (Err at) t e = never at t e
one_of_is (Err at) y t e = never at t e

-- the types of two that are compared
pub record Compared (x y : Typed) : Type 0 where
  pub left : Takes k.TextOrInt x
  pub right : Takes (comparable left.value) y

compared_by : (a b : ℕ) (x y z : Typed) (t : ValueType) → wanted k.TextOrInt a x ≡ z → compared_with z b y ≡ Ok t
    → (type.Bool ≡ t) × Compared x y
compared_by a b x y (Ok u) t is e =
    let r = wanted_is k.TextOrInt a x u is in
    let q = always_is type.Bool (wanted (comparable u) b y) t e in
    (q.0, record { left = record { value = u; is = r.0; fits = r.1 }; right = takes (comparable u) b y q.1 })
compared_by a b x y (Err at) t is e = never at t e

pub compared_is : (a b : ℕ) (x y : Typed) (t : ValueType) → compared a x b y ≡ Ok t → (type.Bool ≡ t) × Compared x y
compared_is a b x y t e = compared_by a b x y (wanted k.TextOrInt a x) t refl e
