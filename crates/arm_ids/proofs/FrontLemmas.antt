-- Lists of segments of which one begins with the other.
use Rattle.std.proofs.Common.{◌≡◌, ◌<◌, ◌≤◌, ◌-◌, ℕ, length, Bool, true, false, ◌&&◌, List, [], ◌∷◌, ◌++◌, bytes_eq}
use Rattle.std.proofs.Common.{refl, sym, ap, ap₂, ◌∙◌, arith, true≢false, append-nil}
use Rattle.std.proofs.lemmas.List.{length-append, nil_from_length}
use Rattle.foundation.proofs.Words.{eq_word, itself}
use Rattle.arm_ids.specs.Segments.{is_front}
use Rattle.arm_ids.specs.Parent.{begins, IsParent}
use Rattle.arm_ids.specs.Id.{IsKey}
use Rattle.arm_ids.specs.declared.id.ResourceId.{ResourceId}
use Rattle.foundation.proofs.TruthValues.{both, and_true}

-- a longer list is the front of no shorter one
pub front_short : (xs ys : List (List ℕ)) → length ys < length xs → false ≡ is_front xs ys
front_short [] ys l = absurd (omega (arith, l))
front_short (x ∷ xs) [] l = refl
front_short (x ∷ xs) (y ∷ ys) l = no (bytes_eq x y) (is_front xs ys) (front_short xs ys (omega (arith, l)))
  where
    no : (a b : Bool) → false ≡ b → false ≡ (a && b)
    no true b e = e
    no false b e = refl

pub front_rest : (xs ys : List (List ℕ)) → is_front xs ys ≡ true → (rest : List (List ℕ)) × (ys ≡ xs ++ rest)
front_rest [] ys e = (ys, refl)
front_rest (x ∷ xs) [] e = absurd (true≢false (sym e))
front_rest (x ∷ xs) (y ∷ ys) e =
    let h = both (bytes_eq x y) (is_front xs ys) e in
    let others = front_rest xs ys h.1 in
    (others.0, ap₂ (λ a more. a ∷ more) (sym (eq_word x y h.0)) others.1)

pub front_of : (xs rest : List (List ℕ)) → is_front xs (xs ++ rest) ≡ true
front_of [] rest = refl
front_of (x ∷ xs) rest = and_true (bytes_eq x x) (is_front xs (xs ++ rest)) (itself x) (front_of xs rest)

pub front_self : (xs ys : List (List ℕ)) → xs ≡ ys → is_front xs ys ≡ true
front_self xs ys e = ap (is_front xs) (sym e ∙ sym (append-nil xs)) ∙ front_of xs []

pub equal_from_front : (xs ys : List (List ℕ)) → length xs ≡ length ys → is_front xs ys ≡ true → xs ≡ ys
equal_from_front xs ys l e =
    let h = front_rest xs ys e in
    let none : h.0 ≡ [] = nil_from_length h.0 (omega (arith, ap length h.1, length-append xs h.0, l)) in
    sym (h.1 ∙ ap (λ r. xs ++ r) none ∙ append-nil xs)

-- a key's types and_true names begin with the other's
pub record Begins (i j : ResourceId) : Type 0 where
  pub subscription : i.subscription ≡ j.subscription
  pub group : i.group ≡ j.group
  pub types : is_front i.types j.types ≡ true
  pub names : is_front i.names j.names ≡ true

pub begun : (i j : ResourceId) → begins i j ≡ true → Begins i j
begun i j e =
    let h = both (bytes_eq i.subscription j.subscription) _ e in
    let g = both (bytes_eq i.group j.group) _ h.1 in
    let f = both (is_front i.types j.types) _ g.1 in
    record { subscription = eq_word _ _ h.0; group = eq_word _ _ g.0; types = f.0; names = f.1 }

pub begun_back : (i j : ResourceId) → Begins i j → begins i j ≡ true
begun_back i j h =
    and_true _ _ (ap (bytes_eq i.subscription) (sym h.subscription) ∙ itself i.subscription)
    (and_true _ _ (ap (bytes_eq i.group) (sym h.group) ∙ itself i.group) (and_true _ _ h.types h.names))

pub names_longer : (i j : ResourceId) → begins i j ≡ true → length i.names ≤ length j.names
names_longer i j e = let h = front_rest i.names j.names (begun i j e).names in
    omega (arith, ap length h.1, length-append i.names h.0)

one_of : (xs : List (List ℕ)) → length xs ≡ 1 → (x : List ℕ) × (xs ≡ x ∷ [])
one_of [] e = absurd (omega (arith, e))
one_of (x ∷ xs) e = (x, ap (λ r. x ∷ r) (nil_from_length xs (omega (arith, e))))

-- a key that begins another which has one name more is its parent
pub parent_from : (k child : ResourceId) → IsKey k → IsKey child → begins k child ≡ true
    → length child.names - length k.names ≡ 1 → IsParent k child
parent_from k child is_key is_child e l =
    let h = begun k child e in
    let types = front_rest k.types child.types h.types in
    let names = front_rest k.names child.names h.names in
    let kind =
    one_of types.0 (omega (
      arith,
      ap length types.1,
      length-append k.types types.0,
      ap length names.1,
      length-append k.names names.0,
      is_key.is_id.paired,
      is_child.is_id.paired,
      l,
    )) in
    let name = one_of names.0 (omega (arith, ap length names.1, length-append k.names names.0, l)) in (
      kind.0,
      (
        name.0,
        λ j. record {
          subscription = sym h.subscription j;
          group = sym h.group j;
          types =
              (types.1 ∙ ap (λ r. k.types ++ r) kind.1) j;
          names = (names.1 ∙ ap (λ r. k.names ++ r) name.1) j;
        },
      ),
    )

pub parent_begins : (k child : ResourceId) → IsParent k child → (begins k child ≡ true)
    × (length child.names - length k.names ≡ 1)
parent_begins k child (kind, more) =
    let name = more.0 in
    let e = more.1 in (
      begun_back k child (record {
        subscription = ap (λ (i : ResourceId). i.subscription) (sym e);
        group = ap (λ (i : ResourceId). i.group) (sym e);
        types = ap (λ (i : ResourceId). is_front k.types i.types) e ∙ front_of k.types (kind ∷ []);
        names = ap (λ (i : ResourceId). is_front k.names i.names) e ∙ front_of k.names (name ∷ []);
      }),
      omega (arith, ap (λ (i : ResourceId). length i.names) e, length-append k.names (name ∷ [])),
    )
