-- Names of fields that are not misplaced.
use Rattle.std.proofs.Common.{◌≡◌, ◌||◌, ◌&&◌, ℕ, Bool, true, false, true≢false, nat_lt, List, [], ◌∷◌, not}
use Rattle.std.proofs.Common.{Option, Some, None}
use Rattle.std.proofs.Common.{codes, chars, refl, sym, ap, ◌∙◌, subst, bytes_eq}
use Rattle.std.proofs.lemmas.Slice.Eq.{bytes_eq-Decides}
use Rattle.std.specs.List.{AllByRecursion, list_all, list_any}
use Rattle.std.specs.Prelude.{if◌then◌else◌}
use Rattle.foundation.proofs.AsciiWords.{word}
use Rattle.foundation.proofs.TruthValues.{neither, nor}
use Rattle.arm_value.specs.Look.{fold, is_same_folded, is_among}
use Rattle.arm_expr.specs.Brackets.{is_bracketed}
use Rattle.template_meaning.specs.Resources.{is_named, is_declaring, is_beside, is_outside}
use Rattle.bicep_misplaced.specs.declared.spot.Owner.{Owner}
use Rattle.bicep_misplaced.specs.declared.spot.Owner.TheVariants as owner
use Rattle.bicep_misplaced.specs.declared.spot.Spot.{Spot}
use Rattle.bicep_misplaced.specs.declared.spot.Spot.TheVariants as spot
use Rattle.bicep_misplaced.specs.Words.{copying, is_copy, is_bad_name, taken, own, is_own, is_bad_field}
use Rattle.bicep_meaning.specs.Instances as source
use Rattle.placed_files.specs.Placed.{IsBodyName}

-- ---- `copy`

pub no_copy : (x : List ℕ) → is_copy x ≡ false → is_same_folded x (codes "copy") ≡ false
unfolding copying
no_copy x e = (neither (is_same_folded x (codes "copy")) false e).0

-- a name is not found by the word `copy`
pub not_found : (x : List ℕ) → is_copy x ≡ false → bytes_eq (codes "copy") (fold x) ≡ false
not_found x e = by_test (bytes_eq (codes "copy") (fold x)) refl
  where
    by_test : (b : Bool) → bytes_eq (codes "copy") (fold x) ≡ b → b ≡ false
    by_test true h =
        let same = (bytes_eq-Decides (fold x) (fold (codes "copy"))).1
        (sym ((bytes_eq-Decides (codes "copy") (fold x)).0 h)) in
        absurd (true≢false (sym same ∙ no_copy x e))
    by_test false h = refl

-- inside a resource no property is named `copy`
abbrev pub IsInside : Spot → Type 0
IsInside spot.Outside = ⊥
IsInside spot.Field = Unit {0}
IsInside spot.Inside = Unit {0}

pub copy_is_bad : (sp : Spot) (x : List ℕ) → IsInside sp → is_bad_name sp x ≡ false → is_copy x ≡ false
copy_is_bad spot.Outside x i e = absurd i
copy_is_bad spot.Field x i e = (neither (is_bracketed x) (is_copy x) e).1
copy_is_bad spot.Inside x i e = (neither (is_bracketed x) (is_copy x) e).1

-- ---- names that a template has beside a body

-- a name that none of these words is, but for the case of ASCII letters
record IsApart (x : List ℕ) : Type 0 where
  type : is_same_folded x (codes "type") ≡ false
  api : is_same_folded x (codes "apiVersion") ≡ false
  name : is_same_folded x (codes "name") ≡ false
  condition : is_same_folded x (codes "condition") ≡ false
  depends : is_same_folded x (codes "dependsOn") ≡ false
  copy : is_same_folded x (codes "copy") ≡ false
  resources : is_same_folded x (codes "resources") ≡ false
  comments : is_same_folded x (codes "comments") ≡ false
  metadata : is_same_folded x (codes "metadata") ≡ false
  scope : is_same_folded x (codes "scope") ≡ false
  subscription : is_same_folded x (codes "subscriptionId") ≡ false
  group : is_same_folded x (codes "resourceGroup") ≡ false
  existing : is_same_folded x (codes "existing") ≡ false

not_named : (w x : List ℕ) → list_all (λ b. nat_lt b 128) w ≡ true → is_same_folded x w ≡ false
    → is_named w x ≡ false
not_named w x a e = by_test (is_named w x) refl
  where
    by_test : (b : Bool) → is_named w x ≡ b → b ≡ false
    by_test true h =
        let same = (bytes_eq-Decides (fold x) (fold w)).1
        (sym ((bytes_eq-Decides (fold (chars w)) (fold x)).0 h) ∙ ap fold (word w a)) in
        absurd (true≢false (sym same ∙ e))
    by_test false h = refl

not_outside : (x : List ℕ) → IsApart x → IsBodyName x
not_outside x h symbol =
    let type = not_named (codes "type") x refl h.type in
    let api = not_named (codes "apiVersion") x refl h.api in
    let name = not_named (codes "name") x refl h.name in
    let condition = not_named (codes "condition") x refl h.condition in
    let depends = not_named (codes "dependsOn") x refl h.depends in
    let copy = not_named (codes "copy") x refl h.copy in
    let resources = not_named (codes "resources") x refl h.resources in
    let comments = not_named (codes "comments") x refl h.comments in
    let metadata = not_named (codes "metadata") x refl h.metadata in
    let scope = not_named (codes "scope") x refl h.scope in
    let subscription = not_named (codes "subscriptionId") x refl h.subscription in
    let group = not_named (codes "resourceGroup") x refl h.group in
    let existing = not_named (codes "existing") x refl h.existing in
    by_symbol symbol (λ i. (type i || api i || name i || condition i || depends i || copy i)
    || (resources i || comments i || metadata i || scope i || subscription i || group i)) existing
  where
    by_symbol : (o : Option (List ℕ)) → (is_declaring x || is_beside x) ≡ false → is_named (codes "existing") x ≡ false
        → is_outside o x ≡ false
    by_symbol None d e = λ i. d i || false
    by_symbol (Some y) d e = λ i. d i || e i

-- ---- names of fields

-- the names that a body has for itself, letter by letter
abbrev Own : List ℕ → Type 0
Own x = (bytes_eq x (codes "name") ≡ false) × ((bytes_eq x (codes "parent") ≡ false)
    × (bytes_eq x (codes "dependsOn") ≡ false))

no_own : (a b c : Bool) → (if a then true else (if b then true else c)) ≡ false
    → (a ≡ false) × ((b ≡ false) × (c ≡ false))
no_own true b c e = absurd (true≢false e)
no_own false true c e = absurd (true≢false e)
no_own false false c e = (refl, (refl, e))

not_own : (a : Bool) → (b : Bool) → b ≡ false → (a && not b) ≡ false → a ≡ false
not_own true true e h = absurd (true≢false e)
not_own true false e h = h
not_own false b e h = refl

-- a name that is among none of these words
abbrev AreOther : List ℕ → List (List ℕ) → Type 0
AreOther x ws = AllByRecursion (λ w. is_same_folded x w ≡ false) ws

are_other : (x : List ℕ) (ws : List (List ℕ)) → is_among ws x ≡ false → AreOther x ws
are_other x [] e = tt
are_other x (w ∷ ws) e =
    let p = neither (is_same_folded x w) (list_any (is_same_folded x) ws) e in
    (p.0, are_other x ws p.1)

apart_by : (x : List ℕ) → AreOther x taken → AreOther x own → is_copy x ≡ false → IsApart x
unfolding taken own
apart_by x t o c = record {
  type = t.1.0;
  api = t.1.1.0;
  name = o.0;
  condition = t.1.1.1.0;
  depends = o.1.1.0;
  copy = no_copy x c;
  resources = t.1.1.1.1.0;
  comments = t.1.1.1.1.1.0;
  metadata = t.1.1.1.1.1.1.0;
  scope = t.0;
  subscription = t.1.1.1.1.1.1.1.0;
  group = t.1.1.1.1.1.1.1.1.0;
  existing = t.1.1.1.1.1.1.1.1.1.0;
}

-- a field of a resource that is not its own, with what its own are by the owner
resource_apart : (x : List ℕ) (mine : Bool) → mine ≡ false
    → (is_among taken x || (is_among own x && not mine)) ≡ false → is_copy x ≡ false → IsApart x
resource_apart x mine m e c =
    let p = neither (is_among taken x) (is_among own x && not mine) e in
    apart_by x (are_other x taken p.0) (are_other x own (not_own (is_among own x) mine m p.1)) c

-- the only field of a module that is none of a resource
params_apart : IsApart (codes "params")
params_apart = record {
  type = refl;
  api = refl;
  name = refl;
  condition = refl;
  depends = refl;
  copy = refl;
  resources = refl;
  comments = refl;
  metadata = refl;
  scope = refl;
  subscription = refl;
  group = refl;
  existing = refl;
}

only_params : (a b c : Bool) → not (a || (b || c)) ≡ false → a ≡ false → c ≡ false → b ≡ true
only_params true b c e f g = absurd (true≢false f)
only_params false true c e f g = refl
only_params false false true e f g = absurd (true≢false g)
only_params false false false e f g = absurd (true≢false e)

module_apart : (x : List ℕ) → is_bad_field owner.Module x ≡ false → Own x → IsApart x
module_apart x e o =
    subst IsApart
    (sym ((bytes_eq-Decides x (codes "params")).0
    (only_params (bytes_eq x (codes "name")) (bytes_eq x (codes "params")) (bytes_eq x (codes "dependsOn")) e o.0
    o.1.1)))
    params_apart

apart : (o : Owner) (x : List ℕ) → is_bad_field o x ≡ false → is_copy x ≡ false → Own x → IsApart x
apart owner.Resource x e c o =
    resource_apart x (is_own owner.Resource x)
    (nor (bytes_eq x (codes "name")) (bytes_eq x (codes "parent") || bytes_eq x (codes "dependsOn")) o.0
    (nor (bytes_eq x (codes "parent")) (bytes_eq x (codes "dependsOn")) o.1.0 o.1.1)) e c
apart owner.Nested x e c o =
    resource_apart x (is_own owner.Nested x)
    (nor (bytes_eq x (codes "name")) (bytes_eq x (codes "dependsOn")) o.0 o.1.1) e c
apart owner.Module x e c o = module_apart x e o

-- a member of the name of such a field is one of the body
pub field_is_inside : (o : Owner) (x : List ℕ) → is_bad_field o x ≡ false → is_copy x ≡ false
    → source.is_own x ≡ false → IsBodyName x
field_is_inside o x e c m =
    not_outside x
    (apart o x e c
    (no_own (bytes_eq x (codes "name")) (bytes_eq x (codes "parent")) (bytes_eq x (codes "dependsOn")) m))
