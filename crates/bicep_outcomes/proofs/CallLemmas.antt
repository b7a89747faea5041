-- Functions by their names.
use Rattle.std.proofs.Common.{◌≡◌, ℕ, List, [], ◌∷◌, codes, bytes_eq}
use Rattle.std.proofs.Common.{Option, Some, None, Bool, true, false, refl, sym, ap, ◌∙◌}
use Rattle.std.specs.Prelude.{if◌then◌else◌}
use Rattle.std.proofs.lemmas.Slice.Eq.{bytes_eq-Decides}
use Rattle.arm_value.specs.Json.{Json}
use Rattle.arm_value.specs.Look.{fold, is_same_folded}
use Rattle.arm_ids.proofs.SegmentLemmas.{fold-fold}
use Rattle.arm_functions.specs.Table.{Row, table, row_in}
use Rattle.arm_functions.specs.Values.{value_by, function_value}
use Rattle.arm_env.specs.Names.{placed_named, strict_named}
use Rattle.arm_env.specs.declared.function.Strict.{Strict}
use Rattle.arm_env.specs.declared.function.Strict.TheVariants as strict
use Rattle.bicep_outcomes.specs.Outcomes.{placed_of}

-- ---- texts

-- ---- functions that are not called

-- ---- names in letters of any case

row_folded : (name : List ℕ) (rs : List Row) → row_in (fold name) rs ≡ row_in name rs
unfolding row_in
row_folded name [] = refl
row_folded name (r ∷ rs) =
    ap (λ n. if bytes_eq n (fold r.0) then Some (r.1, r.2, r.3) else row_in (fold name) rs) (fold-fold name)
    ∙ ap (λ o. if is_same_folded name r.0 then Some (r.1, r.2, r.3) else o) (row_folded name rs)

-- the value of a function whose name is in small letters
pub value_folded : (name : List ℕ) (args : List Json) → function_value (fold name) args ≡ function_value name args
value_folded name args = ap (λ r. value_by r args) (row_folded name table)

-- the functions that need the place, by folded names
abbrev placed_folded : List ℕ → Option Strict
placed_folded w =
    if bytes_eq (fold (codes "resourceId")) w then Some strict.ResourceId
    else if bytes_eq (fold (codes "subscriptionResourceId")) w then Some strict.SubscriptionResourceId
    else if bytes_eq (fold (codes "resourceGroup")) w then Some strict.ResourceGroup
    else if bytes_eq (fold (codes "subscription")) w then Some strict.Subscription
    else if bytes_eq (fold (codes "deployment")) w then Some strict.Deployment
    else None

placed_is_folded : (name : List ℕ) → placed_named name ≡ placed_folded (fold name)
unfolding placed_named
placed_is_folded name = refl

if_placed : (a b c d e : Bool) → placed_of (if a then Some strict.ResourceId
    else if b then Some strict.SubscriptionResourceId else if c then Some strict.ResourceGroup
    else if d then Some strict.Subscription else if e then Some strict.Deployment else None)
    ≡ (if a then Some strict.ResourceId else if b then Some strict.SubscriptionResourceId
    else if c then Some strict.ResourceGroup else if d then Some strict.Subscription
    else if e then Some strict.Deployment else None)
if_placed true b c d e = refl
if_placed false true c d e = refl
if_placed false false true d e = refl
if_placed false false false true e = refl
if_placed false false false false true = refl
if_placed false false false false false = refl

placed_again : (w : List ℕ) → placed_of (placed_folded w) ≡ placed_folded w
placed_again w =
    if_placed (bytes_eq (fold (codes "resourceId")) w) (bytes_eq (fold (codes "subscriptionResourceId")) w)
    (bytes_eq (fold (codes "resourceGroup")) w) (bytes_eq (fold (codes "subscription")) w)
    (bytes_eq (fold (codes "deployment")) w)

twice_folded : (name : List ℕ) → placed_named (fold name) ≡ placed_folded (fold name)
twice_folded name = placed_is_folded (fold name) ∙ ap placed_folded (fold-fold name)

-- the name of another function is none of these
not_placed : (word name : List ℕ) → is_same_folded word name ≡ true → placed_folded (fold word) ≡ None
    → None ≡ placed_named (fold name)
not_placed word name h e =
    sym (twice_folded name ∙ ap placed_folded (sym ((bytes_eq-Decides (fold word) (fold name)).0 h)) ∙ e)

by_words : (a b c d : Bool) (o r : Option Strict) → (a ≡ true → None ≡ r) → (b ≡ true → None ≡ r)
    → (c ≡ true → None ≡ r) → (d ≡ true → None ≡ r) → placed_of o ≡ r
    → placed_of (if a then Some strict.Parameters else if b then Some strict.Variables
    else if c then Some strict.Reference else if d then Some strict.CopyIndex else o) ≡ r
by_words true b c d o r f g h k e = f refl
by_words false true c d o r f g h k e = g refl
by_words false false true d o r f g h k e = h refl
by_words false false false true o r f g h k e = k refl
by_words false false false false o r f g h k e = e

-- the function of a name in small letters that needs the place
pub placed_is : (name : List ℕ) → placed_of (strict_named name) ≡ placed_named (fold name)
unfolding strict_named
placed_is name =
    by_words (is_same_folded (codes "parameters") name) (is_same_folded (codes "variables") name)
    (is_same_folded (codes "reference") name) (is_same_folded (codes "copyIndex") name) (placed_named name)
    (placed_named (fold name)) (λ h. not_placed (codes "parameters") name h refl)
    (λ h. not_placed (codes "variables") name h refl) (λ h. not_placed (codes "reference") name h refl)
    (λ h. not_placed (codes "copyIndex") name h refl)
    (ap placed_of (placed_is_folded name) ∙ placed_again (fold name) ∙ sym (twice_folded name))
