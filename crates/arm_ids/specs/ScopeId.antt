-- The ids of scopes: `/subscriptions/s`, `/subscriptions/s/resourceGroups/g`, and the ids of resources.
use Rattle.std.specs.Prelude.{◌≡◌, ℕ, ◌&&◌, not, Bool, true, false, List, [], ◌∷◌, Option, Some, None, codes}
use Rattle.std.specs.Prelude.{if◌then◌else◌}
use Rattle.arm_value.specs.Look.{is_same_folded}
use Rattle.arm_ids.specs.Segments.{slashed, is_empty, has_slash}
use Rattle.arm_ids.specs.Id.{folded_text, IsPlain, IsIdOf}
use Rattle.arm_ids.specs.declared.fault.IdFault.{IdFault}
use Rattle.arm_ids.specs.declared.fault.IdFault.TheVariants.{EmptySegment, SegmentsDiffer, NotAnId, OutOfMemory}
use Rattle.arm_ids.specs.declared.scope.Scope.{Scope}
use Rattle.arm_ids.specs.declared.scope.Scope.TheVariants.{Subscription, Group, Resource}

-- the id of a scope: its names as they are spelled, and of a resource the key's id
abbrev pub scope_id : Scope → List ℕ
scope_id (Subscription s) = slashed (codes "subscriptions" ∷ s ∷ [])
scope_id (Group s g) = slashed (codes "subscriptions" ∷ s ∷ codes "resourceGroups" ∷ g ∷ [])
scope_id (Resource key) = folded_text key

-- the name is a segment: it has a character, and no slash
pub record IsSegment (name : List ℕ) : Type 0 where
  pub filled : is_empty name ≡ false
  pub cut : has_slash name ≡ false

-- the names of the scope are segments
abbrev pub IsPlainScope : Scope → Type 0
IsPlainScope (Subscription s) = IsSegment s
IsPlainScope (Group s g) = IsSegment s × IsSegment g
IsPlainScope (Resource key) = IsPlain key

-- the text is the id of a subscription, whose fixed word has letters of any case
pub record IsSubscriptionId (text s : List ℕ) : Type 0 where
  pub word : List ℕ
  pub is_word : is_same_folded (codes "subscriptions") word ≡ true
  pub name : IsSegment s
  pub spelled : text ≡ slashed (word ∷ s ∷ [])

-- the text is the id of a group, whose fixed words have letters of any case
pub record IsGroupId (text s g : List ℕ) : Type 0 where
  pub word : List ℕ
  pub is_word : is_same_folded (codes "subscriptions") word ≡ true
  pub name : IsSegment s
  pub group_word : List ℕ
  pub is_group_word : is_same_folded (codes "resourceGroups") group_word ≡ true
  pub group_name : IsSegment g
  pub spelled : text ≡ slashed (word ∷ s ∷ group_word ∷ g ∷ [])

-- the text is the id of this scope, which has the letters of its names as the text has them
abbrev pub IsIdOfScope : List ℕ → Scope → Type 0
IsIdOfScope text (Subscription s) = IsSubscriptionId text s
IsIdOfScope text (Group s g) = IsGroupId text s g
IsIdOfScope text (Resource key) = IsIdOf text key

-- the fault of a text that was to be the id of a scope
abbrev pub IsNoScope : List ℕ → IdFault → Type 0
IsNoScope text NotAnId = (scope : Scope) → IsIdOfScope text scope → ⊥
IsNoScope text OutOfMemory = Unit {0}
IsNoScope text EmptySegment = ⊥
IsNoScope text SegmentsDiffer = ⊥

-- whether a segment is the fixed word and the name after it is not empty
abbrev pub is_pair : List ℕ → List ℕ → List ℕ → Bool
is_pair word segment name = is_same_folded word segment && not (is_empty name)

-- whether these are the first segments of an id in a subscription: nothing, the fixed word, and a name
abbrev pub is_start : List ℕ → List ℕ → List ℕ → Bool
is_start root word name = is_empty root && is_pair (codes "subscriptions") word name

-- the subscription or the group whose id has these segments
abbrev pub container_of : List (List ℕ) → Option Scope
container_of (root ∷ a ∷ s ∷ []) = if is_start root a s then Some (Subscription s) else None
container_of (root ∷ a ∷ s ∷ b ∷ g ∷ []) =
    if is_start root a s && is_pair (codes "resourceGroups") b g then Some (Group s g) else None
container_of _ = None
