-- Names of members that differ, and names that are not `copy`.
use Rattle.std.proofs.Common.{◌≡◌, ◌≢◌, ℕ, Bool, true, false, true≢false, List, [], ◌∷◌, ◌++◌, Option, Some, None}
use Rattle.std.proofs.Common.{refl, sym, ap, ◌∙◌, codes}
use Rattle.std.specs.Prelude.{bytes_eq, if◌then◌else◌}
use Rattle.std.specs.List.{AllByRecursion}
use Rattle.foundation.proofs.TruthValues.{nor, or_left, or_right}
use Rattle.foundation.proofs.Words.{eq_word, itself}
use Rattle.arm_value.specs.Look.{fold, is_same_folded}
use Rattle.arm_expr.specs.Brackets as brackets
use Rattle.name_set.specs.Names.{is_listed}
use Rattle.bicep_tree.specs.Offset.{label_offset}
use Rattle.bicep_tree.specs.Symbol.{label_text}
use Rattle.bicep_tree.specs.Tree.{MemberTrees}
use Rattle.bicep_tree.specs.Tree as tree
use Rattle.bicep_members.specs.Labels.{repeated_from}
use Rattle.bicep_misplaced.specs.Words.{is_copy, copying}
use Rattle.emitted_trees.specs.Sound.{Differ}

-- the names of the members of an object
abbrev pub property_names : MemberTrees → List (List ℕ)
property_names tree.no_member = []
property_names (tree.and_member (tree.property l v) ms) = label_text l ∷ property_names ms
property_names (tree.and_member (tree.child ds r) ms) = property_names ms

abbrev pub NotAmong : List (List ℕ) → List (List ℕ) → Type 0
NotAmong before ys = AllByRecursion (λ y. is_listed before y ≡ false) ys

-- not among some and one more
record IsOther (before : List (List ℕ)) (x y : List ℕ) : Type 0 where
  among : is_listed before y ≡ false
  same : bytes_eq y x ≡ false

split : (before : List (List ℕ)) (x y : List ℕ) → is_listed (before ++ x ∷ []) y ≡ false → IsOther before x y
split [] x y e = record { among = refl; same = or_left (bytes_eq y x) false e }
split (z ∷ before) x y e =
    let h = split before x y (or_right (bytes_eq y z) (is_listed (before ++ x ∷ []) y) e) in
    record {
      among =
          nor (bytes_eq y z) (is_listed before y)
          (or_left (bytes_eq y z) (is_listed (before ++ x ∷ []) y) e) h.among;
      same = h.same;
    }

others : (before : List (List ℕ)) (x : List ℕ) (ys : List (List ℕ)) → NotAmong (before ++ x ∷ []) ys
    → NotAmong before ys
others before x [] h = tt
others before x (y ∷ ys) h = ((split before x y h.0).among, others before x ys h.1)

unequal : (x y : List ℕ) → bytes_eq y x ≡ false → x ≢ y
unequal x y e g = true≢false (sym (itself y) ∙ ap (bytes_eq y) (sym g) ∙ e)

all_unequal : (before : List (List ℕ)) (x : List ℕ) (ys : List (List ℕ)) → NotAmong (before ++ x ∷ []) ys
    → AllByRecursion (λ other. x ≢ other) ys
all_unequal before x [] h = tt
all_unequal before x (y ∷ ys) h = (unequal x y (split before x y h.0).same, all_unequal before x ys h.1)

pub record AreNew (before : List (List ℕ)) (ys : List (List ℕ)) : Type 0 where
  pub among : NotAmong before ys
  pub differ : Differ ys

module _ (before : List (List ℕ)) where
  not_listed : (b : Bool) (x : List ℕ) (at : ℕ) (o : Option ℕ) → is_listed before x ≡ b
      → (if b then Some at else o) ≡ None → (is_listed before x ≡ false) × (o ≡ None)
  not_listed true x at o e h = absurd cc
  not_listed false x at o e h = (e, h)

pub names_differ : (before : List (List ℕ)) (ms : MemberTrees) → repeated_from before ms ≡ None
    → AreNew before (property_names ms)
names_differ before tree.no_member e = record { among = tt; differ = tt }
names_differ before (tree.and_member (tree.property l v) ms) e =
    let x = label_text l in
    let g = not_listed before (is_listed before x) x (label_offset l) (repeated_from (before ++ x ∷ []) ms) refl e in
    let h = names_differ (before ++ x ∷ []) ms g.1 in
    record {
      among = (g.0, others before x (property_names ms) h.among);
      differ = (all_unequal before x (property_names ms) h.among, h.differ);
    }
names_differ before (tree.and_member (tree.child ds r) ms) e = names_differ before ms e

-- ---- `copy`

copy_by : (name : List ℕ) (b : Bool) → brackets.is_copy name ≡ b → is_copy name ≡ false → b ≡ false
unfolding copying
copy_by name true e h =
    let g : name ≡ codes "copy" = eq_word name (codes "copy") e in
    absurd (true≢false (sym (itself (fold (codes "copy"))) ∙ ap (λ n. bytes_eq (fold n) (fold (codes "copy"))) (sym g)
    ∙ or_left (is_same_folded name (codes "copy")) false h))
copy_by name false e h = refl

-- a name that is no `copy` in any letters is none in these
pub not_copy : (name : List ℕ) → is_copy name ≡ false → brackets.is_copy name ≡ false
not_copy name h = copy_by name (brackets.is_copy name) refl h
