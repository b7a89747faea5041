-- An expression stands for nothing exactly where a name in it means nothing.
use Rattle.std.proofs.Common.{◌≡◌, ◌⊎◌, inl, inr, ℕ, List, ◌∷◌, Option, Some, None, refl, sym}
use Rattle.std.proofs.lemmas.Option.{none-some}
use Rattle.bicep_tree.specs.declared.leaf.Access.{Access}
use Rattle.bicep_tree.specs.declared.leaf.Access.TheVariants as access
use Rattle.bicep_tree.specs.declared.leaf.LoopNames.{LoopNames}
use Rattle.bicep_tree.specs.declared.leaf.Name.{Name}
use Rattle.bicep_tree.specs.Offset.{function_offset}
use Rattle.bicep_tree.specs.Tree.{Tree, Trees, Holes, ObjectTree, MemberTrees, ValueTree}
use Rattle.bicep_tree.specs.Tree as tree
use Rattle.bicep_resolved.specs.declared.leaf.Field.TheVariants as f
use Rattle.bicep_resolved.specs.declared.leaf.Target.{Target}
use Rattle.bicep_resolved.specs.Source.{SourceTree, SourceTrees, ReachTree}
use Rattle.bicep_resolved.specs.Source as s
use Rattle.bicep_resolved.specs.Place.{reach_offset}
use Rattle.bicep_resolved.specs.Target.{number_of, target_of}
use Rattle.bicep_found.specs.Found.{Found, found, unknown, mapped, then_found, both}
use Rattle.bicep_names.specs.declared.kind.Named.{Named}
use Rattle.bicep_names.specs.Functions.{function_named}
use Rattle.bicep_names.specs.Scope.{Scope, meaning_of, nested_named}
use Rattle.bicep_names.specs.Resolve.{resolved, resolved_all, resolved_holes, resolved_object, resolved_members}
use Rattle.bicep_names.specs.Resolve.{resolved_value, name_at, accessed, member_of, nested_of, nested_at, output_at}
use Rattle.bicep_names.specs.Resolve.{output_of, called_by, function_name}
use Rattle.bicep_names.specs.Unknown.{HasUnknown, OneHasUnknown, HoleHasUnknown, ObjectHasUnknown, MemberHasUnknown}
use Rattle.bicep_names.specs.Unknown.{ValueHasUnknown, Tells, Lacks, FoundLacks}

pub tells-mapped : {A B : Type 0} (P : ℕ → Type 0) (g : A → B) (x : Found A) → Tells P x → Tells P (mapped g x)
unfolding mapped
tells-mapped P g (found x) h = h
tells-mapped P g (unknown at) h = h

pub tells-both : {A B : Type 0} (P Q : ℕ → Type 0) (x : Found A) (y : Found B) → Tells P x → Tells Q y
    → Tells (λ at. P at ⊎ Q at) (both x y)
unfolding both
tells-both P Q (found x) (found y) h k = λ at c. elim c [ inl p ↦ h at p | inr q ↦ k at q ]
tells-both P Q (found x) (unknown at) h k = inr k
tells-both P Q (unknown at) y h k = inl h

tells-name : (at : ℕ) (o : Option Named) → Tells (λ b. (at ≡ b) × (o ≡ None)) (name_at at o)
tells-name at (Some x) = λ b p. none-some x (sym p.1)
tells-name at None = (refl, refl)

tells-output : (r : ReachTree) (at : ℕ) (o : Option ℕ) → Tells (λ b. (at ≡ b) × (o ≡ None)) (output_at r at o)
tells-output r at (Some x) = λ b p. none-some x (sym p.1)
tells-output r at None = (refl, refl)

tells-reach : (at name_at : ℕ) (o : Option Target) → Tells (λ b. (name_at ≡ b) × (o ≡ None)) (nested_at at name_at o)
tells-reach at name_at (Some x) = λ b p. none-some x (sym p.1)
tells-reach at name_at None = (refl, refl)

tells-called : (P : ℕ → Type 0) (at name_at : ℕ) (o : Option (List ℕ)) (es : Found SourceTrees) → Tells P es
    → Tells (λ b. ((name_at ≡ b) × (o ≡ None)) ⊎ P b) (called_by at name_at o es)
unfolding mapped
tells-called P at name_at None es h = inl (refl, refl)
tells-called P at name_at (Some r) (found xs) h =
    λ b c. elim c [ inl p ↦ none-some r (sym p.1) | inr q ↦ h b q ]
tells-called P at name_at (Some r) (unknown b) h = inr h

tells-or : {A : Type 0} (P Q : ℕ → Type 0) (x : Found A) → ((at : ℕ) → P at → ⊥) → Tells Q x
    → Tells (λ at. P at ⊎ Q at) x
tells-or P Q (found x) never h = λ at c. elim c [ inl p ↦ never at p | inr q ↦ h at q ]
tells-or P Q (unknown at) never h = inr h

tells-member : (sc : Scope) (e : SourceTree) (n : Name)
    → Tells (λ b. (n.at ≡ b) × Lacks sc e access.Member n.text) (member_of sc.outputs e n)
unfolding member_of
tells-member sc (s.field r at f.Outputs) n = tells-output r n.at (output_of sc.outputs (target_of r) n.text)
tells-member sc e n = λ b p. p.1

tells-nested : (sc : Scope) (e : SourceTree) (n : Name)
    → Tells (λ b. (n.at ≡ b) × Lacks sc e access.Nested n.text) (nested_of sc.symbols e n)
unfolding nested_of
tells-nested sc (s.instance r) n =
    tells-reach (reach_offset r) n.at (nested_named sc.symbols (number_of (target_of r)) n.text)
tells-nested sc e n = (refl, tt)

no_safe : (sc : Scope) (e : SourceTree) (name : List ℕ) → Lacks sc e access.SafeMember name → ⊥
no_safe sc e name h = h

tells-accessed : (sc : Scope) (e : SourceTree) (k : Access) (n : Name)
    → Tells (λ b. (n.at ≡ b) × Lacks sc e k n.text) (accessed sc e k n)
tells-accessed sc e access.Member n = tells-member sc e n
tells-accessed sc e access.SafeMember n = λ b p. no_safe sc e n.text p.1
tells-accessed sc e access.Nested n = tells-nested sc e n

tells-then : (P : ℕ → Type 0) (sc : Scope) (x : Found SourceTree) (k : Access) (n : Name) → Tells P x
    → Tells (λ b. P b ⊎ ((n.at ≡ b) × FoundLacks sc x k n.text)) (then_found (λ y. accessed sc y k n) x)
unfolding then_found
tells-then P sc (found y) k n h =
    tells-or P (λ b. (n.at ≡ b) × Lacks sc y k n.text) (accessed sc y k n) h (tells-accessed sc y k n)
tells-then P sc (unknown at) k n h = inl h

module _ (sc : Scope) where
  mutual
    pub tells : (e : Tree) (ls : List LoopNames) → Tells (λ at. HasUnknown sc at e ls) (resolved sc e ls)
    tells (tree.name n) ls = tells-name n.at (meaning_of sc.symbols ls n.text)
    tells (tree.literal at v) ls = λ b p. p
    tells (tree.interpolated at first hs) ls = tells-mapped _ _ (resolved_holes sc hs ls) (tells_holes hs ls)
    tells (tree.object o) ls = tells_object o ls
    tells (tree.array at es) ls = tells-mapped _ _ (resolved_all sc es ls) (tells_all es ls)
    tells (tree.parentheses at e) ls = tells e ls
    tells (tree.call g es) ls =
        tells-called _ (function_offset g) (function_name g).at (function_named (function_name g).text)
        (resolved_all sc es ls) (tells_all es ls)
    tells (tree.access e k n) ls = tells-then _ sc (resolved sc e ls) k n (tells e ls)
    tells (tree.index e k i) ls = tells-mapped _ _ _ (tells-both _ _ _ _ (tells e ls) (tells i ls))
    tells (tree.not_null e) ls = tells e ls
    tells (tree.prefixed at p e) ls = tells-mapped _ _ (resolved sc e ls) (tells e ls)
    tells (tree.binary o x y) ls = tells-mapped _ _ _ (tells-both _ _ _ _ (tells x ls) (tells y ls))
    tells (tree.conditional c x y) ls =
        tells-mapped _ _ _ (tells-both _ _ _ _ (tells c ls) (tells-both _ _ _ _ (tells x ls) (tells y ls)))

    pub tells_all : (es : Trees) (ls : List LoopNames) → Tells (λ at. OneHasUnknown sc at es ls) (resolved_all sc es ls)
    tells_all tree.none ls = λ b p. p
    tells_all (tree.more e es) ls = tells-mapped _ _ _ (tells-both _ _ _ _ (tells e ls) (tells_all es ls))

    pub tells_holes : (hs : Holes) (ls : List LoopNames)
        → Tells (λ at. HoleHasUnknown sc at hs ls) (resolved_holes sc hs ls)
    tells_holes tree.no_hole ls = λ b p. p
    tells_holes (tree.hole e after hs) ls = tells-mapped _ _ _ (tells-both _ _ _ _ (tells e ls) (tells_holes hs ls))

    pub tells_object : (o : ObjectTree) (ls : List LoopNames)
        → Tells (λ at. ObjectHasUnknown sc at o ls) (resolved_object sc o ls)
    tells_object (tree.braces at ms) ls = tells-mapped _ _ (resolved_members sc ms ls) (tells_members ms ls)

    pub tells_members : (ms : MemberTrees) (ls : List LoopNames)
        → Tells (λ at. MemberHasUnknown sc at ms ls) (resolved_members sc ms ls)
    tells_members tree.no_member ls = λ b p. p
    tells_members (tree.and_member (tree.property l v) ms) ls =
        tells-mapped _ _ _ (tells-both _ _ _ _ (tells_value v ls) (tells_members ms ls))
    tells_members (tree.and_member (tree.child ds r) ms) ls = tells_members ms ls

    pub tells_value : (v : ValueTree) (ls : List LoopNames)
        → Tells (λ at. ValueHasUnknown sc at v ls) (resolved_value sc v ls)
    tells_value (tree.plain e) ls = tells-mapped _ _ (resolved sc e ls) (tells e ls)
    tells_value (tree.each (tree.loop at names xs) e) ls =
        tells-mapped _ _ _ (tells-both _ _ _ _ (tells xs ls) (tells e (names ∷ ls)))
