-- Members that are built one after another.
use Rattle.std.proofs.Common.{◌≡◌, ℕ, List, [], ◌∷◌, ◌++◌, length, Result, Ok, Err, codes, chars, refl, sym, ap}
use Rattle.std.proofs.Common.{ap₂, ◌∙◌, subst}
use Rattle.std.proofs.lemmas.List.{append-nil, append_assoc}
use Rattle.std.specs.Prelude.{IfOk}
use Rattle.std.specs.declared.alloc.AllocError.{AllocError}
use Rattle.arm_value.proofs.MemberLemmas.{put_each-append}
use Rattle.foundation.proofs.AsciiWords.{word}
use Rattle.arm_value.specs.Json.{Json, Member, array, row, object, pairs, put, put_each}
use Rattle.emitted_trees.specs.Templates.{TemplateTree, TemplateMembers, TemplateValue}
use Rattle.emitted_trees.specs.Templates as t
use Rattle.emitted_trees.specs.Written.{tree_json, loop_json, copy_member, own_members, loops}
use Rattle.arm_value.specs.View.{json}
use Rattle.arm_value.specs.declared.value.Value.{Value}
use Rattle.arm_expr.specs.Tree.{Tree}
use Rattle.tree_building.specs.Built.{Members, grown, all_grown, Matches, IsLoop, AreParts}
use Rattle.tree_building.specs.declared.parts.Looped.{Looped}
use Rattle.tree_building.specs.declared.parts.Parts.{Parts}
use Rattle.tree_building.specs.declared.parts.Written.TheVariants as w

-- members of their own, and loops
abbrev both_of : List Member → List Json → Members
both_of own js = (own, js)

pub all_are : (ms : TemplateMembers) (own : List Member) (js : List Json)
    → all_grown ms (both_of own js) ≡ both_of (put_each own (own_members ms)) (js ++ loops ms)
all_are t.no_member own js = ap (both_of own) (sym (append-nil js))
all_are (t.member k (t.plain e) ms) own js = all_are ms (put k (tree_json e) own) js
all_are (t.member k (t.each c e) ms) own js =
    all_are ms own (js ++ loop_json k c (tree_json e) ∷ [])
    ∙ ap (both_of (put_each own (own_members ms))) (append_assoc js (loop_json k c (tree_json e) ∷ []) (loops ms))

pub own_is : (ms : TemplateMembers) (p : Members) → p ≡ all_grown ms (both_of [] [])
    → p.0 ≡ put_each [] (own_members ms)
own_is ms p e = ap (λ p. p.0) (e ∙ all_are ms [] [])

pub loops_are : (ms : TemplateMembers) (p : Members) → p ≡ all_grown ms (both_of [] []) → p.1 ≡ loops ms
loops_are ms p e = ap (λ p. p.1) (e ∙ all_are ms [] [])

-- the object of members and of their loops
pub object_is : (ms : TemplateMembers) (p : Members) (all : List Member) → p ≡ all_grown ms (both_of [] [])
    → all ≡ put_each p.0 (copy_member p.1) → object (pairs all) ≡ tree_json (t.object ms)
object_is ms p all e h =
    ap (λ ms. object (pairs ms))
    (h ∙ ap₂ (λ own js. put_each own (copy_member js)) (own_is ms p e) (loops_are ms p e)
    ∙ sym (put_each-append [] (own_members ms) (copy_member (loops ms))))

-- the member `copy` of some loops
pub copy_put : (own : List Member) (js : List Json) (r : Result (List Member) AllocError) → (length js ≡ 0 → ⊥)
    → IfOk r (λ f. f ≡ put (chars (codes "copy")) (array (row js)) own)
    → IfOk r (λ f. f ≡ put_each own (copy_member js))
copy_put own [] r n h = absurd (n refl)
copy_put own (j ∷ js) (Ok f) n h = h ∙ ap (λ k. put k (array (row (j ∷ js))) own) (word (codes "copy") refl)
copy_put own (j ∷ js) (Err x) n h = tt

-- a member of its own, or a loop, by what was made
pub tree_made : (v : TemplateValue) (x : Value) (k : List ℕ) (p : Members) (r : Result Parts AllocError)
    → Matches v (w.Tree x) → AreParts (put k (json x) p.0, p.1) r → AreParts (grown k v p) r
tree_made (t.plain e) x k p r h a = subst (λ j. AreParts (put k j p.0, p.1) r) h a
tree_made (t.each c e) x k p r h a = absurd h

pub loop_made : (v : TemplateValue) (l : Looped) (k : List ℕ) (p : Members) (r : Result Parts AllocError)
    → Matches v (w.Each l)
    → ((c : Tree) (e : TemplateTree) → IsLoop c e l → AreParts (grown k (t.each c e) p) r) → AreParts (grown k v p) r
loop_made (t.plain e) l k p r h f = absurd h
loop_made (t.each c e) l k p r h f = f c e h
