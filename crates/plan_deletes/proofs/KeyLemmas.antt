-- Keys that are looked up by their numbers.
use Rattle.std.proofs.Common.{◌≡◌, ℕ, true, ◌||◌, List, [], ◌∷◌, ◌++◌, bytes_eq, refl, ap, ap₂, sym, ◌∙◌}
use Rattle.std.specs.Prelude.{cond}
use Rattle.std.specs.List.{list_any}
use Rattle.std.specs.BTreeSet.{BTreeSet, contains, Updates}
use Rattle.std.specs.declared.vec.Vec.{Vec}
use Rattle.std.specs.declared.alloc.Global.{Global}
use Rattle.std.proofs.lemmas.List.Folds.{list_any-append}
use Rattle.std.proofs.lemmas.Map.Text.{is_eq-slice_cmp}
use Rattle.foundation.proofs.TruthValues.{last_or}
use Rattle.foundation.proofs.Words.{swapped}
use Rattle.arm_ids.specs.declared.id.ResourceId.{ResourceId}
use Rattle.deploy_cells.specs.Same.{same_id}
use Rattle.key_tags.specs.KeyCodes.{key_code}
use Rattle.key_tags.proofs.CodeLemmas.{key_eq}
use Rattle.plan_deletes.specs.KeySets.{numbers_cmp, HasKeys}

among_keys : (k : ResourceId) (ks : List ResourceId)
    → list_any (λ l. bytes_eq (key_code k) (key_code l)) ks ≡ list_any (same_id k) ks
among_keys k [] = refl
among_keys k (l ∷ ls) = ap₂ (λ a b. a || b) (key_eq k l) (among_keys k ls)

pub has_by_numbers : (s : BTreeSet (Vec ℕ Global)) (ks : List ResourceId) (v : Vec ℕ Global) (k : ResourceId)
    → HasKeys s ks → v.items ≡ key_code k → contains numbers_cmp s v ≡ list_any (same_id k) ks
has_by_numbers s ks v k h e =
    h v ∙ ap (λ xs. list_any (λ l. bytes_eq xs (key_code l)) ks) e ∙ among_keys k ks

-- one more key
pub keys_more : (old new : BTreeSet (Vec ℕ Global)) (ks : List ResourceId) (v : Vec ℕ Global) (k : ResourceId)
    → HasKeys old ks → v.items ≡ key_code k → Updates numbers_cmp old new v true → HasKeys new (ks ++ k ∷ [])
keys_more old new ks v k h e u =
    λ s.
    let here = is_eq-slice_cmp v.items s.items ∙ swapped v.items s.items ∙ ap (bytes_eq s.items) e in
    u.0 s ∙ ap₂ (λ x y. cond x true y) here (h s)
    ∙ last_or (bytes_eq s.items (key_code k)) (list_any (λ l. bytes_eq s.items (key_code l)) ks)
    ∙ sym (list_any-append (λ l. bytes_eq s.items (key_code l)) ks (k ∷ []))
