-- The members of a first part, put one after another.
use Rattle.std.proofs.Common.{◌≡◌, ℕ, pos, List, [], codes, refl, ◌∙◌, ap}
use Rattle.arm_value.specs.Json.{Json, int, text, Member, put}
use Rattle.provider_trait.specs.FirstPart.{Assignment, first_members}

-- a member that is put at a name, among members that are known
pub put_named : (k w : List ℕ) (j : Json) (ms ns new : List Member) → new ≡ put k j ms → k ≡ w → ms ≡ ns
    → new ≡ put w j ns
put_named k w j ms ns new is name others =
    is ∙ ap (λ (n : List ℕ). put n j ms) name ∙ ap (λ (l : List Member). put w j l) others

-- the members in the order in which they are put
pub in_order : (a : Assignment)
    → put (codes "worker") (int (pos a.worker))
    (put (codes "task") (int (pos a.task))
    (put (codes "id") (text a.id) (put (codes "body") a.body (put (codes "api") (text a.api) []))))
    ≡ first_members a
unfolding first_members lib.Utf8.encode
in_order a = refl
