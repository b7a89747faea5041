-- Whether two cells are one.
use Rattle.std.specs.Prelude.{ℕ, nat_eq, ◌&&◌, bytes_eq, Bool, true, false, List, [], ◌∷◌}
use Rattle.arm_ids.specs.declared.id.ResourceId.{ResourceId}
use Rattle.deploy_cells.specs.Cells.{Step, Position, Cell, parameter, variable, offered, output, count, included}
use Rattle.deploy_cells.specs.Cells.{name, deployments, state}

abbrev pub same_step : Step → Step → Bool
same_step s t = nat_eq s.resource t.resource && nat_eq s.copy t.copy

abbrev pub same_position : Position → Position → Bool
same_position [] [] = true
same_position (s ∷ p) (t ∷ q) = same_step s t && same_position p q
same_position _ _ = false

abbrev pub same_texts : List (List ℕ) → List (List ℕ) → Bool
same_texts [] [] = true
same_texts (x ∷ xs) (y ∷ ys) = bytes_eq x y && same_texts xs ys
same_texts _ _ = false

abbrev pub same_id : ResourceId → ResourceId → Bool
same_id i j =
    bytes_eq i.subscription j.subscription
    && (bytes_eq i.group j.group && (same_texts i.types j.types && same_texts i.names j.names))

-- of a scope, by a name
abbrev pub same_named : Position → List ℕ → Position → List ℕ → Bool
same_named p x q y = bytes_eq x y && same_position p q

-- of an instance
abbrev pub same_instance : Position → Step → Position → Step → Bool
same_instance p s q t = same_step s t && same_position p q

abbrev pub same : Cell → Cell → Bool
same (parameter p x) (parameter q y) = same_named p x q y
same (variable p x) (variable q y) = same_named p x q y
same (offered p x) (offered q y) = same_named p x q y
same (output p x) (output q y) = same_named p x q y
same (count p r) (count q s) = nat_eq r s && same_position p q
same (included p s) (included q t) = same_instance p s q t
same (name p s) (name q t) = same_instance p s q t
same (deployments p) (deployments q) = same_position p q
same (state k) (state l) = same_id k l
same _ _ = false
