-- Lists of segments that are too short.
use Rattle.std.proofs.Common.{◌≡◌, ◌<◌, List, [], ◌∷◌, length, None, refl, arith}
use Rattle.http_routes.specs.Segments.{Part}
use Rattle.http_routes.specs.Routes.{deployment_of, deployment_route, lock_at}

pub short_deployment : (s g : Part) (rest : List Part) → length rest < 3 → None ≡ deployment_of s g rest
short_deployment s g [] l = refl
short_deployment s g (a ∷ []) l = refl
short_deployment s g (a ∷ b ∷ []) l = refl
short_deployment s g (a ∷ b ∷ c ∷ rest) l = absurd (omega (arith, l))

pub short_path : (parts : List Part) → length parts < 5 → None ≡ deployment_route parts
short_path [] l = refl
short_path (a ∷ []) l = refl
short_path (a ∷ b ∷ []) l = refl
short_path (a ∷ b ∷ c ∷ []) l = refl
short_path (a ∷ b ∷ c ∷ d ∷ []) l = refl
short_path (a ∷ b ∷ c ∷ d ∷ e ∷ rest) l = absurd (omega (arith, l))

pub short_lock : (front last : List Part) → length last < 4 → None ≡ lock_at front last
short_lock front [] l = refl
short_lock front (a ∷ []) l = refl
short_lock front (a ∷ b ∷ []) l = refl
short_lock front (a ∷ b ∷ c ∷ []) l = refl
short_lock front (a ∷ b ∷ c ∷ d ∷ rest) l = absurd (omega (arith, l))
