-- The fixed words of an id are their own characters.
use Rattle.std.proofs.Common.{◌≡◌, codes, refl}
use Rattle.std.specs.Str.{chars}

pub chars_subscriptions : chars (codes "subscriptions") ≡ codes "subscriptions"
unfolding chars
chars_subscriptions = refl

pub chars_groups : chars (codes "resourceGroups") ≡ codes "resourceGroups"
unfolding chars
chars_groups = refl

pub chars_providers : chars (codes "providers") ≡ codes "providers"
unfolding chars
chars_providers = refl
