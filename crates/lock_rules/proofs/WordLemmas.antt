-- Fixed words are their own characters.
use Rattle.std.proofs.Common.{◌≡◌, codes, refl}
use Rattle.std.specs.Str.{chars}

pub chars_can_not_delete : chars (codes "CanNotDelete") ≡ codes "CanNotDelete"
unfolding chars
chars_can_not_delete = refl

pub chars_read_only : chars (codes "ReadOnly") ≡ codes "ReadOnly"
unfolding chars
chars_read_only = refl
