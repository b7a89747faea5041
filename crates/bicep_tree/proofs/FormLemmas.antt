-- Forms of single tokens.
use Rattle.std.proofs.Common.{ℕ, Bool, List, [], ◌∷◌, refl}
use Rattle.bicep_tree.specs.declared.terminal.Terminal.{Terminal}
use Rattle.bicep_tree.specs.Terminals.{Placed}
use Rattle.bicep_tree.specs.Forms.{any, skipped, sign, token_at, token}

pub any_none : (test : Terminal → Bool) (ts : List Placed) → any test ts ts
any_none test ts = ([], tt, refl)

pub none_skipped : (i : Bool) (ts : List Placed) → skipped i ts ts
none_skipped i ts = ([], tt, refl)

pub its_sign : (at : ℕ) (s : Terminal) (ks : List Placed) → sign s ((at, s) ∷ ks) ks
its_sign at s ks = (at, refl)

pub its_token : (i : Bool) (at : ℕ) (s : Terminal) (ks : List Placed) → token i s ((at, s) ∷ ks) ks
its_token i at s ks = ((at, s) ∷ ks, none_skipped i ((at, s) ∷ ks), its_sign at s ks)

pub its_token_at : (i : Bool) (at : ℕ) (s : Terminal) (ks : List Placed) → token_at i at s ((at, s) ∷ ks) ks
its_token_at i at s ks = ((at, s) ∷ ks, none_skipped i ((at, s) ∷ ks), refl)
