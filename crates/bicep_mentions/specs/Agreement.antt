-- Where the same is known of symbols.
use Rattle.std.specs.Prelude.{◌≡◌, ℕ}
use Rattle.bicep_mentions.specs.States.{StateReads}

-- the same is known of a symbol
abbrev pub AgreeAt : StateReads → StateReads → ℕ → Type 0
AgreeAt a b n = (a.own n ≡ b.own n) × (a.whole n ≡ b.whole n)

-- the same is known of all symbols
abbrev pub IsKnown : StateReads → StateReads → Type 0
IsKnown a b = (n : ℕ) → AgreeAt a b n
