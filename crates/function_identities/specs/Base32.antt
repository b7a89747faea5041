-- Base32 in small letters and without padding (RFC 4648, section 6).
use Rattle.std.specs.Prelude.{ℕ, ◌+◌, ◌*◌, ◌/◌, ◌%◌, List, [], ◌∷◌, map, slice_index, codes}
use Rattle.std.specs.List.{flat_map}

-- the eight bits of a byte, the most significant first
abbrev pub byte_bits : ℕ → List ℕ
byte_bits b =
    (b / 128 % 2) ∷ (b / 64 % 2) ∷ (b / 32 % 2) ∷ (b / 16 % 2)
    ∷ (b / 8 % 2) ∷ (b / 4 % 2) ∷ (b / 2 % 2) ∷ (b % 2) ∷ []

-- the bits of bytes, one byte after another
unfoldable pub bits_of : List ℕ → List ℕ
bits_of bytes = flat_map byte_bits bytes

-- the number of five bits, the first the most significant
abbrev pub group_of : ℕ → ℕ → ℕ → ℕ → ℕ → ℕ
group_of a b c d e = a * 16 + b * 8 + c * 4 + d * 2 + e

-- the numbers of bits in groups of five, the last group filled with zero bits
unfoldable pub groups_of : List ℕ → List ℕ
groups_of [] = []
groups_of (a ∷ []) = group_of a 0 0 0 0 ∷ []
groups_of (a ∷ b ∷ []) = group_of a b 0 0 0 ∷ []
groups_of (a ∷ b ∷ c ∷ []) = group_of a b c 0 0 ∷ []
groups_of (a ∷ b ∷ c ∷ d ∷ []) = group_of a b c d 0 ∷ []
groups_of (a ∷ b ∷ c ∷ d ∷ e ∷ rest) = group_of a b c d e ∷ groups_of rest

-- the symbol of a number below 32
abbrev pub symbol_of : ℕ → ℕ
symbol_of group = slice_index (codes "abcdefghijklmnopqrstuvwxyz234567") group

-- a symbol for each group of five bits
abbrev pub base32 : List ℕ → List ℕ
base32 bytes = map symbol_of (groups_of (bits_of bytes))
