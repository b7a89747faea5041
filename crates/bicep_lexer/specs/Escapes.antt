-- Which characters the escapes of texts in single quotes mean.
use Rattle.std.specs.Prelude.{ℕ, ◌-◌, Bool, ◌==◌, ◌||◌, ◌&&◌, nat_le, nat_lt, Option, Some, None, if◌then◌else◌}

-- the value of a hexadecimal digit
abbrev pub hexadecimal : ℕ → Option ℕ
hexadecimal b =
    if nat_le 48 b && nat_le b 57 then Some (b - 48)
    else if nat_le 65 b && nat_le b 70 then Some (b - 55)
    else if nat_le 97 b && nat_le b 102 then Some (b - 87)
    else None

-- whether a number is a Unicode scalar value
abbrev pub is_scalar : ℕ → Bool
is_scalar v = nat_lt v 0xD800 || (nat_le 0xE000 v && nat_lt v 0x110000)

-- the character that `\` and this character mean: `\`, `'` and `$` mean themselves, `n` LF, `r` CR and `t` a tab
abbrev pub simple_escape : ℕ → Option ℕ
simple_escape b =
    if b == 92 || b == 39 || b == 36 then Some b
    else if b == 110 then Some 10
    else if b == 114 then Some 13
    else if b == 116 then Some 9
    else None
