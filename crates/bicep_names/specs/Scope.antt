-- What names stand for.
use Rattle.std.specs.Prelude.{ℕ, ◌+◌, ◌==◌, Bool, false, List, [], ◌∷◌, Option, Some, None, option_map, bytes_eq}
use Rattle.std.specs.Prelude.{encode_utf8_all, string_bytes, slice_get, position, if◌then◌else◌}
use Rattle.std.specs.declared.string.String.{String}
use Rattle.std.specs.declared.alloc.Global.{Global}
use Rattle.bicep_tree.specs.declared.leaf.LoopNames.{LoopNames}
use Rattle.bicep_tree.specs.declared.leaf.LoopNames.TheVariants as ns
use Rattle.bicep_resolved.specs.declared.leaf.Meaning.{Meaning}
use Rattle.bicep_resolved.specs.declared.leaf.Meaning.TheVariants as m
use Rattle.bicep_resolved.specs.declared.leaf.Target.{Target}
use Rattle.bicep_resolved.specs.declared.leaf.Target.TheVariants as t
use Rattle.bicep_names.specs.declared.kind.Kind.{Kind}
use Rattle.bicep_names.specs.declared.kind.Kind.TheVariants as k
use Rattle.bicep_names.specs.declared.kind.Named.{Named}
use Rattle.bicep_names.specs.declared.kind.Named.TheVariants as named

-- the symbols of a file in source order, each with the bytes of its name in UTF-8
abbrev pub Symbols : Type 0
Symbols = List (List ℕ × Kind)

-- the names of the outputs of a file in source order, as bytes in UTF-8
abbrev pub OutputNames : Type 0
OutputNames = List (List ℕ)

-- the symbols of a file, and of each file of its program the outputs
pub record Scope : Type 0 where
  pub symbols : Symbols
  pub outputs : List OutputNames

abbrev pub scope : Symbols → List OutputNames → Scope
scope ss os = record { symbols = ss; outputs = os }

-- an entry of a map of symbols
abbrev pub seen : String Global × Kind → List ℕ × Kind
seen e = (string_bytes e.0, e.1)

-- what the symbol of that kind and number is
abbrev pub symbol : Kind → ℕ → Named
symbol k.Parameter n = named.Value (m.Parameter n)
symbol k.Variable n = named.Value (m.Variable n)
symbol (k.Resource inside) n = named.Instance (t.Resource n)
symbol (k.ResourceLoop inside) n = named.Instance (t.ResourceLoop n)
symbol (k.Module file) n = named.Instance (t.Module n file)
symbol (k.ModuleLoop file) n = named.Instance (t.ModuleLoop n file)

-- the symbol of that name, letter by letter, and its number, where the first of these has the number n
abbrev pub symbol_from : ℕ → List ℕ → Symbols → Option (ℕ × Kind)
symbol_from n name [] = None
symbol_from n name (s ∷ ss) = if bytes_eq name s.0 then Some (n, s.1) else symbol_from (n + 1) name ss

-- the item or the index of a loop that is n loops outwards
abbrev pub in_loop : ℕ → List ℕ → LoopNames → Option Meaning
in_loop n name (ns.Item x) = if bytes_eq name x.text then Some (m.Item n) else None
in_loop n name (ns.Both x i) = if bytes_eq name x.text then Some (m.Item n) else
    (if bytes_eq name i.text then Some (m.Index n) else None)

abbrev pub or_else : Option Meaning → Option Meaning → Option Meaning
or_else (Some x) o = Some x
or_else None o = o

-- a name of the nearest loop that has it, where the first of these is n loops outwards
abbrev pub loop_from : ℕ → List ℕ → List LoopNames → Option Meaning
loop_from n name [] = None
loop_from n name (l ∷ ls) = or_else (in_loop n name l) (loop_from (n + 1) name ls)

-- names of loops come before symbols
abbrev pub named_by : Option Meaning → Option (ℕ × Kind) → Option Named
named_by (Some x) o = Some (named.Value x)
named_by None o = option_map (λ p. symbol p.1 p.0) o

-- what a name stands for inside loops, of which the nearest is the first
unfoldable pub meaning_of : Symbols → List LoopNames → List ℕ → Option Named
meaning_of ss ls name = named_by (loop_from 0 name ls) (symbol_from 0 (encode_utf8_all name) ss)

-- whether the resource of that number is the one around
abbrev pub is_inside : ℕ → Option ℕ → Bool
is_inside around None = false
is_inside around (Some n) = n == around

-- the resource of that kind and number, where it is nested in the one of the number `around`
abbrev pub nested_by : ℕ → ℕ → Kind → Option Target
nested_by around n (k.Resource inside) = if is_inside around inside then Some (t.Resource n) else None
nested_by around n (k.ResourceLoop inside) = if is_inside around inside then Some (t.ResourceLoop n) else None
nested_by around n kind = None

abbrev pub nested_among : ℕ → Option (ℕ × Kind) → Option Target
nested_among around None = None
nested_among around (Some p) = nested_by around p.0 p.1

-- the resource of that name that is nested in the one of the number `around`
unfoldable pub nested_named : Symbols → ℕ → List ℕ → Option Target
nested_named ss around name = nested_among around (symbol_from 0 (encode_utf8_all name) ss)

abbrev pub output_in : List ℕ → Option OutputNames → Option ℕ
output_in name None = None
output_in name (Some names) = position (bytes_eq name) names

-- the number of the output of that name, letter by letter, among those of the file of a program
unfoldable pub output_named : List OutputNames → ℕ → List ℕ → Option ℕ
output_named os file name = output_in (encode_utf8_all name) (slice_get os file)
