-- Orders of the declarations of a file.
use Rattle.std.specs.Prelude.{◌≡◌, ℕ, length, List, None, map}
use Rattle.bicep_circles.specs.Kind.{Kind}
use Rattle.bicep_circles.specs.Links.{links}
use Rattle.bicep_circles.specs.Orders.{IsLinkOrder}
use Rattle.bicep_emission.specs.Files.{SourceFile, symbol_kind, declaration}

-- each symbol has a declaration
abbrev pub IsPaired : SourceFile → Type 0
IsPaired f = length f.symbols ≡ length f.declared.declarations

abbrev pub kinds : SourceFile → List Kind
kinds f = map (λ s. s.2) f.symbols

-- an order of the symbols, each after those that its declaration mentions
abbrev pub IsOrderOf : SourceFile → List ℕ → Type 0
IsOrderOf f order = IsLinkOrder (links (kinds f) f.declared.declarations) order

-- a number that is no symbol's
pub record IsNoSymbol (f : SourceFile) (n : ℕ) : Type 0 where
  pub no_declaration : declaration f n ≡ None
  pub no_kind : symbol_kind f n ≡ None
