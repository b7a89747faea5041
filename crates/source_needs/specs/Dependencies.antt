-- Which resources and modules a declaration depends on (Microsoft Learn, "Resource dependencies in Bicep").
use Rattle.std.specs.Prelude.{ℕ, ◌&&◌, Bool, List, length, map}
use Rattle.bicep_dependencies.specs.Dependencies.{depends_on}
use Rattle.source_worlds.specs.Files.{SourceFile}
use Rattle.bicep_names.specs.declared.kind.Kind.{Kind}
use Rattle.source_worlds.specs.Numbers.{is_put, passing}

-- the kinds of the symbols of a file
abbrev pub kinds_of : SourceFile → List Kind
kinds_of f = map (λ x. x.2) f.symbols

-- whether the declaration of one symbol depends on another, which is a resource that is put or a module: it mentions
-- it, directly or through variables. A nested resource mentions the one around it. An existing resource is not put
abbrev pub is_dependency : SourceFile → ℕ → ℕ → Bool
is_dependency f k n = is_put f n && depends_on (kinds_of f) f.declared.declarations k n

-- what a declaration depends on, each once, in the order of the source
abbrev pub dependencies : SourceFile → ℕ → List ℕ
dependencies f k = passing (is_dependency f k) 0 (length f.declared.declarations)
