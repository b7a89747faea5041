-- The kinds of symbols, as they are written and as trees.
use Rattle.std.proofs.Common.{◌≡◌, List, [], ◌∷◌, map, refl, sym, ap, ap₂, ◌∙◌}
use Rattle.bicep_names.specs.declared.kind.Kind.{Kind}
use Rattle.bicep_symbols.specs.declared.entry.Entry.{Entry}
use Rattle.bicep_symbols.specs.Entries.{symbol_of}
use Rattle.bicep_declared.specs.declared.declared.Declared.{Declared}
use Rattle.bicep_declared.specs.Declarations.{DeclaredTree}
use Rattle.bicep_declared.specs.View.{declared_tree}
use Rattle.resolved_program.specs.declared.resolved.ResolvedFile.{ResolvedFile}
use Rattle.resolved_program.specs.View.{file_view}
use Rattle.bicep_checks.specs.Faults.{symbol_kind, kinds_of}

pub kinds_same : (es : List Entry) → map symbol_kind (map symbol_of es) ≡ map (λ e. e.kind) es
kinds_same [] = refl
kinds_same (e ∷ es) = ap (λ xs. e.kind ∷ xs) (kinds_same es)

pub ruleset kinds = (kinds_same)

-- what is said of the symbols and declarations of a file
pub same_file : {A : Type 0} (g : List Kind → List DeclaredTree → A) (f : ResolvedFile) (es : List Entry)
    (ds : List Declared) → es ≡ f.entries.items → ds ≡ f.declared.declarations.items
    → g (map (λ (e : Entry). e.kind) es) (map declared_tree ds)
    ≡ g (kinds_of (file_view f)) (file_view f).declared.declarations
same_file g f es ds p q =
    ap₂ (λ xs ys. g (map (λ (e : Entry). e.kind) xs) (map declared_tree ys)) p q
    ∙ ap (λ xs. g xs (map declared_tree f.declared.declarations.items)) (sym (kinds_same f.entries.items))
