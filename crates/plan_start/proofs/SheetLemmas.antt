-- The symbolic names that a sheet keeps.
use Rattle.std.proofs.Common.{◌≡◌, ℕ, ◌<◌, List, [], ◌∷◌, ◌++◌, length, sym, subst}
use Rattle.reading.specs.World.{Each}
use Rattle.plan_cells.specs.Meaning.{Deployment}
use Rattle.plan_table.specs.declared.table.Table.{Table}
use Rattle.plan_table.specs.Whole.{whole_of, IsLaid}
use Rattle.plan_table.specs.Found.{scope_at}
use Rattle.plan_telling.specs.declared.register.Kept.{Kept}
use Rattle.plan_telling.specs.Symbols.{AreKept, IsOfScope}
use Rattle.plan_telling.proofs.SymbolLemmas.{of_scope}

-- the same names, of a table of the same deployment
pub same_kept : (d e : Deployment) (ks : List Kept) → e ≡ d → Each (IsOfScope d.template) ks
    → Each (IsOfScope e.template) ks
same_kept d e ks q h = subst (λ (x : Deployment). Each (IsOfScope x.template) ks) (sym q) h

each_pushed : {A : Type 0} (P : A → Type 0) (xs : List A) (x : A) → Each P xs → P x → Each P (xs ++ x ∷ [])
each_pushed P [] x h p = (p, tt)
each_pushed P (y ∷ xs) x h p = (h.0, each_pushed P xs x h.1 p)

-- with those of one more scope
pub one_more_kept : (t : Table) (f : ℕ) (ks more : List Kept) (k : Kept) → IsLaid t → f < length t.frames.items
    → Each (IsOfScope (whole_of t).template) ks → AreKept k (scope_at t f) → more ≡ ks ++ k ∷ []
    → Each (IsOfScope (whole_of t).template) more
one_more_kept t f ks more k laid h e a q =
    subst (Each (IsOfScope (whole_of t).template)) (sym q)
    (each_pushed (IsOfScope (whole_of t).template) ks k e (of_scope t f k laid h a))
