-- The symbolic names of a scope, and positions that are one.
use Rattle.std.proofs.Common.{◌≡◌, ℕ, zero, suc, ◌+◌, ◌<◌, ◌≤◌, List, [], ◌∷◌, ◌++◌, map, drop, length, get_or}
use Rattle.std.proofs.Common.{Some, sym, ap, subst, ◌∙◌, append_assoc, append-nil}
use Rattle.std.specs.Prelude.{slice_get}
use Rattle.std.proofs.lemmas.List.{drop_more, drop_all}
use Rattle.reading.specs.World.{Each}
use Rattle.arm_value.specs.View.{json}
use Rattle.arm_eval.specs.Titles as titles
use Rattle.deploy_cells.specs.Cells.{step}
use Rattle.plan_sight.specs.Scopes.{template_at}
use Rattle.plan_sight.specs.Sites.{symbol_by, symbols_in, title_in, listed_at_scope}
use Rattle.plan_table.specs.declared.frame.Instance.{Instance}
use Rattle.plan_table.specs.declared.frame.Frame.{Frame}
use Rattle.plan_table.specs.declared.listed.Listed.{Listed}
use Rattle.plan_table.specs.declared.table.Table.{Table}
use Rattle.plan_table.specs.Listed.{listed_of}
use Rattle.plan_table.specs.Opened.{Opened, step_of}
use Rattle.plan_table.specs.Whole.{whole_of, IsLaid}
use Rattle.plan_table.specs.Found.{scope_at}
use Rattle.plan_sight.proofs.LookLemmas.{scope_is, scopes_there}
use Rattle.plan_telling.specs.declared.register.Kept.{Kept}
use Rattle.plan_telling.specs.Symbols.{symbolic, symbols_at, AreKept, IsOfScope}

-- ---- the loop over the resources

module _ (got more : List titles.Listed) (xs : List Listed) (i : ℕ) (all : List titles.Listed) where
  pub symbols_more : (x : Listed) (ss : List titles.Listed) → i < length xs → x ≡ get_or xs i x
      → ss ≡ symbol_by (listed_of x) x.declaration.now.symbol (title_in (json x.declaration.now.name))
      → more ≡ got ++ ss → got ++ symbols_in (map listed_of (drop i xs)) ≡ all
      → more ++ symbols_in (map listed_of (drop (i + 1) xs)) ≡ all
  symbols_more x ss h e s m before =
      let rest : List titles.Listed = symbols_in (map listed_of (drop (i + 1) xs)) in
      let next : drop i xs ≡ x ∷ drop (i + 1) xs =
      drop_more xs i x h ∙ ap (λ y. y ∷ drop (i + 1) xs) (sym e) in
      ap (λ ys. ys ++ rest) (m ∙ ap (λ ys. got ++ ys) s)
      ∙ append_assoc got (symbol_by (listed_of x) x.declaration.now.symbol (title_in
      (json x.declaration.now.name))) rest
      ∙ ap (λ ys. got ++ symbols_in (map listed_of ys)) (sym next) ∙ before

  pub symbols_end : length xs ≤ i → got ++ symbols_in (map listed_of (drop i xs)) ≡ all → got ≡ all
  symbols_end h before =
      sym (append-nil got) ∙ ap (λ ys. got ++ symbols_in (map listed_of ys)) (sym (drop_all i xs h)) ∙ before

-- ---- positions

module _ (xs ys : List Instance) (i : ℕ) where
  pub one_more : (x y : Instance) → i < length xs → i < length ys → x ≡ get_or xs i x → y ≡ get_or ys i y
      → x.resource ≡ y.resource → x.copy ≡ y.copy
      → (map step_of (drop i xs) ≡ map step_of (drop i ys) → map step_of xs ≡ map step_of ys)
      → map step_of (drop (i + 1) xs) ≡ map step_of (drop (i + 1) ys) → map step_of xs ≡ map step_of ys
  one_more x y h k e f r c before rest =
      before (ap (map step_of) (drop_more xs i x h ∙ ap (λ z. z ∷ drop (i + 1) xs) (sym e))
      ∙ (λ j. step (r j) (c j) ∷ rest j)
      ∙ sym (ap (map step_of) (drop_more ys i y k ∙ ap (λ z. z ∷ drop (i + 1) ys) (sym f))))

  pub all_one : length xs ≤ i → length ys ≤ i
      → (map step_of (drop i xs) ≡ map step_of (drop i ys) → map step_of xs ≡ map step_of ys)
      → map step_of xs ≡ map step_of ys
  all_one h k before =
      before (ap (map step_of) (drop_all i xs h ∙ sym (drop_all i ys k)))

-- ---- what is kept

pub each_found : {A : Type 0} (P : A → Type 0) (xs : List A) → Each P xs → (i : ℕ) (x : A) → slice_get xs i ≡ Some x
    → P x
each_found P [] e zero x h = absurd (cc)
each_found P [] e (suc i) x h = absurd (cc)
each_found P (y ∷ xs) e zero x h = subst P (let same : y ≡ x = cc in same) e.0
each_found P (y ∷ xs) e (suc i) x h = each_found P xs e.1 i x h

-- what is kept at the position of a scope is what the scope has
pub kept_here : (t : Table) (f : ℕ) (k : Kept) → IsLaid t → f < length t.frames.items
    → IsOfScope (whole_of t).template k → map step_of k.position.items ≡ (scope_at t f).position
    → map symbolic k.symbols.items ≡ symbols_at (scope_at t f)
kept_here t f k laid h is e =
    let kept = laid.kept f (scopes_there t f h) in
    is ∙ ap (λ p. symbols_in (listed_at_scope (template_at (whole_of t).template p))) e
    ∙ ap (λ o. symbols_in (listed_at_scope o)) kept.template ∙ ap symbols_in (sym kept.resources)

pub position_here : (t : Table) (f : ℕ) (fr : Frame) (xs : List Instance) → f < length t.frames.items
    → fr ≡ get_or t.frames.items f fr → xs ≡ fr.position.items → map step_of xs ≡ (scope_at t f).position
position_here t f fr xs h e q =
    ap (map step_of) q ∙ sym (ap (λ (o : Opened). o.position) (scope_is t f fr h e))

-- what is kept of a scope is what the scope at its position has
pub of_scope : (t : Table) (f : ℕ) (k : Kept) → IsLaid t → f < length t.frames.items → AreKept k (scope_at t f)
    → IsOfScope (whole_of t).template k
of_scope t f k laid h a =
    let kept = laid.kept f (scopes_there t f h) in
    a.symbols ∙ ap symbols_in kept.resources ∙ ap (λ o. symbols_in (listed_at_scope o)) (sym kept.template)
    ∙ ap (λ p. symbols_in (listed_at_scope (template_at (whole_of t).template p))) (sym a.position)
