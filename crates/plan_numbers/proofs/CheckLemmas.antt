-- Tasks that are of a table.
use Rattle.std.proofs.Common.{◌≡◌, ℕ, zero, suc, ◌+◌, ◌<◌, ◌≤◌, false, true≢false, List, [], ◌∷◌, map, drop}
use Rattle.std.proofs.Common.{length, get_or, Some, None, sym, ap, subst, ◌∙◌, arith}
use Rattle.std.specs.Prelude.{slice_get, Decides}
use Rattle.std.proofs.lemmas.List.{drop_more, drop_all, length-map}
use Rattle.reading.specs.World.{Each}
use Rattle.plan_cells.specs.Resources as cells
use Rattle.plan_cells.specs.Resources.{nested_in}
use Rattle.plan_table.specs.declared.frame.Frame.{Frame}
use Rattle.plan_table.specs.declared.listed.Listed.{Listed}
use Rattle.plan_table.specs.declared.table.Table.{Table}
use Rattle.plan_table.specs.Found.{scope_at}
use Rattle.plan_table.specs.Listed.{listed_of}
use Rattle.plan_table.specs.Opened.{Opened}
use Rattle.plan_table.proofs.FrameLemmas.{frame_is, resource_read}
use Rattle.history_plans.specs.Task.{Task}
use Rattle.history_plans.specs.Task.TheVariants.{Put}
use Rattle.plan_numbers.specs.Numbers.{IsPutResource, IsOfTable}

same_listed : (x y : cells.Listed) → Some x ≡ Some y → x ≡ y
same_listed x y e = cc

pub decides_no : (P : Type 0) → (P → ⊥) → Decides false P
decides_no P n = (λ e. absurd (true≢false (sym e)), λ p. absurd (n p))

got_within : (xs : List cells.Listed) (i : ℕ) (y : cells.Listed) → slice_get xs i ≡ Some y → i < length xs
got_within [] i y e = let f : None ≡ Some y = e in absurd (cc)
got_within (x ∷ xs) zero y e = omega arith
got_within (x ∷ xs) (suc i) y e = let h = got_within xs i y e in omega (arith, h)

scope_is : (t : Table) (f : ℕ) (fr : Frame) (xs : List Listed) → f < length t.frames.items
    → fr ≡ get_or t.frames.items f fr → xs ≡ fr.resources.items → (scope_at t f).resources ≡ map listed_of xs
scope_is t f fr xs h e q =
    ap (λ (o : Opened). o.resources) (frame_is t.frames.items f fr h e) ∙ ap (map listed_of) (sym q)

-- a resource that is not there
pub not_listed : (t : Table) (f r i : ℕ) (fr : Frame) (xs : List Listed) → f < length t.frames.items
    → fr ≡ get_or t.frames.items f fr → xs ≡ fr.resources.items → length xs ≤ r → IsOfTable t (Put f r i) → ⊥
not_listed t f r i fr xs h e q l o =
    let n = o.1.0 in
    let g = got_within (map listed_of xs) r n.listed
    (subst (λ (ys : List cells.Listed). slice_get ys r ≡ Some n.listed) (scope_is t f fr xs h e q) n.has) in
    let m = length-map xs listed_of in
    omega (arith, g, l, m)

-- what is put is a resource that is put
pub of_put : (t : Table) (f r i : ℕ) (fr : Frame) (xs : List Listed) (x : Listed) → f < length t.frames.items
    → fr ≡ get_or t.frames.items f fr → xs ≡ fr.resources.items → r < length xs → x ≡ get_or xs r x
    → IsOfTable t (Put f r i) → IsPutResource (listed_of x)
of_put t f r i fr xs x h e q l g o =
    let n = o.1.0 in
    let got : slice_get (scope_at t f).resources r ≡ Some (listed_of x)
    = ap (λ (ys : List cells.Listed). slice_get ys r) (scope_is t f fr xs h e q) ∙ resource_read xs r x l g in (
      subst (λ (z : cells.Listed). z.declaration.existing ≡ false)
          (same_listed n.listed (listed_of x) (sym n.has ∙ got)) n.is_put,
      o.1.1.1 (listed_of x) got,
    )

pub of_instance : (t : Table) (f r i : ℕ) (fr : Frame) (xs : List Listed) (x : Listed) → f < length t.frames.items
    → fr ≡ get_or t.frames.items f fr → xs ≡ fr.resources.items → r < length xs → x ≡ get_or xs r x → i < 800
    → IsPutResource (listed_of x) → IsOfTable t (Put f r i)
of_instance t f r i fr xs x h e q l g b p =
    let got : slice_get (scope_at t f).resources r ≡ Some (listed_of x)
    = ap (λ (ys : List cells.Listed). slice_get ys r) (scope_is t f fr xs h e q) ∙ resource_read xs r x l g in (
      h,
      (
        record { listed = listed_of x; has = got; is_put = p.0 },
        (
          b,
          λ y k. subst (λ (z : cells.Listed). nested_in z.content ≡ None) (same_listed (listed_of x) y (sym got ∙ k))
              p.1,
        ),
      ),
    )

-- a task of the list
pub each_at : (P : Task → Type 0) (us : List Task) (i : ℕ) (u : Task) → i < length us → u ≡ get_or us i u → Each P us
    → P u
each_at P [] i u h e a = absurd (omega (arith, h))
each_at P (y ∷ us) zero u h e a = subst P (sym e) a.0
each_at P (y ∷ us) (suc i) u h e a = each_at P us i u (omega (arith, h)) e a.1

-- one task after another
pub each_more : (P : Task → Type 0) (us : List Task) (i : ℕ) (u : Task) → i < length us → u ≡ get_or us i u → P u
    → (Each P (drop i us) → Each P us) → Each P (drop (i + 1) us) → Each P us
each_more P us i u h e p f rest =
    f (subst (Each P) (sym (drop_more us i u h ∙ ap (λ y. y ∷ drop (i + 1) us) (sym e))) (p, rest))

pub each_end : (P : Task → Type 0) (us : List Task) (i : ℕ) → length us ≤ i → (Each P (drop i us) → Each P us)
    → Each P us
each_end P us i h f = f (subst (Each P) (sym (drop_all i us h)) tt)
