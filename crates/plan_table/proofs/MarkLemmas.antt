-- A line gets a state, and is found; and the spots of a scope, one sort after another.
use Rattle.std.proofs.Common.{◌≡◌, ℕ, ◌+◌, ◌<◌, suc, List, [], ◌∷◌, ◌++◌, map, length, get_or, Option, Some, None, refl}
use Rattle.std.proofs.Common.{sym}
use Rattle.std.proofs.Common.{ap, subst, ◌∙◌, arith, append_assoc}
use Rattle.std.proofs.lemmas.List.{length-map}
use Rattle.std.specs.Prelude.{MatchOption, slice_get, if◌then◌else◌}
use Rattle.std.specs.declared.vec.Vec.{Vec}
use Rattle.std.specs.declared.alloc.Global.{Global}
use Rattle.std.specs.BTreeMap.{get}
use Rattle.arm_value.specs.Look.{fold}
use Rattle.plan_filling.specs.Meaning.{Deployment}
use Rattle.plan_filling.specs.Children.{parameter_names, variable_names, output_names}
use Rattle.plan_filling.specs.Rows.{with_status}
use Rattle.plan_table.specs.declared.frame.Frame.{Frame}
use Rattle.plan_table.specs.declared.line.Line.{Line}
use Rattle.plan_table.specs.declared.line.Spot.{Spot}
use Rattle.plan_table.specs.declared.line.Spot.TheVariants.{Offered, Count, Deployments}
use Rattle.plan_table.specs.declared.line.State.{State}
use Rattle.plan_table.specs.declared.listed.Listed.{Listed}
use Rattle.plan_table.specs.declared.table.Table.{Table}
use Rattle.plan_table.specs.Listed.{listed_of}
use Rattle.plan_table.specs.Opened.{Opened, opened_of}
use Rattle.plan_table.specs.Lines.{status_in, rows_of, line_at, with_state}
use Rattle.plan_table.specs.Keys.{key_of, key_cmp, Index, Indexes}
use Rattle.plan_table.specs.Spots.{below, unless_existing, counts_below, own_spots, scope_spots}
use Rattle.plan_table.specs.Laid.{OpensBy, Laid}
use Rattle.plan_table.specs.Whole.{scopes_of, IsLaid}
use Rattle.plan_table.proofs.KeyLemmas.{indexed_set}
use Rattle.plan_table.proofs.LaidLemmas.{laid_set, rows_set, length_rows}
use Rattle.plan_table.proofs.FrameLemmas.{resource_read}

within : (os : List Opened) (ls : List Line) (at : ℕ) → at < length (rows_of os ls) → at < length ls
within os ls at h = let n = length_rows os ls in omega (arith, n, h)

pub marked_laid : (d : Deployment) (os : List Opened) (ix : Index) (ls ms : List Line) (at : ℕ) (x : State)
    → Laid d os ix ls → at < length (rows_of os ls) → ms ≡ with_state ls at x 0
    → ((ks : List Line) (s : Spot) → OpensBy os ks 0 s x) → Laid d os ix ms
marked_laid d os ix ls ms at x laid h e o =
    let l : Line = record { spot = (line_at ls at).spot; state = x; opened = 0 } in
    subst (λ (xs : List Line). Laid d os ix xs) (sym e)
    (laid_set d os ix ls at l laid (within os ls at h) refl (λ ks. o ks (line_at ls at).spot))

pub marked_rows : (os : List Opened) (ls ms : List Line) (at : ℕ) (x : State) → at < length (rows_of os ls)
    → ms ≡ with_state ls at x 0 → rows_of os ms ≡ with_status (rows_of os ls) at (status_in x)
marked_rows os ls ms at x h e =
    let l : Line = record { spot = (line_at ls at).spot; state = x; opened = 0 } in
    ap (rows_of os) e ∙ rows_set os ls at l (within os ls at h) refl

pub set_indexed : (os : List Opened) (ix : Index) (ls ms : List Line) (at : ℕ) (x : State) (g : ℕ) → Indexes os ix ls
    → at < length ls → ms ≡ with_state ls at x g → Indexes os ix ms
set_indexed os ix ls ms at x g i h e =
    let l : Line = record { spot = (line_at ls at).spot; state = x; opened = g } in
    subst (λ (xs : List Line). Indexes os ix xs) (sym e) (indexed_set os ix ls at l h refl i)

-- ---- what the index has of a key

pub key_found : (t : Table) (key : Vec ℕ Global) (o : Option ℕ) → IsLaid t → o ≡ get key_cmp t.index key
    → MatchOption o (Unit {0}) (λ j. (j < length t.lines.items)
    × (key_of (scopes_of t) (line_at t.lines.items j).spot ≡ key.items))
key_found t key None laid e = tt
key_found t key (Some j) laid e = laid.indexed.sound key j (sym e)

pub key_missing : (t : Table) (key : Vec ℕ Global) (o : Option ℕ) → IsLaid t → o ≡ get key_cmp t.index key
    → MatchOption o ((j : ℕ) → j < length t.lines.items
    → key.items ≡ key_of (scopes_of t) (line_at t.lines.items j).spot → ⊥) (λ _. Unit {0})
key_missing t key None laid e =
    λ j l q. let r = laid.indexed.complete key j l q in let no : None ≡ Some r.line = e ∙ r.is in cc
key_missing t key (Some j) laid e = tt

-- ---- spots

pub counts_more : (g n : ℕ) (xs : List Listed) (x y : Listed) (first old new : List Spot) → n < length xs
    → x ≡ get_or xs n x → x ≡ y → old ≡ first ++ counts_below g (map listed_of xs) n
    → new ≡ old ++ (if y.declaration.now.existing then [] else Count g n ∷ [])
    → new ≡ first ++ counts_below g (map listed_of xs) (n + 1)
counts_more g n xs x y first old new h e s f q =
    let last : List Spot = if x.declaration.now.existing then [] else Count g n ∷ [] in
    q ∙ ap (λ (z : Listed). old ++ (if z.declaration.now.existing then [] else Count g n ∷ [])) (sym s)
    ∙ ap (λ ys. ys ++ last) f ∙ append_assoc first (counts_below g (map listed_of xs) n) last
    ∙ ap (λ o. first ++ (counts_below g (map listed_of xs) n ++ unless_existing o (Count g n)))
    (sym (resource_read xs n x h e))
    ∙ ap (λ m. first ++ counts_below g (map listed_of xs) m) (let one : suc n ≡ n + 1 = omega arith in one)

pub scope_joined : (g : ℕ) (f : Frame) (s0 s1 s2 s3 s4 : List Spot) (n : ℕ) (rs : List Listed) → s0 ≡ []
    → s1 ≡ s0 ++ own_spots f.own g (length (parameter_names (opened_of f).template))
    (length (variable_names (opened_of f).template))
    → n ≡ length f.template.now.outputs → s2 ≡ s1 ++ below (λ i. Offered g i) n → rs ≡ f.resources.items
    → s3 ≡ s2 ++ counts_below g (map listed_of rs) (length rs) → s4 ≡ s3 ++ Deployments g ∷ []
    → s4 ≡ scope_spots g (opened_of f)
scope_joined g f s0 s1 s2 s3 s4 n rs a b k c r d e =
    let owns : List Spot = own_spots f.own g (length (parameter_names (opened_of f).template))
    (length (variable_names (opened_of f).template)) in
    let names : n ≡ length (output_names (opened_of f).template) =
    k ∙ sym (length-map f.template.now.outputs (λ o. fold o.name)) in
    let offers : List Spot = below (λ i. Offered g i) (length (output_names (opened_of f).template)) in
    let counts : List Spot = counts_below g (map listed_of f.resources.items)
    (length (map listed_of f.resources.items)) in
    let first : s1 ≡ owns = b ∙ ap (λ xs. xs ++ owns) a in
    let second : s2 ≡ owns ++ offers =
    c ∙ ap (λ xs. xs ++ below (λ i. Offered g i) n) first ∙ ap (λ m. owns ++ below (λ i. Offered g i) m) names in
    let counted : counts_below g (map listed_of rs) (length rs) ≡ counts =
    ap (λ (xs : List Listed). counts_below g (map listed_of xs) (length xs)) r
    ∙ ap (counts_below g (map listed_of f.resources.items)) (sym (length-map f.resources.items listed_of)) in
    let third : s3 ≡ (owns ++ offers) ++ counts =
    d ∙ ap (λ xs. xs ++ counts_below g (map listed_of rs) (length rs)) second
    ∙ ap (λ xs. (owns ++ offers) ++ xs) counted in
    e ∙ ap (λ xs. xs ++ Deployments g ∷ []) third
    ∙ append_assoc (owns ++ offers) counts (Deployments g ∷ [])
    ∙ append_assoc owns offers (counts ++ Deployments g ∷ [])
