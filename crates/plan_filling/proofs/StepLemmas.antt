-- A change that is justified keeps a sheet good.
use Rattle.std.proofs.Common.{◌≡◌, ◌⊎◌, inl, inr, true, false, true≢false, List, Option, Some, None, refl}
use Rattle.std.proofs.Common.{sym, ap, subst, ◌∙◌}
use Rattle.reading.specs.Knowledge.{absent, missing, Told, value, no_value, waits, told, Stays, Grows, IsToldStill}
use Rattle.reading.proofs.Growth.{told_still}
use Rattle.plan_cells.specs.Meaning.{Deployment, meaning}
use Rattle.arm_value.specs.Json.{Json}
use Rattle.arm_ids.specs.declared.id.ResourceId.{ResourceId}
use Rattle.plan_cells.specs.Cells.{Cell, parameter, variable, offered, output, count, included, name, deployments, state}
use Rattle.plan_cells.specs.Same.{same}
use Rattle.plan_cells.specs.Known.{IsKnown, is_told, entry_of, entry_told, by_others}
use Rattle.plan_cells.specs.Start.{start}
use Rattle.plan_cells.specs.Desired.{is_state}
use Rattle.plan_cells.specs.Children.{roots, children, Has}
use Rattle.plan_cells.proofs.SameLemmas.{cell_same, cell_is}
use Rattle.plan_cells.proofs.ChildLemmas.{child_is, root_is}
use Rattle.plan_filling.specs.Rows.{Status, New, Open, Value, Empty, Late}
use Rattle.plan_filling.specs.Rows.{table, known_by, IsFinished, IsUnfinished}
use Rattle.plan_filling.specs.Sound.{IsLate, here, further, IsOpenedBy, IsListed, Good}
use Rattle.plan_filling.specs.Steps.{Changes, IsLateNow, Justified}
use Rattle.plan_filling.proofs.RowLemmas.{by_same}

pub never_both : (s : Status) → IsUnfinished s → IsFinished s → ⊥
never_both New u f = f
never_both Open u f = f
never_both (Value v) u f = u
never_both Empty u f = u
never_both (Late k) u f = u

-- what is told by a good table is known at the start
entry_derived : (t : Deployment) (σ : Cell → Option Status) → Good t σ → (d : Cell) (u : Option Json)
    → (o : Option Status) → σ d ≡ o
    → known_by o ≡ entry_of u → IsKnown (meaning t) start d u
entry_derived t σ g d (Some v) (Some (Value w)) e h = let is : w
    ≡ v = cc in g.valued d v (e ∙ ap (λ (x : Json). Some (Value x)) is)
entry_derived t σ g d None (Some (Value w)) e h = cc
entry_derived t σ g d (Some v) (Some Empty) e h = cc
entry_derived t σ g d None (Some Empty) e h = g.empty d e
entry_derived t σ g d (Some v) (Some New) e h = cc
entry_derived t σ g d None (Some New) e h = cc
entry_derived t σ g d (Some v) (Some Open) e h = cc
entry_derived t σ g d None (Some Open) e h = cc
entry_derived t σ g d (Some v) (Some (Late k)) e h = cc
entry_derived t σ g d None (Some (Late k)) e h = cc
entry_derived t σ g d (Some v) None e h = cc
entry_derived t σ g d None None e h = cc

pub start_open : (c : Cell) → is_state c ≡ false → start c ≡ by_others
start_open (parameter p x) e = refl
start_open (variable p x) e = refl
start_open (offered p x) e = refl
start_open (output p x) e = refl
start_open (count p r) e = refl
start_open (included p s) e = refl
start_open (name p s) e = refl
start_open (deployments p) e = refl
start_open (state k) e = cc

pub told_derived : (t : Deployment) (σ : Cell → Option Status) → Good t σ → (c : Cell) (o : Option Json)
    → is_state c ≡ false
    → entry_told (told (table σ) (meaning t c)) ≡ entry_of o → IsKnown (meaning t) start c o
told_derived t σ g c o s e = is_told c o (table σ) (start_open c s) (λ d u h. entry_derived t σ g d u (σ d) refl h) e

-- a cell that is there is no state
pub listed_no_state : (t : Deployment) (σ : Cell → Option Status) → Good t σ → (c : Cell) (s : Status) → σ c ≡ Some s
    → is_state c ≡ false
listed_no_state t σ g c s e =
    elim (g.is_there c s e) [ inl r ↦ (root_is t c r).1 | inr o ↦ (child_is t o.0 o.1.0 c o.1.1.1).no_state ]

pub late_status : (t : Deployment) (σ : Cell → Option Status) (c : Cell) (k : ResourceId) → IsLate t σ c k
    → σ c ≡ Some (Late k)
late_status t σ c k (here _ _ e w) = e
late_status t σ c k (further _ d _ e w l) = e

-- no state is listed
pub state_missing : (t : Deployment) (σ : Cell → Option Status) → Good t σ → (k : ResourceId) → σ (state k) ≡ None
state_missing t σ g k = by_status (σ (state k)) refl
  where
    by_status : (o : Option Status) → σ (state k) ≡ o → σ (state k) ≡ None
    by_status None e = e
    by_status (Some s) e = absurd (true≢false (listed_no_state t σ g (state k) s e))

module _ (t : Deployment) (σ τ : Cell → Option Status) (c : Cell) (s : Status) (cs : List Cell)
    (good : Good t σ) (change : Changes σ τ c s cs) (why : Justified t σ c s cs) where
  no_state : is_state c ≡ false
  no_state = listed_no_state t σ good c change.old change.was

  keeps : (d : Cell) (u : Status) → σ d ≡ Some u → IsFinished u → τ d ≡ Some u
  keeps d u e f =
      elim (by_same c d) [
        | inl h ↦ (let at : c ≡ d = cell_is c d h in
            let was : σ c ≡ Some u = subst (λ (x : Cell). σ x ≡ Some u) (sym at) e in
            let one : Some change.old ≡ Some u = sym change.was ∙ was in
            let is : change.old ≡ u = cc in
            absurd (never_both change.old change.unfinished (subst IsFinished (sym is) f)))
        | inr h ↦ change.others d u e (λ at. differ d h at)
      ]
    where
      differ : (d : Cell) → same c d ≡ false → c ≡ d → ⊥
      differ d h at = let yes : same c d ≡ true = subst (λ (x : Cell). same c x ≡ true) at (cell_same c) in cc

  stays_by : (d : Cell) (o : Option Status) → σ d ≡ o → Stays (known_by o) (table τ d)
  stays_by d (Some (Value v)) e = ap known_by (keeps d (Value v) e tt)
  stays_by d (Some Empty) e = ap known_by (keeps d Empty e tt)
  stays_by d (Some New) e = tt
  stays_by d (Some Open) e = tt
  stays_by d (Some (Late k)) e = tt
  stays_by d None e = tt

  pub grows : Grows (table σ) (table τ)
  grows d = stays_by d (σ d) refl

  still_waits : (d e : Cell) → told (table σ) (meaning t d) ≡ waits e → table τ e ≡ missing
      → told (table τ) (meaning t d) ≡ waits e
  still_waits d e w m =
      let f : IsToldStill (table τ) (meaning t d) (waits e) =
      subst (λ (r : Told Cell (Option Json)). IsToldStill (table τ) (meaning t d) r) w
      (told_still Cell Json (Option Json) (table σ) (table τ) grows (meaning t d)) in f m

  opened_still : (d : Cell) → IsOpenedBy t σ d → IsOpenedBy t τ d
  opened_still d o = (o.0, (o.1.0, (keeps o.0 (Value o.1.0) o.1.1.0 tt, o.1.1.1)))

  there_still : (d : Cell) → Has d (roots t) ⊎ IsOpenedBy t σ d → Has d (roots t) ⊎ IsOpenedBy t τ d
  there_still d (inl r) = inl r
  there_still d (inr o) = inr (opened_still d o)

  by_new : (u : Status) → Justified t σ c u cs → τ c ≡ Some u → (d : Cell) → Has d cs → IsOpenedBy t τ d
  by_new (Value v) j e d h = (c, (v, (e, subst (λ (xs : List Cell). Has d xs) j.1 h)))
  by_new New j e d h = absurd j
  by_new Open j e d h = absurd (subst (λ (xs : List Cell). Has d xs) j h)
  by_new Empty j e d h = absurd (subst (λ (xs : List Cell). Has d xs) j.1 h)
  by_new (Late k) j e d h = absurd (subst (λ (xs : List Cell). Has d xs) j.1 h)

  there_new : (d : Cell) (u : Status) → τ d ≡ Some u → Has d (roots t) ⊎ IsOpenedBy t τ d
  there_new d u e =
      elim (change.origin d u e) [
        | inl a ↦ there_still d (good.is_there d change.old
            (subst (λ (x : Cell). σ x ≡ Some change.old) (sym a.0) change.was))
        | inr b ↦ elim b [
          | inl old ↦ there_still d (good.is_there d u old)
          | inr n ↦ inr
              (by_new s why change.is d n.0)
        ]
      ]

  no_state_new : (k : ResourceId) → table τ (state k) ≡ missing
  no_state_new k = by_status (τ (state k)) refl
    where
      by_status : (o : Option Status) → τ (state k) ≡ o → table τ (state k) ≡ missing
      by_status None e = ap known_by e
      by_status (Some u) e =
          elim (there_new (state k) u e) [
            | inl r ↦ absurd (true≢false (root_is t (state k) r).1)
            | inr o ↦ absurd (true≢false (child_is t o.0 o.1.0 (state k) o.1.1.1).no_state)
          ]

  late_missing : (d : Cell) (k : ResourceId) → IsLate t σ d k → table τ d ≡ missing
  late_missing d k l = ap known_by (keeps d (Late k) (late_status t σ d k l) tt)

  late_still : (d : Cell) (k : ResourceId) → IsLate t σ d k → IsLate t τ d k
  late_still d k (here _ _ e w) = here d k (keeps d (Late k) e tt) (still_waits d (state k) w (no_state_new k))
  late_still d k (further _ f _ e w l) =
      further d f k (keeps d (Late k) e tt) (still_waits d f w (late_missing f k l)) (late_still f k l)

  late_now : (k : ResourceId) → τ c ≡ Some (Late k) → IsLateNow t σ c k → IsLate t τ c k
  late_now k e (inl w) = here c k e (still_waits c (state k) w (no_state_new k))
  late_now k e (inr f) = further c f.0 k e (still_waits c f.0 f.1.0 (late_missing f.0 k f.1.1))
      (late_still f.0 k f.1.1)

  why_at : (u : Status) → u ≡ s → Justified t σ c u cs
  why_at u e = subst (λ (x : Status). Justified t σ c x cs) (sym e) why

  listed_still : (d : Cell) → IsListed σ d → IsListed τ d
  listed_still d l =
      elim (by_same c d) [
        | inl h ↦ (s, subst (λ (x : Cell). τ x ≡ Some s) (cell_is c d h) change.is)
        | inr h ↦ (l.0, change.others d l.0 l.1 (λ at. differ d h at))
      ]
    where
      differ : (d : Cell) → same c d ≡ false → c ≡ d → ⊥
      differ d h at = let yes : same c d ≡ true = subst (λ (x : Cell). same c x ≡ true) at (cell_same c) in cc

  opened_new : (d : Cell) → IsOpenedBy t τ d → IsListed τ d
  opened_new d o =
      elim (change.origin o.0 (Value o.1.0) o.1.1.0) [
        | inl a ↦ (let j : Justified t σ c (Value o.1.0) cs = why_at (Value o.1.0) a.1 in
            let has : Has d (children t c o.1.0) = subst (λ (x : Cell). Has d (children t x o.1.0)) a.0 o.1.1.1 in
            (New, change.added d (subst (λ (xs : List Cell). Has d xs) (sym j.1) has)))
        | inr b ↦ elim b [
          | inl old ↦ listed_still d (good.has_opened d (o.0, (o.1.0, (old, o.1.1.1))))
          | inr n ↦ (let x : Value o.1.0 ≡ New = n.1 in cc)
        ]
      ]

  valued_new : (d : Cell) (v : Json) → τ d ≡ Some (Value v) → IsKnown (meaning t) start d (Some v)
  valued_new d v e =
      elim (change.origin d (Value v) e) [
        | inl a ↦ (let j : Justified t σ c (Value v) cs = why_at (Value v) a.1 in subst
            (λ (x : Cell). IsKnown (meaning t) start x (Some v)) (sym a.0)
            (told_derived t σ good c (Some v) no_state (ap entry_told j.0)))
        | inr b ↦ elim b [ inl old ↦ good.valued d v old | inr n ↦ (let x : Value v ≡ New = n.1 in cc) ]
      ]

  empty_new : (d : Cell) → τ d ≡ Some Empty → IsKnown (meaning t) start d None
  empty_new d e =
      elim (change.origin d Empty e) [
        | inl a ↦ (let j : Justified t σ c Empty cs = why_at Empty a.1 in subst
            (λ (x : Cell). IsKnown (meaning t) start x None) (sym a.0) (told_derived t σ good c None no_state j.0))
        | inr b ↦ elim b [ inl old ↦ good.empty d old | inr n ↦ (let x : Empty ≡ New = n.1 in cc) ]
      ]

  value_still : (d : Cell) (v : Json) → told (table σ) (meaning t d) ≡ value (Some v)
      → told (table τ) (meaning t d) ≡ value (Some v)
  value_still d v w =
      subst (λ (r : Told Cell (Option Json)). IsToldStill (table τ) (meaning t d) r) w
      (told_still Cell Json (Option Json) (table σ) (table τ) grows (meaning t d))

  empty_by : (d : Cell) (r : Told Cell (Option Json)) → IsToldStill (table τ) (meaning t d) r → entry_told r ≡ absent
      → entry_told (told (table τ) (meaning t d)) ≡ absent
  empty_by d (value o) f e = ap entry_told f ∙ e
  empty_by d no_value f e = ap entry_told f ∙ e
  empty_by d (waits x) f e = cc

  empty_still : (d : Cell) → entry_told (told (table σ) (meaning t d)) ≡ absent
      → entry_told (told (table τ) (meaning t d)) ≡ absent
  empty_still d w = empty_by d (told (table σ) (meaning t d))
      (told_still Cell Json (Option Json) (table σ) (table τ) grows (meaning t d)) w

  tells_value_new : (d : Cell) (v : Json) → τ d ≡ Some (Value v) → told (table τ) (meaning t d) ≡ value (Some v)
  tells_value_new d v e =
      elim (change.origin d (Value v) e) [
        | inl a ↦ (let j : Justified t σ c (Value v) cs = why_at (Value v) a.1 in
            value_still d v (subst (λ (x : Cell). told (table σ) (meaning t x) ≡ value (Some v)) (sym a.0) j.0))
        | inr b ↦ elim b [
          | inl old ↦ value_still d v (good.tells_value d v old)
          | inr n ↦
              (let x : Value v ≡ New = n.1 in cc)
        ]
      ]

  tells_empty_new : (d : Cell) → τ d ≡ Some Empty → entry_told (told (table τ) (meaning t d)) ≡ absent
  tells_empty_new d e =
      elim (change.origin d Empty e) [
        | inl a ↦ (let j : Justified t σ c Empty cs = why_at Empty a.1 in
            empty_still d (subst (λ (x : Cell). entry_told (told (table σ) (meaning t x)) ≡ absent) (sym a.0) j.0))
        | inr b ↦ elim b [
          | inl old ↦ empty_still d (good.tells_empty d old)
          | inr n ↦
              (let x : Empty ≡ New = n.1 in cc)
        ]
      ]

  late_new : (d : Cell) (k : ResourceId) → τ d ≡ Some (Late k) → IsLate t τ d k
  late_new d k e =
      elim (change.origin d (Late k) e) [
        | inl a ↦ (let j : Justified t σ c (Late k) cs = why_at (Late k) a.1 in
            subst (λ (x : Cell). IsLate t τ x k) (sym a.0)
            (late_now k (subst (λ (x : Cell). τ x ≡ Some (Late k)) a.0 e) j.0))
        | inr b ↦ elim b [ inl old ↦ late_still d k (good.late d k old) | inr n ↦ (let x : Late k ≡ New = n.1 in cc) ]
      ]

  pub good_after : Good t τ
  good_after = record {
    valued = valued_new;
    empty = empty_new;
    tells_value = tells_value_new;
    tells_empty = tells_empty_new;
    late = late_new;
    is_there = there_new;
    has_roots = λ d r. listed_still d (good.has_roots d r);
    has_opened = opened_new;
  }
