-- The first output of a scope that has no value, and its fault.
use Rattle.std.proofs.Common.{◌≡◌, inl, inr, ℕ, zero, suc, ◌+◌, ◌<◌, ◌≤◌, Bool, true, false, List, [], ◌∷◌}
use Rattle.std.proofs.Common.{length, get_or, Option, Some, None, refl, sym, ap, subst, ◌∙◌, arith}
use Rattle.std.specs.Prelude.{Result, Ok, Err, IfOk, codes, option_and_then}
use Rattle.std.specs.declared.alloc.AllocError.{AllocError}
use Rattle.foundation.proofs.Comparisons.{is_or_lt}
use Rattle.arm_value.specs.Json.{Json}
use Rattle.arm_value.specs.View.{json}
use Rattle.arm_value.specs.declared.value.Value.{Value}
use Rattle.reading.specs.Knowledge.{Told, value, no_value, waits}
use Rattle.template_parts.specs.declared.fault.BindFault.{BindFault}
use Rattle.template_parts.specs.declared.fault.BindFault.TheVariants.{WrongType}
use Rattle.template_parts.specs.declared.output.Output.{Output}
use Rattle.template_parameters.specs.Rule.{is_of}
use Rattle.deploy_cells.specs.Cells.{Position, Cell, offered, output}
use Rattle.template_tree.specs.Tree.{TemplateTree}
use Rattle.plan_cells.specs.Children.{Has}
use Rattle.plan_cells.specs.Meaning.{is_typed}
use Rattle.plan_cells.specs.Resources.{header_in}
use Rattle.plan_cells.specs.Scopes.{template_at}
use Rattle.plan_cells.specs.Sites.{output_named}
use Rattle.plan_faults.specs.Rules.{wrong_unless}
use Rattle.plan_paths.specs.CellPaths.{output_path, cell_path}
use Rattle.plan_paths.specs.Resources.{below}
use Rattle.plan_paths.proofs.NamedLemmas.{output_is}
use Rattle.plan_sight.specs.declared.lack.Lack.{Lack}
use Rattle.plan_sight.specs.declared.lack.Lack.TheVariants as lack
use Rattle.plan_sight.specs.Ready.{IsReady}
use Rattle.plan_sight.specs.Seen.{Stops}
use Rattle.plan_sight.proofs.LookLemmas.{scopes_there}
use Rattle.plan_table.specs.declared.line.Spot.TheVariants as spot
use Rattle.plan_table.specs.declared.table.Table.{Table}
use Rattle.plan_table.specs.Lines.{name_at}
use Rattle.plan_table.specs.Whole.{whole_of}
use Rattle.plan_table.specs.Found.{scope_at}
use Rattle.scope_outputs.proofs.ValueLemmas.{output_within}
use Rattle.point_rows.specs.declared.later.Entry.{Entry}
use Rattle.point_rows.specs.declared.later.Entry.TheVariants as entry
use Rattle.point_rows.specs.declared.later.Later.{Later}
use Rattle.point_rows.specs.Rows.{told_now}
use Rattle.scope_outputs.specs.RawNow.{raw_now}
use Rattle.scope_outputs.specs.Entries.{plain_now}
use Rattle.scope_outputs.proofs.OwnLemmas.{name_has}
use Rattle.scope_outputs.specs.Outputs.{position_of, names_of, reading_of, IsOffered}
use Rattle.scope_outputs.proofs.TellLemmas.{value_is, condition_lacks, offered_value_told, offered_away_told}
use Rattle.scope_faults.specs.declared.outputs.OutputLook.TheVariants as look
use Rattle.scope_faults.specs.Faults.{output_at, output_told, IsOutputLook, IsOutputLack, IsNothing, AreOutputLacks}
use Rattle.scope_faults.specs.Faults.{HasCondition, IsBroken, IsOutputBroken, output_breach}
use Rattle.scope_faults.specs.Faults.{SaysOutput, IsLeaveFault}
use Rattle.task_standings.specs.declared.standing.TaskFault.{TaskFault}

-- ---- what was told

pub told_look : (t : Table) (l : Later) (f n : ℕ) (e : Entry) → IsOffered t l f (output_at t f n) e
    → IsOutputLook t (output_told t l f n) look.Told
told_look t l f n (entry.Value v) h = (Some (json v), offered_value_told t l f (output_at t f n) v h)
told_look t l f n entry.Away h = (None, offered_away_told t l f (output_at t f n) h)
told_look t l f n entry.Missing h = absurd h

never_waits : (u : Told Cell (Option Json)) (o : Option Json) → u ≡ value o → (c : Cell) → u ≡ waits c → ⊥
never_waits u o e c h = let no : value o ≡ waits c = sym e ∙ h in cc

nothing_waits : (u : Told Cell (Option Json)) → u ≡ no_value → (c : Cell) → u ≡ waits c → ⊥
nothing_waits u e c h = let no : no_value ≡ waits c = sym e ∙ h in cc

pub told_lack : (t : Table) (u : Told Cell (Option Json)) → IsOutputLook t u look.Told → IsOutputLack t u None
told_lack t u h = never_waits u h.0 h.1

pub nothing_lack : (t : Table) (u : Told Cell (Option Json)) → IsOutputLook t u look.Nothing → IsOutputLack t u None
nothing_lack t u h = nothing_waits u h

pub told_not_nothing : (t : Table) (u : Told Cell (Option Json)) → IsOutputLook t u look.Told → IsNothing u false
told_not_nothing t u h e = let no : value h.0 ≡ no_value = sym h.1 ∙ e in cc

pub lack_not_nothing : (t : Table) (u : Told Cell (Option Json)) (e : Lack) → IsOutputLook t u (look.Lacks e)
    → IsNothing u false
lack_not_nothing t u (lack.Line j) h q = nothing_waits u q _ h.1
lack_not_nothing t u (lack.State k) h q = nothing_waits u q _ h
lack_not_nothing t u lack.NotThere h q = h
lack_not_nothing t u lack.NoValue h q = h
lack_not_nothing t u lack.OutOfMemory h q = h

-- ---- one output after another

one_more : (P : ℕ → Type 0) (i : ℕ) → P i → ((k : ℕ) → k < i → P k) → (k : ℕ) → k < i + 1 → P k
one_more P i h before k b =
    elim (is_or_lt k i b) [
      | inl q ↦ subst P (sym q) h
      | inr q ↦ before k q
    ]

number_of : (xs : List (List ℕ)) (x : List ℕ) → Has x xs → (n : ℕ) × ((n < length xs) × (name_at xs n ≡ x))
number_of [] x h = absurd h
number_of (y ∷ ys) x (inl e) = (zero, (omega arith, e))
number_of (y ∷ ys) x (inr h) =
    let r = number_of ys x h in let l = r.1.0 in (suc r.0, (omega (arith, l), r.1.1))

module _ (t : Table) (l : Later) (f : ℕ) where
  -- none before this one waits
  abbrev pub NoneWaits : ℕ → Type 0
  NoneWaits i = (k : ℕ) → k < i → IsOutputLack t (output_told t l f k) None

  pub waits_begins : NoneWaits 0
  waits_begins k h = absurd (omega (arith, h))

  none_here : (u : Told Cell (Option Json)) (o : Option Lack) → o ≡ None → IsOutputLack t u o → IsOutputLack t u None
  none_here u o e h = subst (IsOutputLack t u) e h

  pub waits_more : (i : ℕ) (o : Option Lack) → o ≡ None → IsOutputLack t (output_told t l f i) o → NoneWaits i
      → NoneWaits (i + 1)
  waits_more i o e h before =
      one_more (λ k. IsOutputLack t (output_told t l f k) None) i (none_here (output_told t l f i) o e h) before

  pub waits_ends : (i : ℕ) → length (names_of t f) ≤ i → NoneWaits i → AreOutputLacks t l f None
  waits_ends i h before x has =
      let n = number_of (names_of t f) x has in
      let b = n.1.0 in
      subst (λ (y : List ℕ). IsOutputLack t (told_now t l (reading_of t f y)) None) n.1.1
      (before n.0 (omega (arith, b, h)))

  pub one_waits : (i : ℕ) (o : Option Lack) → i < length (names_of t f) → IsOutputLack t (output_told t l f i) o
      → (o ≡ None → ⊥) → AreOutputLacks t l f o
  one_waits i None h w n = absurd (n refl)
  one_waits i (Some e) h w n = (output_at t f i, (name_has (names_of t f) i h, w))

  -- none before this one has no value
  abbrev pub NoneNothing : ℕ → Type 0
  NoneNothing i = (k : ℕ) → k < i → output_told t l f k ≡ no_value → ⊥

  pub nothing_begins : NoneNothing 0
  nothing_begins k h = absurd (omega (arith, h))

  pub nothing_more : (i : ℕ) (b : Bool) → b ≡ false → IsNothing (output_told t l f i) b → NoneNothing i
      → NoneNothing (i + 1)
  nothing_more i b e h before =
      one_more (λ k. output_told t l f k ≡ no_value → ⊥) i (subst (IsNothing (output_told t l f i)) e h) before

  pub nothing_here : (i : ℕ) (b : Bool) → b ≡ true → IsNothing (output_told t l f i) b
      → output_told t l f i ≡ no_value
  nothing_here i b e h = subst (IsNothing (output_told t l f i)) e h

  pub nothing_ends : (i : ℕ) → length (names_of t f) ≤ i → NoneNothing i → (x : List ℕ) → Has x (names_of t f)
      → told_now t l (reading_of t f x) ≡ no_value → ⊥
  nothing_ends i h before x has =
      let n = number_of (names_of t f) x has in
      let b = n.1.0 in
      subst (λ (y : List ℕ). told_now t l (reading_of t f y) ≡ no_value → ⊥) n.1.1
      (before n.0 (omega (arith, b, h)))

-- ---- how the value breaks the type

module _ (t : Table) (l : Later) (f n : ℕ) (ready : IsReady t) (there : f < length t.frames.items)
    (h : n < length (names_of t f)) (none : output_told t l f n ≡ no_value) where
  abbrev q : Position
  q = position_of t f

  abbrev x : List ℕ
  x = output_at t f n

  -- where the condition is known, no value is told of the output
  not_value : HasCondition t l q x → (v : Value) → plain_now t l (output q x) ≡ value (Some (json v)) → ⊥
  not_value (true, c) v e =
      let no : no_value ≡ value (Some (json v)) = sym none ∙ offered_value_told t l f x v (c, e) in cc
  not_value (false, c) v e =
      let no : no_value ≡ value None = sym none ∙ offered_away_told t l f x c in cc

  module _ (o : Output) (read : o ≡ get_or (header_in (scope_at t f).template).outputs n o) where
    within : n < length (header_in (scope_at t f).template).outputs
    within = output_within t f n h

    named : option_and_then (output_named x) (template_at (whole_of t).template q) ≡ Some o
    named = output_is t f ready.laid ready.sound.names_differ (scopes_there t f there) n o within read

    pub wrong_type : HasCondition t l q x → (v : Value) → raw_now t l (spot.Output f n) ≡ value (Some (json v))
        → (name : List ℕ) → name ≡ o.name → IsBroken t l (output q x) (Some (WrongType name))
    wrong_type c v r name e =
        subst (λ (y : List ℕ). IsBroken t l (output q x) (Some (WrongType y))) (sym e)
        (by_type (is_of o.kind (json v)) refl)
      where
        by_type : (b : Bool) → is_of o.kind (json v) ≡ b → IsBroken t l (output q x) (Some (WrongType o.name))
        by_type true g = absurd (not_value c v (value_is t l f n ready there o within read (json v) g r))
        by_type false g = (
          json v,
          (
            r,
            (
              ap (is_typed (whole_of t) (json v)) named ∙ g,
              ap (output_breach (json v)) named ∙ ap (λ (b : Bool). wrong_unless b o.name) g,
            ),
          ),
        )

  -- the condition is known
  broken_by_condition : HasCondition t l q x → (o : Option BindFault) → IsBroken t l (output q x) o
      → IsOutputBroken t l q x o
  broken_by_condition c None b = inr (c, b)
  broken_by_condition c (Some e) b = (c, b)

  pub condition_known : HasCondition t l q x → (r : Result (Option BindFault) AllocError)
      → IfOk r (IsBroken t l (output q x)) → IfOk r (IsOutputBroken t l q x)
  condition_known c (Ok o) b = broken_by_condition c o b
  condition_known c (Err e) b = tt

  -- it has no value
  by_lack : (e : Lack) → (e ≡ lack.OutOfMemory → ⊥) → Stops {A = Option Json} t e (plain_now t l (offered q x))
      → plain_now t l (offered q x) ≡ no_value
  by_lack lack.NotThere m s = absurd s
  by_lack lack.NoValue m s = s
  by_lack (lack.Line j) m s =
      absurd (nothing_waits (output_told t l f n) none _ (condition_lacks t l f x (lack.Line j) s).1)
  by_lack (lack.State k) m s =
      absurd (nothing_waits (output_told t l f n) none _ (condition_lacks t l f x (lack.State k) s))
  by_lack lack.OutOfMemory m s = absurd (m refl)

  pub condition_unknown : (e : Lack) → Stops {A = Option Json} t e (plain_now t l (offered q x))
      → (r : Result (Option BindFault) AllocError) → IfOk r (λ o. o ≡ None)
      → (e ≡ lack.OutOfMemory → IfOk r (λ o. ⊥)) → IfOk r (IsOutputBroken t l q x)
  condition_unknown e s (Ok o) n m = subst (IsOutputBroken t l q x) (sym n) (inl (by_lack e m s))
  condition_unknown e s (Err y) n m = tt

-- ---- of a scope

pub output_cell_path : (u : TemplateTree) (q : Position) (x : List ℕ)
    → below (output_path u q x) (codes "value") ≡ cell_path u (output q x)
unfolding cell_path
output_cell_path u q x = refl

pub first_output : (t : Table) (l : Later) (f i : ℕ) → i < length (names_of t f) → NoneNothing t l f i
    → output_told t l f i ≡ no_value → (said : TaskFault)
    → SaysOutput t l (position_of t f) (output_at t f i) said → IsLeaveFault t l f (Some said)
first_output t l f i h before here said says = (i, (h, (record { before = before; here = here }, says)))
