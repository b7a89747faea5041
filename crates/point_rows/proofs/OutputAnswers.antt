-- What is told of an output by the entry that was read.
use Rattle.std.proofs.Common.{◌≡◌, ℕ, ◌<◌, Bool, List, length, get_or, Some, None, Result, sym, ap, subst, ◌∙◌, arith}
use Rattle.arm_value.specs.Kinds.{is_true}
use Rattle.arm_value.specs.View.{json}
use Rattle.arm_value.specs.declared.value.Value.{Value}
use Rattle.arm_env.specs.Look.{a_value}
use Rattle.reading.specs.Reading.{ask, pure}
use Rattle.reading.specs.Knowledge.{value}
use Rattle.deploy_cells.specs.Cells.{offered}
use Rattle.plan_cells.specs.Sites.{output_at}
use Rattle.plan_table.specs.declared.table.Table.{Table}
use Rattle.plan_table.specs.Whole.{whole_of}
use Rattle.plan_table.specs.Found.{scope_at, IsLineOf}
use Rattle.plan_sight.specs.declared.lack.Lack.{Lack}
use Rattle.plan_sight.specs.declared.lack.Lack.TheVariants as lack
use Rattle.plan_sight.specs.Ready.{IsReady}
use Rattle.plan_sight.specs.Seen.{Lacks, Yields}
use Rattle.plan_nested.specs.Sighted.{IsInside, instance_at}
use Rattle.point_rows.specs.declared.later.Entry.{Entry}
use Rattle.point_rows.specs.declared.later.Entry.TheVariants as entry
use Rattle.point_rows.specs.declared.later.Later.{Later}
use Rattle.point_rows.specs.Rows.{entry_at, told_now, IsFit}
use Rattle.point_rows.specs.Looked.{IsOfferedBy}
use Rattle.point_rows.proofs.ToldNowLemmas.{entry_here, truth_shows, output_there, output_away, output_waits}
use Rattle.point_rows.proofs.SeenNowLemmas.{declared_is}

module _ (t : Table) (l : Later) (g : ℕ) (x : List ℕ) where
  pub listed_entry : IsFit t l → (j : ℕ) → IsLineOf t g (offered (scope_at t g).position x) j
      → j < length l.entries.items
  listed_entry fit j line = let h = line.listed in let e = fit.entries in omega (arith, h, e)

  pub truth_shown : IsReady t → (j : ℕ) → IsLineOf t g (offered (scope_at t g).position x) j → (r : Result Bool Lack)
      → IsOfferedBy (entry_at l.entries.items j) j r
      → Yields (λ b. b) t r (told_now t l (ask (offered (scope_at t g).position x) (λ v. pure (is_true v))))
  truth_shown ready j line r i = truth_shows t l j ready line.listed (scope_at t g).position x line.is r i

  module _ (ready : IsReady t) (fit : IsFit t l) (inside : IsInside t g) (j : ℕ)
      (line : IsLineOf t g (offered (scope_at t g).position x) j) (e : Entry) where
    read_is : (f : Entry) → e ≡ get_or l.entries.items j e → e ≡ f → entry_at l.entries.items j ≡ f
    read_is f i q = entry_here l.entries.items j e (listed_entry fit j line) i ∙ q

    pub shown_value : (v : Value) → e ≡ get_or l.entries.items j e → e ≡ entry.Value v
        → told_now t l (output_at (whole_of t).template x (instance_at (scope_at t g).position))
        ≡ value (Some (a_value (json v)))
    shown_value v i q =
        ap (told_now t l) (declared_is t l g x ready inside line.has)
        ∙ output_there t l j ready line.listed (scope_at t g).position x line.is v (read_is (entry.Value v) i q)

    pub shown_away : e ≡ get_or l.entries.items j e → e ≡ entry.Away
        → told_now t l (output_at (whole_of t).template x (instance_at (scope_at t g).position)) ≡ value None
    shown_away i q =
        ap (told_now t l) (declared_is t l g x ready inside line.has)
        ∙ output_away t l j ready line.listed (scope_at t g).position x line.is (read_is entry.Away i q)

    pub shown_missing : e ≡ get_or l.entries.items j e → e ≡ entry.Missing
        → Lacks t (lack.Line j)
        (told_now t l (output_at (whole_of t).template x (instance_at (scope_at t g).position)))
    shown_missing i q =
        subst (λ r. Lacks t (lack.Line j) (told_now t l r)) (sym (declared_is t l g x ready inside line.has))
        (output_waits t l j ready line.listed (scope_at t g).position x line.is (read_is entry.Missing i q))
