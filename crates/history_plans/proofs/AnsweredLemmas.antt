-- Counts, conditions and names are told at the start, where each that is there has a value.
use Rattle.std.proofs.Common.{◌≡◌, ℕ, Bool, true, false, true≢false, [], ◌∷◌, Option, Some, None, refl, sym, ap, ◌∙◌}
use Rattle.std.specs.Prelude.{option_map}
use Rattle.arm_value.specs.Json.{Json}
use Rattle.reading.specs.Knowledge.{known, Told, value, no_value, waits, told, by_entry}
use Rattle.reading.specs.Knowledge.{blanked}
use Rattle.reading.specs.Knowledge.{known_value}
use Rattle.deploy_cells.specs.Cells.{Position, Cell, parameter, variable, offered, output, count, included, name}
use Rattle.deploy_cells.specs.Cells.{deployments, state, parent, admits, admitted, is_admitted}
use Rattle.deploy_cells.specs.Guarded.{Reads, there_if, told_where, told_by}
use Rattle.deploy_cells.proofs.CellLemmas.{guarded_told}
use Rattle.plan_cells.specs.Known.{Table, by_others, entry_of, entry_told, entry_by}
use Rattle.plan_cells.specs.Meaning.{Deployment, meaning, raw, rule, ruled, plain}
use Rattle.plan_cells.specs.Start.{IsStart, start}
use Rattle.plan_tasks.specs.Answered.{is_asked, AreAnswered}

others : (c : Cell) → is_asked c ≡ true → start c ≡ by_others
others (count p r) a = refl
others (included p s) a = refl
others (name p s) a = refl
others (parameter p x) a = refl
others (variable p x) a = refl
others (offered p x) a = refl
others (output p x) a = refl
others (deployments p) a = refl
others (state k) a = absurd (true≢false (sym a))

value_told : (u : Told Cell (Option Json)) (v : Json) → entry_told u ≡ known v → u ≡ value (Some v)
value_told (value (Some w)) v e = let same : w ≡ v = cc in ap (λ x. value (Some x)) same
value_told (value None) v e = absurd (cc)
value_told no_value v e = absurd (cc)
value_told (waits c) v e = absurd (cc)

entry_at : {A : Type 0} (e : Cell) (f : Option Json → Told Cell A) (u : Option Json) → by_entry e f (entry_of u) ≡ f u
entry_at e f (Some v) = refl
entry_at e f None = refl

value_known : (u : Option Json) → known_value (entry_of u) ≡ u
value_known (Some v) = refl
value_known None = refl

module _ (d : Deployment) (q : Table) (is_start : IsStart d q) (answered : AreAnswered d q) where
  abbrev IsTold : Cell → Type 0
  IsTold c = (o : Option Json) × (told q (meaning d c) ≡ value o)

  closed : (c : Cell) → is_asked c ≡ true → q c ≡ entry_told (told q (meaning d c))
  closed c a = is_start.closed c ∙ ap (λ n. entry_by n (entry_told (told q (meaning d c)))) (others c a)

  guard : (c : Cell) → told q (meaning d c) ≡ told_by q c (parent c) (told q (plain d c))
  unfolding meaning
  guard c = guarded_told q c (plain d c)

  nothing : (c : Cell) → told q (there_if (option_map (ruled d (rule d c)) None)) ≡ value None
  unfolding told
  nothing c = refl

  no_raw : (c : Cell) → is_asked c ≡ true → raw d c ≡ None → told q (plain d c) ≡ value None
  unfolding plain
  no_raw (count p r) a e =
      ap (λ o. told q (there_if (option_map (ruled d (rule d (count p r))) o))) e ∙ nothing (count p r)
  no_raw (included p s) a e =
      ap (λ o. told q (there_if (option_map (ruled d (rule d (included p s))) o))) e ∙ nothing (included p s)
  no_raw (name p s) a e =
      ap (λ o. told q (there_if (option_map (ruled d (rule d (name p s))) o))) e ∙ nothing (name p s)
  no_raw (parameter p x) a e = absurd (true≢false (sym a))
  no_raw (variable p x) a e = absurd (true≢false (sym a))
  no_raw (offered p x) a e = absurd (true≢false (sym a))
  no_raw (output p x) a e = absurd (true≢false (sym a))
  no_raw (deployments p) a e = absurd (true≢false (sym a))
  no_raw (state k) a e = absurd (true≢false (sym a))

  -- it is there, and has a value
  there : (c : Cell) → is_asked c ≡ true → (x : Reads Json) → raw d c ≡ Some x → is_admitted (blanked q) c ≡ true
      → IsTold c
  there c a x r h =
      let v = answered c a x r h in (Some v.0, value_told (told q (meaning d c)) v.0 (sym (closed c a) ∙ v.1))

  -- a cell of the root
  by_root : (c : Cell) → is_asked c ≡ true → parent c ≡ None → (o : Option (Reads Json)) → raw d c ≡ o → IsTold c
  by_root c a up None r =
      (None, guard c ∙ ap (λ o. told_by q c o (told q (plain d c))) up ∙ no_raw c a r)
  by_root c a up (Some x) r = there c a x r (ap (admitted (blanked q) c) up)

  module _ (c e : Cell) (a : is_asked c ≡ true) (up : parent c ≡ Some e) (u : Option Json) (is : q e ≡ entry_of u) where
    by_parent : told q (meaning d c) ≡ told_where (admits c u) (told q (plain d c))
    by_parent =
        guard c ∙ ap (λ o. told_by q c o (told q (plain d c))) up
        ∙ ap (by_entry e (λ v. told_where (admits c v) (told q (plain d c)))) is
        ∙ entry_at e (λ v. told_where (admits c v) (told q (plain d c))) u

    is_there : admits c u ≡ true → is_admitted (blanked q) c ≡ true
    is_there h =
        ap (admitted (blanked q) c) up ∙ ap (λ k. admits c (known_value k)) is ∙ ap (admits c) (value_known u) ∙ h

    by_raw : (o : Option (Reads Json)) → raw d c ≡ o → admits c u ≡ true → IsTold c
    by_raw None r h =
        (None, by_parent ∙ ap (λ b. told_where b (told q (plain d c))) h ∙ no_raw c a r)
    by_raw (Some x) r h = there c a x r (is_there h)

    by_admits : (b : Bool) → admits c u ≡ b → IsTold c
    by_admits true h = by_raw (raw d c) refl h
    by_admits false h = (None, by_parent ∙ ap (λ b. told_where b (told q (plain d c))) h)

  below : (c e : Cell) → is_asked c ≡ true → is_asked e ≡ true → parent c ≡ Some e → IsTold e → IsTold c
  below c e a b up t =
      by_admits c e a up t.0 (closed e b ∙ ap entry_told t.1) (admits c t.0) refl

  count_told : (p : Position) (r : ℕ) → IsTold (count p r)
  count_told [] r = by_root (count [] r) refl refl (raw d (count [] r)) refl
  count_told (s ∷ p) r =
      below (count (s ∷ p) r) (included p s) refl refl refl
      (below (included p s) (count p s.resource) refl refl refl (count_told p s.resource))

  pub all_told : (c : Cell) → is_asked c ≡ true → IsTold c
  all_told (count p r) a = count_told p r
  all_told (included p s) a = below (included p s) (count p s.resource) refl refl refl (count_told p s.resource)
  all_told (name p s) a = below (name p s) (count p s.resource) refl refl refl (count_told p s.resource)
  all_told (parameter p x) a = absurd (true≢false (sym a))
  all_told (variable p x) a = absurd (true≢false (sym a))
  all_told (offered p x) a = absurd (true≢false (sym a))
  all_told (output p x) a = absurd (true≢false (sym a))
  all_told (deployments p) a = absurd (true≢false (sym a))
  all_told (state k) a = absurd (true≢false (sym a))
