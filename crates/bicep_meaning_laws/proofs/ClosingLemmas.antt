-- What declarations read is of the symbols to which they lead.
use Rattle.std.proofs.Common.{◌≡◌, ℕ, zero, suc, List, [], ◌∷◌, Option, Some, None, Bool, true, false, refl, ap}
use Rattle.std.proofs.Common.{cond, inl, inr, ◌++◌, ◌∙◌, pos}
use Rattle.std.specs.Prelude.{codes, slice_get, option_and_then, option_map}
use Rattle.arm_value.specs.Json.{Json, int}
use Rattle.arm_value.specs.Look.{fold}
use Rattle.reading.specs.Reading.{done, pure, read, continued, both}
use Rattle.reading.specs.World.{value_in, reads_in, Each}
use Rattle.reading.specs.Knowledge.{Has}
use Rattle.deploy_cells.specs.Cells as cell
use Rattle.deploy_cells.specs.Cells.{Cell, World}
use Rattle.deploy_cells.specs.Guarded.{Reads}
use Rattle.bicep_circles.specs.Source.{SourceTree, ReachTree, ValueTree, LoopTree, field_named}
use Rattle.bicep_circles.specs.Source as s
use Rattle.bicep_circles.specs.Target.{number_of, target_of}
use Rattle.bicep_meaning.specs.Declarations.{BodyTree, DeclaredTree}
use Rattle.bicep_meaning.specs.Declarations as d
use Rattle.bicep_circles.specs.Mentions.{mentions, value_mentions, each_mentions}
use Rattle.bicep_meaning.specs.Files.{symbol_name, declaration, Parent, no_parent, inside, below, parent, type_of}
use Rattle.bicep_meaning.specs.Around.{Here, Frame, element, index_of, run_at}
use Rattle.bicep_meaning.specs.Meaning.{bare, bare_value, value, value_of, frames}
use Rattle.bicep_meaning.specs.Declared.{symbol_in_loop, named_by_symbol, id_named, id_after, value_or_none, variable_value, over, module_name, name_by, name_value, id_by, id_of, declared, around, body_of}
use Rattle.bicep_meaning_laws.specs.Reached.{some_mentions, used_by, parent_used, uses, led_to, all_led_to}
use Rattle.bicep_meaning_laws.specs.Reached.{IsMentioned, IsOfOne}
use Rattle.bicep_meaning_laws.proofs.FineLemmas.{Fine, fine-done, fine-read, fine-continued, fine-then, fine-capped}
use Rattle.bicep_meaning_laws.proofs.FineLemmas.{fine-both, fine-element}
use Rattle.bicep_meaning_laws.proofs.SameLemmas.{first, second}
use Rattle.bicep_meaning_laws.proofs.MentionLemmas.{Q, FineFrames, IsFine, first_of, second_of, head_of, reached_of}
use Rattle.bicep_meaning_laws.proofs.MentionLemmas.{fine-bare, fine-value, fine-frames, fine-index}

module _ (here : Here) (w : World) (M : ℕ → Type 0) (k : ℕ) (f : IsFine here w M k) where
  abbrev Led : List ℕ → Type 0
  Led ns = Each M (all_led_to here.file k ns)

  abbrev fine : {A : Type 0} → Reads A → Type 0
  fine r = Fine w (Q here w M) r

  variable_fine : (n : ℕ) (o : Option DeclaredTree) → M n → Led (used_by here.file n o)
      → fine (variable_value here (around here k) n o)
  unfolding value_in continued
  variable_fine n None h g = fine-done w (Q here w M) None
  variable_fine n (Some (d.parameter at t)) h g = fine-done w (Q here w M) None
  variable_fine n (Some (d.parameter_with at t e)) h g = fine-done w (Q here w M) None
  variable_fine n (Some (d.a_resource at q e b)) h g = fine-done w (Q here w M) None
  variable_fine n (Some (d.a_module at b)) h g = fine-done w (Q here w M) None
  variable_fine n (Some (d.variable at v)) h g = pick (here.file.has_entry n) g
    where
      entry : (o : Option (List ℕ)) → symbol_name here.file n ≡ o
          → fine (continued (done o) (λ x. read (cell.variable here.at (fold x))))
      entry None e = fine-done w (Q here w M) None
      entry (Some x) e =
          fine-continued w (Q here w M) (done (Some x)) (λ y. read (cell.variable here.at (fold y)))
          (fine-done w (Q here w M) (Some x))
          (λ y u. fine-read w (Q here w M) (cell.variable here.at (fold y))
          (refl, (n, (h, ap (λ o. option_map fold o) (e ∙ u)))))

      pick : (b : Bool) → Led (cond b [] (value_mentions v))
          → fine (cond b (continued (done (symbol_name here.file n)) (λ x. read (cell.variable here.at (fold x))))
          (value_of here (around here k) v []))
      pick true g = entry (symbol_name here.file n) refl
      pick false g = fine-capped w (Q here w M) _ (fine-value here w M k f v [] g tt)

  over_fine : (l : Option LoopTree) → Led (each_mentions l) → fine (over here (around here k) l)
  over_fine None h = fine-done w (Q here w M) None
  over_fine (Some (s.loop at xs)) h = fine-capped w (Q here w M) _ (fine-bare here w M k f xs [] h tt)

  abbrev led : ℕ → List ℕ
  led n = led_to here.file k n

  items_fine : (n : ℕ) (o : Option DeclaredTree) → Led (used_by here.file n o)
      → fine (over here (around here k) (option_and_then (λ b. b.each) (option_and_then body_of o)))
  items_fine n None h = fine-done w (Q here w M) None
  items_fine n (Some (d.parameter at t)) h = fine-done w (Q here w M) None
  items_fine n (Some (d.parameter_with at t e)) h = fine-done w (Q here w M) None
  items_fine n (Some (d.variable at v)) h = fine-done w (Q here w M) None
  items_fine n (Some (d.a_resource at q e b)) h =
      over_fine b.each (first_of M led (each_mentions b.each) (some_mentions (field_named (codes "name") b.fields)) h)
  items_fine n (Some (d.a_module at b)) h =
      over_fine b.each (first_of M led (each_mentions b.each) (some_mentions (field_named (codes "name") b.fields)) h)

  some_fine : (o : Option ValueTree) (fs : List Frame) → Led (some_mentions o) → FineFrames here w M fs
      → fine (value_or_none here (around here k) o fs)
  some_fine None fs h g = fine-done w (Q here w M) None
  some_fine (Some v) fs h g = fine-capped w (Q here w M) _ (fine-value here w M k f v fs h g)

  symbol_fine : (x : List ℕ) (l : Option LoopTree) (fs : List Frame) → FineFrames here w M fs
      → fine (symbol_in_loop x l fs)
  symbol_fine x None fs g = fine-done w (Q here w M) _
  symbol_fine x (Some l) fs g =
      fine-continued w (Q here w M) (index_of (slice_get fs 0)) _ (fine-index here w M fs 0 g)
      (λ i e. fine-done w (Q here w M) _)

  by_symbol_fine : (o : Option (List ℕ)) (l : Option LoopTree) (fs : List Frame) → FineFrames here w M fs
      → fine (named_by_symbol o l fs)
  by_symbol_fine None l fs g = fine-done w (Q here w M) None
  by_symbol_fine (Some x) l fs g = symbol_fine x l fs g

  module_fine : (n : ℕ) (b : BodyTree) (o : Option ValueTree) (fs : List Frame) → Led (some_mentions o)
      → FineFrames here w M fs → fine (module_name here (around here k) n b o fs)
  module_fine n b None fs h g = by_symbol_fine (symbol_name here.file n) b.each fs g
  module_fine n b (Some v) fs h g = fine-capped w (Q here w M) _ (fine-value here w M k f v fs h g)

  name_fine : (n : ℕ) (o : Option DeclaredTree) (fs : List Frame) → Led (used_by here.file n o)
      → FineFrames here w M fs → fine (name_by here (around here k) n o fs)
  name_fine n None fs h g = fine-done w (Q here w M) None
  name_fine n (Some (d.parameter at t)) fs h g = fine-done w (Q here w M) None
  name_fine n (Some (d.parameter_with at t e)) fs h g = fine-done w (Q here w M) None
  name_fine n (Some (d.variable at v)) fs h g = fine-done w (Q here w M) None
  name_fine n (Some (d.a_resource at q e b)) fs h g =
      some_fine (field_named (codes "name") b.fields) fs
      (second_of M led (each_mentions b.each) (some_mentions (field_named (codes "name") b.fields)) h) g
  name_fine n (Some (d.a_module at b)) fs h g =
      module_fine n b (field_named (codes "name") b.fields) fs
      (second_of M led (each_mentions b.each) (some_mentions (field_named (codes "name") b.fields)) h) g

  id_by_fine : (p : Parent) (kind : List ℕ) (r : Reads Json) (fs : List Frame) → Led (parent_used p)
      → FineFrames here w M fs → fine r → fine (id_by here (around here k) p kind r fs)
  id_by_fine no_parent kind r fs h g u = fine-then w (Q here w M) r (id_named here.place kind) u
  id_by_fine (inside n) kind r fs h g u =
      fine-then w (Q here w M) (both ((around here k).id n []) r) (λ p. id_after kind p.0 p.1)
      (fine-both w (Q here w M) ((around here k).id n []) r (f.id n [] (head_of M led n [] h) tt) u)
  id_by_fine (below x) kind r fs h g u =
      fine-then w (Q here w M)
      (both ((around here k).id (number_of (target_of x)) (frames here (around here k) x fs)) r)
      (λ p. id_after kind p.0 p.1)
      (fine-both w (Q here w M) ((around here k).id (number_of (target_of x)) (frames here (around here k) x fs)) r
      (f.id (number_of (target_of x)) (frames here (around here k) x fs) (reached_of M led x h)
      (fine-frames here w M k f x fs h g)) u)

  id_fine : (n : ℕ) (o : Option DeclaredTree) (fs : List Frame) → Led (parent_used (parent here.file n))
      → FineFrames here w M fs → fine (name_value here (around here k) n fs)
      → fine (id_of here (around here k) n o fs)
  id_fine n None fs h g u = fine-done w (Q here w M) None
  id_fine n (Some (d.parameter at t)) fs h g u = fine-done w (Q here w M) None
  id_fine n (Some (d.parameter_with at t e)) fs h g u = fine-done w (Q here w M) None
  id_fine n (Some (d.variable at v)) fs h g u = fine-done w (Q here w M) None
  id_fine n (Some (d.a_module at b)) fs h g u = fine-done w (Q here w M) None
  id_fine n (Some (d.a_resource at q e b)) fs h g u =
      id_by_fine (parent here.file n) (type_of here.file n).kind (name_value here (around here k) n fs) fs h g u

  own_uses : (n : ℕ) → Led (uses here.file n) → Led (used_by here.file n (declaration here.file n))
  own_uses n h = first_of M led (used_by here.file n (declaration here.file n)) (parent_used (parent here.file n)) h

  parent_uses : (n : ℕ) → Led (uses here.file n) → Led (parent_used (parent here.file n))
  parent_uses n h = second_of M led (used_by here.file n (declaration here.file n)) (parent_used (parent here.file n)) h

  pub next_fine : IsFine here w M (suc k)
  unfolding around declared led_to
  next_fine = record {
    variable = λ n h. variable_fine n (declaration here.file n) h.0 (own_uses n h.1);
    items = λ n h. items_fine n (declaration here.file n) (own_uses n h.1);
    name = λ n fs h g. name_fine n (declaration here.file n) fs (own_uses n h.1) g;
    id = λ n fs h g. id_fine n (declaration here.file n) fs (parent_uses n h.1) g
        (name_fine n (declaration here.file n) fs (own_uses n h.1) g);
  }

module _ (here : Here) (w : World) (M : ℕ → Type 0) where
  pub all_fine : (k : ℕ) → IsFine here w M k
  unfolding around
  all_fine zero = record {
    variable = λ n h. fine-done w (Q here w M) None;
    items = λ n h. fine-done w (Q here w M) None;
    name = λ n fs h g. fine-done w (Q here w M) None;
    id = λ n fs h g. fine-done w (Q here w M) None;
  }
  all_fine (suc k) = next_fine here w M k (all_fine k)

has_all : (ms rest : List ℕ) → ((n : ℕ) → Has n rest → Has n ms) → Each (λ n. Has n ms) rest
has_all ms [] h = tt
has_all ms (n ∷ rest) h = (h n (inl refl), has_all ms rest (λ m g. h m (inr g)))

-- what an expression reads is of the symbols to which it leads
pub reads_mentioned : (here : Here) (w : World) (k : ℕ) (e : SourceTree)
    → Each (IsMentioned here w k e) (reads_in w (value here (around here k) e []))
reads_mentioned here w k e =
    let ms = all_led_to here.file k (mentions e) in
    fine-capped w (Q here w (λ n. Has n ms)) (bare here (around here k) e [])
    (fine-bare here w (λ n. Has n ms) k (all_fine here w (λ n. Has n ms) k) e [] (has_all ms ms (λ n g. g)) tt)

-- what a value outside loops reads
pub values_mentioned : (here : Here) (w : World) (k : ℕ) (v : ValueTree)
    → Each (IsOfOne here w (all_led_to here.file k (value_mentions v)))
    (reads_in w (value_of here (around here k) v []))
values_mentioned here w k v =
    let ms = all_led_to here.file k (value_mentions v) in
    fine-capped w (Q here w (λ n. Has n ms)) (bare_value here (around here k) v [])
    (fine-value here w (λ n. Has n ms) k (all_fine here w (λ n. Has n ms) k) v [] (has_all ms ms (λ n g. g)) tt)

-- what a value reads in a run of a loop
pub runs_mentioned : (here : Here) (w : World) (j k i : ℕ) (xs : SourceTree) (v : ValueTree)
    → Each (IsOfOne here w (all_led_to here.file j (mentions xs) ++ all_led_to here.file k (value_mentions v)))
    (reads_in w (value_of here (around here k) v (run_at (value here (around here j) xs []) i ∷ [])))
unfolding element
runs_mentioned here w j k i xs v =
    let over = all_led_to here.file j (mentions xs) in
    let own = all_led_to here.file k (value_mentions v) in
    let all = has_all (over ++ own) (over ++ own) (λ n g. g) in
    fine-capped w (Q here w (λ n. Has n (over ++ own)))
    (bare_value here (around here k) v (run_at (value here (around here j) xs []) i ∷ []))
    (fine-value here w (λ n. Has n (over ++ own)) k (all_fine here w (λ n. Has n (over ++ own)) k) v
    (run_at (value here (around here j) xs []) i ∷ []) (second (λ n. Has n (over ++ own)) over own all) (
      fine-element w (Q here w (λ n. Has n (over ++ own))) (value here (around here j) xs []) (pure (int (pos i)))
          (fine-capped w (Q here w (λ n. Has n (over ++ own))) (bare here (around here j) xs [])
          (fine-bare here w (λ n. Has n (over ++ own)) j (all_fine here w (λ n. Has n (over ++ own)) j) xs []
          (first (λ n. Has n (over ++ own)) over own all) tt))
          (fine-done w (Q here w (λ n. Has n (over ++ own))) (Some (int (pos i)))),
      tt,
    ))
