-- What an expression reads is of the symbols to which it leads.
use Rattle.std.proofs.Common.{◌≡◌, ℕ, zero, suc, List, [], ◌∷◌, ◌++◌, Option, Some, None, refl, ap}
use Rattle.std.proofs.Common.{inl, inr, ◌∙◌}
use Rattle.std.specs.Prelude.{codes, slice_get, option_map}
use Rattle.std.specs.List.{flat_map}
use Rattle.arm_value.specs.Json.{text}
use Rattle.arm_value.specs.Look.{fold, look}
use Rattle.arm_ids.specs.Id.{folded}
use Rattle.arm_ids.specs.declared.id.ResourceId.{ResourceId}
use Rattle.reading.specs.Reading.{done, read, continued}
use Rattle.reading.specs.World.{value_in, reads_in, Each}
use Rattle.reading.specs.Knowledge.{Has}
use Rattle.deploy_cells.specs.Cells as cell
use Rattle.deploy_cells.specs.Cells.{Cell, World}
use Rattle.deploy_cells.specs.Listing.{Sought, found, left_away, not_here, sought}
use Rattle.bicep_circles.specs.Field.{Field}
use Rattle.bicep_circles.specs.Field.TheVariants as field
use Rattle.bicep_circles.specs.Meaning.{Meaning}
use Rattle.bicep_circles.specs.Meaning.TheVariants as m
use Rattle.bicep_circles.specs.Source.{SourceTree, SourceTrees, PieceTrees, ReachTree, PropertyTrees, ValueTree}
use Rattle.bicep_circles.specs.Source as s
use Rattle.bicep_circles.specs.Target.{number_of, target_of}
use Rattle.bicep_circles.specs.Mentions.{mentions, reach_mentions, all_mentions, piece_mentions, property_mentions, value_mentions, name_mentions}
use Rattle.bicep_meaning.specs.Files.{symbol_name}
use Rattle.bicep_meaning.specs.Rows.{capped, all, literal_value, prefix_value, member_value, index_value}
use Rattle.bicep_meaning.specs.Around.{Here, Frame, item_of, index_of}
use Rattle.bicep_meaning.specs.Meaning.{parameter_entry, named, state_member, field_value, module_key, output_at, instance_output, found_output, has_key, output_value, output_name, bare, values, texts, members, bare_value, frames}
use Rattle.bicep_meaning.specs.Declared.{around}
use Rattle.bicep_meaning_laws.specs.Reached.{led_to, all_led_to, HasOutput, IsOf}
use Rattle.bicep_meaning_laws.proofs.SameLemmas.{first, second}
use Rattle.bicep_meaning_laws.proofs.FineLemmas.{Fine, AllFine, FineFrame}
use Rattle.bicep_meaning_laws.proofs.FineLemmas.{fine-done, fine-read, fine-continued, fine-then}
use Rattle.bicep_meaning_laws.proofs.FineLemmas.{fine-capped, fine-all, fine-conditional, fine-by-both, fine-operated}
use Rattle.bicep_meaning_laws.proofs.FineLemmas.{fine-called, fine-element, fine-looped}

module _ (P : ℕ → Type 0) (g : ℕ → List ℕ) where
  pub first_of : (xs ys : List ℕ) → Each P (flat_map g (xs ++ ys)) → Each P (flat_map g xs)
  first_of [] ys h = tt
  first_of (x ∷ xs) ys h =
      joined_each (g x) (flat_map g xs) (first P (g x) (flat_map g (xs ++ ys)) h)
      (first_of xs ys (second P (g x) (flat_map g (xs ++ ys)) h))
    where
      joined_each : (us vs : List ℕ) → Each P us → Each P vs → Each P (us ++ vs)
      joined_each [] vs h k = k
      joined_each (u ∷ us) vs h k = (h.0, joined_each us vs h.1 k)

  pub second_of : (xs ys : List ℕ) → Each P (flat_map g (xs ++ ys)) → Each P (flat_map g ys)
  second_of [] ys h = h
  second_of (x ∷ xs) ys h = second_of xs ys (second P (g x) (flat_map g (xs ++ ys)) h)

  pub head_of : (x : ℕ) (ys : List ℕ) → Each P (flat_map g (x ∷ ys)) → Each P (g x)
  head_of x ys h = first P (g x) (flat_map g ys) h

  pub tail_of : (x : ℕ) (ys : List ℕ) → Each P (flat_map g (x ∷ ys)) → Each P (flat_map g ys)
  tail_of x ys h = second P (g x) (flat_map g ys) h

  pub reached_of : (r : ReachTree) → Each P (flat_map g (reach_mentions r)) → Each P (g (number_of (target_of r)))
  reached_of (s.symbol at x) h = head_of (number_of x) [] h
  reached_of (s.element at x e) h = head_of (number_of x) (mentions e) h

module _ (here : Here) (w : World) (M : ℕ → Type 0) where
  abbrev pub Q : Cell → Type 0
  Q = IsOf here w M

  abbrev Led : ℕ → List ℕ → Type 0
  Led k ns = Each M (all_led_to here.file k ns)

  pub own : (k n : ℕ) → Each M (led_to here.file k n) → M n
  unfolding led_to
  own zero n h = h.0
  own (suc k) n h = h.0

  abbrev pub FineFrames : List Frame → Type 0
  FineFrames [] = Unit {0}
  FineFrames (f ∷ fs) = FineFrame w Q f × FineFrames fs

  fine-item : (fs : List Frame) (n : ℕ) → FineFrames fs → Fine w Q (item_of (slice_get fs n))
  fine-item [] n h = fine-done w Q None
  fine-item (f ∷ fs) zero h = h.0.item
  fine-item (f ∷ fs) (suc n) h = fine-item fs n h.1

  pub fine-index : (fs : List Frame) (n : ℕ) → FineFrames fs → Fine w Q (index_of (slice_get fs n))
  fine-index [] n h = fine-done w Q None
  fine-index (f ∷ fs) zero h = h.0.index
  fine-index (f ∷ fs) (suc n) h = fine-index fs n h.1

  -- what declarations read that are used through at most so many others
  pub record IsFine (k : ℕ) : Type 0 where
    pub variable : (n : ℕ) → Each M (led_to here.file k n) → Fine w Q ((around here k).variable n)
    pub items : (n : ℕ) → Each M (led_to here.file k n) → Fine w Q ((around here k).items n)
    pub name : (n : ℕ) (fs : List Frame) → Each M (led_to here.file k n) → FineFrames fs
        → Fine w Q ((around here k).name n fs)
    pub id : (n : ℕ) (fs : List Frame) → Each M (led_to here.file k n) → FineFrames fs
        → Fine w Q ((around here k).id n fs)

  fine-parameter : (n : ℕ) → M n → Fine w Q (parameter_entry here n)
  unfolding parameter_entry value_in continued
  fine-parameter n h = by_name (symbol_name here.file n) refl
    where
      by_name : (o : Option (List ℕ)) → symbol_name here.file n ≡ o
          → Fine w Q (continued (done o) (λ x. read (cell.parameter here.at (fold x))))
      by_name None e = fine-done w Q None
      by_name (Some x) e =
          fine-continued w Q (done (Some x)) (λ y. read (cell.parameter here.at (fold y))) (fine-done w Q (Some x))
          (λ y g. fine-read w Q (cell.parameter here.at (fold y))
          (refl, (n, (h, ap (λ o. option_map fold o) (e ∙ g)))))

  fine-state : (k n : ℕ) (fs : List Frame) (x : List ℕ) → M n → Fine w Q ((around here k).id n fs)
      → Fine w Q (state_member x ((around here k).id n fs))
  unfolding state_member
  fine-state k n fs x h g =
      fine-continued w Q ((around here k).id n fs) _ g
      (λ i e. fine-then w Q (read (cell.state (folded i))) (look x) (fine-read w Q (cell.state (folded i))
      (record { symbol = n; is_among = h; limit = k; loops = fs; id = i; has_id = e; has_key = refl })))

  -- a cell that is read for an output of a module alone
  abbrev IsOfModule : Cell → Type 0
  IsOfModule (cell.deployments p) = Unit {0}
  IsOfModule (cell.output p x) = Unit {0}
  IsOfModule c = ⊥

  fine-instance : (x : List ℕ) (o : Option ℕ) (i : ℕ) → Fine w IsOfModule (instance_output here x o i)
  fine-instance x None i = fine-done w IsOfModule None
  fine-instance x (Some n) i = fine-read w IsOfModule (cell.output _ x) tt

  fine-found : (x : List ℕ) (q : Sought) → Fine w IsOfModule (found_output here x q)
  fine-found x (found k i) = fine-instance x (slice_get here.file.modules k) i
  fine-found x left_away = fine-done w IsOfModule None
  fine-found x not_here = fine-done w IsOfModule None

  output_cells : (x : List ℕ) (key : ResourceId) → Each IsOfModule (reads_in w (output_at here x key))
  unfolding output_at
  output_cells x key =
      fine-continued w IsOfModule (read (cell.deployments here.at)) _
      (fine-read w IsOfModule (cell.deployments here.at) tt)
      (λ j e. fine-found (fold x) (sought (has_key here.place key) j))

  of_module : (c : Cell) → IsOfModule c → HasOutput here w M c → Q c
  of_module (cell.deployments p) h g = g
  of_module (cell.output p x) h g = g
  of_module (cell.parameter p x) h g = absurd h
  of_module (cell.variable p x) h g = absurd h
  of_module (cell.offered p x) h g = absurd h
  of_module (cell.count p n) h g = absurd h
  of_module (cell.included p s) h g = absurd h
  of_module (cell.name p s) h g = absurd h
  of_module (cell.state k) h g = absurd h

  each_has : (all_of rest : List Cell) → ((c : Cell) → Has c rest → Has c all_of) → Each IsOfModule rest
      → ((c : Cell) → Has c all_of → HasOutput here w M c) → Each Q rest
  each_has all_of [] h g k = tt
  each_has all_of (c ∷ cs) h g k =
      (of_module c g.0 (k c (h c (inl refl))), each_has all_of cs (λ d e. h d (inr e)) g.1 k)

  fine-output : (k n : ℕ) (fs : List Frame) (o : Option (List ℕ)) → M n → Fine w Q ((around here k).name n fs)
      → Fine w Q (output_value here o ((around here k).name n fs))
  unfolding output_value value_in
  fine-output k n fs o h g =
      fine-continued w Q (done o) _ (fine-done w Q o)
      (λ x e. fine-continued w Q ((around here k).name n fs) _ g
      (λ v u. fine-continued w Q (done (module_key here.place v)) (output_at here x)
      (fine-done w Q (module_key here.place v))
      (λ key t. each_has (reads_in w (output_at here x key)) (reads_in w (output_at here x key)) (λ c i. i)
      (output_cells x key)
      (λ c i. record {
        symbol = n;
        is_among = h;
        limit = k;
        loops = fs;
        name = v;
        has_name = u;
        key = key;
        has_key = t;
        output = x;
        is_read = i;
      }))))

  module _ (k : ℕ) (f : IsFine k) where
    fine-named : (x : Meaning) (fs : List Frame) → Led k (name_mentions x) → FineFrames fs
        → Fine w Q (named here (around here k) x fs)
    fine-named (m.Parameter n) fs h g =
        fine-parameter n (own k n (head_of M (λ n. led_to here.file k n) n [] h))
    fine-named (m.Variable n) fs h g = f.variable n (head_of M (λ n. led_to here.file k n) n [] h)
    fine-named (m.Item n) fs h g = fine-item fs n g
    fine-named (m.Index n) fs h g = fine-index fs n g

    fine-field : (n : ℕ) (x : Field) (fs : List Frame) → Each M (led_to here.file k n) → FineFrames fs
        → Fine w Q (field_value here (around here k) n x fs)
    fine-field n field.Id fs h g =
        fine-continued w Q ((around here k).id n fs) _ (f.id n fs h g) (λ i e. fine-done w Q _)
    fine-field n field.Name fs h g = f.name n fs h g
    fine-field n field.Type fs h g = fine-done w Q _
    fine-field n field.ApiVersion fs h g = fine-done w Q _
    fine-field n field.Properties fs h g = fine-state k n fs (codes "properties") (own k n h) (f.id n fs h g)
    fine-field n field.Outputs fs h g = fine-done w Q None
    fine-field n (field.Other x) fs h g = fine-state k n fs x (own k n h) (f.id n fs h g)

    mutual
      pub fine-bare : (e : SourceTree) (fs : List Frame) → Led k (mentions e) → FineFrames fs
          → Fine w Q (bare here (around here k) e fs)
      fine-bare (s.name at x) fs h g = fine-named x fs h g
      fine-bare (s.literal at v) fs h g = fine-done w Q (Some (literal_value v))
      fine-bare (s.interpolated at start ps) fs h g =
          fine-continued w Q (all (texts here (around here k) ps fs)) _ (fine-all w Q _ (fine-texts ps fs h g))
          (λ ts e. fine-done w Q _)
      fine-bare (s.object at ps) fs h g =
          fine-continued w Q (all (members here (around here k) ps fs)) _ (fine-all w Q _ (fine-members ps fs h g))
          (λ ms e. fine-done w Q _)
      fine-bare (s.array at es) fs h g =
          fine-continued w Q (all (values here (around here k) es fs)) _ (fine-all w Q _ (fine-values es fs h g))
          (λ vs e. fine-done w Q _)
      fine-bare (s.call at name es) fs h g =
          fine-called w Q here.place name (values here (around here k) es fs) (fine-values es fs h g)
      fine-bare (s.instance r) fs h g = fine-done w Q None
      fine-bare (s.field r at x) fs h g =
          fine-field (number_of (target_of r)) x (frames here (around here k) r fs)
          (reached_of M (λ n. led_to here.file k n) r h) (fine-frames r fs h g)
      fine-bare (s.output r at n) fs h g =
          let l = reached_of M (λ n. led_to here.file k n) r h in
          fine-output k (number_of (target_of r)) (frames here (around here k) r fs)
          (output_name here (target_of r) n) (own k (number_of (target_of r)) l)
          (f.name (number_of (target_of r)) (frames here (around here k) r fs) l (fine-frames r fs h g))
      fine-bare (s.member e n x) fs h g =
          fine-then w Q (capped (bare here (around here k) e fs)) (λ v. member_value n v (text x.text))
          (fine-capped w Q _ (fine-bare e fs h g))
      fine-bare (s.index e n i) fs h g =
          fine-by-both w Q (index_value n) _ _
          (fine-capped w Q _ (fine-bare e fs (first_of M (λ n. led_to here.file k n) (mentions e) (mentions i) h) g))
          (fine-capped w Q _ (fine-bare i fs (second_of M (λ n. led_to here.file k n) (mentions e) (mentions i) h) g))
      fine-bare (s.prefixed at p e) fs h g =
          fine-then w Q (capped (bare here (around here k) e fs)) (prefix_value p)
          (fine-capped w Q _ (fine-bare e fs h g))
      fine-bare (s.binary op x y) fs h g =
          fine-operated w Q op _ _
          (fine-capped w Q _ (fine-bare x fs (first_of M (λ n. led_to here.file k n) (mentions x) (mentions y) h) g))
          (fine-capped w Q _ (fine-bare y fs (second_of M (λ n. led_to here.file k n) (mentions x) (mentions y) h) g))
      fine-bare (s.conditional c x y) fs h g =
          let t = second_of M (λ n. led_to here.file k n) (mentions c) (mentions x ++ mentions y) h in
          fine-conditional w Q _ _ _
          (fine-capped w Q _
          (fine-bare c fs (first_of M (λ n. led_to here.file k n) (mentions c) (mentions x ++ mentions y) h) g))
          (fine-capped w Q _ (fine-bare x fs (first_of M (λ n. led_to here.file k n) (mentions x) (mentions y) t) g))
          (fine-capped w Q _ (fine-bare y fs (second_of M (λ n. led_to here.file k n) (mentions x) (mentions y) t) g))

      fine-values : (es : SourceTrees) (fs : List Frame) → Led k (all_mentions es) → FineFrames fs
          → AllFine w Q (values here (around here k) es fs)
      fine-values s.none fs h g = tt
      fine-values (s.more e es) fs h g = (
        fine-capped w Q _
            (fine-bare e fs (first_of M (λ n. led_to here.file k n) (mentions e) (all_mentions es) h) g),
        fine-values es fs (second_of M (λ n. led_to here.file k n) (mentions e) (all_mentions es) h) g,
      )

      fine-texts : (ps : PieceTrees) (fs : List Frame) → Led k (piece_mentions ps) → FineFrames fs
          → AllFine w Q (texts here (around here k) ps fs)
      fine-texts s.no_piece fs h g = tt
      fine-texts (s.piece e after ps) fs h g = (
        fine-continued w Q (capped (bare here (around here k) e fs)) _
            (fine-capped w Q _
            (fine-bare e fs (first_of M (λ n. led_to here.file k n) (mentions e) (piece_mentions ps) h) g))
            (λ v e. fine-done w Q _),
        fine-texts ps fs (second_of M (λ n. led_to here.file k n) (mentions e) (piece_mentions ps) h) g,
      )

      fine-members : (ps : PropertyTrees) (fs : List Frame) → Led k (property_mentions ps) → FineFrames fs
          → AllFine w Q (members here (around here k) ps fs)
      fine-members s.no_property fs h g = tt
      fine-members (s.property at name v ps) fs h g = (
        fine-continued w Q (capped (bare_value here (around here k) v fs)) _
            (fine-capped w Q _
            (fine-value v fs (first_of M (λ n. led_to here.file k n) (value_mentions v) (property_mentions ps) h) g))
            (λ v e. fine-done w Q _),
        fine-members ps fs
            (second_of M (λ n. led_to here.file k n) (value_mentions v) (property_mentions ps) h) g,
      )

      pub fine-value : (v : ValueTree) (fs : List Frame) → Led k (value_mentions v) → FineFrames fs
          → Fine w Q (bare_value here (around here k) v fs)
      fine-value (s.plain e) fs h g = fine-bare e fs h g
      fine-value (s.each (s.loop at xs) e) fs h g =
          fine-looped w Q (capped (bare here (around here k) xs fs))
          (λ l. capped (bare here (around here k) e (l ∷ fs)))
          (fine-capped w Q _
          (fine-bare xs fs (first_of M (λ n. led_to here.file k n) (mentions xs) (mentions e) h) g))
          (λ l q. fine-capped w Q _
          (fine-bare e (l ∷ fs) (second_of M (λ n. led_to here.file k n) (mentions xs) (mentions e) h) (q, g)))

      pub fine-frames : (r : ReachTree) (fs : List Frame) → Led k (reach_mentions r) → FineFrames fs
          → FineFrames (frames here (around here k) r fs)
      fine-frames (s.symbol at x) fs h g = tt
      fine-frames (s.element at x e) fs h g = (
        fine-element w Q ((around here k).items (number_of x)) (capped (bare here (around here k) e fs))
            (f.items (number_of x) (head_of M (λ n. led_to here.file k n) (number_of x) (mentions e) h))
            (fine-capped w Q _
            (fine-bare e fs (tail_of M (λ n. led_to here.file k n) (number_of x) (mentions e) h) g)),
        tt,
      )
