-- A visit on its way.
use Rattle.std.proofs.Common.{◌≡◌, ◌⊎◌, inl, inr, ℕ, ◌+◌, ◌<◌, ◌≤◌, List, [], ◌∷◌, ◌++◌, length, Option, Some}
use Rattle.std.proofs.Common.{None, refl, sym, ap, subst, ◌∙◌, arith}
use Rattle.plan_cells.specs.Meaning.{Deployment}
use Rattle.plan_cells.specs.Children.{Has, AreApart}
use Rattle.plan_cells.proofs.ListLemmas.{has_joined, has_left, has_right, apart_joined}
use Rattle.plan_filling.specs.Rows.{Status, New, Open, Value, Empty, Late, Row, row_at, IsFinished}
use Rattle.plan_filling.specs.Sound.{Sound}
use Rattle.plan_filling.specs.Steps.{Keeps, Advanced, WaitsFor, IsDone, IsFirst, IsStuck, AllOpen, IsChain}
use Rattle.plan_filling.specs.Steps.{OnTheWay, NoneOpen, OneOpen, AreFinished, Visited, IsCircle, Filled}
use Rattle.std.specs.Prelude.{Result, Ok, Err, IfOk, MatchOption}
use Rattle.std.proofs.lemmas.Bool.{cases_lt, cases_eq}
use Rattle.foundation.proofs.Comparisons.{lt_or_is}
use Rattle.plan_filling.specs.Rows.{stage_of, IsWaiting}
use Rattle.plan_filling.specs.declared.sheet.Halt.{Halt}
use Rattle.plan_filling.specs.declared.sheet.Stage.TheVariants as stage
use Rattle.plan_filling.specs.declared.visit.Circle.{Circle}
use Rattle.plan_filling.specs.Steps.{Turned}
use Rattle.plan_filling.specs.declared.visit.Turn.{Turn}
use Rattle.plan_filling.proofs.ChangeLemmas.{waits_on}

pub keeps_self : (rows : List Row) → Keeps rows rows
keeps_self rows = record { longer = omega arith; finished = λ i h f. refl }

pub keeps_on : (a b c : List Row) → Keeps a b → Keeps b c → Keeps a c
keeps_on a b c k l = record {
  longer = omega (arith, k.longer, l.longer);
  finished = λ i h f. (let e : row_at b i ≡ row_at a i = k.finished i h f in
      l.finished i (omega (arith, h, k.longer)) (subst (λ (r : Row). IsFinished r.status) (sym e) f) ∙ e);
}

keeps_finished : (a b : List Row) (i : ℕ) → Keeps a b → i < length a → IsFinished (row_at a i).status
    → IsFinished (row_at b i).status
keeps_finished a b i k h f = subst (λ (r : Row). IsFinished r.status) (sym (k.finished i h f)) f

-- open cells
abbrev IsOpen : List Row → ℕ → Type 0
IsOpen rows i = (i < length rows) × ((row_at rows i).status ≡ Open)

open_of : (rows : List Row) (i : ℕ) (xs : List ℕ) → AllOpen rows xs → Has i xs → IsOpen rows i
open_of rows i [] a h = absurd h
open_of rows i (x ∷ xs) a (inl e) = subst (IsOpen rows) e a.0
open_of rows i (x ∷ xs) a (inr h) = open_of rows i xs a.1 h

all_open_of : (rows : List Row) (xs : List ℕ) → ((i : ℕ) → Has i xs → IsOpen rows i) → AllOpen rows xs
all_open_of rows [] f = tt
all_open_of rows (x ∷ xs) f = (f x (inl refl), all_open_of rows xs (λ i h. f i (inr h)))

not_both : (s : Status) → s ≡ Open → IsFinished s → ⊥
not_both s e f = subst IsFinished e f

new_open : (s : Status) → s ≡ New → s ≡ Open → ⊥
new_open s e f = let g : New ≡ Open = sym e ∙ f in cc

-- the last of a stack
has_last : (i top : ℕ) (xs : List ℕ) → Has i (xs ++ top ∷ []) → (top ≡ i) ⊎ Has i xs
has_last i top xs h = by_joined (has_joined i xs (top ∷ []) h)
  where
    by_joined : Has i xs ⊎ Has i (top ∷ []) → (top ≡ i) ⊎ Has i xs
    by_joined (inl a) = inr a
    by_joined (inr (inl e)) = inl e
    by_joined (inr (inr f)) = absurd f

top_has : (top : ℕ) (xs : List ℕ) → Has top (xs ++ top ∷ [])
top_has top xs = has_right top xs (top ∷ []) (inl refl)

front_apart : (xs : List ℕ) (top : ℕ) → AreApart (xs ++ top ∷ []) → AreApart xs
front_apart [] top a = tt
front_apart (x ∷ xs) top a = (λ h. a.0 (has_left x xs (top ∷ []) h), front_apart xs top a.1)

last_apart : (xs : List ℕ) (top : ℕ) → AreApart (xs ++ top ∷ []) → Has top xs → ⊥
last_apart [] top a h = h
last_apart (x ∷ xs) top a (inl e) = a.0 (subst (λ (y : ℕ). Has y (xs ++ top ∷ [])) (sym e) (top_has top xs))
last_apart (x ∷ xs) top a (inr h) = last_apart xs top a.1 h

pushed_apart : (xs : List ℕ) (j : ℕ) → AreApart xs → (Has j xs → ⊥) → AreApart (xs ++ j ∷ [])
pushed_apart xs j a n =
    apart_joined xs (j ∷ []) a (λ h. h, tt)
    (λ i h l. elim l [ inl e ↦ n (subst (λ (y : ℕ). Has y xs) (sym e) h) | inr f ↦ f ])

-- chains
module _ (t : Deployment) where
  chain_still : (old new : List Row) (xs : List ℕ)
      → ((a j : ℕ) → Has a xs → Has j xs → WaitsFor t old a j → WaitsFor t new a j) → IsChain t old xs
      → IsChain t new xs
  chain_still old new [] f c = tt
  chain_still old new (i ∷ []) f c = tt
  chain_still old new (i ∷ j ∷ xs) f c =
      (f i j (inl refl) (inr (inl refl)) c.0, chain_still old new (j ∷ xs) (λ a b h l. f a b (inr h) (inr l)) c.1)

  chain_front : (rows : List Row) (xs : List ℕ) (top : ℕ) → IsChain t rows (xs ++ top ∷ []) → IsChain t rows xs
  chain_front rows [] top c = tt
  chain_front rows (i ∷ []) top c = tt
  chain_front rows (i ∷ j ∷ xs) top c = (c.0, chain_front rows (j ∷ xs) top c.1)

  chain_push : (rows : List Row) (xs : List ℕ) (top j : ℕ) → IsChain t rows (xs ++ top ∷ []) → WaitsFor t rows top j
      → IsChain t rows ((xs ++ top ∷ []) ++ j ∷ [])
  chain_push rows [] top j c w = (w, tt)
  chain_push rows (i ∷ []) top j c w = (c.0, (w, tt))
  chain_push rows (i ∷ k ∷ xs) top j c w = (c.0, chain_push rows (k ∷ xs) top j c.1 w)

  module _ (first : List Row) (start : ℕ) (listed : start < length first) where
    pub way_begins : Sound t first → OneOpen first start → OnTheWay t first first start (start ∷ [])
    way_begins s o = record {
      sound = s;
      keeps = keeps_self first;
      are_open = ((listed, o.is_open), tt);
      all_open = λ i h e. inl (o.alone i h e);
      apart = (λ h. h, tt);
      chain = tt;
      pending = inr (inl refl);
    }

    pub way_top : (now : List Row) (xs : List ℕ) (top : ℕ) → OnTheWay t first now start (xs ++ top ∷ [])
        → IsOpen now top
    way_top now xs top w = open_of now top (xs ++ top ∷ []) w.are_open (top_has top xs)

    -- what a change at one place does to the others
    still_same : (now new : List Row) (i : ℕ) (s : Status) → Advanced t now new i s → (a : ℕ) → IsOpen now a
        → (a ≡ i → ⊥) → IsOpen new a
    still_same now new i s v a o n =
        let l : length now ≤ length new = v.touched.longer in
        let h : a < length now = o.0 in
        (omega (arith, l, h), ap (λ (r : Row). r.status) (v.touched.others a o.0 n) ∙ o.1)

    was_open : (now new : List Row) (i : ℕ) (s : Status) → Advanced t now new i s → (a : ℕ) → IsOpen new a
        → (a ≡ i → ⊥) → (a < length now) ⊎ (length now ≤ a) → IsOpen now a
    was_open now new i s v a o n (inl l) =
        (l, ap (λ (r : Row). r.status) (sym (v.touched.others a l n)) ∙ o.1)
    was_open now new i s v a o n (inr l) = absurd (new_open (row_at new a).status (v.touched.added a l o.0) o.1)

    pending_still : (now new : List Row) (stack : List ℕ) → OnTheWay t first now start stack → Keeps now new
        → IsFinished (row_at new start).status ⊎ Has start stack
    pending_still now new stack w k =
        elim w.pending [
          | inl g ↦ inl (keeps_finished now new start k (let l : length first ≤ length now = w.keeps.longer in omega
              (arith, listed, l)) g)
          | inr a ↦ inr a
        ]

    -- the top is finished
    module _ (now new : List Row) (xs : List ℕ) (top : ℕ) (w : OnTheWay t first now start (xs ++ top ∷ []))
        (d : IsDone t now new top) where
      finished_top : IsFinished (row_at new top).status
      finished_top =
          subst IsFinished (sym (ap (λ (r : Row). r.status) d.advanced.touched.there)) d.is_finished

      not_top : (i : ℕ) → Has i xs → i ≡ top → ⊥
      not_top i h e = last_apart xs top w.apart (subst (λ (y : ℕ). Has y xs) e h)

      open_still : (i : ℕ) → Has i xs → IsOpen new i
      open_still i h =
          still_same now new top d.status d.advanced i
          (open_of now i (xs ++ top ∷ []) w.are_open (has_left i xs (top ∷ []) h)) (not_top i h)

      all_still : (i : ℕ) → IsOpen new i → Has i xs
      all_still i o =
          elim (cases_eq i top) [
            | inl e ↦ absurd (not_both (row_at new i).status o.1
                (subst (λ (y : ℕ). IsFinished (row_at new y).status) (sym e) finished_top))
            | inr n ↦ (let b = was_open now new top d.status d.advanced i o n (cases_lt i (length now)) in
                elim (has_last i top xs (w.all_open i b.0 b.1)) [ inl e ↦ absurd (n (sym e)) | inr h ↦ h ])
          ]

      pending_done : IsFinished (row_at new start).status ⊎ Has start (xs ++ top ∷ [])
          → IsFinished (row_at new start).status ⊎ Has start xs
      pending_done (inl f) = inl f
      pending_done (inr h) =
          elim (has_last start top xs h) [
            | inl e ↦ inl (subst (λ (y : ℕ). IsFinished (row_at new y).status) e finished_top)
            | inr a ↦ inr a
          ]

      pub way_done : OnTheWay t first new start xs
      way_done = record {
        sound = d.advanced.sound;
        keeps = keeps_on first now new w.keeps d.advanced.keeps;
        are_open = all_open_of new xs open_still;
        all_open = λ i h e. all_still i (h, e);
        apart = front_apart xs top w.apart;
        chain = chain_still now new xs
            (λ a j h l v. waits_on t now new top d.status d.advanced a j
            (open_of now a (xs ++ top ∷ []) w.are_open (has_left a xs (top ∷ []) h)).0
            (open_of now j (xs ++ top ∷ []) w.are_open (has_left j xs (top ∷ []) l)).0
            (open_still j l).1 v)
            (chain_front now xs top w.chain);
        pending = pending_done (pending_still now new (xs ++ top ∷ []) w d.advanced.keeps);
      }

    -- another comes first
    module _ (now new : List Row) (xs : List ℕ) (top j : ℕ) (w : OnTheWay t first now start (xs ++ top ∷ []))
        (f : IsFirst t now new top j) where
      abbrev stack : List ℕ
      stack = xs ++ top ∷ []

      not_new : (i : ℕ) → Has i stack → i ≡ j → ⊥
      not_new i h e =
          new_open (row_at now j).status f.was_new (subst (λ (y : ℕ). (row_at now y).status ≡ Open) e
          (open_of now i stack w.are_open h).1)

      open_too : (i : ℕ) → Has i stack → IsOpen new i
      open_too i h = still_same now new j Open f.advanced i (open_of now i stack w.are_open h) (not_new i h)

      new_is_open : IsOpen new j
      new_is_open =
          let l : length now ≤ length new = f.advanced.touched.longer in
          let h : j < length now = f.listed in
          (omega (arith, l, h), ap (λ (r : Row). r.status) f.advanced.touched.there)

      are_open_too : (i : ℕ) → Has i (stack ++ j ∷ []) → IsOpen new i
      are_open_too i h =
          elim (has_last i j stack h) [ inl e ↦ subst (IsOpen new) e new_is_open | inr a ↦ open_too i a ]

      all_open_too : (i : ℕ) → IsOpen new i → Has i (stack ++ j ∷ [])
      all_open_too i o =
          elim (cases_eq i j) [
            | inl e ↦ subst (λ (y : ℕ). Has y (stack ++ j ∷ [])) (sym e) (top_has j stack)
            | inr n ↦ (let b = was_open now new j Open f.advanced i o n (cases_lt i (length now)) in
                has_left i stack (j ∷ []) (w.all_open i b.0 b.1))
          ]

      pub way_first : OnTheWay t first new start (stack ++ j ∷ [])
      way_first = record {
        sound = f.advanced.sound;
        keeps = keeps_on first now new w.keeps f.advanced.keeps;
        are_open = all_open_of new (stack ++ j ∷ []) are_open_too;
        all_open = λ i h e. all_open_too i (h, e);
        apart = pushed_apart stack j w.apart (λ h. not_new j h refl);
        chain = chain_push new xs top j
            (chain_still now new stack
            (λ a b h l v. waits_on t now new j Open f.advanced a b (open_of now a stack w.are_open h).0
            (open_of now b stack w.are_open l).0 (open_too b l).1 v) w.chain) f.waits_for;
        pending = elim (pending_still now new stack w f.advanced.keeps) [
          | inl g ↦ inl g
          | inr h ↦ inr (has_left start stack (j ∷ []) h)
        ];
      }

    pub way_circle : (now new : List Row) (xs : List ℕ) (top back : ℕ) → OnTheWay t first now start (xs ++ top ∷ [])
        → IsStuck t now new top back → IsCircle t new xs top back
    way_circle now new xs top back w s =
        subst (λ (rows : List Row). IsCircle t rows xs top back) (sym s.same) (record {
          chain = w.chain;
          closes = s.waits_for;
          has = w.all_open back s.listed s.was_open;
        })

    pub way_ends : (now : List Row) → OnTheWay t first now start [] → Visited t first now start
    way_ends now w = record {
      sound = w.sound;
      keeps = w.keeps;
      finished = elim w.pending [ inl g ↦ g | inr a ↦ absurd a ];
      none_open = λ i h e. w.all_open i h e;
    }

pub way_as : (t : Deployment) (first now : List Row) (start : ℕ) (stack xs : List ℕ) → stack ≡ xs
    → OnTheWay t first now start stack → OnTheWay t first now start xs
way_as t first now start ys xs e w = subst (λ (zs : List ℕ). OnTheWay t first now start zs) e w

pub turned_as : (t u : Deployment) (old new : List Row) (top : ℕ) (a b : Turn) → u ≡ t → a ≡ b
    → Turned u old new top a → Turned t old new top b
turned_as t u old new top a b e f h =
    subst (λ (x : Deployment). Turned x old new top b) e (subst (λ (x : Turn). Turned u old new top x) f h)

-- a visit that begins
pub one_open : (t : Deployment) (old new : List Row) (start : ℕ) → start < length old → NoneOpen old
    → Advanced t old new start Open → OneOpen new start
one_open t old new start l n v = record {
  is_open = ap (λ (r : Row). r.status) v.touched.there;
  alone = λ i h e. by_place i h e (cases_eq i start) (cases_lt i (length old));
}
  where
    by_place : (i : ℕ) → i < length new → (row_at new i).status ≡ Open → (i ≡ start) ⊎ (i ≡ start → ⊥)
        → (i < length old) ⊎ (length old ≤ i) → start ≡ i
    by_place i h e (inl f) b = sym f
    by_place i h e (inr f) (inl b) =
        absurd (n i b (ap (λ (r : Row). r.status) (sym (v.touched.others i b f)) ∙ e))
    by_place i h e (inr f) (inr b) = absurd (new_open (row_at new i).status (v.touched.added i b h) e)

pub visited_after : (t : Deployment) (a b c : List Row) (start : ℕ) → Keeps a b → Visited t b c start
    → Visited t a c start
visited_after t a b c start k v =
    record { sound = v.sound; keeps = keeps_on a b c k v.keeps; finished = v.finished; none_open = v.none_open }

pub visited_already : (t : Deployment) (rows : List Row) (start : ℕ) → Sound t rows → NoneOpen rows
    → IsFinished (row_at rows start).status → Visited t rows rows start
visited_already t rows start s n f = record { sound = s; keeps = keeps_self rows; finished = f; none_open = n }

pub finished_more_of : (t : Deployment) (old new : List Row) (n : ℕ) → n < length old → AreFinished old n
    → Visited t old new n → AreFinished new (n + 1)
finished_more_of t old new n h f v i l =
    elim (lt_or_is i n l) [
      | inl a ↦ keeps_finished old new i v.keeps (omega (arith, a, h)) (f i a)
      | inr e ↦ subst (λ (j : ℕ). IsFinished (row_at new j).status) (sym e) v.finished
    ]

pub visited_as : (t u : Deployment) (old new : List Row) (start : ℕ) → u ≡ t → Visited u old new start
    → Visited t old new start
visited_as t u old new start e v = subst (λ (x : Deployment). Visited x old new start) e v

pub circle_as : (t u : Deployment) (rows : List Row) (xs : List ℕ) (last back : ℕ) → u ≡ t
    → IsCircle u rows xs last back → IsCircle t rows xs last back
circle_as t u rows xs last back e v = subst (λ (x : Deployment). IsCircle x rows xs last back) e v

pub filled_of : (t : Deployment) (rows : List Row) (n : ℕ) → Sound t rows → AreFinished rows n → length rows ≤ n
    → Filled t rows
filled_of t rows n s f l = record { sound = s; finished = λ i h. f i (omega (arith, h, l)) }

pub empty_of : (xs : List ℕ) → length xs ≡ 0 → xs ≡ []
empty_of [] e = refl
empty_of (x ∷ xs) e = absurd (omega (arith, e))

-- what a visit that was begun comes to
pub visited_if : (t u : Deployment) (a b c : List Row) (start : ℕ) (r : Result (Option Circle) Halt) → u ≡ t
    → Keeps a b
    → IfOk r (λ o. MatchOption o (Visited u b c start) (λ (x : Circle). IsCircle u c x.places.items x.last x.back))
    → IfOk r (λ o. MatchOption o (Visited t a c start) (λ (x : Circle). IsCircle t c x.places.items x.last x.back))
visited_if t u a b c start (Err e) i k h = tt
visited_if t u a b c start (Ok None) i k h = visited_after t a b c start k (visited_as t u b c start i h)
visited_if t u a b c start (Ok (Some x)) i k h = circle_as t u c x.places.items x.last x.back i h

by_finished_stage : (s : Status) → stage_of s ≡ stage.Finished → IsFinished s
by_finished_stage (Value v) e = tt
by_finished_stage Empty e = tt
by_finished_stage (Late k) e = tt
by_finished_stage New e = cc
by_finished_stage Open e = cc

pub is_finished : (rows : List Row) (j : ℕ) → stage_of (row_at rows j).status ≡ stage.Finished
    → IsFinished (row_at rows j).status
is_finished rows j e = by_finished_stage (row_at rows j).status e

waiting_finished : (s : Status) → IsWaiting s → IsFinished s
waiting_finished (Late k) e = tt
waiting_finished (Value v) e = tt
waiting_finished Empty e = tt
waiting_finished New e = absurd e
waiting_finished Open e = absurd e

pub late_finished : (rows : List Row) (j : ℕ) → IsWaiting (row_at rows j).status → IsFinished (row_at rows j).status
late_finished rows j e = waiting_finished (row_at rows j).status e
